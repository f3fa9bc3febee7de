use Rattle.std.proofs.Common.{◌-◌}
use Rattle.vector_clock.proofs.Ordered.{IsBetween}
use Rattle.vector_clock.proofs.sorted.place_of.Given as goal

abbrev pub invariant-loop-low : goal.invariant-loop-low
invariant-loop-low g l = IsBetween g.X.Stamped.at l.stamp l.items l.low l.high

abbrev pub decreases-loop-low : goal.decreases-loop-low
decreases-loop-low g l = l.high - l.low
