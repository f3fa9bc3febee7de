use Rattle.std.proofs.Common.{◌≡◌, replicate}
use Rattle.vector_clock.specs.Clock.{zero_clock}
use Rattle.replica_core.proofs.replica.Replica.new.Given as goal

abbrev pub invariant-loop-i : goal.invariant-loop-i
invariant-loop-i g l = l.known ≡ replicate l._i (zero_clock l.n)
