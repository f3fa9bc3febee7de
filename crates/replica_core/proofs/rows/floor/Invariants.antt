use Rattle.std.proofs.Common.{◌≡◌, length, take, drop, fold, get_or}
use Rattle.vector_clock.specs.Clock.{meet, zero_clock}
use Rattle.replica_core.specs.Kept.{IsKnown}
use Rattle.replica_core.proofs.rows.floor.Given as goal

abbrev pub invariant-loop-clock : goal.invariant-loop-clock
invariant-loop-clock l = record {
  least : l.least ≡ fold meet (get_or l.rows 0 (zero_clock 1)) (take l.clock-index (drop 1 l.rows));
  known : IsKnown (length l.rows) l.least;
}
