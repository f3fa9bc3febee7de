use Rattle.std.proofs.Common.{take}
use Rattle.std.specs.List.{All}
use Rattle.replica_kept.proofs.faults.bad_op.Given as goal

abbrev pub invariant-loop-e : goal.invariant-loop-e
invariant-loop-e g l = All (λ e. (g.T.Tower.meaning l.tower).valid e.stamp e.op) (take l.e-index l.ops)
