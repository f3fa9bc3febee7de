use Rattle.std.proofs.Common.{IsTrue}
use Rattle.std.specs.List.{AllWithin}
use Rattle.replica_core.specs.Frontier.{is_at_most}
use Rattle.replica_core.proofs.pool.are_ready.Given as goal

abbrev pub invariant-loop-e : goal.invariant-loop-e
invariant-loop-e g l = AllWithin (λ e. IsTrue (is_at_most e.stamp.clock l.front)) l.ops 0 l.e-index
