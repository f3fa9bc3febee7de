use Rattle.std.proofs.Common.{◌≡◌, take}
use Rattle.crdt_laws.proofs.copies.copy_ops.Given as goal

abbrev pub invariant-loop-e : goal.invariant-loop-e
invariant-loop-e g l = l.copies ≡ take l.e-index l.ops
