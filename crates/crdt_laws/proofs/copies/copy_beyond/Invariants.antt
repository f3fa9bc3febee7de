use Rattle.std.proofs.Common.{◌≡◌, take}
use Rattle.crdt_laws.specs.Sets.{beyond}
use Rattle.crdt_laws.proofs.copies.copy_beyond.Given as goal

abbrev pub invariant-loop-e : goal.invariant-loop-e
invariant-loop-e g l = l.kept ≡ beyond l.known (take l.e-index l.ops)
