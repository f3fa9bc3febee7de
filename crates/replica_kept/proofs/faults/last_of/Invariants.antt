use Rattle.std.proofs.Common.{◌≡◌, take}
use Rattle.replica_kept.specs.Merging.{last_of}
use Rattle.replica_kept.proofs.faults.last_of.Given as goal

abbrev pub invariant-loop-e : goal.invariant-loop-e
invariant-loop-e g l = l.last ≡ last_of l.member (take l.e-index l.ops)
