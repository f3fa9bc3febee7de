use Rattle.std.proofs.Common.{take}
use Rattle.replica_kept.specs.Merging.{HasNoOther}
use Rattle.replica_kept.proofs.faults.has_other.Given as goal

abbrev pub invariant-loop-f : goal.invariant-loop-f
invariant-loop-f g l = HasNoOther (take l.f-index l.entries) l.e
