use Rattle.std.proofs.Common.{◌++◌, take}
use Rattle.std.specs.List.{All}
use Rattle.replica_kept.specs.Merging.{HasNoOther}
use Rattle.replica_kept.proofs.replica.Replica.fork.Given as goal

abbrev pub invariant-loop-e : goal.invariant-loop-e
invariant-loop-e g l = All (HasNoOther (l.self.ledger.log ++ l.self.ledger.waiting)) (take l.e-index l.ops)
