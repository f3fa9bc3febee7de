use Rattle.std.proofs.Common.{◌≡◌, take}
use Rattle.replica_model.specs.Replica.{version}
use Rattle.replica_core.specs.Kept.{IsKnown}
use Rattle.replica_core.proofs.rows.version.Given as goal

abbrev pub invariant-loop-e : goal.invariant-loop-e
invariant-loop-e g l = record {
  version : l.known ≡ version l.n (take l.e-index l.ops);
  known : IsKnown l.n l.known;
}
