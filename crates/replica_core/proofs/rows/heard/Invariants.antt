use Rattle.std.proofs.Common.{◌≡◌, take, length}
use Rattle.std.specs.List.{All}
use Rattle.replica_model.specs.Replica.{heard}
use Rattle.replica_core.specs.Kept.{IsKnown}
use Rattle.replica_core.proofs.rows.heard.Given as goal

abbrev pub invariant-loop-e : goal.invariant-loop-e
invariant-loop-e g l = record {
  heard : l.heard ≡ heard l.fn.rows (take l.e-index l.ops);
  len : length l.heard ≡ length l.fn.rows;
  known : All (IsKnown (length l.fn.rows)) l.heard;
}
