use Rattle.replica_model.proofs.Merged.{in_merged, merged_closed, merged_grows, merged_has}
use Rattle.replica_model.proofs.laws.merging.Goals as goal

pub returns : goal.returns
returns g c = record {
  delivers_closed = merged_closed;
  grows = merged_grows;
  complete = λ r b may e. (in_merged r b may e, merged_has r b may e);
}
