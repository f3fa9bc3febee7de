use Rattle.replica_model.proofs.Meetings.{delivered_again, waiting_again}
use Rattle.replica_model.proofs.laws.merging_again.Goals as goal

pub returns : goal.returns
returns g c = record {
  delivered = delivered_again;
  waiting = waiting_again;
}
