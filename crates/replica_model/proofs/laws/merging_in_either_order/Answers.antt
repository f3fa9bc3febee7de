use Rattle.replica_model.proofs.Meetings.{delivered_either, waiting_either}
use Rattle.replica_model.proofs.laws.merging_in_either_order.Goals as goal

pub returns : goal.returns
returns g c = record {
  delivered = delivered_either;
  waiting = waiting_either;
}
