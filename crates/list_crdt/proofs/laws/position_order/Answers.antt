use Rattle.list_crdt.specs.Order.{position_total}
use Rattle.list_crdt.specs.TextLaws.{any_position}
use Rattle.list_crdt.proofs.Orders.{before_itself, either_way, prefix_before, step_decides}
use Rattle.list_crdt.proofs.laws.position_order.Goals as goal

pub returns : goal.returns
returns c = record {
  irreflexive = before_itself;
  transitive = position_total.trans;
  total = either_way;
  prefix = prefix_before;
  first_other = step_decides;
  any_document = any_position;
}
