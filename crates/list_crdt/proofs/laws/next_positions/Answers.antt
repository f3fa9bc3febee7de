use Rattle.list_crdt.proofs.Next.{different_makers, is_between, maker_between}
use Rattle.list_crdt.proofs.laws.next_positions.Goals as goal

pub returns : goal.returns
returns c = record {
  between = is_between;
  maker = maker_between;
  apart = different_makers;
}
