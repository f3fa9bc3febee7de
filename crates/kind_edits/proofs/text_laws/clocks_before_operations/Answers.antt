use Rattle.kind_edits.proofs.Making.{after_before, before_next}
use Rattle.kind_edits.proofs.text_laws.clocks_before_operations.Goals as goal

pub returns : goal.returns
returns c = record {
  next = before_next;
  after = after_before;
}
