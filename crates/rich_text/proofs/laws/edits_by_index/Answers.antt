use Rattle.rich_text.specs.ByIndex.{marks_before}
use Rattle.rich_text.specs.Marked.{at}
use Rattle.list_crdt.proofs.Neighbours.{removed_at}
use Rattle.rich_text.proofs.ByIndex.{insert_at_valid, inserted_at, known_at}
use Rattle.rich_text.proofs.laws.edits_by_index.Goals as goal

pub returns : goal.returns
returns c = record {
  valid_insert = insert_at_valid;
  inserted = λ number n i ch p s text within. inserted_at number n s text i ch p (marks_before s i) within;
  valid_delete = known_at;
  deleted = λ number n i s a text here. removed_at at s text.rising a i here;
}
