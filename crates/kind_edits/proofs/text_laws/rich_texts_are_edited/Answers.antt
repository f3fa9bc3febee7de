use Rattle.kind_edits.proofs.ByIndex.{inserts_by_index}
use Rattle.kind_edits.proofs.Marked.{inserts_marked, inserts_shown, rich_full, rich_removed}
use Rattle.kind_edits.proofs.text_laws.rich_texts_are_edited.Goals as goal

pub returns : goal.returns
returns c = record {
  insert = inserts_shown;
  marks = inserts_marked;
  by_index = inserts_by_index;
  room = rich_full;
  delete = rich_removed;
}
