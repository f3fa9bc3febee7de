use Rattle.kind_edits.proofs.Changed.{text_full, text_removed, text_shown}
use Rattle.kind_edits.proofs.text_laws.texts_are_edited.Goals as goal

pub returns : goal.returns
returns c = record {
  insert = text_shown;
  room = text_full;
  delete = text_removed;
}
