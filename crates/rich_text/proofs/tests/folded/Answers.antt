use Rattle.std.proofs.Common.{arith}
use Rattle.std.proofs.lemmas.List.Elements.{All-nil}
use Rattle.rich_text.specs.Marked.{IsCellOf}
use Rattle.rich_text.proofs.tests.folded.Goals as goal

pub fold_document-requires : goal.fold_document-requires
fold_document-requires c = record {
  members = 2;
  good = record { rising = λ i j d l m. absurd (omega (arith, m)); cells = All-nil (IsCellOf c.args.tower.now.low.marks 2) };
  issued = c.requires.issued;
  rising = c.requires.rising;
  apart = c.requires.apart;
  fresh = λ i d _. record { none = λ p h _. h };
}
