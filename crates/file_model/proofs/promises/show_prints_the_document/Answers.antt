use Rattle.file_model.proofs.Shown.{show_alike, show_line}
use Rattle.file_model.proofs.promises.show_prints_the_document.Goals as goal

pub returns : goal.returns
returns g c = record {
  exact = λ form lab in_script line file r format honest is found.
      show_line (g.S.Schemas.documents c.args.schemas.now) form (g.S.Schemas.sound c.args.schemas.now) format lab honest in_script line file r is found;
  alike = λ form lab other in_script line line' a b r s format honest honest' moved is is' found found' same both.
      show_alike (g.S.Schemas.documents c.args.schemas.now) form (g.S.Schemas.sound c.args.schemas.now) format lab other honest honest' moved in_script line line' a b r s is is' found found' same both;
}
