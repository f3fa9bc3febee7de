use Rattle.file_model.proofs.Refused.{each_told, line_told, run_refused, run_texts}
use Rattle.file_model.proofs.laws.refusals_are_told.Goals as goal

pub returns : goal.returns
returns g c = record {
  line = λ form files in_script line. line_told (g.S.Schemas.documents c.args.schemas.now) form (g.S.Schemas.sound c.args.schemas.now) files in_script line;
  each = λ form files lines. each_told (g.S.Schemas.documents c.args.schemas.now) form (g.S.Schemas.sound c.args.schemas.now) lines files;
  text = λ form files lines. run_texts (g.S.Schemas.documents c.args.schemas.now) form (g.S.Schemas.sound c.args.schemas.now) lines files;
  run = λ form files lines. run_refused (g.S.Schemas.documents c.args.schemas.now) form (g.S.Schemas.sound c.args.schemas.now) lines files;
}
