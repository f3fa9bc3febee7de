use Rattle.file_model.proofs.Unforged.{never_for_memory, never_forged}
use Rattle.file_model.proofs.promises.honest_files_meet_no_forgery.Goals as goal

pub returns : goal.returns
returns g c = record {
  forged = λ form lab in_script line cause format honest refused.
      never_forged (g.S.Schemas.documents c.args.schemas.now) form (g.S.Schemas.sound c.args.schemas.now) format lab honest in_script line cause refused;
  memory = λ form files in_script line cause format refused.
      never_for_memory (g.S.Schemas.documents c.args.schemas.now) form (g.S.Schemas.sound c.args.schemas.now) format files in_script line cause refused;
}
