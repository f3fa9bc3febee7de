use Rattle.file_model.proofs.Later.{later_run}
use Rattle.file_model.proofs.promises.nothing_is_undelivered.Goals as goal

pub returns : goal.returns
returns g c = record {
  later = λ form lab lines name r format honest fair found.
      later_run (g.S.Schemas.documents c.args.schemas.now) form (g.S.Schemas.sound c.args.schemas.now) format lines lab honest fair name r found;
}
