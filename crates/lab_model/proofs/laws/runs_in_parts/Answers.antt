use Rattle.lab_model.proofs.Runs.{lab_run-append, text_run-append}
use Rattle.lab_model.proofs.laws.runs_in_parts.Goals as goal

pub returns : goal.returns
returns g c = record {
  lab = lab_run-append (g.T.Tower.meaning c.args.tower.now);
  text = text_run-append (g.T.Tower.meaning c.args.tower.now);
}
