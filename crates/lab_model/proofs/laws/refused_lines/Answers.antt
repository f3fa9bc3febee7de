use Rattle.lab_model.proofs.Runs.{refused_stays}
use Rattle.lab_model.proofs.laws.refused_lines.Goals as goal

pub returns : goal.returns
returns g c = refused_stays (g.T.Tower.meaning c.args.tower.now)
