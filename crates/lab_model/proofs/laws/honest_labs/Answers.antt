use Rattle.lab_model.proofs.Runs.{closed_at, meets_at, shown_alike}
use Rattle.lab_model.proofs.laws.honest_labs.Goals as goal

pub returns : goal.returns
returns g c = record {
  closed = λ lab name r honest there. closed_at (g.T.Tower.meaning c.args.tower.now) lab honest name r there;
  meets = λ lab name other r b honest there here. meets_at (g.T.Tower.meaning c.args.tower.now) lab honest name other r b there here;
  alike = λ made lab name other r s honest here there same. shown_alike (g.T.Tower.meaning c.args.tower.now) lab honest made name other r s here there same;
}
