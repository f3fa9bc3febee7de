use Rattle.reset_products.specs.ObservedLaws.{value-settle}
use Rattle.reset_products.proofs.laws.settled_value.Goals as goal

pub returns : goal.returns
returns g c = value-settle (g.T.Tower.meaning c.args.tower.now)
