use Rattle.std.proofs.Common.{ap}
use Rattle.reset_products.specs.Observed.{value_of}
use Rattle.reset_products.proofs.Forgetting.{left_of}
use Rattle.reset_products.proofs.laws.value_of_unforgotten.Goals as goal

pub returns : goal.returns
returns g c = λ xs a b. ap (value_of (g.T.Tower.meaning c.args.tower.now)) (left_of (g.T.Tower.meaning c.args.tower.now) xs a b)
