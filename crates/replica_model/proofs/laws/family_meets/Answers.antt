use Rattle.replica_model.proofs.Families.{may_merge}
use Rattle.replica_model.proofs.laws.family_meets.Goals as goal

pub returns : goal.returns
returns g c = λ n ts r b family in_it there. may_merge (g.T.Tower.meaning c.args.tower.now) n ts family r b in_it there
