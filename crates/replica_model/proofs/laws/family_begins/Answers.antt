use Rattle.replica_model.proofs.Families.{family_empty, family_joined}
use Rattle.replica_model.proofs.laws.family_begins.Goals as goal

pub returns : goal.returns
returns g c = record {
  empty = family_empty (g.T.Tower.meaning c.args.tower.now);
  joined = family_joined (g.T.Tower.meaning c.args.tower.now);
}
