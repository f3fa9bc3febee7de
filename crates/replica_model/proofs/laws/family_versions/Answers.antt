use Rattle.replica_model.proofs.Told.{delivered_alike, replica_counts, version_tells}
use Rattle.replica_model.proofs.laws.family_versions.Goals as goal

pub returns : goal.returns
returns g c = record {
  counts = λ n ts r family there. replica_counts (g.T.Tower.meaning c.args.tower.now) n ts family r there;
  tells = λ n ts r s family here there. version_tells (g.T.Tower.meaning c.args.tower.now) n ts family r s here there;
  alike = λ n ts r s family here there. delivered_alike (g.T.Tower.meaning c.args.tower.now) n ts family r s here there;
}
