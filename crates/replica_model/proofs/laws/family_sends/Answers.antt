use Rattle.replica_model.proofs.Families.{family_copied, family_exported, family_exported_over, family_lost}
use Rattle.replica_model.proofs.laws.family_sends.Goals as goal

pub returns : goal.returns
returns g c = record {
  exported = λ n xs ys r to family there. family_exported (g.T.Tower.meaning c.args.tower.now) n xs ys r to family there;
  exported_over = λ n xs ys r b to family there. family_exported_over (g.T.Tower.meaning c.args.tower.now) n xs ys r to b family there;
  copied = λ n xs ys b family there. family_copied (g.T.Tower.meaning c.args.tower.now) n xs ys b family there;
  lost = λ n xs ys b family. family_lost (g.T.Tower.meaning c.args.tower.now) n xs ys b family;
}
