use Rattle.replica_model.specs.Replica.{next_stamp}
use Rattle.replica_model.proofs.Families.{family_edited_valid, family_merged}
use Rattle.replica_model.proofs.laws.family_goes_on.Goals as goal

pub returns : goal.returns
returns g c = record {
  edited = λ n xs ys r op few family valid.
      let t = g.T.Tower.meaning c.args.tower.now in
      let law = g.met.T.Tower.lawful c.args.tower.now in
      family_edited_valid t n xs ys r family few op (law.valid_within (next_stamp r) op valid) valid;
  merged = λ n xs ys r b family there. family_merged (g.T.Tower.meaning c.args.tower.now) n xs ys r family b there;
}
