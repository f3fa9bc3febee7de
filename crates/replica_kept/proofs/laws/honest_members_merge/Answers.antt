use Rattle.replica_kept.proofs.Honest.{faultless}
use Rattle.replica_kept.proofs.Truthful.{kept_sound, sent_batch}
use Rattle.replica_kept.proofs.laws.honest_members_merge.Goals as goal

pub returns : goal.returns
returns g c = record {
  sound = λ n ts r family there few. kept_sound (g.T.Tower.meaning c.args.tower.now) (g.met.T.Tower.lawful c.args.tower.now) n ts family r there few;
  batch = λ n ts b family sent few. sent_batch (g.T.Tower.meaning c.args.tower.now) (g.met.T.Tower.lawful c.args.tower.now) n ts family b sent few;
  faultless = λ n ts r b family there sent. faultless (g.T.Tower.meaning c.args.tower.now) (g.met.T.Tower.lawful c.args.tower.now) n ts family r there b sent;
}
