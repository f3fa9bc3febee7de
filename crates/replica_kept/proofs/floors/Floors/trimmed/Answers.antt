use Rattle.replica_kept.proofs.Advance.{settled_is}
use Rattle.replica_kept.proofs.floors.Floors.trimmed.Goals as goal

pub returns : goal.returns
returns g c =
    settled_is (g.T.Tower.meaning c.args.tower.now) c.args.woven c.args.self.now.before c.args.self.now.after c.woven.inside.state c.in_ok-state.state c.woven.inside.history c.woven.view_is (c.stay.ensures.0 c.if-not-stay.false)
    c.requires.unstable c.in_ok-state.ensures.ok
