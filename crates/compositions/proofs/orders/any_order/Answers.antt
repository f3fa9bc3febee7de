use Rattle.compositions.proofs.Peers.{any_order}
use Rattle.compositions.proofs.orders.any_order.Goals as goal

pub returns : goal.returns
returns g c n l = any_order (g.T.Tower.meaning c.args.tower.now) (g.met.T.Tower.lawful c.args.tower.now) n l
