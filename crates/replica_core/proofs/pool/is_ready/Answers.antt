use Rattle.replica_core.proofs.Frontier.{tells}
use Rattle.replica_core.proofs.pool.is_ready.Goals as goal

pub returns : goal.returns
returns g c = tells c.le.result c.args.e.now.stamp.clock c.args.front.now c.requires.entry.stamp.stamp.clock.wide c.le.ensures
