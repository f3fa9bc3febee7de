use Rattle.vector_clock.proofs.Bounds.{zero_is_clock}
use Rattle.vector_clock.proofs.clock.Clock.zero.Goals as goal

pub returns-clause-clock : goal.returns-clause-clock
returns-clause-clock c = zero_is_clock c.args.n c.requires.some c.requires.most
