use Rattle.vector_clock.proofs.Bounds.{with_is_clock}
use Rattle.vector_clock.proofs.clock.Clock.with.Goals as goal

pub returns-clause-clock : goal.returns-clause-clock
returns-clause-clock c = rw c.from.ensures (with_is_clock c.args.self.now c.args.m c.args.seq c.requires.clock c.requires.member c.requires.bound)
