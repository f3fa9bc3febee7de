use Rattle.std.proofs.Common.{◌∙◌}
use Rattle.vector_clock.proofs.Clocks.{sum_first}
use Rattle.vector_clock.proofs.clock.Clock.sum.Goals as goal

pub returns : goal.returns
returns c = c.loop-entry.invariant.1 ∙ sum_first c.args.self.now c.from.result c.loop-entry.entry-index c.requires c.from.ensures c.loop-entry-test.false
