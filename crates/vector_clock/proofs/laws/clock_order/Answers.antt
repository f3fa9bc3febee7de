use Rattle.vector_clock.proofs.Bounds.{at_most_antisym}
use Rattle.vector_clock.proofs.laws.clock_order.Goals as goal

pub returns-clause-antisymmetric : goal.returns-clause-antisymmetric
returns-clause-antisymmetric c = at_most_antisym
