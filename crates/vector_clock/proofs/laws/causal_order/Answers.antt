use Rattle.vector_clock.proofs.Causal.{before_irreflexive, honest_asymmetric, honest_transitive, honest_below}
use Rattle.vector_clock.proofs.laws.causal_order.Goals as goal

pub returns-clause-irreflexive : goal.returns-clause-irreflexive
returns-clause-irreflexive g c = before_irreflexive

pub returns-clause-asymmetric : goal.returns-clause-asymmetric
returns-clause-asymmetric g c = honest_asymmetric

pub returns-clause-transitive : goal.returns-clause-transitive
returns-clause-transitive g c = honest_transitive

pub returns-clause-extended : goal.returns-clause-extended
returns-clause-extended g c = honest_below
