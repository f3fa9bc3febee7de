use Rattle.action_tables.proofs.Verdicts.{transitive}
use Rattle.action_tables.proofs.laws.order_of_cases.Goals as goal

pub returns-clause-transitive : goal.returns-clause-transitive
returns-clause-transitive c = transitive
