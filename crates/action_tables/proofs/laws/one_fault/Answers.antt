use Rattle.action_tables.proofs.Whole.{table_or_fault}
use Rattle.action_tables.proofs.laws.one_fault.Goals as goal

pub returns-clause-whole : goal.returns-clause-whole
returns-clause-whole c = table_or_fault
