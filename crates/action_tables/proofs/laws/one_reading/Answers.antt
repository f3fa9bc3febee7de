use Rattle.action_tables.proofs.Texts.{one_fault_lem, no_fault_lem}
use Rattle.action_tables.proofs.Whole.{whole}
use Rattle.action_tables.proofs.laws.one_reading.Goals as goal

pub returns-clause-whole : goal.returns-clause-whole
returns-clause-whole c = whole

pub returns-clause-no_fault : goal.returns-clause-no_fault
returns-clause-no_fault c = no_fault_lem

pub returns-clause-one_fault : goal.returns-clause-one_fault
returns-clause-one_fault c = one_fault_lem
