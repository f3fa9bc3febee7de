use Rattle.doc_schema.proofs.Whole.{one_fault_lem, one_schema, spelled_faultless, whole}
use Rattle.doc_schema.proofs.laws.one_reading.Goals as goal

pub returns-clause-whole : goal.returns-clause-whole
returns-clause-whole c = whole

pub returns-clause-one : goal.returns-clause-one
returns-clause-one c = one_schema

pub returns-clause-one_fault : goal.returns-clause-one_fault
returns-clause-one_fault c = one_fault_lem

pub returns-clause-no_fault : goal.returns-clause-no_fault
returns-clause-no_fault c = spelled_faultless
