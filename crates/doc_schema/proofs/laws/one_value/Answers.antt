use Rattle.std.proofs.Common.{Err}
use Rattle.doc_schema.proofs.Whole.{same_result, same_schema}
use Rattle.doc_schema.proofs.laws.one_value.Goals as goal

pub returns-clause-same : goal.returns-clause-same
returns-clause-same c = λ text other d s is too low h. same_schema text other d is too s low h

pub returns-clause-same_fault : goal.returns-clause-same_fault
returns-clause-same_fault c = λ text other d fault is too short low h. same_result text other d is too (Err fault) short low h
