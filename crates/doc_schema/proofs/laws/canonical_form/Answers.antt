use Rattle.doc_schema.proofs.Texts.{one_schema_each, read_again, value_read}
use Rattle.doc_schema.proofs.laws.canonical_form.Goals as goal

pub returns-clause-value : goal.returns-clause-value
returns-clause-value c = value_read

pub returns-clause-spelled : goal.returns-clause-spelled
returns-clause-spelled c = read_again

pub returns-clause-one : goal.returns-clause-one
returns-clause-one c = one_schema_each
