use Rattle.doc_schema.proofs.Exact.{field_exact, schema_exact}
use Rattle.doc_schema.proofs.laws.form_of_schemas.Goals as goal

pub returns-clause-schema : goal.returns-clause-schema
returns-clause-schema c = schema_exact

pub returns-clause-field : goal.returns-clause-field
returns-clause-field c = field_exact
