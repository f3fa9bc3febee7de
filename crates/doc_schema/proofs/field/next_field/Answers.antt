use Rattle.std.proofs.Common.{sym, ◌∙◌}
use Rattle.serde_json.specs.View.{view}
use Rattle.doc_schema.proofs.Making.{counts}
use Rattle.doc_schema.proofs.field.next_field.Goals as goal

pub make_field-requires-clause-counts : goal.make_field-requires-clause-counts
make_field-requires-clause-counts c =
    counts (view c.args.value.now) c.in-Some.written (sym c.in_ok-written.ensures ∙ c.in-Some.is)
