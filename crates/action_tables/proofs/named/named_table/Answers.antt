use Rattle.std.proofs.Common.{sym, ◌∙◌}
use Rattle.serde_json.specs.View.{view}
use Rattle.action_tables.proofs.Reading.{few_states}
use Rattle.action_tables.proofs.named.named_table.Goals as goal

pub name_table-requires : goal.name_table-requires
name_table-requires c =
    few_states (view c.in-Ok.value) c.in-Some.written (sym c.in_ok-written.ensures ∙ c.in-Some.is)
