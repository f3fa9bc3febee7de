use Rattle.std.proofs.Common.{Ok, codes, ap}
use Rattle.std.specs.List.{position}
use Rattle.action_tables.specs.Table.{next_of}
use Rattle.kind_edits.specs.NameEdit.{table_edit}
use Rattle.kind_edits.specs.Shown.{name_shown}
use Rattle.kind_edits.specs.declared.fault.EditError.TheVariants.{NoVerb}
use Rattle.kind_edits.proofs.Naming.{found, is_it, one_place, place}
use Rattle.kind_edits.proofs.Numbers.{ok_and, read_on}
use Rattle.kind_edits.proofs.laws.tables_are_done.Goals as goal

pub returns : goal.returns
returns c t states ops name s o p apart h =
    let there = found ops name o h in
    ok_and (table_edit ops (codes "do") name) (place ops name) _ (read_on (position (is_it ops name) ops) (place ops name) NoVerb Ok there.0)
    (ap (λ k. name_shown states (next_of t s k)) (one_place ops name o h apart))
