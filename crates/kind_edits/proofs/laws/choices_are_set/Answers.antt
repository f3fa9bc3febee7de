use Rattle.std.proofs.Common.{arith, ◌≡◌, true, Ok, length, codes, nat_lt, ap}
use Rattle.std.proofs.lemmas.Bool.Decides.{nat_tests}
use Rattle.std.specs.List.{position}
use Rattle.serde_json.specs.Data.{string}
use Rattle.kind_edits.specs.NameEdit.{choice_edit}
use Rattle.kind_edits.specs.declared.fault.EditError.TheVariants.{NoVerb}
use Rattle.kind_edits.proofs.Naming.{found, is_it, place}
use Rattle.kind_edits.proofs.Numbers.{ok_and, read_on}
use Rattle.kind_edits.proofs.laws.choices_are_set.Goals as goal

pub returns-clause-set : goal.returns-clause-set
returns-clause-set c values name s v p h =
    let there = found values name v h in
    let below : nat_lt (place values name) (length values) ≡ true = grind (arith, nat_tests, there.1) in
    ok_and (choice_edit values (codes "set") name) (place values name) _ (read_on (position (is_it values name) values) (place values name) NoVerb Ok there.0)
    (rw below (ap string there.2))
