use Rattle.std.proofs.Common.{◌≡◌, Ok, [], ◌∷◌, ◌++◌, sym, ◌∙◌, ap, ap₂, arith}
use Rattle.std.specs.Prelude.{codes}
use Rattle.std.proofs.lemmas.Fmt.{decimal_digit}
use Rattle.replica_model.specs.Family as family
use Rattle.replica_model.specs.Replica.{members}
use Rattle.lab_model.specs.Lab.{effect, edit_under, with_thing}
use Rattle.lab_model.specs.Text.{made_text}
use Rattle.replica_cmd.specs.Number.{number_op}
use Rattle.replica_cmd.specs.Things.{contents, most_made}
use Rattle.replica_cmd.proofs.KeptLab.{back_in_place, found_replica, kept_at, keeps_put, members-edited, next_within, up_to_at}
use Rattle.std.specs.Prelude.{string_bytes}
use Rattle.std.proofs.Common.{refl}
use Rattle.replica_cmd.proofs.Bounds.{valid_op}
use Rattle.replica_cmd.proofs.Stepping.{accepted_from}
use Rattle.replica_cmd.proofs.lab.Lab.edit.Goals as goal
use Rattle.number_crdts.specs.Number.{number_meaning}

pub edit-requires-clause-kept : goal.edit-requires-clause-kept
edit-requires-clause-kept c =
    rw (c.number.ensures.low, c.number.ensures.high)
    ((kept_at (contents c.args.self.now) c.args.file (family.replica c.in_ok-gap.replica) c.requires.kept
    (found_replica (contents c.args.self.now) c.args.file c.in_ok-gap.replica c.in_ok-gap.ensures.found)).0)

pub edit-requires-clause-valid : goal.edit-requires-clause-valid
edit-requires-clause-valid c =
    let lab = contents c.args.self.now in
    let r = c.in_ok-gap.replica in
    let there = found_replica lab c.args.file r c.in_ok-gap.ensures.found in
    rw (c.number.ensures.low, c.number.ensures.high)
    (valid_op _ c.args.op
    (next_within r most_made (kept_at lab c.args.file (family.replica r) c.requires.kept there).0 (up_to_at lab c.args.file (family.replica r) most_made c.requires.room there) (omega arith))
    c.requires.well_formed)

-- the lab has the replica in its place
in_place : (c : goal.In_ok-from_str) → contents c.put_back.new.self ≡ with_thing (contents c.args.self.now) c.args.file (family.replica c.in_ok-replica.replica)
in_place c =
    back_in_place (contents c.args.self.now) (contents c.take_replica.new.self) (contents c.put_back.new.self) c.in_ok-gap.gap.place c.in_ok-gap.gap.name c.args.file (family.replica c.in_ok-replica.replica)
    c.in_ok-gap.ensures.name c.in_ok-gap.ensures.gap c.in_ok-put_back.ensures

pub returns-clause-answers : goal.returns-clause-answers
returns-clause-answers c =
    let lab = contents c.args.self.now in
    let r = c.in_ok-gap.replica in
    let there = found_replica lab c.args.file r c.in_ok-gap.ensures.found in
    ap (edit_under (number_meaning 0) number_op lab c.args.file c.args.op) there
    ∙ ap (λ s. Ok (effect (with_thing lab c.args.file (family.replica s)) (made_text 1))) (sym c.in_ok-replica.ensures.edited)
    ∙ ap₂ (λ l t. Ok (effect l t)) (sym (in_place c)) (ap (λ d. codes "made " ++ d ++ 10 ∷ []) (decimal_digit 1 (omega arith)) ∙ sym c.in_ok-from_str.ensures.ok)

pub returns-clause-keeps : goal.returns-clause-keeps
returns-clause-keeps c =
    let lab = contents c.args.self.now in
    let r = c.in_ok-gap.replica in
    let s = c.in_ok-replica.replica in
    let there = found_replica lab c.args.file r c.in_ok-gap.ensures.found in
    let kept = kept_at lab c.args.file (family.replica r) c.requires.kept there in
    keeps_put lab (contents c.put_back.new.self) c.args.file (family.replica s) c.in_ok-from_str.field-0 (in_place c) c.requires.kept
    (rw (c.number.ensures.low, c.number.ensures.high) at c.in_ok-replica.ensures.kept, ap (λ q. members q) c.in_ok-replica.ensures.edited ∙ members-edited r c.args.op ∙ kept.1)
    (λ k h. c.in_ok-replica.ensures.up_to k (up_to_at lab c.args.file (family.replica r) k h there))

pub returns-clause-said : goal.returns-clause-said
returns-clause-said c = accepted_from (string_bytes c.in_ok-from_str.field-0) (codes "made 1") c.in_ok-from_str.ensures.ok refl
