use Rattle.std.proofs.Common.{◌≡◌, ◌+◌, ◌-◌, Some, Ok, length, sym, ◌∙◌, ap, ap₂, arith, subst, rules}
use Rattle.replica_model.specs.Family as family
use Rattle.replica_model.specs.Replica.{merged}
use Rattle.replica_core.specs.Kept.{IsKeptBatch}
use Rattle.lab_model.specs.Lab.{effect, merge_under, pair_members, thing_at, with_thing}
use Rattle.lab_model.specs.Text.{delivered_text}
use Rattle.replica_cmd.specs.Number.{number_op}
use Rattle.replica_cmd.specs.Things.{contents}
use Rattle.replica_cmd.proofs.KeptLab.{back_in_place, found_replica, honest_pool, kept_at, keeps_put, up_to_at, thing_up_to_more}
use Rattle.std.specs.Prelude.{codes, string_bytes}
use Rattle.std.specs.Fmt.{decimal}
use Rattle.std.proofs.Common.{◌++◌, refl}
use Rattle.replica_cmd.proofs.Stepping.{accepted_from}
use Rattle.replica_cmd.proofs.lab.Lab.merge.Goals as goal
use Rattle.number_crdts.specs.Number.{add_meaning, mul_action, number_meaning}
use Rattle.number_crdts.specs.NumberLaws.{add_lawful, mul_lawful}
use Rattle.semidirect_product.specs.StackLaws.{stack_lawful}
use Rattle.crdt_laws.proofs.Formed.{all_formed}

pub copy_batch-requires : goal.copy_batch-requires
copy_batch-requires c =
    let lab = contents c.args.self.now in
    let b = c.in_default-Some-Batch.batch in
    let there : thing_at lab c.args.name ≡ Some (family.batch b) = search rules in
    let law = stack_lawful (add_meaning 0) (add_lawful 0) (mul_action 0) (mul_lawful 0) in
    rw (c.number.ensures.low, c.number.ensures.high)
    (all_formed (number_meaning 0) pair_members law b.ops (kept_at lab c.args.name (family.batch b) c.requires.kept there).ops.issued)

pub merge-requires-clause-kept : goal.merge-requires-clause-kept
merge-requires-clause-kept c =
    rw (c.number-2.ensures.low, c.number-2.ensures.high)
    ((kept_at (contents c.args.self.now) c.args.file (family.replica c.in_ok-gap.replica) c.requires.kept
    (found_replica (contents c.args.self.now) c.args.file c.in_ok-gap.replica c.in_ok-gap.ensures.found)).0)

-- the replica and the batch are in the lab
with_replica : (c : goal.After-merge-arg-1) → thing_at (contents c.args.self.now) c.args.file ≡ Some (family.replica c.in_ok-gap.replica)
with_replica c = found_replica (contents c.args.self.now) c.args.file c.in_ok-gap.replica c.in_ok-gap.ensures.found

with_batch : (c : goal.After-merge-arg-1) → thing_at (contents c.args.self.now) c.args.name ≡ Some (family.batch c.in_ok-batch-in_default-Some-Batch.batch)
with_batch c = search rules

pub merge-requires-clause-batch : goal.merge-requires-clause-batch
merge-requires-clause-batch c =
    let lab = contents c.args.self.now in
    let r = c.in_ok-gap.replica in
    let b = c.in_ok-batch-in_default-Some-Batch.batch in
    let kept = kept_at lab c.args.file (family.replica r) c.requires.kept (with_replica c) in
    rw (c.number-2.ensures.low, c.number-2.ensures.high)
    (subst (λ n. IsKeptBatch (number_meaning 0) n b) (sym kept.1) (kept_at lab c.args.name (family.batch b) c.requires.kept (with_batch c)))

-- the lab has the replica in its place
in_place : (c : goal.After-drop-name-inside-2) → contents c.put_back.new.self ≡ with_thing (contents c.args.self.now) c.args.file (family.replica c.in_ok-replica.replica)
in_place c =
    back_in_place (contents c.args.self.now) (contents c.take_replica.new.self) (contents c.put_back.new.self) c.in_ok-gap.gap.place c.in_ok-gap.gap.name c.args.file (family.replica c.in_ok-replica.replica)
    c.in_ok-gap.ensures.name c.in_ok-gap.ensures.gap c.in_ok-put_back.ensures

pub returns-clause-answers : goal.returns-clause-answers
returns-clause-answers c = λ honest.
    let lab = contents c.args.self.now in
    let r = c.in_ok-gap.replica in
    let b = c.in_ok-batch-in_default-Some-Batch.batch in
    let here = found_replica lab c.args.file r c.in_ok-gap.ensures.found in
    let there : thing_at lab c.args.name ≡ Some (family.batch b) = search rules in
    let pool = honest_pool lab c.args.file c.args.name r b honest here there in
    ap₂ (merge_under (number_meaning 0) number_op lab c.args.file c.args.name) here there
    ∙ ap (λ s. Ok (effect (with_thing lab c.args.file (family.replica s)) (delivered_text (length (merged r b).delivered - length r.delivered) (length (merged r b).waiting)))) (sym (c.in_ok-replica.ensures.merged pool))
    ∙ ap₂ (λ l t. Ok (effect l t)) (sym (in_place c))
    (ap₂ delivered_text (sym (c.in_ok-replica.ensures.delivered ∙ ap (λ s. length s.delivered - length r.delivered) (c.in_ok-replica.ensures.merged pool))) (sym (c.in_ok-replica.ensures.waiting ∙ ap (λ s. length s.waiting) (c.in_ok-replica.ensures.merged pool))) ∙ sym c.in_ok-text_of_merge.ensures)

pub returns-clause-keeps : goal.returns-clause-keeps
returns-clause-keeps c =
    let lab = contents c.args.self.now in
    let r = c.in_ok-gap.replica in
    let b = c.in_ok-batch-in_default-Some-Batch.batch in
    let s = c.in_ok-replica.replica in
    let here = found_replica lab c.args.file r c.in_ok-gap.ensures.found in
    let there : thing_at lab c.args.name ≡ Some (family.batch b) = search rules in
    let kept = kept_at lab c.args.file (family.replica r) c.requires.kept here in
    keeps_put lab (contents c.put_back.new.self) c.args.file (family.replica s) c.in_ok-text_of_merge.field-0 (in_place c) c.requires.kept
    (rw (c.number-2.ensures.low, c.number-2.ensures.high) at c.in_ok-replica.ensures.kept, c.in_ok-replica.ensures.same.2 ∙ kept.1)
    (λ k h. thing_up_to_more k (k + 1) (omega arith) (family.replica s)
    (c.in_ok-replica.ensures.up_to k (up_to_at lab c.args.file (family.replica r) k h here) (up_to_at lab c.args.name (family.batch b) k h there)))

pub returns-clause-said : goal.returns-clause-said
returns-clause-said c =
    let m = c.in_ok-replica.merged in
    accepted_from (string_bytes c.in_ok-text_of_merge.field-0) (codes "delivered " ++ decimal m.delivered ++ codes " waiting " ++ decimal m.waiting) c.in_ok-text_of_merge.ensures refl
