use Rattle.std.proofs.Common.{◌<◌, ◌++◌, [], ℕ, List, length, take, slice_index, sym, ap, ◌∙◌}
use Rattle.std.proofs.lemmas.List.{append-nil}
use Rattle.vector_clock.specs.declared.clock.Id.{Id}
use Rattle.wire_core.specs.Reading.{number, spell_each}
use Rattle.wire_core.specs.Calls.{rules_of, wrote}
use Rattle.wire_core.specs.Clocks.{last_op, last_ops, op_grammar}
use Rattle.wire_core.proofs.Ops.{known_are, last_more_none, last_more_some, op_put}
use Rattle.wire_core.proofs.clock.put_ops.Goals as goal
use Rattle.wire_core.proofs.clock.put_ops.Goals.{then-seq-ne0+in_ok-put_u8-2+in_ok-put_u32, else-seq-ne0}

pub loop-member-init : goal.loop-member-init
loop-member-init c =
    let entries = c.args.entries.now in
    let r = rules_of c.args.out.now in
    c.in_ok-put_u8.ensures ∙ ap (λ (k : ℕ). wrote c.args.out.now ((number 1).spell r k)) (c.known_members.ensures ∙ known_are 0 entries)
    ∙ ap (wrote c.args.out.now) (sym (append-nil ((number 1).spell r (length (last_ops 0 entries)))))

pub loop-member-preserved : goal.loop-member-preserved
loop-member-preserved c =
    let entries = c.args.entries.now in
    let i = c.loop-member.member in
    let r = rules_of c.args.out.now in
    let below : i < length entries = c.loop-member-test.true in
    let front = (number 1).spell r (length (last_ops 0 entries)) in
    elim c.if-seq-ne0.branch [
      | then-seq-ne0+in_ok-put_u8-2+in_ok-put_u32 w ↦ w.out-is ∙ op_put c.args.out.now c.loop-member.out w.put_u8-then-seq-ne0.new.self w.put_u32.new.self front (last_ops 0 (take i entries))
          (last_op i (slice_index entries i)) c.loop-member.invariant w.in_ok-put_u8-2.ensures w.in_ok-put_u32.ensures
          ∙ ap (λ (ids : List Id). wrote c.args.out.now (front ++ spell_each (λ _. op_grammar) r [] ids)) (sym (last_more_some entries i below w.if-seq-ne0.true))
      | else-seq-ne0 w ↦ w.out-is ∙ c.loop-member.invariant ∙ ap (λ (ids : List Id). wrote c.args.out.now (front ++ spell_each (λ _. op_grammar) r [] ids)) (sym (last_more_none entries i below w.if-seq-ne0.false))
    ]
