use Rattle.std.proofs.Common.{◌≡◌, ◌⊎◌, ◌∙◌, ◌++◌, length, inl, inr, sym, ap}
use Rattle.std.proofs.lemmas.List.{append-nil}
use Rattle.std.specs.Slice.Iter.{iter_rest}
use Rattle.direct_product.proofs.RowReads.{none_left}
use Rattle.direct_product.proofs.row_parts.copy_states.Goals as goal

pub returns : goal.returns
returns g c =
    let ts = iter_rest c.loop-part.part-iterator.a in
    let ss = iter_rest c.loop-part.part-iterator.b in
    let none : (length ts ≡ 0) ⊎ (length ss ≡ 0) = elim c.in-None.ensures.steps [ inl h ↦ inl h.1.0 | inr h ↦ inr h.1.0 ] in
    let left = c.loop-part.invariant.left in
    sym (append-nil c.loop-part.copies) ∙ ap (λ l. c.loop-part.copies ++ l) (sym (none_left g.T.Tower.meaning left.members ts ss left.good none)) ∙ c.loop-part.invariant.copied
