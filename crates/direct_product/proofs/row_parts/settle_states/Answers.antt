use Rattle.std.proofs.Common.{◌≡◌, ◌⊎◌, length, inl, inr, rules, sym, ap, ◌∙◌, ◌++◌}
use Rattle.std.specs.Slice.Iter.{iter_rest}
use Rattle.std.specs.Vec.Iter.{into_iter_items}
use Rattle.std.proofs.lemmas.List.{append-nil}
use Rattle.direct_product.proofs.RowReads.{settle_none}
use Rattle.direct_product.proofs.row_parts.settle_states.Goals as goal

pub returns : goal.returns
returns g c =
    let ts = iter_rest c.loop-part.part-iterator.a in
    let ss = into_iter_items c.loop-part.part-iterator.b in
    let none : (length ts ≡ 0) ⊎ (length ss ≡ 0) = elim c.in-None.ensures.steps [ inl h ↦ inl h.1.0 | inr h ↦ inr (search rules) ] in
    sym (append-nil c.loop-part.settled)
    ∙ ap (λ l. c.loop-part.settled ++ l) (sym (settle_none g.T.Tower.meaning c.args.k.now.n ts ss c.args.k.now c.loop-part.invariant.good none))
    ∙ c.loop-part.invariant.settled
