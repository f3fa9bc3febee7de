use Rattle.std.proofs.Common.{◌≡◌, ◌⊎◌, ◌∙◌, ◌++◌, length, map, inl, inr, sym, ap}
use Rattle.std.proofs.lemmas.List.{append-nil}
use Rattle.std.specs.Slice.Iter.{iter_rest}
use Rattle.serde_json.specs.Data.{array}
use Rattle.serde_json.specs.View.{items_of, view}
use Rattle.serde_json.proofs.Views.{view-Array}
use Rattle.direct_product.proofs.RowReads.{show_none}
use Rattle.direct_product.proofs.row_parts.show_states.Goals as goal

pub returns : goal.returns
returns g c =
    let ts = iter_rest c.loop-part.part-iterator.a in
    let ss = iter_rest c.loop-part.part-iterator.b in
    let shown = map view c.loop-part.values.items in
    let none : (length ts ≡ 0) ⊎ (length ss ≡ 0) = elim c.in-None.ensures.steps [ inl h ↦ inl h.1.0 | inr h ↦ inr h.1.0 ] in
    view-Array c.loop-part.values
    ∙ ap (λ ds. array (items_of ds))
    (sym (append-nil shown) ∙ ap (λ l. shown ++ l) (sym (show_none g.T.Tower.meaning ts ss none)) ∙ c.loop-part.invariant.shown)
