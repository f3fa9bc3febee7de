use Rattle.std.proofs.Common.{◌∙◌, ap, sym}
use Rattle.std.specs.List.{insert}
use Rattle.vector_clock.specs.Sets.{place}
use Rattle.vector_clock.proofs.Ordered.{place-insert}
use Rattle.register_crdts.specs.declared.several.Held.{Held}
use Rattle.register_crdts.proofs.several.with_held.Goals as goal

pub returns : goal.returns
returns c =
    let at = c.place_of-place.result in
    c.in_ok-insert.ensures.items
    ∙ sym (ap (λ l. insert l at c.args.held) c.as_slice.ensures.value)
    ∙ place-insert (λ (h : Held). h.stamp) c.args.held c.as_slice.result.now at c.place_of-place.ensures.within c.place_of-place.ensures.before c.place_of-place.ensures.found
    ∙ ap (place (λ (h : Held). h.stamp) c.args.held) (c.as_slice.ensures.value ∙ c.sets.view_is)
