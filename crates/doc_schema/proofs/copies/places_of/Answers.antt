use Rattle.std.proofs.Common.{◌≡◌, ◌≢◌, ◌∙◌, ◌<◌, List, ap, arith, get_or, length, subst, sym, take, ℕ}
use Rattle.std.proofs.lemmas.List.{get_or-map, get_or-take, length-map, length-take, take-map}
use Rattle.std.specs.List.{AllPairs, Contains}
use Rattle.doc_schema.specs.Schema.{field_names}
use Rattle.doc_schema.specs.declared.kind.Field.{Field}
use Rattle.doc_schema.proofs.copies.places_of.Goals as goal

-- the name of a field is none of those before it
not_before : (fs : List Field) (i : ℕ) (f : Field) → i < length fs → f ≡ get_or fs i f → AllPairs (λ a b. a ≢ b) (field_names fs)
    → ¬ Contains (field_names (take i fs)) f.name
not_before fs i f within is apart (k, below, same) =
    let names : List (List ℕ) = field_names fs in
    let cut : take i names ≡ field_names (take i fs) = take-map (λ (g : Field). g.name) i fs in
    let low : k < i = omega (arith, below, ap length cut, length-take i names) in
    let here : get_or names i f.name ≡ f.name = get_or-map (λ (g : Field). g.name) fs i f f.name within ∙ ap (λ (g : Field). g.name) (sym is) in
    let there : get_or names k f.name ≡ f.name = sym (get_or-take i names k f.name low) ∙ ap (λ (xs : List (List ℕ)). get_or xs k f.name) cut ∙ same in
    apart k i f.name low (omega (arith, length-map fs (λ (g : Field). g.name), within)) (there ∙ sym here)

pub add-requires : goal.add-requires
add-requires c =
    let same : c.deref-field-items.result.now ≡ c.args.fields.now = rw c.deref-field-items.ensures.value c.fields.view_is in
    subst (λ (names : List (List ℕ)). ¬ Contains names c.field-item.result.name) (sym c.loop-field.invariant)
    (not_before c.args.fields.now c.loop-field.field-index c.field-item.result (omega (arith, ap length same))
    (subst (λ (fs : List Field). c.field-item.result ≡ get_or fs c.loop-field.field-index c.field-item.result) same c.field-item.is) c.requires)
