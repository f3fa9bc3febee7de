-- Fields that are read one after another.
use Rattle.std.specs.Prelude.{◌≡◌, ℕ, ◌+◌, ◌<◌, List, [], ◌∷◌, ◌++◌, map, length, drop, get_or, Result, Ok, Err}
use Rattle.std.proofs.Common.{refl, ap, sym, ◌∙◌, subst, inl, inr}
use Rattle.std.proofs.Common.{add-one, drop-cons}
use Rattle.serde_json.specs.View.{view}
use Rattle.serde_json.specs.declared.value.Value.{Value}
use Rattle.doc_schema.specs.declared.fault.SchemaError.{SchemaError}
use Rattle.doc_schema.specs.declared.kind.Field.{Field}
use Rattle.doc_schema.specs.Schema.{FieldResult, FieldsResult, field_names}

module _ (values : List Value) (i : ℕ) (v : Value) (low : i < length values) (is : v ≡ get_or values i v) (done : List Field) where
  next : map view (drop i values) ≡ view v ∷ map view (drop (i + 1) values)
  next =
      let parts : drop i values ≡ get_or values i v ∷ drop (i + 1) values = rw (add-one) (drop-cons values i v low) in
      ap (map view) parts ∙ ap (λ (w : Value). view w ∷ map view (drop (i + 1) values)) (sym is)

  -- one more field
  pub one_more : (f : Field) (r : Result (List Field) SchemaError) → FieldResult (field_names done) (view v) (Ok f)
      → FieldsResult (done ++ f ∷ []) (map view (drop (i + 1) values)) r → FieldsResult done (map view (drop i values)) r
  one_more f r h rest = subst (λ ds. FieldsResult done ds r) (sym next) (inr (f, h, rest))

  -- or one that is at fault
  pub at_fault : (e : SchemaError) → FieldResult (field_names done) (view v) (Err e) → FieldsResult done (map view (drop i values)) (Err e)
  at_fault e h = subst (λ ds. FieldsResult done ds (Err e)) (sym next) (inl (e, h, refl))
