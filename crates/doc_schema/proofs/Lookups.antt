-- Names in the order in which they came, looked up by a test.
use Rattle.std.specs.Prelude.{◌≡◌, ℕ, ◌+◌, ◌<◌, ◌≤◌, ◌||◌, Bool, true, false, cond, not, nat_lt, if◌then◌else◌, List, [], ◌∷◌, ◌++◌, map, length, get_or, slice_get, Option, Some, None, IfNone, IfSome, IsSome, ◌↔◌}
use Rattle.std.specs.List.{Contains, list_any, position, position_or_len, prefix_len}
use Rattle.std.specs.Str.{bytes_eq}
use Rattle.std.proofs.Common.{refl, ap, ap₂, sym, ◌∙◌, subst, arith, inl, inr}
use Rattle.std.proofs.lemmas.Bool.{both_ways, cases_Bool, ltb-false, ltb-true}
use Rattle.std.proofs.lemmas.List.{length-map, map_push}
use Rattle.std.proofs.lemmas.List.Sums.{fails_before_first, passes_at_first}
use Rattle.std.proofs.lemmas.Map.Views.{Contains-from_any}
use Rattle.std.proofs.lemmas.Option.{get_or_from_slice_get, slice_get-get_or, slice_get_within}
use Rattle.std.proofs.lemmas.Slice.Eq.{bytes_eq-Decides}

abbrev IsPlace : List (List ℕ) → List ℕ → Option ℕ → Type 0
IsPlace names name o = IfSome o (λ at. slice_get names at ≡ Some name) × IfNone o (¬ Contains names name)

pub is_there : (names : List (List ℕ)) (name : List ℕ) (at : ℕ) → slice_get names at ≡ Some name → Contains names name
is_there names name at e = (at, slice_get_within names at name e, get_or_from_slice_get names at name name e)

pub there : (names : List (List ℕ)) (name : List ℕ) (o : Option ℕ) → IsPlace names name o → IsSome o ↔ Contains names name
there names name None h = ((λ e. absurd (cc)), λ c. absurd (h.1 c))
there names name (Some at) h = ((λ e. is_there names name at h.0), λ c. refl)

-- the first place at which a name stands
module _ (names : List (List ℕ)) (name : List ℕ) where
  abbrev first : ℕ
  first = position_or_len (bytes_eq name) names

  found : first < length names → slice_get names first ≡ Some name
  found low =
      slice_get-get_or names first [] low
      ∙ ap Some (sym ((bytes_eq-Decides name (get_or names first [])).0 (passes_at_first (bytes_eq name) names [] low)))

  absent : length names ≤ first → ¬ Contains names name
  absent high c =
      let low : c.0 < length names = c.1 in
      let same : get_or names c.0 name ≡ name = c.2 in
      both_ways (bytes_eq name (get_or names c.0 name)) (fails_before_first (bytes_eq name) names c.0 name (omega arith))
      ((bytes_eq-Decides name (get_or names c.0 name)).1 (sym same))

  pub place_of_name : (o : Option ℕ) → o ≡ position (bytes_eq name) names → IsPlace names name o
  place_of_name o is = by (nat_lt first (length names)) refl is
    where
      by : (b : Bool) → nat_lt first (length names) ≡ b → o ≡ cond b (Some first) None → IsPlace names name o
      by true e i = subst (IsPlace names name) (sym i) (found (ltb-true first (length names) e), tt)
      by false e i = subst (IsPlace names name) (sym i) (tt, absent (ltb-false first (length names) e))

-- the same where the names stand inside of other things
module _ {V : Type 0} (f : V → List ℕ) where
  prefix-map : (p : List ℕ → Bool) (ks : List V) → prefix_len (λ k. p (f k)) ks ≡ prefix_len p (map f ks)
  prefix-map p [] = refl
  prefix-map p (k ∷ ks) = ap (λ n. cond (p (f k)) (1 + n) 0) (prefix-map p ks)

  position-map : (name : List ℕ) (ks : List V) → position (λ k. bytes_eq name (f k)) ks ≡ position (bytes_eq name) (map f ks)
  position-map name ks =
      ap₂ (λ p n. cond (nat_lt p n) (Some p) None) (prefix-map (λ x. not (bytes_eq name x)) ks) (sym (length-map ks f))

  pub place_inside : (name : List ℕ) (ks : List V) (names : List (List ℕ)) (o : Option ℕ) → map f ks ≡ names
      → o ≡ position (λ k. bytes_eq name (f k)) ks → IsPlace names name o
  place_inside name ks names o same is =
      subst (λ ns. IsPlace ns name o) same (place_of_name (map f ks) name o (is ∙ position-map name ks))

  any-map : (name : List ℕ) (ks : List V) → list_any (λ k. bytes_eq name (f k)) ks ≡ list_any (bytes_eq name) (map f ks)
  any-map name [] = refl
  any-map name (k ∷ ks) = ap (λ b. bytes_eq name (f k) || b) (any-map name ks)

  -- a name that is not there yet goes last
  pub name_added : (ks new : List V) (v : V) (old : List (List ℕ)) (name : List ℕ)
      → new ≡ (if list_any (λ k. bytes_eq (f v) (f k)) ks then ks else ks ++ v ∷ []) → map f ks ≡ old → f v ≡ name
      → ¬ Contains old name → map f new ≡ old ++ name ∷ []
  name_added ks new v old name is same own none =
      let not_there : list_any (λ k. bytes_eq (f v) (f k)) ks ≡ false = elim (cases_Bool (list_any (λ k. bytes_eq (f v) (f k)) ks)) [
        | inl t ↦ absurd (none (subst (λ n. Contains old n) own (subst (λ ns. Contains ns (f v)) same
            (Contains-from_any {eq = bytes_eq} (λ x y e. (bytes_eq-Decides x y).0 e) (f v) (map f ks) (sym (any-map (f v) ks) ∙ t)))))
        | inr e ↦ e
      ] in
      ap (map f) (is ∙ ap (λ b. if b then ks else ks ++ v ∷ []) not_there) ∙ map_push f ks v
      ∙ ap₂ (λ (xs : List (List ℕ)) x. xs ++ x ∷ []) same own
