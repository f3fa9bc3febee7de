-- Where a name stands among names.
use Rattle.std.proofs.Common.{◌≡◌, ◌≢◌, ℕ, ◌<◌, ◌≤◌, Bool, true, false, nat_lt, List, [], length, get_or, Some, slice_get, inl, inr, refl, sym, ◌∙◌, arith}
use Rattle.std.specs.List.{AllPairs, position, position_or_len}
use Rattle.std.specs.Str.{bytes_eq}
use Rattle.std.proofs.lemmas.Bool.{cases_lt}
use Rattle.std.proofs.lemmas.Bool.Decides.{nat_tests}
use Rattle.std.proofs.lemmas.List.Sums.{fails_before_first, passes_at_first}
use Rattle.std.proofs.lemmas.Option.{get_or_from_slice_get, slice_get_within}
use Rattle.std.proofs.lemmas.Slice.Eq.{bytes_eq-Decides}

module _ (names : List (List ℕ)) (name : List ℕ) where
  abbrev pub is_it : List ℕ → Bool
  is_it own = bytes_eq own name

  abbrev pub place : ℕ
  place = position_or_len is_it names

  pub got : (v : ℕ) → slice_get names v ≡ Some name → (v < length names) × (get_or names v [] ≡ name)
  got v h = (slice_get_within names v name h, get_or_from_slice_get names v name [] h)

  -- the first place is not behind
  not_behind : (v : ℕ) → v < length names → get_or names v [] ≡ name → place ≤ v
  not_behind v low e = elim (cases_lt v place) [
    | inl before ↦
        (let no : is_it (get_or names v []) ≡ false = fails_before_first is_it names v [] before in
        let yes : is_it (get_or names v []) ≡ true = (bytes_eq-Decides (get_or names v []) name).1 e in
        absurd (cc))
    | inr after ↦ after
  ]

  -- a name is found, at the first place where it stands
  pub found : (v : ℕ) → slice_get names v ≡ Some name → (position is_it names ≡ Some place) × (place < length names) × (get_or names place [] ≡ name)
  found v h =
      let here = got v h in
      let low : place < length names = omega (arith, here.0, not_behind v here.0 here.1) in
      let test : nat_lt place (length names) ≡ true = grind (arith, nat_tests) in
      (rw test refl, low, (bytes_eq-Decides (get_or names place []) name).0 (passes_at_first is_it names [] low))

  -- where no name stands twice, that is its place
  pub one_place : (v : ℕ) → slice_get names v ≡ Some name → AllPairs (λ a b. a ≢ b) names → place ≡ v
  one_place v h apart =
      let here = got v h in
      let there = found v h in
      elim (cases_lt place v) [
        | inl before ↦ absurd (apart place v [] before here.0 (there.2 ∙ sym here.1))
        | inr after ↦ omega (arith, not_behind v here.0 here.1)
      ]
