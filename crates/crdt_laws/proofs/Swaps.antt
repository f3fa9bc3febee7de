-- An element that is taken out of a list, with the last one in its place meanwhile, and put back.
use Rattle.std.proofs.Common.{◌≡◌, ℕ, zero, suc, ◌-◌, ◌<◌, List, [], ◌∷◌, ◌++◌, length, get_or, refl, ap, ap₂, sym, ◌∙◌, arith}
use Rattle.std.specs.List.{swap, swap_remove}
use Rattle.std.proofs.Math.ListN.{set, take}
use Rattle.std.proofs.lemmas.List.{length-append, length-set, length-take-le}
use Rattle.std.proofs.lemmas.List.Edits.{swap_is}

module _ {X : Type 0} (e : X) where
  -- the list after y and ys with the last element in the i-th place, and e for the last
  abbrev stood_in : X → List X → ℕ → X → List X
  stood_in y ys i x = take (length ys) (set (y ∷ ys) i (get_or (y ∷ ys) (length ys) x)) ++ e ∷ []

  last_back : (y : X) (ys : List X) (x : X) → set (take (length ys) (y ∷ ys) ++ e ∷ []) (length ys) (get_or (y ∷ ys) (length ys) x) ≡ y ∷ ys
  last_back y [] x = refl
  last_back y (z ∷ zs) x = ap (λ l. y ∷ l) (last_back z zs x)

  last_is : (y : X) (ys : List X) (d : X) → get_or (take (length ys) (y ∷ ys) ++ e ∷ []) (length ys) d ≡ e
  last_is y [] d = refl
  last_is y (z ∷ zs) d = last_is z zs d

  put_back : (y : X) (ys : List X) (i : ℕ) (x c d : X) → i < suc (length ys)
      → set (set (stood_in y ys i x) i (get_or (stood_in y ys i x) (length ys) c)) (length ys) (get_or (stood_in y ys i x) i d) ≡ set (y ∷ ys) i e
  put_back y [] zero x c d within = refl
  put_back y [] (suc i) x c d within = absurd (omega arith)
  put_back y (z ∷ zs) zero x c d within = ap₂ (λ a l. a ∷ l) (last_is z zs c) (last_back z zs x)
  put_back y (z ∷ zs) (suc i) x c d within = ap (λ l. y ∷ l) (put_back z zs i x c d (omega arith))

  length-stood : (y : X) (ys : List X) (i : ℕ) (x : X) → length (stood_in y ys i x) ≡ suc (length ys)
  length-stood y ys i x =
      let as_set = set (y ∷ ys) i (get_or (y ∷ ys) (length ys) x) in
      let all = length-set (y ∷ ys) i (get_or (y ∷ ys) (length ys) x) in
      omega (arith, length-append (take (length ys) as_set) (e ∷ []), length-take-le (length ys) as_set (omega arith))

  -- what was taken out with the last one in its place, put last and swapped with it, has replaced what stood there
  pub swapped_back : (xs : List X) (i : ℕ) (x : X) → i < length xs → (rest : List X) → rest ≡ swap_remove xs i x → (n : ℕ) → suc n ≡ length xs
      → swap (rest ++ e ∷ []) i n ≡ set xs i e
  swapped_back [] i x within rest is n last = absurd (omega arith)
  swapped_back (y ∷ ys) i x within rest is n last =
      let at : n ≡ length ys = omega arith in
      let short : suc (length ys) - 1 ≡ length ys = omega arith in
      let is_stood : rest ++ e ∷ [] ≡ stood_in y ys i x = rw (is, short) refl in
      ap₂ (λ l k. swap l i k) is_stood at
      ∙ sym (swap_is (stood_in y ys i x) i (length ys) e (omega (arith, length-stood y ys i x)) (omega (arith, length-stood y ys i x)))
      ∙ put_back y ys i x e e within

-- one element less is left
pub length-removed : {X : Type 0} (xs : List X) (i : ℕ) (x : X) → i < length xs → suc (length (swap_remove xs i x)) ≡ length xs
length-removed xs i x within =
    let replaced = set xs i (get_or xs (length xs - 1) x) in
    let same = length-set xs i (get_or xs (length xs - 1) x) in
    omega (arith, same, length-take-le (length xs - 1) replaced (omega (arith, same)))
