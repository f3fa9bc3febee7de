-- Rows of one length, one after another in one list.
use Rattle.std.proofs.Common.{◌≡◌, ℕ, zero, suc, ◌+◌, ◌*◌, ◌<◌, List, [], ◌∷◌, length, get_or, ◌∙◌, arith, length-append}
use Rattle.std.specs.List.{flat_map}
use Rattle.std.proofs.lemmas.List.{get_or_append_left, get_or-append-add}

module _ {X : Type 0} (f : X → List ℕ) (w : ℕ) (d : X) where
  -- the place j of the row i
  pub flat_map_at : (xs : List X) (i j : ℕ) → ((k : ℕ) → k < length xs → length (f (get_or xs k d)) ≡ w) → i < length xs → j < w
      → get_or (flat_map f xs) (i * w + j) 0 ≡ get_or (f (get_or xs i d)) j 0
  flat_map_at [] i j each h k = absurd (omega (arith, h))
  flat_map_at (x ∷ xs) zero j each h k =
      let l : length (f x) ≡ w = each 0 (omega arith) in
      let e : 0 * w + j ≡ j = grind arith in
      rw e (get_or_append_left (f x) (flat_map f xs) 0 j (omega (arith, l, k)))
  flat_map_at (x ∷ xs) (suc i) j each h k =
      let l : length (f x) ≡ w = each 0 (omega arith) in
      let e : suc i * w + j ≡ length (f x) + (i * w + j) = grind arith in
      let below : i < length xs = omega (arith, h) in
      rw e
      (get_or-append-add (f x) (flat_map f xs) (i * w + j) 0
      ∙ flat_map_at xs i j (λ m lt. each (suc m) (omega (arith, lt))) below k)

  pub length-flat_map : (xs : List X) → ((k : ℕ) → k < length xs → length (f (get_or xs k d)) ≡ w) → length (flat_map f xs) ≡ length xs * w
  length-flat_map [] each = grind arith
  length-flat_map (x ∷ xs) each =
      let l : length (f x) ≡ w = each 0 (omega arith) in
      let rest : length (flat_map f xs) ≡ length xs * w = length-flat_map xs (λ m lt. each (suc m) (omega (arith, lt))) in
      grind (arith, length-append, l, rest)
