-- Stamps by rising key, of operations that a clock knows.
use Rattle.std.specs.Prelude.{◌≡◌, ℕ, zero, suc, ◌≤◌, ◌&&◌, Bool, true, IsTrue, List, [], ◌∷◌, None, slice_index, nat_le}
use Rattle.std.proofs.Common.{refl, arith}
use Rattle.std.proofs.lemmas.Bool.{leb-true}
use Rattle.std.proofs.lemmas.Bool.Decides.{nat_tests}
use Rattle.std.specs.List.{last_or}
use Rattle.vector_clock.specs.declared.clock.Clock.{Clock}
use Rattle.vector_clock.specs.declared.stamp.Stamp.{Stamp}
use Rattle.vector_clock.specs.Clock.{IsAtMost, count, covers}
use Rattle.vector_clock.specs.Stamp.{IsKnownTo, id_of, is_below}
use Rattle.vector_clock.proofs.Keys.{key_trans}
use Rattle.wire_core.specs.Reading.{Grammar, IsExact, only}
use Rattle.wire_core.specs.Exact.{only_exact}
use Rattle.wire_core.specs.ClocksExact.{both}
use Rattle.wire_core.specs.Steady.{IsSteady, in_order_steady, only_steady}
use Rattle.wire_core.specs.Small.{stamp_grammar}
use Rattle.wire_core.specs.SmallExact.{stamp_exact}
use Rattle.wire_core.specs.SmallInOrder.{stamp_in_order}
use Rattle.wire_core.specs.Rising.{IsTransitive, comes_next}

-- entry by entry at most
abbrev pub are_at_most : List ℕ → List ℕ → Bool
are_at_most [] ys = true
are_at_most (x ∷ xs) [] = nat_le x 0 && are_at_most xs []
are_at_most (x ∷ xs) (y ∷ ys) = nat_le x y && are_at_most xs ys

-- whether the clock knows all that the member knew when it made the operation, and the operation itself
abbrev pub knows : Clock → Stamp → Bool
knows d p = are_at_most p.clock.at d.at

module _ {X : Type 0} (at : X → Stamp) where
  -- the first comes before the second, by key
  abbrev pub IsEarlier : X → X → Type 0
  IsEarlier a b = is_below (at a) (at b) ≡ true

  pub earlier_transitive : IsTransitive IsEarlier
  earlier_transitive = record { each = λ a b c h k. key_trans (at a) (at b) (at c) h k }

  -- a stamp whose key comes after those of the things before, of an operation that the clock knows
  abbrev pub next_stamp : Clock → List X → Grammar Stamp
  next_stamp d before = only (λ _ p. comes_next at is_below (last_or None before) p && knows d p) stamp_grammar

  pub next_stamp_exact : (d : Clock) (before : List X) → IsExact (next_stamp d before)
  next_stamp_exact d before = only_exact _ stamp_grammar stamp_exact

  pub next_stamp_steady : (d : Clock) (before : List X) → IsSteady (next_stamp d before)
  next_stamp_steady d before = only_steady _ stamp_grammar (in_order_steady stamp_grammar stamp_in_order)

-- ---- the test tells what the clock knows

at_most : (xs ys : List ℕ) → are_at_most xs ys ≡ true → (m : ℕ) → slice_index xs m ≤ slice_index ys m
at_most [] ys h m = omega arith
at_most (x ∷ xs) [] h zero = leb-true x 0 (both (nat_le x 0) (are_at_most xs []) h).0
at_most (x ∷ xs) [] h (suc m) = at_most xs [] (both (nat_le x 0) (are_at_most xs []) h).1 m
at_most (x ∷ xs) (y ∷ ys) h zero = leb-true x y (both (nat_le x y) (are_at_most xs ys) h).0
at_most (x ∷ xs) (y ∷ ys) h (suc m) = at_most xs ys (both (nat_le x y) (are_at_most xs ys) h).1 m

most_at : (xs ys : List ℕ) → ((m : ℕ) → slice_index xs m ≤ slice_index ys m) → are_at_most xs ys ≡ true
most_at [] ys h = refl
most_at (x ∷ xs) [] h =
    let first : nat_le x 0 ≡ true = let le : x ≤ 0 = h 0 in grind (arith, nat_tests) in
    rw first (most_at xs [] (λ m. h (suc m)))
most_at (x ∷ xs) (y ∷ ys) h =
    let first : nat_le x y ≡ true = let le : x ≤ y = h 0 in grind (arith, nat_tests) in
    rw first (most_at xs ys (λ m. h (suc m)))

covered : (d : Clock) (p : Stamp) → IsAtMost p.clock d → IsTrue (covers d (id_of p))
covered d p h = let le : count p.clock p.member ≤ count d p.member = h.each p.member in grind (arith, nat_tests)

pub known_from : (d : Clock) (p : Stamp) → knows d p ≡ true → IsKnownTo d p
known_from d p h =
    let le : IsAtMost p.clock d = record { each = at_most p.clock.at d.at h } in
    record { covered = covered d p le; known = le }

pub knows_most : (d : Clock) (p : Stamp) → IsAtMost p.clock d → knows d p ≡ true
knows_most d p h = most_at p.clock.at d.at h.each
