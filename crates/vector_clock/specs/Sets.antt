-- Sets of things that carry a stamp. A set is given as a list, in any order; an element may stand in it twice.
use Rattle.std.specs.Prelude.{◌≡◌, ◌≤◌, List, [], ◌∷◌, Bool, not, IsTrue, IsFalse, filter, if◌then◌else◌}
use Rattle.std.specs.List.{AllByRecursion, Any, Contains}
use Rattle.vector_clock.specs.declared.clock.Clock.{Clock}
use Rattle.vector_clock.specs.declared.clock.Id.{Id}
use Rattle.vector_clock.specs.declared.stamp.Stamp.{Stamp}
use Rattle.vector_clock.specs.Clock.{IsAtMost, covers}
use Rattle.vector_clock.specs.Stamp.{IsAfter, id_of, is_before, is_below, same_id}

module _ {X : Type 0} (at : X → Stamp) where
  -- One id is one thing. What was before a thing is known to it with all that it knew itself, and did not know of it.
  pub record IsHonest (xs : List X) : Type 0 where
    pub same : (a b : X) → Contains xs a → Contains xs b → IsTrue (same_id (at a) (at b)) → a ≡ b
    pub known : (a b : X) → Contains xs a → Contains xs b → IsTrue (is_before (at b) (at a)) → IsAfter (at b).clock (at a)

  -- The set is causally closed: whatever a clock in it covers is in it, so that nothing that somebody knew of is missing.
  pub record IsClosed (xs : List X) : Type 0 where
    pub each : (a : X) (i : Id) → Contains xs a → 1 ≤ i.seq → IsTrue (covers (at a).clock i) → Any (λ b. id_of (at b) ≡ i) xs

  -- The clock knows all that was known to the things which it covers.
  pub record AgreesWith (k : Clock) (xs : List X) : Type 0 where
    pub each : (a : X) → Contains xs a → IsTrue (covers k (id_of (at a))) → IsAtMost (at a).clock k

  -- no id stands twice
  abbrev pub AreApart : List X → Type 0
  AreApart [] = Unit {0}
  AreApart (a ∷ xs) = AllByRecursion (λ b. IsFalse (same_id (at a) (at b))) xs × AreApart xs

  -- strictly rising keys
  abbrev pub IsRising : List X → Type 0
  IsRising [] = Unit {0}
  IsRising (a ∷ xs) = AllByRecursion (λ b. IsTrue (is_below (at a) (at b))) xs × IsRising xs

  -- the list with x in its place by key
  abbrev pub place : X → List X → List X
  place x [] = x ∷ []
  place x (y ∷ ys) = if is_below (at x) (at y) then x ∷ y ∷ ys else y ∷ place x ys

  -- whether the clock does not cover the thing
  abbrev pub is_beyond : Clock → X → Bool
  is_beyond k x = not (covers k (id_of (at x)))

  -- those that the clock does not cover
  abbrev pub beyond : Clock → List X → List X
  beyond k xs = filter (is_beyond k) xs
