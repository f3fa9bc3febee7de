-- Things that stand at positions, by rising position: what stands before a position and after it, and what an edit there leaves.
use Rattle.std.specs.Prelude.{ℕ, zero, suc, Bool, List, [], ◌∷◌, ◌++◌, Option, None, Some, slice_get}
use Rattle.std.specs.Option.{option_map}
use Rattle.std.specs.List.{AllPairs, filter}
use Rattle.std.specs.Ordering.{is_lt}
use Rattle.list_crdt.specs.declared.position.Step.{Step}
use Rattle.list_crdt.specs.Position.{IsBefore, position_cmp}

-- the thing, if there is one
abbrev pub cells_of : {C : Type 0} → Option C → List C
cells_of None = []
cells_of (Some c) = c ∷ []

module _ {C : Type 0} (at : C → List Step) where
  -- whether a thing stands before a position, or after it
  abbrev pub stands_before : List Step → C → Bool
  stands_before p c = is_lt (position_cmp (at c) p)

  abbrev pub stands_after : List Step → C → Bool
  stands_after p c = is_lt (position_cmp p (at c))

  -- what stands before a position, and what stands after it
  abbrev pub before : List Step → List C → List C
  before p s = filter (stands_before p) s

  abbrev pub after : List Step → List C → List C
  after p s = filter (stands_after p) s

  -- what is left with this thing, or with none, at the position, whatever stood there
  abbrev pub with_at : List Step → Option C → List C → List C
  with_at p o s = before p s ++ (cells_of o ++ after p s)

  -- each thing comes before all later ones
  abbrev pub IsRising : List C → Type 0
  IsRising s = AllPairs (λ a b. IsBefore (at a) (at b)) s

  -- the position of the thing at the index, and that of the one before it
  abbrev pub place : List C → ℕ → Option (List Step)
  place s i = option_map at (slice_get s i)

  abbrev pub place_before : List C → ℕ → Option (List Step)
  place_before s zero = None
  place_before s (suc i) = place s i
