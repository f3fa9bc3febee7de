-- What a call does to the bytes that a source or a sink tells, and to its count of faults.
use Rattle.std.specs.Prelude.{◌≡◌, ℕ, ◌-◌, ◌^◌, ◌<◌, ◌≤◌, ◌⊎◌, List, [], ◌++◌, Option, None, Some, drop, length, take}

-- A count of faults is greater than it was, or at the end of its type, where it stays.
pub record Rose (before after : ℕ) : Type 0 where
  pub rose : (before < after) ⊎ (after ≡ 2 ^ 64 - 1)

-- The n bytes at the front of room are the next ones that the source tells, where it tells them. There are none only at
-- its end or for empty room.
abbrev pub Takes : Option (List ℕ) → Option (List ℕ) → ℕ → List ℕ → Type 0
Takes None after n room = Unit {0}
Takes (Some bytes) after n room =
    (n ≤ length bytes) × (after ≡ Some (drop n bytes)) × (take n room ≡ take n bytes) × (n ≡ 0 → (bytes ≡ []) ⊎ (room ≡ []))

-- the sink tells these bytes more, where it tells any
abbrev pub Appends : Option (List ℕ) → Option (List ℕ) → List ℕ → Type 0
Appends None after bytes = Unit {0}
Appends (Some told) after bytes = after ≡ Some (told ++ bytes)

-- some of the bytes, from the front
abbrev pub AppendsPart : Option (List ℕ) → Option (List ℕ) → List ℕ → Type 0
AppendsPart before after bytes = (n : ℕ) × Appends before after (take n bytes)
