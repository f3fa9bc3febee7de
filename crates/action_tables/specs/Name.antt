-- Names of states and operations.
use Rattle.std.specs.Prelude.{◌≡◌, ℕ, ◌<◌, ◌≤◌, ◌⊎◌, List, length, slice_index}

-- a letter from a to z
abbrev pub IsLetter : ℕ → Type 0
IsLetter b = (97 ≤ b) × (b ≤ 122)

-- such a letter, a digit or _
abbrev pub IsNameByte : ℕ → Type 0
IsNameByte b = IsLetter b ⊎ (((48 ≤ b) × (b ≤ 57)) ⊎ (b ≡ 95))

-- 1 to 32 letters from a to z, digits and _, of which the first is a letter
pub record IsName (name : List ℕ) : Type 0 where
  pub some : 1 ≤ length name
  pub most : length name ≤ 32
  pub first : IsLetter (slice_index name 0)
  pub each : (i : ℕ) → i < length name → IsNameByte (slice_index name i)
