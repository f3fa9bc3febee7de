-- The texts that registers hold.
use Rattle.std.specs.Prelude.{ℕ, ◌≤◌, List, length}
use Rattle.std.specs.Str.{IsUtf8}
use Rattle.vector_clock.specs.declared.stamp.Stamp.{Stamp}
use Rattle.crdt_laws.specs.Tower.{IsWithin}

-- the greatest number of bytes of a register's text
abbrev pub max_text : ℕ
max_text = 1024

-- UTF-8 within the limit
pub record IsText (x : List ℕ) : Type 0 where
  pub short : length x ≤ max_text
  pub utf8 : IsUtf8 x

-- a text that may be set at this stamp
pub record IsTextAt (p : Stamp) (x : List ℕ) : Type 0 where
  pub within : IsWithin p
  pub text : IsText x
