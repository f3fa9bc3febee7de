-- The script that a source holds, and the files of a store.
use Rattle.std.specs.Prelude.{◌≡◌, ℕ, ◌<◌, List, ◌++◌, Option, None, Some, length}

-- the most bytes that a script may have
abbrev pub most_bytes : ℕ
most_bytes = 32768

-- the most bytes that a file may have
abbrev pub most_file_bytes : ℕ
most_file_bytes = 67108864

-- the bytes read so far, and then what is left, are what the source had, where it tells
abbrev pub ReadsFrom : Option (List ℕ) → List ℕ → Option (List ℕ) → Type 0
ReadsFrom None script left = Unit {0}
ReadsFrom (Some bytes) script left = (rest : List ℕ) × (left ≡ Some rest) × (script ++ rest ≡ bytes)

-- the bytes are the whole script of the source, where it tells
abbrev pub IsScript : Option (List ℕ) → List ℕ → Type 0
IsScript None script = Unit {0}
IsScript (Some bytes) script = script ≡ bytes

-- the source has more bytes than a script may have, where it tells
abbrev pub IsTooLong : Option (List ℕ) → Type 0
IsTooLong None = Unit {0}
IsTooLong (Some bytes) = most_bytes < length bytes
