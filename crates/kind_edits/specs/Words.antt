-- How the rest of an edit is cut into words, which stand apart by single spaces.
use Rattle.std.specs.Prelude.{ℕ, ◌≢◌, ◌≤◌, List, length, Bool, not, ◌&&◌, ◌==◌, if◌then◌else◌, Option, None, Some}
use Rattle.std.specs.List.{All, before_first, after_first, list_any}

abbrev pub is_space : ℕ → Bool
is_space b = b == 32

-- whether the text is one word: it has a byte, and none of its bytes is a space
abbrev pub is_word : List ℕ → Bool
is_word text = not (length text == 0) && not (list_any is_space text)

-- the text, where it is one word
abbrev pub only_word : List ℕ → Option (List ℕ)
only_word text = if is_word text then Some text else None

-- The first word, and all that follows the one space after it. Where no space follows, that is nothing; where the word would be
-- empty, there is none.
abbrev pub first_word : List ℕ → Option (List ℕ × List ℕ)
first_word text =
    if length (before_first is_space text) == 0 then None else Some (before_first is_space text, after_first is_space text)

-- at least one byte, and no space
pub record IsWord (text : List ℕ) : Type 0 where
  pub some : 1 ≤ length text
  pub each : All (λ b. b ≢ 32) text
