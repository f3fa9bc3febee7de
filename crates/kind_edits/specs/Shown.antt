-- What flags, choices and tables show of the number that is their state, and the characters of a text.
use Rattle.std.specs.Prelude.{ℕ, zero, suc, ◌==◌, Bool, false, List, [], ◌++◌, take, drop, map}
use Rattle.std.specs.List.{slice_index_or}
use Rattle.serde_json.specs.Data.{Data, boolean, string}
use Rattle.list_crdt.specs.declared.text.Cell.{Cell}
use Rattle.rich_text.specs.declared.marked.RichCell.{RichCell}
use Rattle.rich_text.specs.ByIndex.{shows}

-- whether a flag is on, which is state 1
abbrev pub flag_shown : ℕ → Data
flag_shown s = boolean (s == 1)

-- the name of the state of a choice or a table
abbrev pub name_shown : List (List ℕ) → ℕ → Data
name_shown names s = string (slice_index_or names s [])

-- the characters of a text, and those of a rich text
abbrev pub letters : List Cell → List ℕ
letters s = map (λ c. c.ch) s

abbrev pub rich_letters : List RichCell → List ℕ
rich_letters s = map (λ c. c.ch) s

-- the list with these items put in at the index
abbrev pub spliced : {X : Type 0} → List X → ℕ → List X → List X
spliced xs i ys = take i xs ++ (ys ++ drop i xs)

-- whether the character before the index shows the mark, not so at the start
abbrev pub shown_before : ℕ → List RichCell → ℕ → Bool
shown_before mark s zero = false
shown_before mark s (suc i) = slice_index_or (shows mark s) i false
