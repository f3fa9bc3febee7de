-- What an edit stands for that names a value of a choice, or an operation of a table.
use Rattle.std.specs.Prelude.{ℕ, List, codes, position, Result, Ok}
use Rattle.std.specs.Str.{bytes_eq}
use Rattle.kind_edits.specs.declared.fault.EditError.{EditError}
use Rattle.kind_edits.specs.declared.fault.EditError.TheVariants.{NoVerb}
use Rattle.kind_edits.specs.Rules.{demands, reads}

-- the verb, and one of the names, which stands for its number
abbrev pub name_edit : List ℕ → List (List ℕ) → List ℕ → List ℕ → Result ℕ EditError
name_edit own names verb rest =
    demands (bytes_eq verb own) NoVerb (
    reads (position (λ name. bytes_eq name rest) names) NoVerb Ok)

-- `set` and the name of a value: operation v of a choice sets the value v
abbrev pub choice_edit : List (List ℕ) → List ℕ → List ℕ → Result ℕ EditError
choice_edit = name_edit (codes "set")

-- `do` and the name of an operation
abbrev pub table_edit : List (List ℕ) → List ℕ → List ℕ → Result ℕ EditError
table_edit = name_edit (codes "do")
