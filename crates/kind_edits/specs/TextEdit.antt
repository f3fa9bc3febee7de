-- What an edit of a register of texts stands for.
use Rattle.std.specs.Prelude.{ℕ, List, codes, length, nat_le, Result, Ok}
use Rattle.std.specs.Str.{bytes_eq}
use Rattle.register_crdts.specs.Text.{max_text}
use Rattle.kind_edits.specs.declared.fault.EditError.{EditError}
use Rattle.kind_edits.specs.declared.fault.EditError.TheVariants.{NoVerb, TextLong}
use Rattle.kind_edits.specs.Rules.{demands}

-- a text that is set has at most 1,024 bytes
abbrev pub within_text : {Op : Type 0} → List ℕ → Result Op EditError → Result Op EditError
within_text text next = demands (nat_le (length text) max_text) (TextLong (length text)) next

-- `set` and all that follows, which is the text
abbrev pub register_edit : List ℕ → List ℕ → Result (List ℕ) EditError
register_edit verb rest =
    demands (bytes_eq verb (codes "set")) NoVerb (
    within_text rest (
    Ok rest))
