-- What an edit at a key stands for.
use Rattle.std.specs.Prelude.{ℕ, List, codes, length, nat_le, Result, Ok}
use Rattle.std.specs.Str.{bytes_eq}
use Rattle.map_crdt.specs.Keyed.{at_key, max_key}
use Rattle.map_crdt.specs.declared.keyed.KeyOp.{KeyOp}
use Rattle.number_crdts.specs.Number.{NumberOp}
use Rattle.kind_edits.specs.declared.fault.EditError.{EditError}
use Rattle.kind_edits.specs.declared.fault.EditError.TheVariants.{NoVerb, KeyLong, BadNumber}
use Rattle.kind_edits.specs.NumberEdit.{number_op, number_verb}
use Rattle.kind_edits.specs.Rules.{demands, reads}
use Rattle.kind_edits.specs.Spelled.{residue, signed_of}
use Rattle.kind_edits.specs.TextEdit.{within_text}
use Rattle.kind_edits.specs.Words.{first_word, only_word}

-- a key has at most 256 bytes
abbrev pub within_key : {Op : Type 0} → List ℕ → Result Op EditError → Result Op EditError
within_key key next = demands (nat_le (length key) max_key) (KeyLong (length key)) next

-- `add` or `mul`, a word, which is the key, and one word more, a signed number
abbrev pub tally_edit : ℕ → List ℕ → List ℕ → Result (KeyOp NumberOp) EditError
tally_edit m verb rest =
    reads (number_verb verb) NoVerb (λ v.
    reads (first_word rest) NoVerb (λ parts.
    reads (only_word parts.1) NoVerb (λ word.
    within_key parts.0 (
    reads (signed_of word) BadNumber (λ z.
    Ok (at_key parts.0 (number_op v (residue m z))))))))

-- `put`, a word, which is the key, and all that follows, which is the text
abbrev pub entry_edit : List ℕ → List ℕ → Result (KeyOp (List ℕ)) EditError
entry_edit verb rest =
    demands (bytes_eq verb (codes "put")) NoVerb (
    reads (first_word rest) NoVerb (λ parts.
    within_key parts.0 (
    within_text parts.1 (
    Ok (at_key parts.0 parts.1)))))
