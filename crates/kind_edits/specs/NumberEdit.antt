-- What an edit of a number stands for.
use Rattle.std.specs.Prelude.{ℕ, List, codes, if◌then◌else◌, Option, None, Some, Result, Ok}
use Rattle.std.specs.Str.{bytes_eq}
use Rattle.semidirect_product.specs.declared.stack.StackOp.TheVariants.{Low, High}
use Rattle.number_crdts.specs.Number.{NumberOp}
use Rattle.kind_edits.specs.declared.fault.EditError.{EditError}
use Rattle.kind_edits.specs.declared.fault.EditError.TheVariants.{NoVerb, BadNumber}
use Rattle.kind_edits.specs.declared.number.NumberVerb.{NumberVerb}
use Rattle.kind_edits.specs.declared.number.NumberVerb.TheVariants.{Add, Mul}
use Rattle.kind_edits.specs.Rules.{reads}
use Rattle.kind_edits.specs.Spelled.{residue, signed_of}
use Rattle.kind_edits.specs.Words.{only_word}

abbrev pub number_verb : List ℕ → Option NumberVerb
number_verb verb = if bytes_eq verb (codes "add") then Some Add else if bytes_eq verb (codes "mul") then Some Mul else None

-- the addition or the multiplication of a residue
abbrev pub number_op : NumberVerb → ℕ → NumberOp
number_op Add x = Low x
number_op Mul x = High x

-- `add` or `mul`, and one word, a signed number, which stands for its residue by the modulus
abbrev pub number_edit : ℕ → List ℕ → List ℕ → Result NumberOp EditError
number_edit m verb rest =
    reads (number_verb verb) NoVerb (λ v.
    reads (only_word rest) NoVerb (λ word.
    reads (signed_of word) BadNumber (λ z.
    Ok (number_op v (residue m z)))))
