-- An edit with the spelling of a number is one of that number.
use Rattle.std.proofs.Common.{◌≡◌, ◌≢◌, ℕ, zero, suc, true, List, ◌∷◌, get_or, Result, Ok, IsOkAnd, Option, Some, ℤ, pos, negsuc, FitsSigned, sym, ◌∙◌, ap, subst, arith}
use Rattle.std.specs.Char.{is_ascii_digit}
use Rattle.std.specs.Fmt.{signed_decimal, decimal}
use Rattle.std.specs.Int.{w64}
use Rattle.std.specs.List.{All}
use Rattle.std.proofs.lemmas.Bool.Decides.{nat_tests}
use Rattle.std.proofs.lemmas.List.Sums.{AllPass-from_list_all}
use Rattle.kind_edits.specs.NumberEdit.{number_edit, number_op, number_verb}
use Rattle.kind_edits.specs.Rules.{reads}
use Rattle.kind_edits.specs.Spelled.{is_numeral, residue, signed_of}
use Rattle.kind_edits.specs.Words.{IsWord, only_word}
use Rattle.kind_edits.specs.declared.fault.EditError.{EditError}
use Rattle.kind_edits.specs.declared.fault.EditError.TheVariants.{NoVerb, BadNumber}
use Rattle.kind_edits.specs.declared.number.NumberVerb.{NumberVerb}
use Rattle.kind_edits.proofs.Cutting.{only_from}
use Rattle.kind_edits.proofs.Reading.{numeral_digits}
use Rattle.kind_edits.proofs.Spellings.{numeral-decimal, signed_printed}

digit_other : (b : ℕ) → is_ascii_digit b ≡ true → b ≢ 32
digit_other b h e = grind (arith, nat_tests)

numeral_word : (ds : List ℕ) → is_numeral ds ≡ true → IsWord ds
numeral_word ds h =
    let digits = numeral_digits ds h in
    record { some = omega (arith, digits.1); each = λ k d low. digit_other (get_or ds k d) (AllPass-from_list_all is_ascii_digit ds digits.0 k d low) }

after_minus : (ds : List ℕ) → All (λ b. b ≢ 32) ds → All (λ b. b ≢ 32) (45 ∷ ds)
after_minus ds h zero d low = λ e. absurd (omega (arith, e))
after_minus ds h (suc k) d low = h k d (omega arith)

-- a spelled number is one word
pub number_word : (z : ℤ) → FitsSigned w64 z → IsWord (signed_decimal z)
number_word (pos n) h = numeral_word (decimal n) (numeral-decimal n (omega (arith, h.sfits)))
number_word (negsuc n) h =
    let word = numeral_word (decimal (suc n)) (numeral-decimal (suc n) (omega (arith, h.sfits))) in
    record { some = omega arith; each = after_minus (decimal (suc n)) word.each }

-- what comes of a rule that reads something
pub read_on : {Op X : Type 0} (o : Option X) (x : X) (fault : EditError) (next : X → Result Op EditError) → o ≡ Some x → reads o fault next ≡ next x
read_on {X = X} o x fault next e = ap (λ (o : Option X). reads o fault next) e

pub ok_and : {Op : Type 0} (r : Result Op EditError) (op : Op) (P : Op → Type 0) → r ≡ Ok op → P op → IsOkAnd r P
ok_and {Op = Op} r op P e h = subst (λ (r : Result Op EditError). IsOkAnd r P) (sym e) h

pub number_read : (m : ℕ) (verb : List ℕ) (v : NumberVerb) (z : ℤ) → number_verb verb ≡ Some v → FitsSigned w64 z
    → number_edit m verb (signed_decimal z) ≡ Ok (number_op v (residue m z))
number_read m verb v z e fits =
    read_on (number_verb verb) v NoVerb (λ v. reads (only_word (signed_decimal z)) NoVerb (λ word. reads (signed_of word) BadNumber (λ z. Ok (number_op v (residue m z))))) e
    ∙ read_on (only_word (signed_decimal z)) (signed_decimal z) NoVerb (λ word. reads (signed_of word) BadNumber (λ z. Ok (number_op v (residue m z)))) (only_from (signed_decimal z) (number_word z fits))
    ∙ read_on (signed_of (signed_decimal z)) z BadNumber (λ z. Ok (number_op v (residue m z))) (signed_printed z fits)
