-- The numbers in the command that a line is.
use Rattle.std.proofs.Common.{ℕ, ◌+◌, ◌-◌, ◌^◌, ◌<◌, ◌≤◌, Bool, List, [], ◌∷◌, Option, None, Some, cond, arith}
use Rattle.std.specs.Prelude.{◌&&◌, ◌==◌, codes, option_and_then, nat_lt}
use Rattle.std.specs.List.{slice_split}
use Rattle.std.specs.Str.{bytes_eq}
use Rattle.std.proofs.lemmas.Bool.{and_parts, cond_both, ltb-true}
use Rattle.std.proofs.lemmas.Bool.Decides.{nat_tests}
use Rattle.lab_model.specs.declared.command.Command.{Command}
use Rattle.lab_model.specs.declared.command.Command.TheVariants.{New, Edit, Show, Export, Merge, Play, Check}
use Rattle.lab_model.specs.declared.command.Verb.{Verb}
use Rattle.lab_model.specs.Line.{command_of, command_of_words, edit_of, is_file_name, is_number, member_of, negative, new_of, number_below, residue_of, value_of, verb_of}

-- a number, if there is one, is below the limit
abbrev pub IsBelow : ℕ → Option ℕ → Type 0
IsBelow limit None = Unit {0}
IsBelow limit (Some n) = n < limit

pub number_below_is : (limit : ℕ) (digits : List ℕ) → IsBelow limit (number_below limit digits)
number_below_is limit digits =
    cond_both (is_number digits && nat_lt (value_of digits) limit) (Some (value_of digits)) None (IsBelow limit)
    (λ h. ltb-true (value_of digits) limit (and_parts (is_number digits) (nat_lt (value_of digits) limit) h).1)
    (λ _. tt)

below_more : (low high : ℕ) (n : Option ℕ) → low ≤ high → IsBelow low n → IsBelow high n
below_more low high None h k = tt
below_more low high (Some n) h k = omega arith

negative_below : (n : ℕ) → IsBelow (2 ^ 64) (negative n)
negative_below n = cond_both (n == 0) None (Some (2 ^ 64 - n)) (IsBelow (2 ^ 64)) (λ _. tt) (λ h. grind (arith, nat_tests))

then_negative : (n : Option ℕ) → IsBelow (2 ^ 64) (option_and_then negative n)
then_negative None = tt
then_negative (Some n) = negative_below n

-- each residue is one of a number of 64 bits
pub residue_below : (word : List ℕ) → IsBelow (2 ^ 64) (residue_of word)
residue_below [] = tt
residue_below (b ∷ digits) =
    cond_both (b == 45) (option_and_then negative (number_below (2 ^ 63 + 1) digits)) (number_below (2 ^ 63) (b ∷ digits)) (IsBelow (2 ^ 64))
    (λ _. then_negative (number_below (2 ^ 63 + 1) digits))
    (λ _. below_more (2 ^ 63) (2 ^ 64) (number_below (2 ^ 63) (b ∷ digits)) (omega arith) (number_below_is (2 ^ 63) (b ∷ digits)))

-- each member is one of the two
member_below : (word : List ℕ) → IsBelow 2 (member_of word)
member_below word =
    let one = cond (bytes_eq word (codes "1")) (Some 1) None in
    cond_both (bytes_eq word (codes "0")) (Some 0) one (IsBelow 2) (λ _. omega arith)
    (λ _. cond_both (bytes_eq word (codes "1")) (Some 1) None (IsBelow 2) (λ _. omega arith) (λ _. tt))

-- a command that a line can be
abbrev pub IsReadable : Option Command → Type 0
IsReadable (Some (New file member)) = member < 2
IsReadable (Some (Edit file verb amount)) = amount < 2 ^ 64
IsReadable _ = Unit {0}

new_readable : (file : List ℕ) (member : Option ℕ) → IsBelow 2 member → IsReadable (new_of file member)
new_readable file None h = tt
new_readable file (Some member) h = h

edit_readable : (file : List ℕ) (verb : Option Verb) (amount : Option ℕ) → IsBelow (2 ^ 64) amount → IsReadable (edit_of file verb amount)
edit_readable file None amount h = tt
edit_readable file (Some verb) None h = tt
edit_readable file (Some verb) (Some amount) h = h

either : (b : Bool) (x : Option Command) → IsReadable x → IsReadable (cond b x None)
either b x h = cond_both b x None IsReadable (λ _. h) (λ _. tt)

words_readable : (words : List (List ℕ)) → IsReadable (command_of_words words)
words_readable [] = tt
words_readable (verb ∷ []) = either (bytes_eq verb (codes "play")) (Some Play) tt
words_readable (verb ∷ file ∷ []) =
    let check = cond (bytes_eq verb (codes "check")) (Some (Check file)) None in
    either (is_file_name file) (cond (bytes_eq verb (codes "show")) (Some (Show file)) check)
    (cond_both (bytes_eq verb (codes "show")) (Some (Show file)) check IsReadable (λ _. tt)
    (λ _. either (bytes_eq verb (codes "check")) (Some (Check file)) tt))
words_readable (verb ∷ file ∷ batch ∷ []) =
    let merge = cond (bytes_eq verb (codes "merge")) (Some (Merge file batch)) None in
    either (is_file_name file && is_file_name batch) (cond (bytes_eq verb (codes "export")) (Some (Export file batch)) merge)
    (cond_both (bytes_eq verb (codes "export")) (Some (Export file batch)) merge IsReadable (λ _. tt)
    (λ _. either (bytes_eq verb (codes "merge")) (Some (Merge file batch)) tt))
words_readable (verb ∷ file ∷ member ∷ schema ∷ []) =
    either (bytes_eq verb (codes "new") && (is_file_name file && bytes_eq schema (codes "@pair"))) (new_of file (member_of member)) (new_readable file (member_of member) (member_below member))
words_readable (verb ∷ file ∷ field ∷ action ∷ number ∷ []) =
    either (bytes_eq verb (codes "edit") && (is_file_name file && bytes_eq field (codes "n"))) (edit_of file (verb_of action) (residue_of number))
    (edit_readable file (verb_of action) (residue_of number) (residue_below number))
words_readable (a ∷ b ∷ c ∷ d ∷ e ∷ f ∷ words) = tt

pub command_readable : (line : List ℕ) → IsReadable (command_of line)
unfolding command_of
command_readable line = words_readable (slice_split (λ b. b == 32) line)
