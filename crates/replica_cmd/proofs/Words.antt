-- What the readers of scripts and words rest on.
use Rattle.std.proofs.Common.{◌≡◌, ℕ, ◌+◌, ◌-◌, ◌*◌, ◌<◌, ◌≤◌, true, List, [], ◌∷◌, None, take, drop, get_or, length, ◌⊎◌, sym, ◌∙◌, ap, refl, arith}
use Rattle.std.specs.Char.{is_ascii_alphanumeric}
use Rattle.std.specs.List.{fold, list_all}
use Rattle.std.specs.Str.{IsAscii, IsUtf8}
use Rattle.std.proofs.lemmas.Bool.{and_parts, false≢true}
use Rattle.std.proofs.lemmas.Bool.Decides.{nat_tests}
use Rattle.std.proofs.lemmas.List.{take-append-drop}
use Rattle.std.proofs.lemmas.List.Sums.{fold_more, fold-append}
use Rattle.std.proofs.lemmas.Str.{IsUtf8-from_ascii}
use Rattle.std.proofs.lemmas.Str.Ascii.{IsAscii-nil, IsAscii-cons}
use Rattle.lab_model.specs.Line.{is_file_name, is_name_byte, command_of_words, value_of}

-- ---- numbers

value_grows : (n : ℕ) (ds : List ℕ) → n ≤ fold (λ n b. 10 * n + (b - 48)) n ds
value_grows n [] = omega arith
value_grows n (d ∷ ds) = omega (arith, value_grows (10 * n + (d - 48)) ds)

pub value_more : (ds : List ℕ) (i : ℕ) → i < length ds → value_of (take (i + 1) ds) ≡ 10 * value_of (take i ds) + (get_or ds i 0 - 48)
value_more ds i h = fold_more (λ n b. 10 * n + (b - 48)) 0 ds i 0 h

-- the value of some first digits is at most that of all
pub value_front : (ds : List ℕ) (i : ℕ) → value_of (take i ds) ≤ value_of ds
value_front ds i =
    let f = λ (n b : ℕ). 10 * n + (b - 48) in
    let parts : fold f 0 ds ≡ fold f (value_of (take i ds)) (drop i ds) = ap (fold f 0) (sym (take-append-drop i ds)) ∙ fold-append f 0 (take i ds) (drop i ds) in
    omega (arith, parts, value_grows (value_of (take i ds)) (drop i ds))

-- ---- names of files

name_byte : (b : ℕ) → is_name_byte b ≡ true → b < 128
name_byte b h = grind (arith, nat_tests)

first_byte : (b : ℕ) → is_ascii_alphanumeric b ≡ true → b < 128
first_byte b h = grind (arith, nat_tests)

name_bytes : (bs : List ℕ) → list_all is_name_byte bs ≡ true → IsAscii bs
name_bytes [] h = IsAscii-nil
name_bytes (b ∷ bs) h = IsAscii-cons b bs (name_byte b (and_parts _ _ h).0) (name_bytes bs (and_parts _ _ h).1)

pub IsUtf8-from_file_name : (word : List ℕ) → is_file_name word ≡ true → IsUtf8 word
IsUtf8-from_file_name [] h = absurd (false≢true h)
IsUtf8-from_file_name (b ∷ bs) h =
    let first : is_ascii_alphanumeric b ≡ true = (and_parts _ _ h).0 in
    let rest : list_all is_name_byte bs ≡ true = (and_parts _ _ (and_parts _ _ h).1).1 in
    IsUtf8-from_ascii (b ∷ bs) (IsAscii-cons b bs (first_byte b first) (name_bytes bs rest))

-- ---- words

-- words of another number are no command
pub no_command : (words : List (List ℕ)) → (length words < 1) ⊎ (5 < length words) → command_of_words words ≡ None
no_command [] h = refl
no_command (a ∷ []) h = absurd (omega arith)
no_command (a ∷ b ∷ []) h = absurd (omega arith)
no_command (a ∷ b ∷ c ∷ []) h = absurd (omega arith)
no_command (a ∷ b ∷ c ∷ d ∷ []) h = absurd (omega arith)
no_command (a ∷ b ∷ c ∷ d ∷ e ∷ []) h = absurd (omega arith)
no_command (a ∷ b ∷ c ∷ d ∷ e ∷ f ∷ more) h = refl
