-- Words that are put together with spaces, and lines that are cut into words.
use Rattle.std.proofs.Common.{◌≡◌, ◌==◌, Bool, true, false, ℕ, ◌+◌, ◌<◌, List, [], ◌∷◌, ◌++◌, nat_le, nat_lt, not, get_or, length, sym, ◌∙◌, ap, ap₂, refl, subst, arith, inl, inr}
use Rattle.std.specs.Prelude.{◌&&◌, ◌^◌}
use Rattle.std.specs.Char.{is_ascii_alphanumeric, is_ascii_digit}
use Rattle.std.specs.Fmt.{decimal}
use Rattle.std.specs.List.{join_with_byte, list_all, onto_first, slice_split}
use Rattle.std.specs.Str.{IsAscii, IsUtf8, is_utf8}
use Rattle.std.proofs.lemmas.Bool.{and_parts, cases_Bool, false≢true}
use Rattle.std.proofs.lemmas.Bool.Decides.{nat_tests}
use Rattle.std.proofs.lemmas.Fmt.{digits_decimal}
use Rattle.std.proofs.lemmas.List.{length-append}
use Rattle.std.proofs.lemmas.List.Folds.{list_all-append}
use Rattle.std.proofs.lemmas.List.Splits.{slice_split-cons_no, slice_split-cons_yes}
use Rattle.std.proofs.lemmas.Str.{IsCharBoundary-after_ascii, IsCharBoundary-before_ascii, IsUtf8-append, IsUtf8-drop, IsUtf8-from_ascii, IsUtf8-from_is_utf8, IsUtf8-take}
use Rattle.std.proofs.lemmas.Str.Ascii.{IsAscii-cons, IsAscii-nil}
use Rattle.std.proofs.Math.Seq.{drop-append-add, get_or-append_seam, take-append_seam}
use Rattle.kind_edits.proofs.Reading.{own}
use Rattle.file_model.specs.Line.{is_file_name, is_name_byte, is_text}
use Rattle.file_model.proofs.Words.{text_from}

pub both_true : (a b : Bool) → a ≡ true → b ≡ true → (a && b) ≡ true
both_true a b h g = ap₂ (λ (a b : Bool). a && b) h g

pub all_weaker : {X : Type 0} (p q : X → Bool) → ((x : X) → p x ≡ true → q x ≡ true) → (xs : List X) → list_all p xs ≡ true → list_all q xs ≡ true
all_weaker p q h [] k = refl
all_weaker p q h (x ∷ xs) k =
    let parts = and_parts (p x) (list_all p xs) k in
    both_true (q x) (list_all q xs) (h x parts.0) (all_weaker p q h xs parts.1)

-- ---- bytes that can be seen

abbrev pub is_space : ℕ → Bool
is_space b = b == 32

abbrev pub is_spaceless : List ℕ → Bool
is_spaceless word = list_all (λ b. not (b == 32)) word

abbrev pub is_seen : ℕ → Bool
is_seen b = nat_le 33 b && nat_lt b 127

abbrev pub is_visible : List ℕ → Bool
is_visible word = list_all is_seen word

seen_low : (b : ℕ) → is_seen b ≡ true → b < 128
seen_low b h = grind (arith, nat_tests)

seen_no_space : (b : ℕ) → is_seen b ≡ true → not (b == 32) ≡ true
seen_no_space b h = grind (arith, nat_tests)

seen_no_control : (b : ℕ) → is_seen b ≡ true → nat_le 32 b ≡ true
seen_no_control b h = grind (arith, nat_tests)

digit_seen : (b : ℕ) → is_ascii_digit b ≡ true → is_seen b ≡ true
digit_seen b h = grind (arith, nat_tests)

first_seen : (b : ℕ) → is_ascii_alphanumeric b ≡ true → is_seen b ≡ true
first_seen b h = grind (arith, nat_tests)

name_seen : (b : ℕ) → is_name_byte b ≡ true → is_seen b ≡ true
name_seen b h = grind (arith, nat_tests)

visible_ascii : (word : List ℕ) → is_visible word ≡ true → IsAscii word
visible_ascii [] h = IsAscii-nil
visible_ascii (b ∷ word) h =
    let parts = and_parts (is_seen b) (is_visible word) h in
    IsAscii-cons b word (seen_low b parts.0) (visible_ascii word parts.1)

pub visible_spaceless : (word : List ℕ) → is_visible word ≡ true → is_spaceless word ≡ true
visible_spaceless word h = all_weaker is_seen (λ b. not (b == 32)) seen_no_space word h

pub visible_text : (word : List ℕ) → is_visible word ≡ true → is_text word ≡ true
visible_text word h = text_from word (IsUtf8-from_ascii word (visible_ascii word h)) (all_weaker is_seen (nat_le 32) seen_no_control word h)

pub name_visible : (word : List ℕ) → is_file_name word ≡ true → is_visible word ≡ true
name_visible [] h = absurd (false≢true h)
name_visible (b ∷ word) h =
    let first = and_parts (is_ascii_alphanumeric b) (nat_le (length word) 63 && list_all is_name_byte word) h in
    let rest = and_parts (nat_le (length word) 63) (list_all is_name_byte word) first.1 in
    both_true (is_seen b) (is_visible word) (first_seen b first.0) (all_weaker is_name_byte is_seen name_seen word rest.1)

pub decimal_visible : (n : ℕ) → n < 2 ^ 64 → is_visible (decimal n) ≡ true
decimal_visible n h = all_weaker is_ascii_digit is_seen digit_seen (decimal n) (digits_decimal own n h)

-- ---- cutting what was put together

split_front : (word rest : List ℕ) → is_spaceless word ≡ true → slice_split is_space (word ++ 32 ∷ rest) ≡ word ∷ slice_split is_space rest
split_front [] rest h = refl
split_front (b ∷ word) rest h =
    let parts = and_parts (not (b == 32)) (is_spaceless word) h in
    slice_split-cons_no is_space b (word ++ 32 ∷ rest) (not_true (b == 32) parts.0) ∙ ap (onto_first b) (split_front word rest parts.1)
  where
    not_true : (t : Bool) → not t ≡ true → t ≡ false
    not_true true k = absurd (false≢true k)
    not_true false k = refl

split_one : (word : List ℕ) → is_spaceless word ≡ true → slice_split is_space word ≡ word ∷ []
split_one [] h = refl
split_one (b ∷ word) h =
    let parts = and_parts (not (b == 32)) (is_spaceless word) h in
    slice_split-cons_no is_space b word (not_true (b == 32) parts.0) ∙ ap (onto_first b) (split_one word parts.1)
  where
    not_true : (t : Bool) → not t ≡ true → t ≡ false
    not_true true k = absurd (false≢true k)
    not_true false k = refl

-- words without a space, and then anything
pub split_words : (words : List (List ℕ)) (rest : List ℕ) → list_all is_spaceless words ≡ true
    → slice_split is_space (join_with_byte 32 (words ++ rest ∷ [])) ≡ words ++ slice_split is_space rest
split_words [] rest h = refl
split_words (word ∷ []) rest h = split_front word rest (and_parts (is_spaceless word) true h).0
split_words (word ∷ (next ∷ words)) rest h =
    let parts = and_parts (is_spaceless word) (list_all is_spaceless (next ∷ words)) h in
    split_front word (join_with_byte 32 ((next ∷ words) ++ rest ∷ [])) parts.0 ∙ ap (λ (l : List (List ℕ)). word ∷ l) (split_words (next ∷ words) rest parts.1)

pub split_all : (word : List ℕ) (words : List (List ℕ)) → list_all is_spaceless (word ∷ words) ≡ true
    → slice_split is_space (join_with_byte 32 (word ∷ words)) ≡ word ∷ words
split_all word [] h = split_one word (and_parts (is_spaceless word) true h).0
split_all word (next ∷ words) h =
    let parts = and_parts (is_spaceless word) (list_all is_spaceless (next ∷ words)) h in
    split_front word (join_with_byte 32 (next ∷ words)) parts.0 ∙ ap (λ (l : List (List ℕ)). word ∷ l) (split_all next words parts.1)

-- and the pieces of a line have no space

onto_spaceless : (b : ℕ) (pieces : List (List ℕ)) → not (b == 32) ≡ true → list_all is_spaceless pieces ≡ true → list_all is_spaceless (onto_first b pieces) ≡ true
onto_spaceless b [] h k = both_true (not (b == 32) && true) true (both_true (not (b == 32)) true h refl) refl
onto_spaceless b (piece ∷ pieces) h k =
    let parts = and_parts (is_spaceless piece) (list_all is_spaceless pieces) k in
    both_true (not (b == 32) && is_spaceless piece) (list_all is_spaceless pieces) (both_true (not (b == 32)) (is_spaceless piece) h parts.0) parts.1

pub pieces_spaceless : (line : List ℕ) → list_all is_spaceless (slice_split is_space line) ≡ true
pieces_spaceless [] = refl
pieces_spaceless (b ∷ line) =
    elim (cases_Bool (b == 32)) [
      | inl q ↦ subst (λ (l : List (List ℕ)). list_all is_spaceless l ≡ true) (sym (slice_split-cons_yes is_space b line q)) (pieces_spaceless line)
      | inr q ↦ subst (λ (l : List (List ℕ)). list_all is_spaceless l ≡ true) (sym (slice_split-cons_no is_space b line q)) (onto_spaceless b (slice_split is_space line) (ap not q) (pieces_spaceless line))
    ]

-- ---- text with a space in it

pub text_with : (front back : List ℕ) → is_text front ≡ true → is_text back ≡ true → is_text (front ++ 32 ∷ back) ≡ true
text_with front back h k =
    let first = and_parts (is_utf8 front) (list_all (nat_le 32) front) h in
    let last = and_parts (is_utf8 back) (list_all (nat_le 32) back) k in
    let space = IsUtf8-from_ascii (32 ∷ []) (IsAscii-cons 32 [] (omega arith) IsAscii-nil) in
    text_from (front ++ 32 ∷ back) (IsUtf8-append front (32 ∷ back) (IsUtf8-from_is_utf8 front first.0) (IsUtf8-append (32 ∷ []) back space (IsUtf8-from_is_utf8 back last.0)))
    (list_all-append (nat_le 32) front (32 ∷ back) ∙ both_true (list_all (nat_le 32) front) (list_all (nat_le 32) back) first.1 last.1)

pub text_words : (word : List ℕ) (words : List (List ℕ)) → list_all is_text (word ∷ words) ≡ true → is_text (join_with_byte 32 (word ∷ words)) ≡ true
text_words word [] h = (and_parts (is_text word) true h).0
text_words word (next ∷ words) h =
    let parts = and_parts (is_text word) (list_all is_text (next ∷ words)) h in
    text_with word (join_with_byte 32 (next ∷ words)) parts.0 (text_words next words parts.1)

pub text_parts : (front back : List ℕ) → is_text (front ++ 32 ∷ back) ≡ true → (is_text front ≡ true) × (is_text back ≡ true)
text_parts front back h =
    let all = front ++ 32 ∷ back in
    let both = and_parts (is_utf8 all) (list_all (nat_le 32) all) h in
    let utf8 = IsUtf8-from_is_utf8 all both.0 in
    let long : length front < length all = omega (arith, length-append front (32 ∷ back)) in
    let low : get_or all (length front) 0 < 128 = omega (arith, get_or-append_seam front 32 back 0) in
    let controls = and_parts (list_all (nat_le 32) front) (list_all (nat_le 32) back) (sym (list_all-append (nat_le 32) front (32 ∷ back)) ∙ both.1) in
    let first = subst IsUtf8 (take-append_seam front (32 ∷ back)) (IsUtf8-take all (length front) utf8 (IsCharBoundary-before_ascii all (length front) long low)) in
    let last = subst IsUtf8 (drop-append-add front (32 ∷ back) 1) (IsUtf8-drop all (length front + 1) utf8 (IsCharBoundary-after_ascii all (length front) utf8 long low)) in
    (text_from front first controls.0, text_from back last controls.1)
