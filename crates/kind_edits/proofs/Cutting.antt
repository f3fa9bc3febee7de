-- A text is cut into words where it has spaces.
use Rattle.std.proofs.Common.{◌≡◌, ◌≢◌, ℕ, ◌+◌, ◌<◌, ◌≤◌, ◌==◌, if◌then◌else◌, Bool, true, false, not, List, [], ◌∷◌, ◌++◌, length, get_or, take, drop, Some, None, ◌⊎◌, inl, inr, refl, sym, ◌∙◌, ap, ap₂, subst, arith}
use Rattle.std.proofs.Math.Seq.{take-append_seam, drop-append-add, take-length}
use Rattle.std.specs.List.{All, list_any, before_first, after_first, position_or_len}
use Rattle.std.proofs.lemmas.Bool.{and_parts, cases_lt, false_from_ne_true}
use Rattle.std.proofs.lemmas.Bool.Decides.{nat_tests}
use Rattle.std.proofs.lemmas.List.{drop_all, get_or-take, get_or_append_left, get_or_default, get_or_at, length-append, length-take, take_all}
use Rattle.std.proofs.lemmas.List.Folds.{list_any-from_Any, list_any_none}
use Rattle.std.proofs.lemmas.List.Sums.{fails_before_first, passes_at_first, position_or_len_is, split_at_first}
use Rattle.kind_edits.specs.Words.{IsWord, first_word, is_space, is_word, only_word}

space : (b : ℕ) → is_space b ≡ true → b ≡ 32
space b h = grind (arith, nat_tests)

other : (b : ℕ) → is_space b ≡ false → b ≢ 32
other b h e = grind (arith, nat_tests)

no_space : (b : ℕ) → b ≢ 32 → is_space b ≡ false
no_space b h = grind (arith, nat_tests)

given : {A : Type 0} (t : Bool) (a b : A) → (if t then None else Some a) ≡ Some b → (t ≡ false) × (a ≡ b)
given true a b h = absurd (cc)
given false a b h = (refl, cc)

-- what stands before the first space and after it
cut : (text word after : List ℕ) → before_first is_space text ≡ word → after_first is_space text ≡ after → 1 ≤ length word → first_word text ≡ Some (word, after)
cut text word after b a some =
    let filled : (length (before_first is_space text) == 0) ≡ false = grind (arith, nat_tests, ap length b) in
    rw filled (ap₂ (λ (x y : List ℕ). Some (x, y)) b a)

pub cut_first : (word after : List ℕ) → IsWord word → first_word (word ++ 32 ∷ after) ≡ Some (word, after)
cut_first word after w =
    let place : position_or_len is_space (word ++ 32 ∷ after) ≡ length word =
    position_or_len_is is_space (word ++ 32 ∷ after) (length word) 0 (omega (arith, length-append word (32 ∷ after)))
    (λ k h. ap is_space (get_or_append_left word (32 ∷ after) 0 k h) ∙ no_space (get_or word k 0) (w.each k 0 h))
    (λ h. ap is_space (get_or_at word 32 after 0 (length word) refl)) in
    cut (word ++ 32 ∷ after) word after (ap (λ n. take n (word ++ 32 ∷ after)) place ∙ take-append_seam word (32 ∷ after))
    (ap (λ n. drop (n + 1) (word ++ 32 ∷ after)) place ∙ drop-append-add word (32 ∷ after) 1) w.some

pub cut_only : (word : List ℕ) → IsWord word → first_word word ≡ Some (word, [])
cut_only word w =
    let place : position_or_len is_space word ≡ length word =
    position_or_len_is is_space word (length word) 0 (omega arith) (λ k h. no_space (get_or word k 0) (w.each k 0 h)) (λ h. absurd (omega arith)) in
    cut word word [] (ap (λ n. take n word) place ∙ take-length word) (ap (λ n. drop (n + 1) word) place ∙ drop_all (length word + 1) word (omega arith)) w.some

-- what stands before the first space has none
free_before : (text : List ℕ) → All (λ b. b ≢ 32) (before_first is_space text)
free_before text = λ k d h.
    let low : k < position_or_len is_space text = omega (arith, length-take (position_or_len is_space text) text, h) in
    let e : get_or (take (position_or_len is_space text) text) k d ≡ get_or text k d = get_or-take (position_or_len is_space text) text k d low in
    other (get_or (take (position_or_len is_space text) text) k d) (ap is_space e ∙ fails_before_first is_space text k d low)

-- a text has a space, or is all before it
around : (text : List ℕ) → (text ≡ before_first is_space text ++ 32 ∷ after_first is_space text) ⊎ ((text ≡ before_first is_space text) × (after_first is_space text ≡ []))
around text = elim (cases_lt (position_or_len is_space text) (length text)) [
  | inl low ↦
      (let e : get_or text (position_or_len is_space text) 0 ≡ 32 = space (get_or text (position_or_len is_space text) 0) (passes_at_first is_space text 0 low) in
      inl (split_at_first is_space text 0 low ∙ ap (λ (b : ℕ). before_first is_space text ++ b ∷ after_first is_space text) e))
  | inr high ↦ inr (sym (take_all (position_or_len is_space text) text high), drop_all (position_or_len is_space text + 1) text (omega (arith, high)))
]

-- where a text has been cut
pub was_cut : (text word after : List ℕ) → first_word text ≡ Some (word, after) → IsWord word × ((text ≡ word ++ 32 ∷ after) ⊎ ((text ≡ word) × (after ≡ [])))
was_cut text word after h =
    let read : List ℕ × List ℕ = (before_first is_space text, after_first is_space text) in
    let parts = given (length (before_first is_space text) == 0) read (word, after) h in
    let filled : (length (before_first is_space text) == 0) ≡ false = parts.0 in
    let P : List ℕ → List ℕ → Type 0 = λ w a. IsWord w × ((text ≡ w ++ 32 ∷ a) ⊎ ((text ≡ w) × (a ≡ []))) in
    let whole : P (before_first is_space text) (after_first is_space text) = (record { some = grind (arith, nat_tests, filled); each = free_before text }, around text) in
    subst (λ (p : List ℕ × List ℕ). P p.0 p.1) parts.1 whole

word_parts : (t : Bool) (a word : List ℕ) → (if t then Some a else None) ≡ Some word → (t ≡ true) × (a ≡ word)
word_parts true a word h = (refl, cc)
word_parts false a word h = absurd (cc)

free : (text : List ℕ) → list_any is_space text ≡ false → All (λ b. b ≢ 32) text
free text h = λ k d low. other (get_or text k d) (false_from_ne_true (is_space (get_or text k d)) (λ e.
    let g : list_any is_space text ≡ true = list_any-from_Any is_space text (k, get_or text k d, low, get_or_default text k (get_or text k d) d low, e) in cc))

not-true : (t : Bool) → not t ≡ true → t ≡ false
not-true true h = absurd (cc)
not-true false h = refl

pub only_is : (text word : List ℕ) → only_word text ≡ Some word → IsWord word × (text ≡ word)
only_is text word h =
    let parts = word_parts (is_word text) text word h in
    let filled : (length text == 0) ≡ false = not-true (length text == 0) (and_parts (not (length text == 0)) (not (list_any is_space text)) parts.0).0 in
    let none : list_any is_space text ≡ false = not-true (list_any is_space text) (and_parts (not (length text == 0)) (not (list_any is_space text)) parts.0).1 in
    (subst IsWord parts.1 (record { some = grind (arith, nat_tests, filled); each = free text none }), parts.1)

pub only_from : (word : List ℕ) → IsWord word → only_word word ≡ Some word
only_from word w =
    let filled : (length word == 0) ≡ false = grind (arith, nat_tests, w.some) in
    let none : list_any is_space word ≡ false = list_any_none is_space word (λ k d h. no_space (get_or word k d) (w.each k d h)) in
    rw (filled, none) refl
