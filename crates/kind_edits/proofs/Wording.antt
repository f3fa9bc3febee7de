-- What the words of an edit of a text are.
use Rattle.std.proofs.Common.{◌≡◌, ◌≢◌, ℕ, ◌+◌, ◌<◌, ◌≤◌, ◌^◌, ◌==◌, true, not, nat_le, List, [], ◌∷◌, ◌++◌, length, get_or, Some, Ok, ◌⊎◌, inl, inr, pos, refl, ◌∙◌, ap, ap₂, subst, arith}
use Rattle.std.specs.Fmt.{decimal}
use Rattle.std.specs.List.{AllPairs, position}
use Rattle.std.specs.Str.{IsUtf8, bytes_eq}
use Rattle.std.proofs.Math.Seq.{drop-append-add, get_or-append_seam}
use Rattle.std.proofs.lemmas.Bool.Decides.{nat_tests}
use Rattle.std.proofs.lemmas.List.{length-append}
use Rattle.std.proofs.lemmas.Str.{IsCharBoundary-after_ascii, IsUtf8-drop}
use Rattle.register_crdts.specs.Text.{max_text}
use Rattle.kind_edits.specs.Accepted.{AreMarkWords, IsInsertWords}
use Rattle.kind_edits.specs.Forms.{delete_words, insert_words, mark_words}
use Rattle.kind_edits.specs.Spelled.{count_of}
use Rattle.kind_edits.specs.Words.{IsWord, first_word, only_word}
use Rattle.kind_edits.specs.declared.fault.EditError.TheVariants.{NoVerb, BadNumber, TextLong}
use Rattle.kind_edits.specs.declared.forms.MarkWords.{MarkWords}
use Rattle.kind_edits.proofs.Accepting.{named_at, ok_same, was_met, was_read}
use Rattle.kind_edits.proofs.Cutting.{cut_first, only_from, only_is, was_cut}
use Rattle.kind_edits.proofs.Naming.{found, is_it, one_place}
use Rattle.kind_edits.proofs.Numbers.{number_word}
use Rattle.kind_edits.proofs.Spellings.{below_printed, below_read}

-- ---- counts

count_word : (n : ℕ) → n < 2 ^ 32 → IsWord (decimal n)
count_word n h = number_word (pos n) (record { sfits = omega arith })

count_printed : (n : ℕ) → n < 2 ^ 32 → count_of (decimal n) ≡ Some n
count_printed n h = below_printed (2 ^ 32) n (omega arith) h

count_read : (n : ℕ) (text : List ℕ) → count_of text ≡ Some n → (n < 2 ^ 32) × (text ≡ decimal n)
count_read n text h = below_read (2 ^ 32) n text (omega arith) h

-- where something follows a word, a space stands between them
cut_between : (rest word after : List ℕ) → (rest ≡ word ++ 32 ∷ after) ⊎ ((rest ≡ word) × (after ≡ [])) → 1 ≤ length after → rest ≡ word ++ 32 ∷ after
cut_between rest word after (inl h) some = h
cut_between rest word after (inr h) some = absurd (omega (arith, some, ap length h.1))

-- ---- inserts

pub insert_reads : (rest : List ℕ) (i : ℕ) (t : List ℕ) → IsInsertWords rest i t → insert_words rest ≡ Ok (i, t)
insert_reads rest i t h =
    let cut : first_word (decimal i ++ 32 ∷ t) ≡ Some (decimal i, t) = cut_first (decimal i) t (count_word i h.counted) in
    let some : not (length t == 0) ≡ true = grind (arith, nat_tests, h.some) in
    let count : count_of (decimal i) ≡ Some i = count_printed i h.counted in
    let most : nat_le (length t) max_text ≡ true = grind (arith, nat_tests, h.most) in
    ap insert_words h.spelled ∙ rw (cut, some, count, most) refl

pub insert_read : (rest : List ℕ) (i : ℕ) (t : List ℕ) → insert_words rest ≡ Ok (i, t) → IsInsertWords rest i t
insert_read rest i t h =
    let parts = was_read (first_word rest) NoVerb _ (i, t) h in
    let some = was_met (not (length parts.0.1 == 0)) NoVerb _ (i, t) parts.2 in
    let read = was_read (count_of parts.0.0) BadNumber _ (i, t) some.1 in
    let short = was_met (nat_le (length parts.0.1) max_text) (TextLong (length parts.0.1)) _ (i, t) read.2 in
    let filled : 1 ≤ length parts.0.1 = grind (arith, nat_tests, some.0) in
    let most : length parts.0.1 ≤ max_text = grind (arith, nat_tests, short.0) in
    let number = count_read read.0 parts.0.0 read.1 in
    let whole : rest ≡ parts.0.0 ++ 32 ∷ parts.0.1 = cut_between rest parts.0.0 parts.0.1 (was_cut rest parts.0.0 parts.0.1 parts.1).1 filled in
    let same = ok_same (read.0, parts.0.1) (i, t) short.1 in
    subst (λ (p : ℕ × List ℕ). IsInsertWords rest p.0 p.1) same
    (record { counted = number.0; some = filled; most = most; spelled = whole ∙ ap (λ (w : List ℕ). w ++ 32 ∷ parts.0.1) number.1 })

-- the text of an insert is one of characters where its words are
pub insert_utf8 : (rest : List ℕ) (i : ℕ) (t : List ℕ) → IsUtf8 rest → IsInsertWords rest i t → IsUtf8 t
insert_utf8 rest i t utf8 h =
    let word = decimal i in
    let all : IsUtf8 (word ++ 32 ∷ t) = subst IsUtf8 h.spelled utf8 in
    let space : get_or (word ++ 32 ∷ t) (length word) 0 ≡ 32 = get_or-append_seam word 32 t 0 in
    let size = length-append word (32 ∷ t) in
    subst IsUtf8 (drop-append-add word (32 ∷ t) 1)
    (IsUtf8-drop (word ++ 32 ∷ t) (length word + 1) all (IsCharBoundary-after_ascii (word ++ 32 ∷ t) (length word) all (omega (arith, size)) (omega (arith, space))))

-- ---- deletes

pub delete_reads : (rest : List ℕ) (i : ℕ) → i < 2 ^ 32 → rest ≡ decimal i → delete_words rest ≡ Ok i
delete_reads rest i low e =
    let one : only_word (decimal i) ≡ Some (decimal i) = only_from (decimal i) (count_word i low) in
    let count : count_of (decimal i) ≡ Some i = count_printed i low in
    ap delete_words e ∙ rw (one, count) refl

pub delete_read : (rest : List ℕ) (i : ℕ) → delete_words rest ≡ Ok i → (i < 2 ^ 32) × (rest ≡ decimal i)
delete_read rest i h =
    let word = was_read (only_word rest) NoVerb _ i h in
    let read = was_read (count_of word.0) BadNumber Ok i word.2 in
    let same : read.0 ≡ i = ok_same read.0 i read.2 in
    let number = count_read read.0 word.0 read.1 in
    subst (λ (k : ℕ). (k < 2 ^ 32) × (rest ≡ decimal k)) same (number.0, (only_is rest word.0 word.1).1 ∙ number.1)

-- ---- marks

module _ (names : List (List ℕ)) where
  pub mark_reads : (rest : List ℕ) (m : MarkWords) → AllPairs (λ a b. a ≢ b) names → AreMarkWords names rest m → mark_words names rest ≡ Ok m
  mark_reads rest m apart h =
      let after = decimal m.to ++ 32 ∷ h.name in
      let low : first_word (decimal m.from ++ 32 ∷ after) ≡ Some (decimal m.from, after) = cut_first (decimal m.from) after (count_word m.from h.from) in
      let high : first_word (decimal m.to ++ 32 ∷ h.name) ≡ Some (decimal m.to, h.name) = cut_first (decimal m.to) h.name (count_word m.to h.to) in
      let word : only_word h.name ≡ Some h.name = only_from h.name h.word in
      let there : position (λ name. bytes_eq name h.name) names ≡ Some m.mark = (found names h.name m.mark h.named).0 ∙ ap (λ (k : ℕ). Some k) (one_place names h.name m.mark h.named apart) in
      let from : count_of (decimal m.from) ≡ Some m.from = count_printed m.from h.from in
      let to : count_of (decimal m.to) ≡ Some m.to = count_printed m.to h.to in
      ap (mark_words names) h.spelled ∙ rw (low, high, word, there, from, to) refl

  pub mark_read : (rest : List ℕ) (m : MarkWords) → mark_words names rest ≡ Ok m → AreMarkWords names rest m
  mark_read rest m h =
      let low = was_read (first_word rest) NoVerb _ m h in
      let high = was_read (first_word low.0.1) NoVerb _ m low.2 in
      let word = was_read (only_word high.0.1) NoVerb _ m high.2 in
      let mark = was_read (position (is_it names word.0) names) NoVerb _ m word.2 in
      let from = was_read (count_of low.0.0) BadNumber _ m mark.2 in
      let to = was_read (count_of high.0.0) BadNumber _ m from.2 in
      let same : record { from = from.0; to = to.0; mark = mark.0 } ≡ m = ok_same (record { from = from.0; to = to.0; mark = mark.0 }) m to.2 in
      let one = only_is high.0.1 word.0 word.1 in
      let first = count_read from.0 low.0.0 from.1 in
      let second = count_read to.0 high.0.0 to.1 in
      let some : 1 ≤ length high.0.1 = (let w = one.0.some in omega (arith, w, ap length one.1)) in
      let inner : low.0.1 ≡ high.0.0 ++ 32 ∷ high.0.1 = cut_between low.0.1 high.0.0 high.0.1 (was_cut low.0.1 high.0.0 high.0.1 high.1).1 some in
      let filled : 1 ≤ length low.0.1 = omega (arith, ap length inner, length-append high.0.0 (32 ∷ high.0.1)) in
      let outer : rest ≡ low.0.0 ++ 32 ∷ low.0.1 = cut_between rest low.0.0 low.0.1 (was_cut rest low.0.0 low.0.1 low.1).1 filled in
      subst (AreMarkWords names rest) same (record {
        from = first.0;
        to = second.0;
        name = word.0;
        word = one.0;
        named = named_at names word.0 mark.0 mark.1;
        spelled = outer
            ∙ ap₂ (λ (w a : List ℕ). w ++ 32 ∷ a) first.1 (inner ∙ ap₂ (λ (w a : List ℕ). w ++ 32 ∷ a) second.1 one.1);
      })
