-- The operations of an edit of a text are valid, each at its stamp.
use Rattle.std.proofs.Common.{◌≡◌, ℕ, zero, suc, ◌<◌, Bool, true, false, if◌then◌else◌, nat_le, nat_lt, List, [], ◌∷◌, length, map, codes, Some, Result, Ok, Err, IfOk, refl, sym, subst, arith}
use Rattle.std.specs.List.{All}
use Rattle.std.specs.Str.{IsUtf8, all_scalars, bytes_eq, chars}
use Rattle.std.proofs.lemmas.Bool.Decides.{nat_tests}
use Rattle.std.proofs.lemmas.List.Elements.{All-head, All-nil, All-tail}
use Rattle.std.proofs.lemmas.Option.{slice_get_within}
use Rattle.std.proofs.lemmas.Str.{scalars-chars}
use Rattle.vector_clock.specs.declared.stamp.Stamp.{Stamp}
use Rattle.vector_clock.specs.Clock.{count}
use Rattle.vector_clock.specs.Stamp.{IsStamp, key_of}
use Rattle.forgetting_model.specs.Made.{AreValidWithin}
use Rattle.list_crdt.specs.declared.position.Step.{Step}
use Rattle.list_crdt.specs.declared.text.Cell.{Cell}
use Rattle.list_crdt.specs.declared.text.TextOp.{TextOp}
use Rattle.list_crdt.specs.Between.{AreInOrder}
use Rattle.list_crdt.specs.Cells as cells
use Rattle.list_crdt.specs.Position.{IsPositionOf}
use Rattle.list_crdt.specs.Text as plain
use Rattle.list_crdt.specs.Text.{IsInsertOf, IsText, IsTextAt, text_meaning}
use Rattle.list_crdt.proofs.Neighbours.{delete_valid, in_order, places_before_of, places_of}
use Rattle.semidirect_product.specs.declared.stack.StackOp.{StackOp}
use Rattle.semidirect_product.specs.declared.stack.StackOp.TheVariants.{High}
use Rattle.rich_text.specs.declared.marked.RichCell.{RichCell}
use Rattle.rich_text.specs.declared.marked.RichOp.{RichOp}
use Rattle.rich_text.specs.declared.over.MarkRange.{MarkRange}
use Rattle.rich_text.specs.ByIndex.{IsRangeOver, marks_before}
use Rattle.rich_text.specs.Marked.{IsCellOf, IsRichText, IsRichTextAt, at}
use Rattle.rich_text.specs.Marks.{AreMarksOf, IsEntryOf}
use Rattle.rich_text.specs.MarksLaws.{no_marks}
use Rattle.rich_text.specs.Over.{rich_meaning}
use Rattle.rich_text.proofs.ByIndex.{known_at, range_valid}
use Rattle.kind_edits.specs.declared.fault.EditError.{EditError}
use Rattle.kind_edits.specs.declared.fault.EditError.TheVariants.{IndexOut}
use Rattle.kind_edits.specs.declared.forms.MarkWords.{MarkWords}
use Rattle.kind_edits.specs.Forms.{delete_words, insert_words, mark_words}
use Rattle.kind_edits.specs.Letters.{letters_between}
use Rattle.kind_edits.specs.PlainEdit.{insert_of, text_delete, text_edit, text_insert}
use Rattle.kind_edits.specs.RichEdit.{marked_insert, rich_delete, rich_edit, rich_insert, rich_mark}
use Rattle.kind_edits.specs.Rules.{demands, follows, reads}
use Rattle.kind_edits.specs.Stamps.{clock_before}
use Rattle.kind_edits.proofs.Making.{after_before, letters_valid, making}
use Rattle.kind_edits.proofs.Tallies.{demands_if, reads_if}
use Rattle.kind_edits.proofs.Wording.{insert_read, insert_utf8, mark_read}

-- ---- what holds of an edit that is accepted

pub follows_if : {Op X : Type 0} (r : Result X EditError) (next : X → Result Op EditError) (P : Op → Type 0) → ((x : X) → r ≡ Ok x → IfOk (next x) P) → IfOk (follows r next) P
follows_if (Ok x) next P h = h x refl
follows_if (Err fault) next P h = tt

pub choose_if : {Op : Type 0} (test : Bool) (r t : Result Op EditError) (P : Op → Type 0) → IfOk r P → IfOk t P → IfOk (if test then r else t) P
choose_if true r t P h k = h
choose_if false r t P h k = k

pub holds_of : {Op : Type 0} (r : Result Op EditError) (op : Op) (P : Op → Type 0) → IfOk r P → r ≡ Ok op → P op
holds_of r op P h e = subst (λ r. IfOk r P) e h

-- where an answer is that of an edit, and each accepted one keeps P, so does the answer
pub answers_if : {Op : Type 0} (edit answer : Result Op EditError) (P : Op → Type 0) → IfOk edit P → IfOk answer (λ op. edit ≡ Ok op) → IfOk answer P
answers_if edit (Ok op) P h e = holds_of edit op P h e
answers_if edit (Err fault) P h e = tt

-- ---- texts

text_positions : (n : ℕ) (s : List Cell) → IsText n s → All (λ c. IsPositionOf n c.at) s
text_positions n s text = λ k d l. (text.cells k d l).position

pub text_order : (n : ℕ) (s : List Cell) (i : ℕ) → IsText n s → AreInOrder (plain.place_before s i) (plain.place s i)
text_order n s i text = in_order plain.at n s (text_positions n s text) text.rising i

module _ (p : Stamp) (s : List Cell) (stamp : IsStamp p) (text : IsTextAt (clock_before p) s) where
  abbrev Valid : List TextOp → Type 0
  Valid = AreValidWithin text_meaning p

  inserts_valid : (i : ℕ) (chs : List ℕ) → all_scalars chs ≡ true → IfOk (text_insert p s i chs) Valid
  inserts_valid i chs scalars =
      let n = p.clock.n in
      let positions = text_positions n s text.text in
      demands_if (nat_le i (length s)) (IndexOut (length s)) _ Valid (
      follows_if (letters_between p.member (plain.place s i) (count p.clock p.member) (plain.place_before s i) chs) _ Valid (λ letters e.
      holds_of (letters_between p.member (plain.place s i) (count p.clock p.member) (plain.place_before s i) chs) letters (λ letters. Valid (map insert_of letters))
      (letters_valid text_meaning insert_of n (λ q c same h. h) (plain.place s i) (places_of plain.at n s positions i) chs p (plain.place_before s i) (making p stamp)
      (λ _. places_before_of plain.at n s positions i) scalars) e))

  delete_is_valid : (i : ℕ) → IfOk (text_delete s i) Valid
  delete_is_valid i =
      reads_if (plain.place s i) (IndexOut (length s)) _ Valid (λ a here.
      (λ w. delete_valid plain.at p (clock_before p) i s a w refl (after_before p stamp) (text_positions p.clock.n s text.text) text.known here, tt))

  pub text_valid : (verb rest : List ℕ) → IsUtf8 rest → IfOk (text_edit p s verb rest) Valid
  text_valid verb rest utf8 =
      choose_if (bytes_eq verb (codes "insert")) _ _ Valid
      (follows_if (insert_words rest) _ Valid (λ parts e. inserts_valid parts.0 (chars parts.1) (scalars-chars parts.1 (insert_utf8 rest parts.0 parts.1 utf8 (insert_read rest parts.0 parts.1 e)))))
      (choose_if (bytes_eq verb (codes "delete")) _ _ Valid
      (follows_if (delete_words rest) _ Valid (λ i e. delete_is_valid i))
      tt)

-- ---- rich texts

pub rich_order : (number n : ℕ) (s : List RichCell) (i : ℕ) → IsRichText number n s → AreInOrder (cells.place_before at s i) (cells.place at s i)
rich_order number n s i text = in_order at n s (λ k d l. (text.cells k d l).position) text.rising i

marks_are : (number n : ℕ) (s : List RichCell) (i : ℕ) → All (IsCellOf number n) s → AreMarksOf number n (marks_before s i)
marks_are number n s zero h = record { rising = no_marks; entries = All-nil (IsEntryOf number n) }
marks_are number n [] (suc zero) h = record { rising = no_marks; entries = All-nil (IsEntryOf number n) }
marks_are number n [] (suc (suc i)) h = record { rising = no_marks; entries = All-nil (IsEntryOf number n) }
marks_are number n (c ∷ s) (suc zero) h = (All-head (IsCellOf number n) c s h).marks
marks_are number n (c ∷ s) (suc (suc i)) h = marks_are number n s (suc i) (All-tail (IsCellOf number n) c s h)

module _ (p : Stamp) (names : List (List ℕ)) (s : List RichCell) (stamp : IsStamp p) (text : IsRichTextAt (length names) (clock_before p) s) where
  abbrev AreValid : List (StackOp RichOp MarkRange) → Type 0
  AreValid = AreValidWithin (rich_meaning (length names)) p

  rich_inserts_valid : (i : ℕ) (chs : List ℕ) → all_scalars chs ≡ true → IfOk (rich_insert p s i chs) AreValid
  rich_inserts_valid i chs scalars =
      let n = p.clock.n in
      let positions : All (λ c. IsPositionOf n (at c)) s = λ k d l. (text.text.cells k d l).position in
      let marks : AreMarksOf (length names) n (marks_before s i) = marks_are (length names) n s i text.text.cells in
      let put = marked_insert (marks_before s i) in
      demands_if (nat_le i (length s)) (IndexOut (length s)) _ AreValid (
      follows_if (letters_between p.member (cells.place at s i) (count p.clock p.member) (cells.place_before at s i) chs) _ AreValid (λ letters e.
      holds_of (letters_between p.member (cells.place at s i) (count p.clock p.member) (cells.place_before at s i) chs) letters (λ letters. AreValid (map put letters))
      (letters_valid (rich_meaning (length names)) put n
      (λ q c same h. record { plain = h; marks = subst (λ (k : ℕ). AreMarksOf (length names) k (marks_before s i)) (sym same) marks })
      (cells.place at s i) (places_of at n s positions i) chs p (cells.place_before at s i) (making p stamp)
      (λ _. places_before_of at n s positions i) scalars) e))

  rich_delete_valid : (i : ℕ) → IfOk (rich_delete s i) AreValid
  rich_delete_valid i =
      reads_if (cells.place at s i) (IndexOut (length s)) _ AreValid (λ a here.
      (λ w. known_at (length names) i p (clock_before p) s a w refl (after_before p stamp) text here, tt))

  rich_mark_valid : (m : MarkWords) (on : Bool) → m.mark < length names → IfOk (rich_mark p s m on) AreValid
  rich_mark_valid m on low =
      choose_test (nat_lt m.from m.to) refl
    where
      over : (first last : List Step) → nat_lt m.from m.to ≡ true → cells.place at s m.from ≡ Some first → cells.place_before at s m.to ≡ Some last
          → IsRangeOver s m.from m.to (record { first = first; last = last; mark = m.mark; key = key_of p; on = on })
      over first last test e f = record { some = grind (arith, nat_tests, test); first = e; last = f }

      choose_test : (t : Bool) → nat_lt m.from m.to ≡ t → IfOk (demands t (IndexOut (length s)) (
          reads (cells.place at s m.from) (IndexOut (length s)) (λ first.
          reads (cells.place_before at s m.to) (IndexOut (length s)) (λ last.
          Ok (High (record { first = first; last = last; mark = m.mark; key = key_of p; on = on }) ∷ []))))) AreValid
      choose_test true test =
          reads_if (cells.place at s m.from) (IndexOut (length s)) _ AreValid (λ first e.
          reads_if (cells.place_before at s m.to) (IndexOut (length s)) _ AreValid (λ last f. (
            λ w. range_valid (length names) m.from m.to p (clock_before p) s (record { first = first; last = last; mark = m.mark; key = key_of p; on = on }) w refl
                (after_before p stamp) text (over first last test e f) refl low,
            tt,
          )))
      choose_test false test = tt

  mark_low : (rest : List ℕ) (m : MarkWords) → mark_words names rest ≡ Ok m → m.mark < length names
  mark_low rest m e = (let h = mark_read names rest m e in slice_get_within names m.mark h.name h.named)

  pub rich_valid : (verb rest : List ℕ) → IsUtf8 rest → IfOk (rich_edit p names s verb rest) AreValid
  rich_valid verb rest utf8 =
      choose_if (bytes_eq verb (codes "insert")) _ _ AreValid
      (follows_if (insert_words rest) _ AreValid (λ parts e.
      rich_inserts_valid parts.0 (chars parts.1) (scalars-chars parts.1 (insert_utf8 rest parts.0 parts.1 utf8 (insert_read rest parts.0 parts.1 e)))))
      (choose_if (bytes_eq verb (codes "delete")) _ _ AreValid
      (follows_if (delete_words rest) _ AreValid (λ i e. rich_delete_valid i))
      (choose_if (bytes_eq verb (codes "mark")) _ _ AreValid
      (follows_if (mark_words names rest) _ AreValid (λ m e. rich_mark_valid m true (mark_low rest m e)))
      (choose_if (bytes_eq verb (codes "unmark")) _ _ AreValid
      (follows_if (mark_words names rest) _ AreValid (λ m e. rich_mark_valid m false (mark_low rest m e)))
      tt)))
