-- The entries of marks that edits bring are those of ranges.
use Rattle.std.proofs.Common.{◌≡◌, ℕ, zero, suc, Bool, true, false, nat_le, nat_lt, ◌==◌, List, [], ◌∷◌, ◌++◌, length, map, codes, inl, inr, IfOk, Contains, sym, ap, subst, arith}
use Rattle.std.specs.List.{All}
use Rattle.std.specs.Str.{bytes_eq, chars}
use Rattle.std.proofs.lemmas.Bool.Decides.{nat_tests}
use Rattle.std.proofs.lemmas.List.Elements.{All-contains, Contains-append_right}
use Rattle.vector_clock.specs.declared.stamp.Key.{Key}
use Rattle.vector_clock.specs.declared.stamp.Stamp.{Stamp}
use Rattle.vector_clock.specs.Clock.{count}
use Rattle.vector_clock.specs.Stamp.{IsAfter, is_below, is_less, key_of}
use Rattle.vector_clock.proofs.Keys.{below_known}
use Rattle.crdt_laws.specs.declared.small.Entry.{Entry}
use Rattle.crdt_laws.specs.Entry.{entry}
use Rattle.crdt_laws.specs.Present.{document}
use Rattle.crdt_laws.specs.Sets.{AreApart, AreIssued, IsHonest, canonical}
use Rattle.crdt_laws.specs.Tower.{IsIssued}
use Rattle.crdt_laws.proofs.Members.{Contains-cases, Contains-front, Contains-more}
use Rattle.forgetting_model.specs.Made as made
use Rattle.forgetting_model.specs.Made.{stamp_then}
use Rattle.list_crdt.specs.declared.position.Step.{Step}
use Rattle.list_crdt.specs.declared.text.Cell.{Cell}
use Rattle.list_crdt.specs.Cells.{place, place_before}
use Rattle.semidirect_product.specs.declared.stack.StackOp.TheVariants.{Low, High}
use Rattle.rich_text.specs.declared.marked.RichCell.{RichCell}
use Rattle.rich_text.specs.declared.marked.RichOp.TheVariants.{Insert}
use Rattle.rich_text.specs.declared.marks.MarkEntry.{MarkEntry}
use Rattle.rich_text.specs.declared.over.MarkRange.{MarkRange}
use Rattle.rich_text.specs.ByIndex.{marks_before}
use Rattle.rich_text.specs.Marked.{at}
use Rattle.rich_text.specs.Over.{entry_of, rich_meaning}
use Rattle.rich_text.specs.Shown.{AreFromRanges, IsFromRange}
use Rattle.rich_text.proofs.Reaches.{entries_from, with_delete, with_range}
use Rattle.rich_text.proofs.Stands.{AnyOp}
use Rattle.rich_text.proofs.Tops.{contains_none}
use Rattle.kind_edits.specs.declared.fault.EditError.TheVariants.{IndexOut}
use Rattle.kind_edits.specs.declared.forms.MarkWords.{MarkWords}
use Rattle.kind_edits.specs.Forms.{delete_words, insert_words, mark_words}
use Rattle.kind_edits.specs.Letters.{letters_between}
use Rattle.kind_edits.specs.RichEdit.{AreLesser, marked_insert, rich_delete, rich_edit, rich_insert, rich_mark}
use Rattle.kind_edits.proofs.Prepared.{choose_if, follows_if}
use Rattle.kind_edits.proofs.Tallies.{demands_if, reads_if}

-- the entry of a range that is known has a lesser key
range_less : (e : MarkEntry) (r : MarkRange) (q p : Stamp) → entry_of r ≡ e → r.key ≡ key_of q → is_below q p ≡ true → is_less e.key (key_of p) ≡ true
unfolding is_below
range_less e r q p says old h =
    subst (λ (x : MarkEntry). is_less x.key (key_of p) ≡ true) says (subst (λ (k : Key). is_less k (key_of p) ≡ true) (sym old) h)

-- ---- what inserts bring

op_is : (p q : Stamp) (x y : AnyOp) → entry p x ≡ entry q y → x ≡ y
op_is p q x y e = ap (λ (z : Entry AnyOp). z.op) e

-- an insert brings the marks that it has
insert_marks : (a b : List Step) (c d : ℕ) (ms ns : List MarkEntry) → ◌≡◌ {A = AnyOp} (Low (Insert a c ms)) (Low (Insert b d ns)) → ms ≡ ns
insert_marks a b c d ms ns e = cc

from_later : (ys xs : List (Entry AnyOp)) (e : MarkEntry) → IsFromRange xs e → IsFromRange (ys ++ xs) e
from_later ys xs e h = record { stamp = h.stamp; range = h.range; member = Contains-append_right ys xs (entry h.stamp (High h.range)) h.member; says = h.says }

from_more : (x : Entry AnyOp) (xs : List (Entry AnyOp)) (e : MarkEntry) → IsFromRange xs e → IsFromRange (x ∷ xs) e
from_more x xs e h = record { stamp = h.stamp; range = h.range; member = Contains-more x xs (entry h.stamp (High h.range)) h.member; says = h.says }

module _ (xs : List (Entry AnyOp)) (ms : List MarkEntry) (own : (e : MarkEntry) → Contains ms e → IsFromRange xs e) (from : AreFromRanges xs) where
  inserts_from : (l : List Cell) (p : Stamp) → AreFromRanges (made.entries_from p (map (marked_insert ms) l) ++ xs)
  inserts_from [] p = from
  inserts_from (c ∷ l) p =
      let ys = made.entries_from (stamp_then p) (map (marked_insert ms) l) in
      let x = entry p (marked_insert ms c) in
      let rest = inserts_from l (stamp_then p) in
      record {
        each = λ q a ch issued e member has. elim (Contains-cases x (ys ++ xs) (entry q (Low (Insert a ch issued))) member) [
          | inl same ↦
              (let marks : ms ≡ issued = insert_marks c.at a c.ch ch ms issued (op_is p q (marked_insert ms c) (Low (Insert a ch issued)) same) in
              from_more x (ys ++ xs) e (from_later ys xs e (own e (subst (λ (l : List MarkEntry). Contains l e) (sym marks) has))))
          | inr later ↦ from_more x (ys ++ xs) e (rest.each q a ch issued e later has)
        ];
      }

-- the marks before an index are those of a character
record IsMarkOf (s : List RichCell) (e : MarkEntry) : Type 0 where
  pub cell : RichCell
  pub member : Contains s cell
  pub has : Contains cell.marks e

mark_before : (s : List RichCell) (i : ℕ) (e : MarkEntry) → Contains (marks_before s i) e → IsMarkOf s e
mark_before s zero e h = absurd (contains_none e h)
mark_before [] (suc zero) e h = absurd (contains_none e h)
mark_before [] (suc (suc i)) e h = absurd (contains_none e h)
mark_before (c ∷ s) (suc zero) e h = record { cell = c; member = Contains-front c s; has = h }
mark_before (c ∷ s) (suc (suc i)) e h = (let w = mark_before s (suc i) e h in record { cell = w.cell; member = Contains-more c s w.cell w.member; has = w.has })

module _ (number n : ℕ) (xs : List (Entry AnyOp)) (issued : AreIssued (rich_meaning number) n xs) (apart : AreApart xs) (honest : IsHonest xs) (from : AreFromRanges xs) where
  abbrev D : List RichCell
  D = document (rich_meaning number) (canonical xs)

  same : (number == number) ≡ true
  same = grind (arith, nat_tests)

  entry_from : (c : RichCell) (e : MarkEntry) → Contains D c → Contains c.marks e → IsFromRange xs e
  entry_from c e member has = entries_from number number n same xs issued apart honest from c e member has

  pub entries_lesser : (p : Stamp) → All (λ e. IsAfter e.stamp.clock p) xs → AreLesser D p
  entries_lesser p after = record {
    each = λ c e member has.
        let w = entry_from c e member has in
        let x : Entry AnyOp = entry w.stamp (High w.range) in
        let own : IsIssued (rich_meaning number) n w.stamp (High w.range) = All-contains (λ (e : Entry AnyOp). IsIssued (rich_meaning number) n e.stamp e.op) xs x issued w.member in
        let late : IsAfter w.stamp.clock p = All-contains (λ (e : Entry AnyOp). IsAfter e.stamp.clock p) xs x after w.member in
        range_less e w.range w.stamp p w.says own.valid.key (below_known p w.stamp late);
  }

  module _ (p : Stamp) where
    abbrev Keeps : List AnyOp → Type 0
    Keeps ops = AreFromRanges (made.entries_from p ops ++ xs)

    inserts_keep : (i : ℕ) (chs : List ℕ) → IfOk (rich_insert p D i chs) Keeps
    inserts_keep i chs =
        demands_if (nat_le i (length D)) (IndexOut (length D)) _ Keeps (
        follows_if (letters_between p.member (place at D i) (count p.clock p.member) (place_before at D i) chs) _ Keeps (λ l e.
        inserts_from xs (marks_before D i) (λ e h. let w = mark_before D i e h in entry_from w.cell e w.member w.has) from l p))

    deletes_keep : (i : ℕ) → IfOk (rich_delete D i) Keeps
    deletes_keep i = reads_if (place at D i) (IndexOut (length D)) _ Keeps (λ a e. with_delete xs p a from)

    marks_keep : (m : MarkWords) (on : Bool) → IfOk (rich_mark p D m on) Keeps
    marks_keep m on =
        demands_if (nat_lt m.from m.to) (IndexOut (length D)) _ Keeps (
        reads_if (place at D m.from) (IndexOut (length D)) _ Keeps (λ first e.
        reads_if (place_before at D m.to) (IndexOut (length D)) _ Keeps (λ last g.
        with_range xs p (record { first = first; last = last; mark = m.mark; key = key_of p; on = on }) from)))

    pub edits_keep : (names : List (List ℕ)) (verb rest : List ℕ) → IfOk (rich_edit p names D verb rest) Keeps
    edits_keep names verb rest =
        choose_if (bytes_eq verb (codes "insert")) _ _ Keeps
        (follows_if (insert_words rest) _ Keeps (λ parts e. inserts_keep parts.0 (chars parts.1)))
        (choose_if (bytes_eq verb (codes "delete")) _ _ Keeps
        (follows_if (delete_words rest) _ Keeps (λ i e. deletes_keep i))
        (choose_if (bytes_eq verb (codes "mark")) _ _ Keeps
        (follows_if (mark_words names rest) _ Keeps (λ m e. marks_keep m true))
        (choose_if (bytes_eq verb (codes "unmark")) _ _ Keeps
        (follows_if (mark_words names rest) _ Keeps (λ m e. marks_keep m false))
        tt)))
