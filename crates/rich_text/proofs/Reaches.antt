-- Ranges and the characters that others insert inside them, and the ranges that a member issues next.
use Rattle.std.proofs.Common.{◌≡◌, ℕ, zero, suc, inl, inr, true, false, List, [], ◌∷◌, ◌++◌, Some, refl, sym, ap, ◌∙◌, subst, IsTrue, ◌==◌, Contains, map}
use Rattle.std.specs.List.{All}
use Rattle.std.proofs.lemmas.List.Elements.{All-contains, Contains-append_cases, Contains-append_left, Contains-append_right}
use Rattle.vector_clock.specs.declared.stamp.Key.{Key}
use Rattle.vector_clock.specs.declared.stamp.Stamp.{Stamp}
use Rattle.vector_clock.specs.Stamp.{IsAfter, is_before, is_below, is_less, key_of}
use Rattle.vector_clock.proofs.Keys.{below_known}
use Rattle.crdt_laws.specs.declared.small.Entry.{Entry}
use Rattle.crdt_laws.specs.Entry.{entry}
use Rattle.crdt_laws.specs.Present.{document}
use Rattle.crdt_laws.specs.Sets.{AreApart, AreIssued, IsHonest, canonical}
use Rattle.crdt_laws.specs.Tower.{IsIssued}
use Rattle.crdt_laws.proofs.Members.{Contains-cases, Contains-front, Contains-more}
use Rattle.list_crdt.specs.declared.position.Step.{Step}
use Rattle.list_crdt.specs.Cells.{with_at}
use Rattle.semidirect_product.specs.declared.stack.StackOp.TheVariants.{Low, High}
use Rattle.rich_text.specs.declared.marked.RichCell.{RichCell}
use Rattle.rich_text.specs.declared.marked.RichOp.TheVariants.{Insert, Delete}
use Rattle.rich_text.specs.declared.marks.MarkEntry.{MarkEntry}
use Rattle.rich_text.specs.declared.over.MarkRange.{MarkRange}
use Rattle.rich_text.specs.ByIndex.{IsLatest, IsSeen, insert_at, is_on, marks_before}
use Rattle.rich_text.specs.Marked.{IsRichInsertOf, at, cell}
use Rattle.rich_text.specs.Marks.{is_lesser}
use Rattle.rich_text.specs.Over.{entry_of, is_inside, marked, stack_of}
use Rattle.rich_text.specs.Shown.{AreFromRanges, IsFromRange, IsOffered, IsShown}
use Rattle.rich_text.proofs.Runs.{entry_decides, shows_range}
use Rattle.rich_text.proofs.Shows.{canonical_shown}
use Rattle.rich_text.proofs.Stands.{AnyOp, Contains-map, insert_delete, low_high, with_at_new}
use Rattle.rich_text.proofs.Tops.{contains_none}

-- an insert inside a range shows its mark
pub insert_seen : (number ch : ℕ) (p : Stamp) (s : List RichCell) (a : List Step) (ms : List MarkEntry) (r : MarkRange) → IsRichInsertOf number p a ch ms → is_inside r a ≡ true
    → IsLatest r (cell a ch ms ∷ []) → IsSeen (map (marked r) (with_at at a (Some (cell a ch ms)) s)) a ch r.mark r.on
insert_seen number ch p s a ms r valid inside latest =
    let c : RichCell = cell a ch ms in
    record {
      cell = marked r c;
      member = Contains-map (marked r) (with_at at a (Some c) s) c (with_at_new a s c);
      at = refl;
      char = refl;
      shown = shows_range r c valid.marks.rising inside (λ e k same. latest.each c e (Contains-front c []) inside k same);
    }

-- and so does one of a set where no offered entry is greater than that of the range
pub range_decides : (xs : List (Entry AnyOp)) (c : RichCell) (q : Stamp) (r : MarkRange) (h : IsShown xs c) → Contains xs (entry q (High r)) → is_inside r c.at ≡ true → is_before q h.stamp ≡ false
    → ((e : MarkEntry) → IsOffered xs h.stamp c.at h.issued e → e.mark ≡ r.mark → is_lesser (entry_of r) e ≡ false) → is_on r.mark c ≡ r.on
range_decides xs c q r h member inside late greatest =
    entry_decides c.marks (entry_of r) h.rising ((h.marks (entry_of r)).1 (record {
      offered = inr (record { stamp = q; range = r; member = member; inside = inside; not_before = late; says = refl });
      others = greatest;
    }))

-- entries of ranges

from_more : (x : Entry AnyOp) (xs : List (Entry AnyOp)) (e : MarkEntry) → IsFromRange xs e → IsFromRange (x ∷ xs) e
from_more x xs e h = record { stamp = h.stamp; range = h.range; member = Contains-more x xs (entry h.stamp (High h.range)) h.member; says = h.says }

abbrev marks_or : List MarkEntry → AnyOp → List MarkEntry
marks_or d (Low (Insert a ch ms)) = ms
marks_or d (Low (Delete a)) = d
marks_or d (High r) = d

-- one operation more, which brings only entries of ranges
with_one : (x : Entry AnyOp) (xs : List (Entry AnyOp)) → AreFromRanges xs
    → ((p : Stamp) (a : List Step) (ch : ℕ) (ms : List MarkEntry) (e : MarkEntry) → x ≡ entry p (Low (Insert a ch ms)) → Contains ms e → IsFromRange xs e) → AreFromRanges (x ∷ xs)
with_one x xs h own = record {
  each = λ p a ch ms e k m. elim (Contains-cases x xs (entry p (Low (Insert a ch ms))) k) [
    | inl q ↦ from_more x xs e (own p a ch ms e q m)
    | inr j ↦ from_more x xs e (h.each p a ch ms e j m)
  ];
}

pub with_delete : (xs : List (Entry AnyOp)) (p : Stamp) (a : List Step) → AreFromRanges xs → AreFromRanges (entry p (Low (Delete a)) ∷ xs)
with_delete xs p a h = with_one (entry p (Low (Delete a))) xs h (λ q b ch ms e same m. absurd (insert_delete b a ch ms q p (sym same)))

pub with_range : (xs : List (Entry AnyOp)) (p : Stamp) (r : MarkRange) → AreFromRanges xs → AreFromRanges (entry p (High r) ∷ xs)
with_range xs p r h = with_one (entry p (High r)) xs h (λ q b ch ms e same m. absurd (low_high (Insert b ch ms) r q p (sym same)))

pub with_both : (xs ys : List (Entry AnyOp)) → AreFromRanges xs → AreFromRanges ys → AreFromRanges (xs ++ ys)
with_both xs ys h k = record {
  each = λ p a ch ms e c m.
      let x : Entry AnyOp = entry p (Low (Insert a ch ms)) in
      elim (Contains-append_cases xs ys x c) [
        | inl j ↦ (let w = h.each p a ch ms e j m in record { stamp = w.stamp; range = w.range; member = Contains-append_left xs ys (entry w.stamp (High w.range)) w.member; says = w.says })
        | inr j ↦ (let w = k.each p a ch ms e j m in record { stamp = w.stamp; range = w.range; member = Contains-append_right xs ys (entry w.stamp (High w.range)) w.member; says = w.says })
      ];
}

-- the marks before an index are those of a character
record HasMark (s : List RichCell) (e : MarkEntry) : Type 0 where
  pub cell : RichCell
  pub member : Contains s cell
  pub has : Contains cell.marks e

before_has : (s : List RichCell) (i : ℕ) (e : MarkEntry) → Contains (marks_before s i) e → HasMark s e
before_has s zero e c = absurd (contains_none e c)
before_has [] (suc zero) e c = absurd (contains_none e c)
before_has [] (suc (suc i)) e c = absurd (contains_none e c)
before_has (d ∷ s) (suc zero) e c = record { cell = d; member = Contains-front d s; has = c }
before_has (d ∷ s) (suc (suc i)) e c = let h = before_has s (suc i) e c in record { cell = h.cell; member = Contains-more d s h.cell h.member; has = h.has }

key_above : (e : MarkEntry) (r v : MarkRange) (q p : Stamp) → entry_of v ≡ e → v.key ≡ key_of q → r.key ≡ key_of p → is_below q p ≡ true → is_less e.key r.key ≡ true
unfolding is_below
key_above e r v q p says old new h =
    subst (λ (k : Key). is_less k r.key ≡ true) (sym old ∙ ap (λ (x : MarkEntry). x.key) says) (subst (λ (k : Key). is_less (key_of q) k ≡ true) (sym new) h)

module _ (number marks n : ℕ) (fit : IsTrue (marks == number)) (xs : List (Entry AnyOp)) (issued : AreIssued (stack_of number marks) n xs) (apart : AreApart xs) (honest : IsHonest xs) (from : AreFromRanges xs) where
  abbrev D : List RichCell
  D = document (stack_of number marks) (canonical xs)

  pub entries_from : (c : RichCell) (e : MarkEntry) → Contains D c → Contains c.marks e → IsFromRange xs e
  entries_from c e member has =
      let h = ((canonical_shown number marks n fit xs issued apart honest).1 c).0 member in
      elim ((h.marks e).0 has).offered [
        | inl k ↦ from.each h.stamp c.at c.ch h.issued e h.member k
        | inr k ↦ record { stamp = k.stamp; range = k.range; member = k.member; says = k.says }
      ]

  pub range_latest : (p : Stamp) (r : MarkRange) → All (λ e. IsAfter e.stamp.clock p) xs → r.key ≡ key_of p → IsLatest r D
  range_latest p r after key = record {
    each = λ c e member _ has _.
        let w = entries_from c e member has in
        let x : Entry AnyOp = entry w.stamp (High w.range) in
        let own : IsIssued (stack_of number marks) n w.stamp (High w.range) = All-contains (λ (e : Entry AnyOp). IsIssued (stack_of number marks) n e.stamp e.op) xs x issued w.member in
        let late : IsAfter w.stamp.clock p = All-contains (λ (e : Entry AnyOp). IsAfter e.stamp.clock p) xs x after w.member in
        key_above e r w.range w.stamp p w.says own.valid.key key (below_known p w.stamp late);
  }

  pub with_insert : (i ch : ℕ) (p : Stamp) → AreFromRanges (entry p (Low (insert_at p D i ch)) ∷ xs)
  with_insert i ch p =
      with_one (entry p (Low (insert_at p D i ch))) xs from
      (λ q a dh ms e same m.
      let taken : marks_before D i ≡ ms = ap (λ (x : Entry AnyOp). marks_or [] x.op) same in
      let h = before_has D i e (subst (λ l. Contains l e) (sym taken) m) in
      entries_from h.cell e h.member h.has)
