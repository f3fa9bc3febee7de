-- What rich texts are after their edits.
use Rattle.std.proofs.Common.{◌≡◌, ◌≢◌, ℕ, zero, suc, ◌-◌, ◌≤◌, ◌<◌, ◌^◌, ◌==◌, ◌&&◌, Bool, true, false, nat_le, nat_lt, List, [], ◌∷◌, ◌++◌, length, get_or, take, drop, map, codes, Some, Result, Ok, IfOk, IfErr, IsOkAnd, refl, sym, ◌∙◌, ap, subst, arith}
use Rattle.std.specs.Prelude.{IsOk, remove, replicate}
use Rattle.std.specs.Fmt.{decimal}
use Rattle.std.specs.List.{AllPairs, list_any}
use Rattle.std.specs.Str.{chars}
use Rattle.std.proofs.lemmas.Bool.Decides.{nat_tests}
use Rattle.std.proofs.lemmas.List.{length-map}
use Rattle.vector_clock.specs.declared.stamp.Stamp.{Stamp}
use Rattle.vector_clock.specs.Clock.{count}
use Rattle.vector_clock.specs.Stamp.{key_of}
use Rattle.crdt_laws.specs.Present.{apply_all}
use Rattle.forgetting_model.specs.Made.{entries_from, stamp_then}
use Rattle.list_crdt.specs.declared.position.Step.{Step}
use Rattle.list_crdt.specs.declared.text.Cell.{Cell}
use Rattle.list_crdt.specs.Cells.{place, place_before}
use Rattle.list_crdt.proofs.Neighbours.{place_within, removed_at}
use Rattle.register_crdts.specs.Text.{max_text}
use Rattle.semidirect_product.specs.declared.stack.StackOp.{StackOp}
use Rattle.semidirect_product.specs.declared.stack.StackOp.TheVariants.{Low, High}
use Rattle.rich_text.specs.declared.marked.RichCell.{RichCell}
use Rattle.rich_text.specs.declared.marked.RichOp.{RichOp}
use Rattle.rich_text.specs.declared.marked.RichOp.TheVariants.{Insert, Delete}
use Rattle.rich_text.specs.declared.marks.MarkEntry.{MarkEntry}
use Rattle.rich_text.specs.declared.over.MarkRange.{MarkRange}
use Rattle.rich_text.specs.ByIndex.{IsRangeOver, characters, is_on, marks_before, shows}
use Rattle.rich_text.specs.Marked.{IsRichText, at, cell, rich_edited}
use Rattle.rich_text.specs.Over.{marked, rich_meaning}
use Rattle.rich_text.proofs.Runs.{others_show, same_characters, shows_run}
use Rattle.kind_edits.specs.Accepted.{AreMarkWords, IsFull}
use Rattle.kind_edits.specs.declared.fault.EditError.{EditError}
use Rattle.kind_edits.specs.declared.fault.EditError.TheVariants.{IndexOut}
use Rattle.kind_edits.specs.declared.forms.MarkWords.{MarkWords}
use Rattle.kind_edits.specs.Forms.{delete_words, insert_words, mark_words}
use Rattle.kind_edits.specs.Letters.{letters_between}
use Rattle.kind_edits.specs.RichEdit.{AreLesser, mark_verb, marked_insert, rich_delete, rich_edit, rich_insert, rich_mark}
use Rattle.kind_edits.specs.Rules.{demands, follows, reads}
use Rattle.kind_edits.specs.Shown.{letters, rich_letters, shown_before, spliced}
use Rattle.kind_edits.proofs.Built.{built, built_is, letters_are, map-spliced}
use Rattle.kind_edits.proofs.Changed.{demand_met, errs_if, follow_on, if_holds, letters_full, read_there, text_data}
use Rattle.kind_edits.proofs.Prepared.{follows_if, rich_order}
use Rattle.kind_edits.proofs.Tallies.{reads_if}
use Rattle.kind_edits.proofs.Wording.{delete_reads, insert_reads, mark_reads}

abbrev AnyOp : Type 0
AnyOp = StackOp RichOp MarkRange

-- the text after these operations, each at its stamp
abbrev pub rich_after : ℕ → Stamp → List RichCell → List AnyOp → List RichCell
rich_after number p s ops = apply_all (rich_meaning number) s (entries_from p ops)

-- ---- inserts

rich_inserts : (number : ℕ) (ms : List MarkEntry) (p : Stamp) (s : List RichCell) (l : List Cell)
    → rich_after number p s (map (marked_insert ms) l) ≡ built at (λ c. cell c.at c.ch ms) (λ c. refl) s l
rich_inserts number ms p s [] = refl
rich_inserts number ms p s (c ∷ l) = rich_inserts number ms (stamp_then p) (rich_edited s (Insert c.at c.ch ms)) l

module _ (number n : ℕ) (p : Stamp) (names : List (List ℕ)) (s : List RichCell) (i : ℕ) (text : IsRichText number n s) where
  abbrev put : Cell → RichCell
  put c = cell c.at c.ch (marks_before s i)

  -- what holds of the text with the letters at the index, each with the marks of the character before it, holds after the insert
  inserted_if : (chs : List ℕ) (Q : List RichCell → Type 0) → ((l : List Cell) → letters l ≡ chs → Q (spliced s i (map put l)))
      → IfOk (rich_insert p s i chs) (λ ops. Q (rich_after number p s ops))
  inserted_if chs Q f = by (nat_le i (length s)) refl
    where
      P : List AnyOp → Type 0
      P ops = Q (rich_after number p s ops)

      got : i ≤ length s → (l : List Cell) → letters_between p.member (place at s i) (count p.clock p.member) (place_before at s i) chs ≡ Ok l → P (map (marked_insert (marks_before s i)) l)
      got within l e =
          subst Q
          (sym (rich_inserts number (marks_before s i) p s l
          ∙ built_is at put (λ c. refl) p.member chs (count p.clock p.member) s i l text.rising (rich_order number n s i text) within e))
          (f l (letters_are p.member (place at s i) chs (count p.clock p.member) (place_before at s i) l e))

      by : (t : Bool) → nat_le i (length s) ≡ t
          → IfOk (demands t (IndexOut (length s)) (follows (letters_between p.member (place at s i) (count p.clock p.member) (place_before at s i) chs) (λ l. Ok (map (marked_insert (marks_before s i)) l)))) P
      by true e =
          let within : i ≤ length s = grind (arith, nat_tests, e) in
          follows_if (letters_between p.member (place at s i) (count p.clock p.member) (place_before at s i) chs) _ P (λ l g. got within l g)
      by false e = tt

  chars_of : (l : List Cell) → rich_letters (map put l) ≡ letters l
  chars_of [] = refl
  chars_of (c ∷ l) = ap (λ (x : List ℕ). c.ch ∷ x) (chars_of l)

  -- each letter shows of a mark what the marks before it show
  shows_of : (mark : ℕ) (l : List Cell) → shows mark (map put l) ≡ replicate (length l) (list_any (λ e. (e.mark == mark) && e.on) (marks_before s i))
  shows_of mark [] = refl
  shows_of mark (c ∷ l) = ap (λ (x : List Bool). list_any (λ e. (e.mark == mark) && e.on) (marks_before s i) ∷ x) (shows_of mark l)

  pub rich_shown : (chs : List ℕ) → IfOk (rich_insert p s i chs) (λ ops. (rich_meaning number).show (rich_after number p s ops) ≡ text_data (spliced (rich_letters s) i chs))
  rich_shown chs =
      inserted_if chs (λ (t : List RichCell). text_data (rich_letters t) ≡ text_data (spliced (rich_letters s) i chs)) (λ l e.
      ap text_data (map-spliced (λ (c : RichCell). c.ch) s i (map put l) ∙ ap (λ (x : List ℕ). spliced (rich_letters s) i x) (chars_of l ∙ e)))

  pub rich_marked : (mark : ℕ) (chs : List ℕ) (b : Bool) → list_any (λ e. (e.mark == mark) && e.on) (marks_before s i) ≡ b
      → IfOk (rich_insert p s i chs) (λ ops. shows mark (rich_after number p s ops) ≡ spliced (shows mark s) i (replicate (length chs) b))
  rich_marked mark chs b before =
      inserted_if chs (λ (t : List RichCell). shows mark t ≡ spliced (shows mark s) i (replicate (length chs) b)) (λ l e.
      let size : length l ≡ length chs = sym (length-map l (λ (c : Cell). c.ch)) ∙ ap length e in
      map-spliced (is_on mark) s i (map put l)
      ∙ ap (λ (x : List Bool). spliced (shows mark s) i x) (shows_of mark l ∙ ap (λ (k : ℕ). replicate k (list_any (λ e. (e.mark == mark) && e.on) (marks_before s i))) size)
      ∙ ap (λ (b : Bool). spliced (shows mark s) i (replicate (length chs) b)) before)

-- what the marks before an index show is what the character before it shows
before_shows : (mark : ℕ) (s : List RichCell) (i : ℕ) → list_any (λ e. (e.mark == mark) && e.on) (marks_before s i) ≡ shown_before mark s i
before_shows mark s zero = refl
before_shows mark [] (suc zero) = refl
before_shows mark [] (suc (suc i)) = refl
before_shows mark (c ∷ s) (suc zero) = refl
before_shows mark (c ∷ s) (suc (suc i)) = before_shows mark s (suc i)

pub insert_edit : (p : Stamp) (names : List (List ℕ)) (s : List RichCell) (i : ℕ) (t : List ℕ) → i < 2 ^ 32 → 1 ≤ length t → length t ≤ max_text
    → rich_edit p names s (codes "insert") (decimal i ++ 32 ∷ t) ≡ rich_insert p s i (chars t)
insert_edit p names s i t low some most =
    follow_on (insert_words (decimal i ++ 32 ∷ t)) (i, t) (λ parts. rich_insert p s parts.0 (chars parts.1))
    (insert_reads (decimal i ++ 32 ∷ t) i t (record { counted = low; some = some; most = most; spelled = refl }))

pub inserts_shown : (number n : ℕ) (p : Stamp) (names : List (List ℕ)) (s : List RichCell) (i : ℕ) (t : List ℕ) → IsRichText number n s → i < 2 ^ 32 → 1 ≤ length t → length t ≤ max_text
    → IfOk (rich_edit p names s (codes "insert") (decimal i ++ 32 ∷ t)) (λ ops. (rich_meaning number).show (rich_after number p s ops) ≡ text_data (spliced (rich_letters s) i (chars t)))
inserts_shown number n p names s i t text low some most =
    subst (λ (r : Result (List AnyOp) EditError). IfOk r (λ ops. (rich_meaning number).show (rich_after number p s ops) ≡ text_data (spliced (rich_letters s) i (chars t))))
    (sym (insert_edit p names s i t low some most)) (rich_shown number n p names s i text (chars t))

pub inserts_marked : (number n mark : ℕ) (p : Stamp) (names : List (List ℕ)) (s : List RichCell) (i : ℕ) (t : List ℕ) → IsRichText number n s → i < 2 ^ 32 → 1 ≤ length t → length t ≤ max_text
    → IfOk (rich_edit p names s (codes "insert") (decimal i ++ 32 ∷ t)) (λ ops. shows mark (rich_after number p s ops) ≡ spliced (shows mark s) i (replicate (length (chars t)) (shown_before mark s i)))
inserts_marked number n mark p names s i t text low some most =
    subst (λ (r : Result (List AnyOp) EditError). IfOk r (λ ops. shows mark (rich_after number p s ops) ≡ spliced (shows mark s) i (replicate (length (chars t)) (shown_before mark s i))))
    (sym (insert_edit p names s i t low some most)) (rich_marked number n p names s i text mark (chars t) (shown_before mark s i) (before_shows mark s i))

pub rich_full : (p : Stamp) (names : List (List ℕ)) (s : List RichCell) (i : ℕ) (t : List ℕ) → i < 2 ^ 32 → i ≤ length s → 1 ≤ length t → length t ≤ max_text
    → IfErr (rich_edit p names s (codes "insert") (decimal i ++ 32 ∷ t)) IsFull
rich_full p names s i t low within some most =
    let test : nat_le i (length s) ≡ true = grind (arith, nat_tests, within) in
    let r : Result (List Cell) EditError = letters_between p.member (place at s i) (count p.clock p.member) (place_before at s i) (chars t) in
    let next : List Cell → Result (List AnyOp) EditError = λ l. Ok (map (marked_insert (marks_before s i)) l) in
    subst (λ (r : Result (List AnyOp) EditError). IfErr r IsFull)
    (sym (insert_edit p names s i t low some most ∙ demand_met (nat_le i (length s)) (IndexOut (length s)) (follows r next) test))
    (errs_if r next IsFull (letters_full p.member (place at s i) (chars t) (count p.clock p.member) (place_before at s i)) (λ l. tt))

-- ---- deletes

pub rich_removed : (number n : ℕ) (p : Stamp) (names : List (List ℕ)) (s : List RichCell) (i : ℕ) → IsRichText number n s → i < 2 ^ 32 → i < length s
    → IsOkAnd (rich_edit p names s (codes "delete") (decimal i)) (λ ops. rich_after number p s ops ≡ remove s i)
rich_removed number n p names s i text low within =
    let d : RichCell = cell [] 0 [] in
    let a : List Step = (get_or s i d).at in
    let here : place at s i ≡ Some a = place_within at s i d within in
    let edit : rich_edit p names s (codes "delete") (decimal i) ≡ Ok (Low (Delete a) ∷ []) =
    follow_on (delete_words (decimal i)) i (rich_delete s) (delete_reads (decimal i) i low refl)
    ∙ read_there (place at s i) a (IndexOut (length s)) (λ at. Ok (Low (Delete at) ∷ [])) here in
    if_holds (rich_edit p names s (codes "delete") (decimal i)) (Low (Delete a) ∷ []) (λ ops. rich_after number p s ops ≡ remove s i) edit
    (removed_at at s text.rising a i here)

-- ---- marks

edit_marks : (p : Stamp) (names : List (List ℕ)) (s : List RichCell) (words : List ℕ) (on : Bool)
    → rich_edit p names s (mark_verb on) words ≡ follows (mark_words names words) (λ m. rich_mark p s m on)
edit_marks p names s words true = refl
edit_marks p names s words false = refl

mark_edit : (p : Stamp) (names : List (List ℕ)) (s : List RichCell) (words : List ℕ) (m : MarkWords) (on : Bool) → AllPairs (λ a b. a ≢ b) names → AreMarkWords names words m
    → rich_edit p names s (mark_verb on) words ≡ rich_mark p s m on
mark_edit p names s words m on apart h =
    edit_marks p names s words on ∙ follow_on (mark_words names words) m (λ m. rich_mark p s m on) (mark_reads names words m apart h)

module _ (number : ℕ) (p : Stamp) (s : List RichCell) (m : MarkWords) (on : Bool) where
  abbrev range : List Step → List Step → MarkRange
  range first last = record { first = first; last = last; mark = m.mark; key = key_of p; on = on }

  -- what holds of the text with the range over it holds after the edit
  marked_if : (Q : List RichCell → Type 0) → ((first last : List Step) → IsRangeOver s m.from m.to (range first last) → Q (map (marked (range first last)) s))
      → IfOk (rich_mark p s m on) (λ ops. Q (rich_after number p s ops))
  marked_if Q f = by (nat_lt m.from m.to) refl
    where
      P : List AnyOp → Type 0
      P ops = Q (rich_after number p s ops)

      by : (t : Bool) → nat_lt m.from m.to ≡ t → IfOk (demands t (IndexOut (length s)) (
          reads (place at s m.from) (IndexOut (length s)) (λ first.
          reads (place_before at s m.to) (IndexOut (length s)) (λ last.
          Ok (High (range first last) ∷ []))))) P
      by true test =
          reads_if (place at s m.from) (IndexOut (length s)) _ P (λ first e.
          reads_if (place_before at s m.to) (IndexOut (length s)) _ P (λ last g.
          f first last (record { some = grind (arith, nat_tests, test); first = e; last = g })))
      by false test = tt

  pub mark_shown : (n : ℕ) → IsRichText number n s → AreLesser s p
      → IfOk (rich_mark p s m on) (λ ops. shows m.mark (rich_after number p s ops) ≡ take m.from (shows m.mark s) ++ (replicate (m.to - m.from) on ++ drop m.to (shows m.mark s)))
  mark_shown n text lesser =
      marked_if (λ (t : List RichCell). shows m.mark t ≡ take m.from (shows m.mark s) ++ (replicate (m.to - m.from) on ++ drop m.to (shows m.mark s)))
      (λ first last over. shows_run number n m.from m.to s (range first last) text over (record { each = λ c e member _ has _. lesser.each c e member has }))

  pub mark_others : (mark : ℕ) → mark ≢ m.mark → IfOk (rich_mark p s m on) (λ ops. shows mark (rich_after number p s ops) ≡ shows mark s)
  mark_others mark differ =
      marked_if (λ (t : List RichCell). shows mark t ≡ shows mark s) (λ first last over. others_show mark (range first last) s differ)

  pub mark_characters : IfOk (rich_mark p s m on) (λ ops. characters (rich_after number p s ops) ≡ characters s)
  mark_characters = marked_if (λ (t : List RichCell). characters t ≡ characters s) (λ first last over. same_characters (range first last) s)

-- there are characters between two indexes
ends_there : (s : List RichCell) (from to : ℕ) → from < to → to ≤ length s → (first : List Step) × (last : List Step) × (place at s from ≡ Some first) × (place_before at s to ≡ Some last)
ends_there s from zero some within = absurd (omega (arith, some))
ends_there s from (suc j) some within =
    let d : RichCell = cell [] 0 [] in
    ((get_or s from d).at, (get_or s j d).at, place_within at s from d (omega (arith, some, within)), place_within at s j d (omega (arith, within)))

module _ (p : Stamp) (names : List (List ℕ)) (s : List RichCell) (words : List ℕ) (m : MarkWords) (on : Bool) (apart : AllPairs (λ a b. a ≢ b) names) (h : AreMarkWords names words m) where
  pub marks_accepted : m.from < m.to → m.to ≤ length s → IsOk (rich_edit p names s (mark_verb on) words)
  marks_accepted some within =
      let ends = ends_there s m.from m.to some within in
      let test : nat_lt m.from m.to ≡ true = grind (arith, nat_tests, some) in
      let made : rich_mark p s m on ≡ Ok (High (range 0 p s m on ends.0 ends.1) ∷ []) =
      demand_met (nat_lt m.from m.to) (IndexOut (length s)) _ test
      ∙ read_there (place at s m.from) ends.0 (IndexOut (length s)) _ ends.2
      ∙ read_there (place_before at s m.to) ends.1 (IndexOut (length s)) _ ends.3 in
      subst IsOk (sym (mark_edit p names s words m on apart h ∙ made)) refl

  pub marks_shown : (number n : ℕ) → IsRichText number n s → AreLesser s p
      → IfOk (rich_edit p names s (mark_verb on) words) (λ ops. shows m.mark (rich_after number p s ops) ≡ take m.from (shows m.mark s) ++ (replicate (m.to - m.from) on ++ drop m.to (shows m.mark s)))
  marks_shown number n text lesser =
      subst (λ (r : Result (List AnyOp) EditError). IfOk r (λ ops. shows m.mark (rich_after number p s ops) ≡ take m.from (shows m.mark s) ++ (replicate (m.to - m.from) on ++ drop m.to (shows m.mark s))))
      (sym (mark_edit p names s words m on apart h)) (mark_shown number p s m on n text lesser)

  pub marks_others : (number mark : ℕ) → mark ≢ m.mark → IfOk (rich_edit p names s (mark_verb on) words) (λ ops. shows mark (rich_after number p s ops) ≡ shows mark s)
  marks_others number mark differ =
      subst (λ (r : Result (List AnyOp) EditError). IfOk r (λ ops. shows mark (rich_after number p s ops) ≡ shows mark s))
      (sym (mark_edit p names s words m on apart h)) (mark_others number p s m on mark differ)

pub marks_characters : (number : ℕ) (p : Stamp) (names : List (List ℕ)) (s : List RichCell) (words : List ℕ) (on : Bool)
    → IfOk (rich_edit p names s (mark_verb on) words) (λ ops. characters (rich_after number p s ops) ≡ characters s)
marks_characters number p names s words on =
    let P : List AnyOp → Type 0 = λ ops. characters (rich_after number p s ops) ≡ characters s in
    subst (λ (r : Result (List AnyOp) EditError). IfOk r P) (sym (edit_marks p names s words on))
    (follows_if (mark_words names words) (λ m. rich_mark p s m on) P (λ m e. mark_characters number p s m on))
