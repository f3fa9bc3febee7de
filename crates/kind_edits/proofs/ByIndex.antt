-- The letters of an insert are inserted one by one, each at the next index.
use Rattle.std.proofs.Common.{◌≡◌, ℕ, zero, suc, ◌+◌, ◌≤◌, ◌<◌, ◌^◌, Bool, true, false, nat_le, List, [], ◌∷◌, ◌++◌, length, map, codes, Option, Result, Ok, IfOk, refl, sym, ◌∙◌, ap, ap₂, subst, arith}
use Rattle.std.specs.Prelude.{insert}
use Rattle.std.specs.Fmt.{decimal}
use Rattle.std.specs.Str.{chars}
use Rattle.std.proofs.lemmas.Bool.Decides.{nat_tests}
use Rattle.vector_clock.specs.declared.stamp.Stamp.{Stamp}
use Rattle.vector_clock.specs.Clock.{count}
use Rattle.vector_clock.specs.Stamp.{IsStamp}
use Rattle.forgetting_model.specs.Made.{stamp_then}
use Rattle.list_crdt.specs.declared.position.Step.{Step}
use Rattle.list_crdt.specs.declared.text.Cell.{Cell}
use Rattle.list_crdt.specs.Between.{AreInOrder}
use Rattle.list_crdt.specs.Cells.{IsRising, place, place_before}
use Rattle.register_crdts.specs.Text.{max_text}
use Rattle.semidirect_product.specs.declared.stack.StackOp.TheVariants.{Low}
use Rattle.rich_text.specs.declared.marked.RichCell.{RichCell}
use Rattle.rich_text.specs.declared.marked.RichOp.{RichOp}
use Rattle.rich_text.specs.declared.marked.RichOp.TheVariants.{Insert}
use Rattle.rich_text.specs.declared.marks.MarkEntry.{MarkEntry}
use Rattle.rich_text.specs.ByIndex.{insert_at, marks_before}
use Rattle.rich_text.specs.Marked.{IsRichText, at, cell, rich_edited}
use Rattle.rich_text.proofs.Stands.{AnyOp}
use Rattle.kind_edits.specs.declared.fault.EditError.{EditError}
use Rattle.kind_edits.specs.declared.fault.EditError.TheVariants.{IndexOut}
use Rattle.kind_edits.specs.Letters.{letters_between}
use Rattle.kind_edits.specs.RichEdit.{inserts_at, marked_insert, rich_edit}
use Rattle.kind_edits.specs.Rules.{demands, follows}
use Rattle.kind_edits.proofs.Accepting.{ok_same}
use Rattle.kind_edits.proofs.Built.{after_next, before_next, letters_first, next, order_next, puts_next, rising_next, with_next, within_next}
use Rattle.kind_edits.proofs.Making.{IsMaking, count-then, making, making_then}
use Rattle.kind_edits.proofs.Marked.{insert_edit}
use Rattle.kind_edits.proofs.Prepared.{follows_if, rich_order}
use Rattle.kind_edits.proofs.Typing.{letter}

-- the marks before the next index are those of the character that was put in
marks_next : (s : List RichCell) (i : ℕ) (y : RichCell) → i ≤ length s → marks_before (insert s i y) (suc i) ≡ y.marks
marks_next s zero y h = refl
marks_next [] (suc i) y h = absurd (omega (arith, h))
marks_next (x ∷ s) (suc i) y h = marks_next s i y (omega (arith, h))

-- the insert of a letter, as an operation of a text with marks
abbrev plain_insert : List MarkEntry → Cell → RichOp
plain_insert ms c = Insert c.at c.ch ms

inserts_are : (n : ℕ) (ms : List MarkEntry) (chs : List ℕ) (p : Stamp) (s : List RichCell) (i : ℕ) (cells : List Cell) → IsMaking n p → IsRising at s
    → AreInOrder (place_before at s i) (place at s i) → i ≤ length s → marks_before s i ≡ ms
    → letters_between p.member (place at s i) (count p.clock p.member) (place_before at s i) chs ≡ Ok cells → map (plain_insert ms) cells ≡ inserts_at p s i chs
inserts_are n ms [] p s i cells making rising order within marks h = ap (map (plain_insert ms)) (sym (ok_same [] cells h))
inserts_are n ms (ch ∷ chs) p s i cells making rising order within marks h =
    let seq = count p.clock p.member in
    let put : Cell → RichCell = λ c. cell c.at c.ch (marks_before s i) in
    let put_at : (c : Cell) → at (put c) ≡ c.at = λ c. refl in
    let first = letters_first p.member (place at s i) seq (place_before at s i) ch chs cells h in
    let a = next at put put_at p.member seq s i ch rising order within in
    let t = with_next at put put_at p.member seq s i ch rising order within in
    let state : rich_edited s (insert_at p s i ch) ≡ t = puts_next at put put_at p.member seq s i ch rising order within in
    let rest : letters_between p.member (place at t (suc i)) (count (stamp_then p).clock p.member) (place_before at t (suc i)) chs ≡ Ok first.more =
    ap (λ (k : ℕ). letters_between p.member (place at t (suc i)) k (place_before at t (suc i)) chs) (count-then n p making)
    ∙ ap₂ (λ (o b : Option (List Step)). letters_between p.member o (seq + 1) b chs) (after_next at put put_at p.member seq s i ch rising order within)
    (before_next at put put_at p.member seq s i ch rising order within) ∙ first.rest in
    let all : map (plain_insert ms) first.more ≡ inserts_at (stamp_then p) t (suc i) chs =
    inserts_are n ms chs (stamp_then p) t (suc i) first.more (making_then n p making) (rising_next at put put_at p.member seq s i ch rising order within)
    (order_next at put put_at p.member seq s i ch rising order within first.room) (within_next at put put_at p.member seq s i ch rising order within)
    (marks_next s i (put (letter a ch)) within ∙ marks) rest in
    ap (map (plain_insert ms)) (sym first.whole)
    ∙ ap₂ (λ (x : RichOp) (xs : List RichOp). x ∷ xs) (ap (Insert a ch) (sym marks))
    (all ∙ ap (λ (u : List RichCell). inserts_at (stamp_then p) u (suc i) chs) (sym state))

lows : (ms : List MarkEntry) (l : List Cell) → map (marked_insert ms) l ≡ map Low (map (plain_insert ms) l)
lows ms [] = refl
lows ms (c ∷ l) = ap (λ (x : List AnyOp). Low (Insert c.at c.ch ms) ∷ x) (lows ms l)

pub inserts_by_index : (number n : ℕ) (p : Stamp) (names : List (List ℕ)) (s : List RichCell) (i : ℕ) (t : List ℕ) → IsStamp p → IsRichText number n s → i < 2 ^ 32 → 1 ≤ length t → length t ≤ max_text
    → IfOk (rich_edit p names s (codes "insert") (decimal i ++ 32 ∷ t)) (λ ops. ops ≡ map Low (inserts_at p s i (chars t)))
inserts_by_index number n p names s i t stamp text low some most =
    subst (λ (r : Result (List AnyOp) EditError). IfOk r P) (sym (insert_edit p names s i t low some most)) (by (nat_le i (length s)) refl)
  where
    P : List AnyOp → Type 0
    P ops = ops ≡ map Low (inserts_at p s i (chars t))

    by : (test : Bool) → nat_le i (length s) ≡ test
        → IfOk (demands test (IndexOut (length s)) (follows (letters_between p.member (place at s i) (count p.clock p.member) (place_before at s i) (chars t)) (λ l. Ok (map (marked_insert (marks_before s i)) l)))) P
    by true e =
        let within : i ≤ length s = grind (arith, nat_tests, e) in
        follows_if (letters_between p.member (place at s i) (count p.clock p.member) (place_before at s i) (chars t)) _ P (λ l g.
        lows (marks_before s i) l ∙ ap (map Low)
        (inserts_are p.clock.n (marks_before s i) (chars t) p s i l (making p stamp) text.rising (rich_order number n s i text) within refl g))
    by false e = tt
