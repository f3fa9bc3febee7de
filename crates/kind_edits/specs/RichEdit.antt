-- What an edit of rich text stands for.
use Rattle.std.specs.Prelude.{ℕ, suc, List, [], ◌∷◌, Bool, true, false, codes, length, nat_le, nat_lt, map, if◌then◌else◌, IsTrue, Result, Ok, Err}
use Rattle.std.specs.List.{Contains}
use Rattle.std.specs.Str.{bytes_eq, chars}
use Rattle.vector_clock.specs.declared.stamp.Stamp.{Stamp}
use Rattle.vector_clock.specs.Clock.{count}
use Rattle.vector_clock.specs.Stamp.{is_less, key_of}
use Rattle.forgetting_model.specs.Made.{stamp_then}
use Rattle.list_crdt.specs.declared.text.Cell.{Cell}
use Rattle.list_crdt.specs.Cells.{place, place_before}
use Rattle.semidirect_product.specs.declared.stack.StackOp.{StackOp}
use Rattle.semidirect_product.specs.declared.stack.StackOp.TheVariants.{Low, High}
use Rattle.rich_text.specs.declared.marked.RichCell.{RichCell}
use Rattle.rich_text.specs.declared.marked.RichOp.{RichOp}
use Rattle.rich_text.specs.declared.marked.RichOp.TheVariants.{Insert, Delete}
use Rattle.rich_text.specs.declared.marks.MarkEntry.{MarkEntry}
use Rattle.rich_text.specs.declared.over.MarkRange.{MarkRange}
use Rattle.rich_text.specs.ByIndex.{insert_at, marks_before}
use Rattle.rich_text.specs.Marked.{at, rich_edited}
use Rattle.kind_edits.specs.declared.fault.EditError.{EditError}
use Rattle.kind_edits.specs.declared.fault.EditError.TheVariants.{NoVerb, IndexOut}
use Rattle.kind_edits.specs.declared.forms.MarkWords.{MarkWords}
use Rattle.kind_edits.specs.Forms.{delete_words, insert_words, mark_words}
use Rattle.kind_edits.specs.Letters.{letters_between}
use Rattle.kind_edits.specs.Rules.{demands, follows, reads}

-- the insert of a letter with these marks
abbrev pub marked_insert : List MarkEntry → Cell → StackOp RichOp MarkRange
marked_insert ms c = Low (Insert c.at c.ch ms)

-- The inserts of letters, as those of a text without marks. Each letter takes the marks of the one before it, and so those of the
-- character before the index, or none at the start.
abbrev pub rich_insert : Stamp → List RichCell → ℕ → List ℕ → Result (List (StackOp RichOp MarkRange)) EditError
rich_insert p s i chs =
    demands (nat_le i (length s)) (IndexOut (length s)) (
    follows (letters_between p.member (place at s i) (count p.clock p.member) (place_before at s i) chs) (λ cells.
    Ok (map (marked_insert (marks_before s i)) cells)))

-- the delete of the character at the index, which is below the length
abbrev pub rich_delete : List RichCell → ℕ → Result (List (StackOp RichOp MarkRange)) EditError
rich_delete s i =
    reads (place at s i) (IndexOut (length s)) (λ a.
    Ok (Low (Delete a) ∷ []))

-- The range that puts the mark on the characters from the one index to before the other, or takes it off. It has the key of its
-- stamp, the first index is below the second, and that is at most the length.
abbrev pub rich_mark : Stamp → List RichCell → MarkWords → Bool → Result (List (StackOp RichOp MarkRange)) EditError
rich_mark p s words on =
    demands (nat_lt words.from words.to) (IndexOut (length s)) (
    reads (place at s words.from) (IndexOut (length s)) (λ first.
    reads (place_before at s words.to) (IndexOut (length s)) (λ last.
    Ok (High (record { first = first; last = last; mark = words.mark; key = key_of p; on = on }) ∷ []))))

-- `insert`, an index and a text, `delete` and an index, or `mark` or `unmark`, two indexes and the name of a mark
abbrev pub rich_edit : Stamp → List (List ℕ) → List RichCell → List ℕ → List ℕ → Result (List (StackOp RichOp MarkRange)) EditError
rich_edit p names s verb rest =
    if bytes_eq verb (codes "insert") then follows (insert_words rest) (λ parts. rich_insert p s parts.0 (chars parts.1))
    else if bytes_eq verb (codes "delete") then follows (delete_words rest) (rich_delete s)
    else if bytes_eq verb (codes "mark") then follows (mark_words names rest) (λ words. rich_mark p s words true)
    else if bytes_eq verb (codes "unmark") then follows (mark_words names rest) (λ words. rich_mark p s words false)
    else Err NoVerb

-- the verb that puts a mark on, and the one that takes it off
abbrev pub mark_verb : Bool → List ℕ
mark_verb true = codes "mark"
mark_verb false = codes "unmark"

-- each entry of a mark in the text has a lesser key than the stamp
pub record AreLesser (s : List RichCell) (p : Stamp) : Type 0 where
  pub each : (c : RichCell) (e : MarkEntry) → Contains s c → Contains c.marks e → IsTrue (is_less e.key (key_of p))

-- The inserts of letters one by one, each at the next index of the text as those before it have left it. So each takes the marks of
-- the character before it there.
abbrev pub inserts_at : Stamp → List RichCell → ℕ → List ℕ → List RichOp
inserts_at p s i [] = []
inserts_at p s i (ch ∷ chs) =
    let op = insert_at p s i ch in
    op ∷ inserts_at (stamp_then p) (rich_edited s op) (suc i) chs
