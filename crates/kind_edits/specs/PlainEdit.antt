-- What an edit of a text stands for.
use Rattle.std.specs.Prelude.{ℕ, List, [], ◌∷◌, codes, length, nat_le, map, if◌then◌else◌, Result, Ok, Err}
use Rattle.std.specs.Str.{bytes_eq, chars}
use Rattle.vector_clock.specs.declared.stamp.Stamp.{Stamp}
use Rattle.vector_clock.specs.Clock.{count}
use Rattle.list_crdt.specs.declared.text.Cell.{Cell}
use Rattle.list_crdt.specs.declared.text.TextOp.{TextOp}
use Rattle.list_crdt.specs.declared.text.TextOp.TheVariants.{Insert, Delete}
use Rattle.list_crdt.specs.Text.{place, place_before}
use Rattle.kind_edits.specs.declared.fault.EditError.{EditError}
use Rattle.kind_edits.specs.declared.fault.EditError.TheVariants.{NoVerb, IndexOut}
use Rattle.kind_edits.specs.Forms.{delete_words, insert_words}
use Rattle.kind_edits.specs.Letters.{letters_between}
use Rattle.kind_edits.specs.Rules.{demands, follows, reads}

abbrev pub insert_of : Cell → TextOp
insert_of c = Insert c.at c.ch

-- The inserts of letters, the first at this stamp. They come to stand between the characters around the index, which is at most the
-- length.
abbrev pub text_insert : Stamp → List Cell → ℕ → List ℕ → Result (List TextOp) EditError
text_insert p s i chs =
    demands (nat_le i (length s)) (IndexOut (length s)) (
    follows (letters_between p.member (place s i) (count p.clock p.member) (place_before s i) chs) (λ cells.
    Ok (map insert_of cells)))

-- the delete of the character at the index, which is below the length
abbrev pub text_delete : List Cell → ℕ → Result (List TextOp) EditError
text_delete s i =
    reads (place s i) (IndexOut (length s)) (λ at.
    Ok (Delete at ∷ []))

-- `insert`, an index and a text, or `delete` and an index
abbrev pub text_edit : Stamp → List Cell → List ℕ → List ℕ → Result (List TextOp) EditError
text_edit p s verb rest =
    if bytes_eq verb (codes "insert") then follows (insert_words rest) (λ parts. text_insert p s parts.0 (chars parts.1))
    else if bytes_eq verb (codes "delete") then follows (delete_words rest) (text_delete s)
    else Err NoVerb
