-- Texts: characters by rising position. A character is a Unicode scalar value.
use Rattle.std.specs.Prelude.{◌≡◌, ℕ, true, false, List, [], map, Option, None, Some, IsTrue}
use Rattle.std.specs.Prelude.{encode_utf8_all}
use Rattle.std.specs.Char.{IsScalar}
use Rattle.std.specs.List.{All}
use Rattle.serde_json.specs.Data.{string}
use Rattle.vector_clock.specs.declared.clock.Clock.{Clock}
use Rattle.vector_clock.specs.declared.stamp.Stamp.{Stamp}
use Rattle.vector_clock.specs.Clock.{covers}
use Rattle.vector_clock.specs.Stamp.{id_of}
use Rattle.crdt_laws.specs.Tower.{Meaning, IsWithin}
use Rattle.list_crdt.specs.declared.position.Step.{Step}
use Rattle.list_crdt.specs.declared.text.Cell.{Cell}
use Rattle.list_crdt.specs.declared.text.TextOp.{TextOp}
use Rattle.list_crdt.specs.declared.text.TextOp.TheVariants.{Insert, Delete}
use Rattle.list_crdt.specs.Cells as cells
use Rattle.list_crdt.specs.Position.{IsPosition, IsPositionOf, maker}

-- the position of a character
abbrev pub at : Cell → List Step
at c = c.at

-- the text with this character, or with none, at the position, whatever stood there
abbrev pub with_at : List Step → Option ℕ → List Cell → List Cell
with_at p None s = cells.with_at at p None s
with_at p (Some ch) s = cells.with_at at p (Some (record { at = p; ch = ch })) s

-- an insert puts its character at its position, and a delete leaves none at its own
abbrev pub edited : List Cell → TextOp → List Cell
edited s (Insert p ch) = with_at p (Some ch) s
edited s (Delete p) = with_at p None s

-- the position of the character at the index, and that of the one before it
abbrev pub place : List Cell → ℕ → Option (List Step)
place s i = cells.place at s i

abbrev pub place_before : List Cell → ℕ → Option (List Step)
place_before s i = cells.place_before at s i

-- each character comes before all later ones
abbrev pub IsRising : List Cell → Type 0
IsRising s = cells.IsRising at s

pub record IsCellOf (n : ℕ) (c : Cell) : Type 0 where
  pub position : IsPositionOf n c.at
  pub char : IsScalar c.ch

-- a text of a document with n members
pub record IsText (n : ℕ) (s : List Cell) : Type 0 where
  pub rising : IsRising s
  pub cells : All (IsCellOf n) s

-- and one whose positions were made for operations that the clock covers
pub record IsTextAt (d : Clock) (s : List Cell) : Type 0 where
  pub text : IsText d.n s
  pub known : All (λ c. IsTrue (covers d (maker c.at))) s

-- an insert whose position was made for it
pub record IsInsertOf (p : Stamp) (at : List Step) (ch : ℕ) : Type 0 where
  pub within : IsWithin p
  pub position : IsPositionOf p.clock.n at
  pub own : maker at ≡ id_of p
  pub char : IsScalar ch

-- a delete of a position that was made for another operation, which its member knew
pub record IsDeleteOf (p : Stamp) (at : List Step) : Type 0 where
  pub within : IsWithin p
  pub position : IsPositionOf p.clock.n at
  pub known : IsTrue (covers p.clock (maker at))
  pub other : maker at ≡ id_of p → ⊥

abbrev pub IsEditOf : Stamp → TextOp → Type 0
IsEditOf p (Insert at ch) = IsInsertOf p at ch
IsEditOf p (Delete at) = IsDeleteOf p at

-- what an edit keeps at any stamp
abbrev pub IsEdit : TextOp → Type 0
IsEdit (Insert at ch) = IsPosition at × IsScalar ch
IsEdit (Delete at) = IsPosition at

-- A text, at first empty. Edits are of one level, and none acts on another. It is shown as a string.
abbrev pub text_meaning : Meaning (List Cell) TextOp
text_meaning = record {
  top = 1;
  level = λ _. 1;
  well_formed = IsEdit;
  valid = IsEditOf;
  init = [];
  apply = λ s _ x. edited s x;
  act = λ _ x. x;
  settle = λ s _. s;
  show = λ s. string (encode_utf8_all (map (λ c. c.ch) s));
  good = IsText;
  good_at = IsTextAt;
  holds = λ _ _. ⊥;
  sparing = false;
  plain = true;
}
