-- The letters of a text that is put between two positions.
use Rattle.std.specs.Prelude.{ℕ, ◌+◌, ◌-◌, List, [], ◌∷◌, length, nat_le, Option, Some, Result, Ok}
use Rattle.std.specs.Option.{option_or}
use Rattle.list_crdt.specs.declared.position.Step.{Step}
use Rattle.list_crdt.specs.declared.text.Cell.{Cell}
use Rattle.list_crdt.specs.Between.{position_between}
use Rattle.list_crdt.specs.Position.{max_steps}
use Rattle.list_crdt.specs.Text.{place}
use Rattle.kind_edits.specs.declared.fault.EditError.{EditError}
use Rattle.kind_edits.specs.declared.fault.EditError.TheVariants.{PositionFull}
use Rattle.kind_edits.specs.Rules.{demands, follows}

-- the position of the last of the letters, or the lower one where there is none
abbrev pub last_place : Option (List Step) → List Cell → Option (List Step)
last_place low cells = option_or (place cells (length cells - 1)) low

-- Letters between two positions, which may be absent, put there by operations of one member, one for each letter. The first operation
-- has this sequence number, and each further one the next. Each letter stands between the one before it and the upper position. The
-- first one whose position would have too many steps refuses them all.
module _ (member : ℕ) (high : Option (List Step)) where
  abbrev pub letters_between : ℕ → Option (List Step) → List ℕ → Result (List Cell) EditError
  letters_between seq low [] = Ok []
  letters_between seq low (ch ∷ chs) =
      let at = position_between member seq low high in
      demands (nat_le (length at) max_steps) (PositionFull (length at)) (
      follows (letters_between (seq + 1) (Some at) chs) (λ cells.
      Ok (record { at = at; ch = ch } ∷ cells)))
