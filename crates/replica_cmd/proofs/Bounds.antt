-- How many lines a script has, and that the operation of a command is one of 64 bits.
use Rattle.std.proofs.Common.{ℕ, ◌+◌, ◌^◌, ◌<◌, ◌≤◌, ◌==◌, List, length, map, arith}
use Rattle.std.specs.List.{slice_split}
use Rattle.std.specs.Str.Lines.{strip_carriage_return}
use Rattle.std.proofs.lemmas.List.{length-map}
use Rattle.std.proofs.lemmas.List.Sums.{length-filter, count_by-le-length}
use Rattle.std.proofs.lemmas.List.Splits.{length-slice_split}
use Rattle.lab_model.specs.declared.command.Verb.{Verb}
use Rattle.lab_model.specs.declared.command.Verb.TheVariants.{Add, Mul}
use Rattle.lab_model.specs.Line.{is_run, lines_of}
use Rattle.vector_clock.specs.declared.stamp.Stamp.{Stamp}
use Rattle.crdt_laws.specs.Tower.{IsWithin}
use Rattle.semidirect_product.specs.declared.stack.StackOp.TheVariants.{Low, High}
use Rattle.replica_cmd.specs.Number.{number_op}
use Rattle.number_crdts.specs.Number.{number_meaning, NumberOp}

pub length-lines_of : (script : List ℕ) → length (lines_of script) ≤ length script + 1
length-lines_of script =
    let is_feed = λ (b : ℕ). b == 10 in
    let pieces = slice_split is_feed script in
    let lines = map strip_carriage_return pieces in
    omega (arith, length-filter is_run lines, count_by-le-length is_run lines, length-map pieces strip_carriage_return, length-slice_split is_feed script, count_by-le-length is_feed script)

-- the operation of an amount below 2^64
pub word_op : (verb : Verb) (amount : ℕ) → amount < 2 ^ 64 → (number_meaning 0).well_formed (number_op verb amount)
word_op Add amount h = h
word_op Mul amount h = h

-- a well formed operation may be issued at each stamp within the limits
pub valid_op : (p : Stamp) (x : NumberOp) → IsWithin p → (number_meaning 0).well_formed x → (number_meaning 0).valid p x
valid_op p (Low x) h w = record { within = h; residue = w }
valid_op p (High x) h w = record { within = h; residue = w }
