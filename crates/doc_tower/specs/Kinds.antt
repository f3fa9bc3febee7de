-- What the kinds of fields mean as towers. Each kind is one of eleven arms, in the order in which schemas tell them.
use Rattle.std.specs.Prelude.{ℕ, List, length, max, min, Option}
use Rattle.crdt_laws.specs.Tower.{Meaning}
use Rattle.number_crdts.specs.Number.{NumberOp, number_meaning}
use Rattle.action_tables.specs.Table.{table_meaning}
use Rattle.flag_crdts.specs.Flags.{off_table, on_table}
use Rattle.flag_crdts.specs.Ladder.{ladder_meaning}
use Rattle.register_crdts.specs.declared.latest.Set.{Set}
use Rattle.register_crdts.specs.declared.several.Held.{Held}
use Rattle.register_crdts.specs.Latest.{latest_meaning}
use Rattle.register_crdts.specs.Several.{several_meaning}
use Rattle.list_crdt.specs.declared.text.Cell.{Cell}
use Rattle.list_crdt.specs.declared.text.TextOp.{TextOp}
use Rattle.list_crdt.specs.Text.{text_meaning}
use Rattle.map_crdt.specs.declared.keyed.KeyOp.{KeyOp}
use Rattle.map_crdt.specs.declared.keyed.KeyState.{KeyState}
use Rattle.map_crdt.specs.Keyed.{keyed_meaning}
use Rattle.semidirect_product.specs.declared.stack.StackOp.{StackOp}
use Rattle.rich_text.specs.declared.marked.RichCell.{RichCell}
use Rattle.rich_text.specs.declared.marked.RichOp.{RichOp}
use Rattle.rich_text.specs.declared.over.MarkRange.{MarkRange}
use Rattle.rich_text.specs.Over.{rich_meaning}
use Rattle.doc_schema.specs.declared.kind.Kind.{Kind}
use Rattle.doc_schema.specs.declared.kind.Kind.TheVariants as kind
use Rattle.doc_tower.specs.declared.either.Either.{Either}
use Rattle.doc_tower.specs.declared.kinds.KindOp.{KindOp}
use Rattle.doc_tower.specs.declared.kinds.KindState.{KindState}
use Rattle.doc_tower.specs.Either.{left_meaning, right_meaning}

-- ---- States and operations

-- of numbers, of the two flags, and of choices
abbrev pub FirstStates : Type 0
FirstStates = Either (Either ℕ ℕ) (Either ℕ ℕ)

abbrev pub FirstOps : Type 0
FirstOps = Either (Either NumberOp ℕ) (Either ℕ ℕ)

-- of tallies, and of entries
abbrev pub MapStates : Type 0
MapStates = Either (List (KeyState ℕ)) (List (KeyState (Option Set)))

abbrev pub MapOps : Type 0
MapOps = Either (KeyOp NumberOp) (KeyOp (List ℕ))

-- of tables, of the two registers, of texts, and of maps
abbrev pub LastStates : Type 0
LastStates = Either (Either ℕ (Option Set)) (Either (List Held) (Either (List Cell) MapStates))

abbrev pub LastOps : Type 0
LastOps = Either (Either ℕ (List ℕ)) (Either (List ℕ) (Either TextOp MapOps))

-- of all these, and of rich text
abbrev pub AllStates : Type 0
AllStates = Either (Either FirstStates LastStates) (List RichCell)

abbrev pub AllOps : Type 0
AllOps = Either (Either FirstOps LastOps) (StackOp RichOp MarkRange)

-- ---- Kinds

-- how many values a choice has: 2 to 8
abbrev pub choice_size : List (List ℕ) → ℕ
choice_size values = max 2 (min 8 (length values))

-- the kind as an arm of all
abbrev pub arm_meaning : Kind → Meaning AllStates AllOps
arm_meaning (kind.Number m) = left_meaning (left_meaning (left_meaning (left_meaning (number_meaning m))))
arm_meaning kind.OnFlag = left_meaning (left_meaning (left_meaning (right_meaning (table_meaning on_table))))
arm_meaning kind.OffFlag = left_meaning (left_meaning (right_meaning (left_meaning (table_meaning off_table))))
arm_meaning (kind.Choice values) = left_meaning (left_meaning (right_meaning (right_meaning (ladder_meaning (choice_size values)))))
arm_meaning (kind.Table t states ops) = left_meaning (right_meaning (left_meaning (left_meaning (table_meaning t.table))))
arm_meaning kind.Latest = left_meaning (right_meaning (left_meaning (right_meaning latest_meaning)))
arm_meaning kind.Several = left_meaning (right_meaning (right_meaning (left_meaning several_meaning)))
arm_meaning kind.Text = left_meaning (right_meaning (right_meaning (right_meaning (left_meaning text_meaning))))
arm_meaning (kind.Tally m) = left_meaning (right_meaning (right_meaning (right_meaning (right_meaning (left_meaning (keyed_meaning (number_meaning m)))))))
arm_meaning kind.Entries = left_meaning (right_meaning (right_meaning (right_meaning (right_meaning (right_meaning (keyed_meaning latest_meaning))))))
arm_meaning (kind.Rich marks) = right_meaning (rich_meaning (length marks))

-- a tower of all kinds, whose states and operations are those of the type of their own
abbrev pub sealed : Meaning AllStates AllOps → Meaning KindState KindOp
sealed m = record {
  top = m.top;
  level = λ x. m.level x.arm;
  well_formed = λ x. m.well_formed x.arm;
  valid = λ p x. m.valid p x.arm;
  init = record { arm = m.init };
  apply = λ s p x. record { arm = m.apply s.arm p x.arm };
  act = λ y x. record { arm = m.act y.arm x.arm };
  settle = λ s k. record { arm = m.settle s.arm k };
  show = λ s. m.show s.arm;
  good = λ n s. m.good n s.arm;
  good_at = λ d s. m.good_at d s.arm;
  holds = λ s p. m.holds s.arm p;
  sparing = m.sparing;
  plain = m.plain;
}

abbrev pub kind_meaning : Kind → Meaning KindState KindOp
kind_meaning k = sealed (arm_meaning k)
