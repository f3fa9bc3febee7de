-- What the tower of a field was made from: all on which it depends what the tower means.
use Rattle.std.specs.Prelude.{ℕ, length}
use Rattle.action_tables.specs.Table.{ActionTable}
use Rattle.action_tables.specs.declared.tower.TableTower.{TableTower}
use Rattle.flag_crdts.specs.declared.choice.Choice.{Choice}
use Rattle.flag_crdts.specs.declared.flag.Fixed.{Fixed}
use Rattle.flag_crdts.specs.Choice.{size_of}
use Rattle.flag_crdts.specs.Flags.{fixed_table, off_table, on_table}
use Rattle.list_crdt.specs.declared.text.Text.{Text}
use Rattle.map_crdt.specs.declared.keyed.Keyed.{Keyed}
use Rattle.number_crdts.specs.declared.adding.Add.{Add}
use Rattle.number_crdts.specs.declared.multiplying.Mul.{Mul}
use Rattle.register_crdts.specs.declared.latest.Latest.{Latest}
use Rattle.register_crdts.specs.declared.several.Several.{Several}
use Rattle.reset_products.specs.declared.observed.Observed.{Observed}
use Rattle.rich_text.specs.declared.marked.MarkedText.{MarkedText}
use Rattle.rich_text.specs.declared.over.MarkOver.{MarkOver}
use Rattle.semidirect_product.specs.declared.maybe.Maybe.{Maybe}
use Rattle.semidirect_product.specs.declared.reset.WinReset.{WinReset}
use Rattle.semidirect_product.specs.declared.stack.Stack.{Stack}
use Rattle.doc_schema.specs.declared.kind.Field.{Field}
use Rattle.doc_schema.specs.declared.kind.Kind.{Kind}
use Rattle.doc_schema.specs.declared.kind.Kind.TheVariants as kind
use Rattle.doc_schema.specs.declared.kind.Reset.{Reset}
use Rattle.doc_schema.specs.declared.kind.Reset.TheVariants as reset
use Rattle.doc_tower.specs.declared.either.Either.{Either}
use Rattle.doc_tower.specs.declared.either.Either.TheVariants.{Left, Right}
use Rattle.doc_tower.specs.declared.kinds.KindTower.{KindTower}
use Rattle.doc_tower.specs.Kinds.{choice_size}

-- what the tower of a kind was made from
pub data KindShape : Type 0 where
  -- the moduli of additions and of multiplications
  numbers : ℕ → ℕ → KindShape
  on_flag : ActionTable → KindShape
  off_flag : ActionTable → KindShape
  -- how many values there are
  choice : ℕ → KindShape
  table : ActionTable → KindShape
  latest : KindShape
  several : KindShape
  text : KindShape
  tally : ℕ → ℕ → KindShape
  entries : KindShape
  -- how many marks there are for texts, and for ranges
  rich : ℕ → ℕ → KindShape

-- and that of a field
pub record FieldShape : Type 0 where
  pub kind : KindShape
  pub reset : Reset

abbrev pub shaped : KindShape → Reset → FieldShape
shaped k r = record { kind = k; reset = r }

-- ---- As a schema tells

abbrev pub kind_shape : Kind → KindShape
kind_shape (kind.Number m) = numbers m m
kind_shape kind.OnFlag = on_flag on_table
kind_shape kind.OffFlag = off_flag off_table
kind_shape (kind.Choice values) = choice (choice_size values)
kind_shape (kind.Table t states ops) = table t.table
kind_shape kind.Latest = latest
kind_shape kind.Several = several
kind_shape kind.Text = text
kind_shape (kind.Tally m) = tally m m
kind_shape kind.Entries = entries
kind_shape (kind.Rich marks) = rich (length marks) (length marks)

abbrev pub field_shape : Field → FieldShape
field_shape f = shaped (kind_shape f.kind) f.reset

-- ---- Of towers

-- one of all kinds, with these towers of numbers and of rich text
abbrev pub AllKinds : Type 0 → Type 0 → Type 0
AllKinds N R =
    Either (Either (Either (Either N (Fixed 2 3)) (Either (Fixed 2 3) Choice))
    (Either (Either TableTower Latest) (Either Several (Either Text (Either (Keyed N) (Keyed Latest)))))) R

abbrev pub arm_shape : {NS NL NH RS RL RH : Type 0} {nt : _} {na : _} {rt : _} {ra : _}
    → AllKinds (Stack Add Mul NS NL NH nt na) (Stack MarkedText MarkOver RS RL RH rt ra) → KindShape
arm_shape (Left (Left (Left (Left t)))) = numbers t.low.modulus t.high.modulus
arm_shape (Left (Left (Left (Right t)))) = on_flag (fixed_table 2 t.level t.next t.act)
arm_shape (Left (Left (Right (Left t)))) = off_flag (fixed_table 2 t.level t.next t.act)
arm_shape (Left (Left (Right (Right t)))) = choice (size_of t)
arm_shape (Left (Right (Left (Left t)))) = table t.table.table
arm_shape (Left (Right (Left (Right t)))) = latest
arm_shape (Left (Right (Right (Left t)))) = several
arm_shape (Left (Right (Right (Right (Left t))))) = text
arm_shape (Left (Right (Right (Right (Right (Left t)))))) = tally t.part.low.modulus t.part.high.modulus
arm_shape (Left (Right (Right (Right (Right (Right t)))))) = entries
arm_shape (Right t) = rich t.low.marks t.high.marks

abbrev pub tower_shape : KindTower → KindShape
tower_shape t = arm_shape t.arm

-- the tower of a field, with these towers of fields that have a reset
abbrev pub FieldTower : Type 0 → Type 0 → Type 0
FieldTower W O = Either KindTower (Either W O)

abbrev pub field_tower_shape : {WS WL WH OS OL : Type 0} {wt : _} {wa : _} {ot : _}
    → FieldTower (Stack (Maybe KindTower) WinReset WS WL WH wt wa) (Observed KindTower OS OL ot) → FieldShape
field_tower_shape (Left t) = shaped (tower_shape t) reset.Never
field_tower_shape (Right (Left t)) = shaped (tower_shape t.low.part) reset.Winning
field_tower_shape (Right (Right t)) = shaped (tower_shape t.part) reset.Observed
