-- What a tower means, by what it was made from.
use Rattle.std.proofs.Common.{◌≡◌, ◌∙◌, List, ap, map, refl, sym}
use Rattle.crdt_laws.specs.Tower.{Meaning}
use Rattle.action_tables.specs.Table.{table_meaning}
use Rattle.direct_product.specs.Row.{row_meaning}
use Rattle.flag_crdts.specs.Choice.{size_of}
use Rattle.flag_crdts.specs.Flags.{fixed_table}
use Rattle.flag_crdts.specs.Ladder.{ladder_meaning}
use Rattle.list_crdt.specs.Text.{text_meaning}
use Rattle.map_crdt.specs.Keyed.{keyed_meaning}
use Rattle.number_crdts.specs.declared.adding.Add.{Add}
use Rattle.number_crdts.specs.declared.multiplying.Mul.{Mul}
use Rattle.number_crdts.specs.Number.{add_meaning, mul_action}
use Rattle.register_crdts.specs.Latest.{latest_meaning}
use Rattle.register_crdts.specs.Several.{several_meaning}
use Rattle.reset_products.specs.declared.observed.Observed.{Observed}
use Rattle.reset_products.specs.Observed.{observed_meaning}
use Rattle.reset_products.specs.Untouched.{winning_meaning}
use Rattle.rich_text.specs.declared.marked.MarkedText.{MarkedText}
use Rattle.rich_text.specs.declared.over.MarkOver.{MarkOver}
use Rattle.rich_text.specs.Over.{stack_of}
use Rattle.semidirect_product.specs.declared.maybe.Maybe.{Maybe}
use Rattle.semidirect_product.specs.declared.reset.WinReset.{WinReset}
use Rattle.semidirect_product.specs.declared.stack.Stack.{Stack}
use Rattle.semidirect_product.specs.Stack.{stack_meaning}
use Rattle.doc_schema.specs.declared.kind.Field.{Field}
use Rattle.doc_schema.specs.declared.kind.Kind.{Kind}
use Rattle.doc_schema.specs.declared.kind.Kind.TheVariants as kind
use Rattle.doc_tower.specs.declared.either.Either.TheVariants.{Left, Right}
use Rattle.doc_tower.specs.declared.kinds.KindOp.{KindOp}
use Rattle.doc_tower.specs.declared.kinds.KindState.{KindState}
use Rattle.doc_tower.specs.declared.kinds.KindTower.{KindTower}
use Rattle.doc_tower.specs.Either.{either_meaning, left_meaning, right_meaning}
use Rattle.doc_tower.specs.Fields.{FieldOp, FieldState, field_meaning, reset_meaning}
use Rattle.doc_tower.specs.Kinds.{AllOps, AllStates, arm_meaning, kind_meaning, sealed}
use Rattle.doc_tower.specs.Shapes.{AllKinds, FieldShape, FieldTower, KindShape, arm_shape, field_shape, field_tower_shape, kind_shape, tower_shape}
use Rattle.doc_tower.specs.Shapes as shape
use Rattle.doc_tower.proofs.Rows.{row_along}

-- ---- Kinds

-- one of all kinds, as the tower of its arm
abbrev pub all_meaning : {NS NL NH RS RL RH : Type 0} {nt : _} {na : _} {rt : _} {ra : _}
    → AllKinds (Stack Add Mul NS NL NH nt na) (Stack MarkedText MarkOver RS RL RH rt ra) → Meaning AllStates AllOps
all_meaning =
    either_meaning (either_meaning
    (either_meaning
    (either_meaning (λ n. stack_meaning (add_meaning n.low.modulus) (mul_action n.high.modulus)) (λ f. table_meaning (fixed_table 2 f.level f.next f.act)))
    (either_meaning (λ f. table_meaning (fixed_table 2 f.level f.next f.act)) (λ c. ladder_meaning (size_of c))))
    (either_meaning
    (either_meaning (λ b. table_meaning b.table.table) (λ _. latest_meaning))
    (either_meaning (λ _. several_meaning)
    (either_meaning (λ _. text_meaning)
    (either_meaning (λ k. keyed_meaning (stack_meaning (add_meaning k.part.low.modulus) (mul_action k.part.high.modulus))) (λ _. keyed_meaning latest_meaning))))))
    (λ r. stack_of r.low.marks r.high.marks)

-- the arm of what it was made from
abbrev shape_meaning : KindShape → Meaning AllStates AllOps
shape_meaning (shape.numbers m n) = left_meaning (left_meaning (left_meaning (left_meaning (stack_meaning (add_meaning m) (mul_action n)))))
shape_meaning (shape.on_flag t) = left_meaning (left_meaning (left_meaning (right_meaning (table_meaning t))))
shape_meaning (shape.off_flag t) = left_meaning (left_meaning (right_meaning (left_meaning (table_meaning t))))
shape_meaning (shape.choice n) = left_meaning (left_meaning (right_meaning (right_meaning (ladder_meaning n))))
shape_meaning (shape.table t) = left_meaning (right_meaning (left_meaning (left_meaning (table_meaning t))))
shape_meaning shape.latest = left_meaning (right_meaning (left_meaning (right_meaning latest_meaning)))
shape_meaning shape.several = left_meaning (right_meaning (right_meaning (left_meaning several_meaning)))
shape_meaning shape.text = left_meaning (right_meaning (right_meaning (right_meaning (left_meaning text_meaning))))
shape_meaning (shape.tally m n) =
    left_meaning (right_meaning (right_meaning (right_meaning (right_meaning (left_meaning (keyed_meaning (stack_meaning (add_meaning m) (mul_action n))))))))
shape_meaning shape.entries = left_meaning (right_meaning (right_meaning (right_meaning (right_meaning (right_meaning (keyed_meaning latest_meaning))))))
shape_meaning (shape.rich m n) = right_meaning (stack_of m n)

module _ {NS NL NH RS RL RH : Type 0} {nt : _} {na : _} {rt : _} {ra : _} where
  arms_mean : (t : AllKinds (Stack Add Mul NS NL NH nt na) (Stack MarkedText MarkOver RS RL RH rt ra)) → all_meaning t ≡ shape_meaning (arm_shape t)
  arms_mean (Left (Left (Left (Left t)))) = refl
  arms_mean (Left (Left (Left (Right t)))) = refl
  arms_mean (Left (Left (Right (Left t)))) = refl
  arms_mean (Left (Left (Right (Right t)))) = refl
  arms_mean (Left (Right (Left (Left t)))) = refl
  arms_mean (Left (Right (Left (Right t)))) = refl
  arms_mean (Left (Right (Right (Left t)))) = refl
  arms_mean (Left (Right (Right (Right (Left t))))) = refl
  arms_mean (Left (Right (Right (Right (Right (Left t)))))) = refl
  arms_mean (Left (Right (Right (Right (Right (Right t)))))) = refl
  arms_mean (Right t) = refl

kinds_mean : (k : Kind) → shape_meaning (kind_shape k) ≡ arm_meaning k
kinds_mean (kind.Number m) = refl
kinds_mean kind.OnFlag = refl
kinds_mean kind.OffFlag = refl
kinds_mean (kind.Choice values) = refl
kinds_mean (kind.Table t states ops) = refl
kinds_mean kind.Latest = refl
kinds_mean kind.Several = refl
kinds_mean kind.Text = refl
kinds_mean (kind.Tally m) = refl
kinds_mean kind.Entries = refl
kinds_mean (kind.Rich marks) = refl

abbrev pub tower_meaning : KindTower → Meaning KindState KindOp
tower_meaning t = sealed (all_meaning t.arm)

-- the tower of a kind means what the kind means
pub tower_means : (t : KindTower) (k : Kind) → tower_shape t ≡ kind_shape k → tower_meaning t ≡ kind_meaning k
tower_means t k fits = ap sealed (arms_mean t.arm ∙ ap shape_meaning fits ∙ kinds_mean k)

-- ---- Fields

abbrev of_shape : FieldShape → Meaning FieldState FieldOp
of_shape s = reset_meaning s.reset (sealed (shape_meaning s.kind))

fields_mean : (f : Field) → of_shape (field_shape f) ≡ field_meaning f
fields_mean f = ap (λ m. reset_meaning f.reset (sealed m)) (kinds_mean f.kind)

module _ {WS WL WH OS OL : Type 0} {wt : _} {wa : _} {ot : _} where
  abbrev pub field_tower_meaning : FieldTower (Stack (Maybe KindTower) WinReset WS WL WH wt wa) (Observed KindTower OS OL ot) → Meaning FieldState FieldOp
  field_tower_meaning = either_meaning tower_meaning (either_meaning (λ w. winning_meaning (tower_meaning w.low.part)) (λ o. observed_meaning (tower_meaning o.part)))

  towers_mean : (t : FieldTower (Stack (Maybe KindTower) WinReset WS WL WH wt wa) (Observed KindTower OS OL ot)) → field_tower_meaning t ≡ of_shape (field_tower_shape t)
  towers_mean (Left t) = ap (λ m. left_meaning (sealed m)) (arms_mean t.arm)
  towers_mean (Right (Left t)) = ap (λ m. right_meaning (left_meaning (winning_meaning (sealed m)))) (arms_mean t.low.part.arm)
  towers_mean (Right (Right t)) = ap (λ m. right_meaning (right_meaning (observed_meaning (sealed m)))) (arms_mean t.part.arm)

  -- the row of the towers of fields means what the fields mean
  pub rows_mean : (ts : List (FieldTower (Stack (Maybe KindTower) WinReset WS WL WH wt wa) (Observed KindTower OS OL ot))) (fs : List Field)
      → map field_tower_shape ts ≡ map field_shape fs → row_meaning field_tower_meaning ts ≡ row_meaning field_meaning fs
  rows_mean ts fs fits =
      ap (λ of. row_meaning of ts) (λ i t. towers_mean t i) ∙ row_along of_shape field_tower_shape ts
      ∙ ap (row_meaning of_shape) fits
      ∙ sym (row_along of_shape field_shape fs) ∙ ap (λ of. row_meaning of fs) (λ i f. fields_mean f i)
