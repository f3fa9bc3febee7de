-- The levels of kinds, of fields and of documents are few.
use Rattle.std.proofs.Common.{◌≤◌, ◌<◌, ℕ, suc, List, [], ◌∷◌, arith, length, slice_index}
use Rattle.crdt_laws.specs.Tower.{Meaning}
use Rattle.action_tables.specs.Table.{greatest}
use Rattle.direct_product.specs.Row.{top_of}
use Rattle.doc_schema.specs.declared.kind.Field.{Field}
use Rattle.doc_schema.specs.declared.kind.Kind.{Kind}
use Rattle.doc_schema.specs.declared.kind.Kind.TheVariants as kind
use Rattle.doc_schema.specs.declared.kind.Reset.{Reset}
use Rattle.doc_schema.specs.declared.kind.Reset.TheVariants.{Never, Winning, Observed}
use Rattle.doc_tower.specs.declared.kinds.KindOp.{KindOp}
use Rattle.doc_tower.specs.declared.kinds.KindState.{KindState}
use Rattle.doc_tower.specs.Fields.{field_meaning, reset_meaning}
use Rattle.doc_tower.specs.Kinds.{kind_meaning}

greatest_low : (xs : List ℕ) → ((i : ℕ) → i < length xs → slice_index xs i ≤ 8) → greatest xs ≤ 8
greatest_low [] h = omega arith
greatest_low (x ∷ xs) h =
    let head : x ≤ 8 = h 0 (omega arith) in
    let tail : greatest xs ≤ 8 = greatest_low xs (λ i below. h (suc i) (omega (arith, below))) in
    omega (arith, head, tail)

pub kind_top : (k : Kind) → (kind_meaning k).top ≤ 8
kind_top (kind.Number m) = omega arith
kind_top kind.OnFlag = omega arith
kind_top kind.OffFlag = omega arith
kind_top (kind.Choice values) = omega arith
kind_top (kind.Table t states ops) = greatest_low t.table.level t.well_formed.levels.high
kind_top kind.Latest = omega arith
kind_top kind.Several = omega arith
kind_top kind.Text = omega arith
kind_top (kind.Tally m) = omega arith
kind_top kind.Entries = omega arith
kind_top (kind.Rich marks) = omega arith

reset_top : (r : Reset) (m : Meaning KindState KindOp) → m.top ≤ 8 → (reset_meaning r m).top ≤ 9
reset_top Never m h = omega (arith, h)
reset_top Winning m h = omega (arith, h)
reset_top Observed m h = omega arith

pub rows_top : (fs : List Field) → top_of field_meaning fs ≤ 9
rows_top [] = omega arith
rows_top (f ∷ fs) =
    let head : (field_meaning f).top ≤ 9 = reset_top f.reset (kind_meaning f.kind) (kind_top f.kind) in
    let tail : top_of field_meaning fs ≤ 9 = rows_top fs in
    omega (arith, head, tail)
