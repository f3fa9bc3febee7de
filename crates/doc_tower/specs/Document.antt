-- What a document means as a tower, by its schema: a row of its fields, under a reset of the whole document that wins.
use Rattle.std.specs.Prelude.{List}
use Rattle.crdt_laws.specs.Tower.{Meaning}
use Rattle.direct_product.specs.declared.row.RowOp.{RowOp}
use Rattle.direct_product.specs.Row.{row_meaning}
use Rattle.reset_products.specs.Untouched.{WinningOp, winning_meaning}
use Rattle.doc_schema.specs.Schema.{SchemaParts}
use Rattle.doc_tower.specs.Fields.{FieldOp, FieldState, field_meaning}
use Rattle.doc_tower.specs.Shown.{fields_data}

abbrev pub DocState : Type 0
DocState = List FieldState

abbrev pub DocOp : Type 0
DocOp = WinningOp (RowOp FieldOp)

-- the fields in a row, which are shown as an array
abbrev pub rows_meaning : SchemaParts → Meaning DocState DocOp
rows_meaning s = winning_meaning (row_meaning field_meaning s.fields)

-- a document is shown as the object of its fields
abbrev pub doc_meaning : SchemaParts → Meaning DocState DocOp
doc_meaning s = record (rows_meaning s) { show = fields_data s.fields }
