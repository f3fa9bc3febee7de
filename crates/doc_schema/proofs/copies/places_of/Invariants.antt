use Rattle.std.proofs.Common.{◌≡◌, take}
use Rattle.doc_schema.specs.Schema.{field_names}
use Rattle.doc_schema.proofs.copies.places_of.Given as goal

abbrev pub invariant-loop-field : goal.invariant-loop-field
invariant-loop-field l = l.places ≡ field_names (take l.field-index l.fields)
