use Rattle.std.proofs.Common.{◌≡◌, map, take}
use Rattle.serde_json.specs.View.{view}
use Rattle.doc_schema.specs.Canonical.{field_data}
use Rattle.doc_schema.proofs.canonical.fields_value.Given as goal

-- the objects of the fields so far
abbrev pub invariant-loop-field : goal.invariant-loop-field
invariant-loop-field l = map view l.values.items ≡ map field_data (take l.field-index l.field-items)
