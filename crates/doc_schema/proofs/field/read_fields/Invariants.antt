use Rattle.std.proofs.Common.{◌≡◌, [], drop, length, map, Result}
use Rattle.std.specs.List.{All}
use Rattle.serde_json.specs.View.{view}
use Rattle.doc_schema.specs.Schema.{FieldsResult, field_names}
use Rattle.doc_schema.specs.Sound.{IsSoundField}
use Rattle.doc_schema.specs.declared.fault.SchemaError.{SchemaError}
use Rattle.doc_schema.specs.declared.kind.Field.{Field}
use Rattle.std.specs.Prelude.{List}
use Rattle.doc_schema.proofs.field.read_fields.Given as goal

-- what the rest of the values gives after these fields is what all of them give
abbrev pub invariant-loop-value : goal.invariant-loop-value
invariant-loop-value l = record {
  kept : (r : Result (List Field) SchemaError) → FieldsResult l.list (map view (drop l.value-index l.values)) r → FieldsResult [] (map view l.values) r;
  places : l.places ≡ field_names l.list;
  sound : All IsSoundField l.list;
  count : length l.list ≡ l.value-index;
}
