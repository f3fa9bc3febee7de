use Rattle.std.proofs.Common.{◌≡◌, map, take}
use Rattle.doc_tower.specs.Shapes.{field_shape, field_tower_shape}
use Rattle.doc_tower.proofs.fields.field_towers.Given as goal

abbrev pub invariant-loop-field : goal.invariant-loop-field
invariant-loop-field l = map field_tower_shape l.towers.items ≡ map field_shape (take l.field-index l.fields)
