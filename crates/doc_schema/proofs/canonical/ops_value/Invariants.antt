use Rattle.std.proofs.Common.{◌≡◌, map, take}
use Rattle.serde_json.specs.View.{view}
use Rattle.doc_schema.specs.Canonical.{ops_from}
use Rattle.doc_schema.proofs.canonical.ops_value.Given as goal

-- the objects of the operations so far
abbrev pub invariant-loop-op : goal.invariant-loop-op
invariant-loop-op l = map view l.values.items ≡ ops_from l.table (take l.op l.ops) 0
