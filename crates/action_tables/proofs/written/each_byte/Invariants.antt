use Rattle.std.proofs.Common.{◌≡◌, map, take, Some}
use Rattle.serde_json.specs.View.{view}
use Rattle.action_tables.specs.TableText.{each_of, byte_of}
use Rattle.action_tables.proofs.written.each_byte.Given as goal

-- the values so far were read
abbrev pub invariant-loop-value : goal.invariant-loop-value
invariant-loop-value l = each_of byte_of (map view (take l.value-index l.values)) ≡ Some l.bytes.items
