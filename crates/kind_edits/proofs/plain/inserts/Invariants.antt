use Rattle.std.proofs.Common.{◌≡◌, map}
use Rattle.kind_edits.specs.PlainEdit.{insert_of}
use Rattle.kind_edits.proofs.plain.inserts.Given as goal

abbrev pub invariant-loop-at : goal.invariant-loop-at
invariant-loop-at l = l.ops ≡ map insert_of l.yielded
