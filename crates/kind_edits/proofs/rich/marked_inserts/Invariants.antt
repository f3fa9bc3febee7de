use Rattle.std.proofs.Common.{◌≡◌, map}
use Rattle.kind_edits.specs.RichEdit.{marked_insert}
use Rattle.kind_edits.proofs.rich.marked_inserts.Given as goal

abbrev pub invariant-loop-at : goal.invariant-loop-at
invariant-loop-at l = l.ops ≡ map (marked_insert l.marks) l.yielded
