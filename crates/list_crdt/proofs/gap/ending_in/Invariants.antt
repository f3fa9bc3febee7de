use Rattle.std.proofs.Common.{◌≡◌}
use Rattle.list_crdt.specs.Between.{padded}
use Rattle.list_crdt.proofs.gap.ending_in.Given as goal

abbrev pub invariant-loop-i : goal.invariant-loop-i
invariant-loop-i l = l.steps.items ≡ padded l.i l.p
