use Rattle.std.proofs.Common.{◌≡◌}
use Rattle.list_crdt.specs.Text.{IsText}
use Rattle.list_crdt.proofs.tests.typed.Given as goal

abbrev pub invariant-loop-place : goal.invariant-loop-place
invariant-loop-place l = record {
  text : IsText 2 l.state;
  count : l.seq ≡ l.place-index;
}
