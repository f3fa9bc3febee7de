use Rattle.vector_clock.specs.Clock.{IsClock}
use Rattle.list_crdt.specs.Text.{IsTextAt}
use Rattle.kind_edits.proofs.text_tests.full_in_the_middle.Given as goal

abbrev pub invariant-loop-i : goal.invariant-loop-i
invariant-loop-i g l = record {
  clock : IsClock l.clock;
  good : IsTextAt l.clock l.state;
}
