use Rattle.vector_clock.specs.Clock.{IsClock}
use Rattle.list_crdt.specs.Text.{IsTextAt}
use Rattle.kind_edits.proofs.text_tests.texts_in_order.Given as goal

abbrev pub invariant-loop-verb : goal.invariant-loop-verb
invariant-loop-verb g l = record {
  clock : IsClock l.clock;
  good : IsTextAt l.clock l.state;
}
