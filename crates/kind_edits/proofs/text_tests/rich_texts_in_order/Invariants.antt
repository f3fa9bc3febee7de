use Rattle.vector_clock.specs.Clock.{IsClock}
use Rattle.rich_text.specs.Marked.{IsRichTextAt}
use Rattle.kind_edits.proofs.text_tests.rich_texts_in_order.Given as goal

abbrev pub invariant-loop-verb : goal.invariant-loop-verb
invariant-loop-verb g l = record {
  clock : IsClock l.clock;
  good : IsRichTextAt 2 l.clock l.state;
}
