use Rattle.vector_clock.specs.Clock.{IsClock}
use Rattle.kind_edits.proofs.text_tests.all_applied.Given as goal

abbrev pub invariant-loop-op : goal.invariant-loop-op
invariant-loop-op g l = record {
  clock : IsClock l.clock;
  good : (g.T.Tower.meaning l.tower).good_at l.clock l.state;
}
