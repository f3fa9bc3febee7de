use Rattle.compositions.proofs.tests.after_all.Given as goal

abbrev pub invariant-loop-op : goal.invariant-loop-op
invariant-loop-op g l = (g.T.Tower.meaning l.tower).good 3 l.state
