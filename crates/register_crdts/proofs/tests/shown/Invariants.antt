use Rattle.register_crdts.proofs.tests.shown.Given as goal

abbrev pub invariant-loop-which : goal.invariant-loop-which
invariant-loop-which g l = (g.T.Tower.meaning l.tower).good 3 l.state
