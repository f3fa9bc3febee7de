use Rattle.reset_products.proofs.Cutting.{IsCutting}
use Rattle.reset_products.proofs.cut.clean_cut.Given as goal

abbrev pub invariant-loop-i : goal.invariant-loop-i
invariant-loop-i g l = IsCutting l.k l.entries l.i l.cut l.known l.met
