use Rattle.wire_core.specs.Exact.{one_spelling}
use Rattle.wire_core.proofs.laws.one_spelling_of_state.Goals as goal

pub returns : goal.returns
returns g c = λ d. one_spelling (g.C.Coder.state_grammar c.args.coder.now c.args.tower.now d) (g.met.C.Coder.state_exact c.args.coder.now c.args.tower.now d)
