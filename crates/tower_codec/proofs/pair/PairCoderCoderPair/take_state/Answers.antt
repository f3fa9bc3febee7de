use Rattle.std.proofs.Common.{sym, ap, ◌∙◌}
use Rattle.wire_core.specs.Calls.{input_of}
use Rattle.wire_core.specs.Taken.{taken_rules}
use Rattle.tower_codec.proofs.pair.PairCoderCoderPair.take_state.Goals as goal

pub take_state-requires-2-clause-members : goal.take_state-requires-2-clause-members
take_state-requires-2-clause-members g c =
    let left = g.L.Coder.state_grammar c.args.self.now.left c.args.tower.now.left c.args.d.now in
    let exact = g.met.L.Coder.state_exact c.args.self.now.left c.args.tower.now.left c.args.d.now in
    c.requires.members ∙ sym (ap (λ r. r.members) (taken_rules left exact c.args.from.now c.in_ok-left.left (input_of c.take_state.new.from) c.requires.inside c.in_ok-left.ensures.0))
