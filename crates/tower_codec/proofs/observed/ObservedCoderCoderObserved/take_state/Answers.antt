use Rattle.std.proofs.Common.{sym, ap, ◌∙◌}
use Rattle.wire_core.specs.Calls.{input_of}
use Rattle.wire_core.specs.Taken.{taken_rules}
use Rattle.tower_codec.proofs.observed.ObservedCoderCoderObserved.take_state.Goals as goal

pub take_log-requires-clause-members : goal.take_log-requires-clause-members
take_log-requires-clause-members g c =
    let base = g.C.Coder.state_grammar c.args.self.now.part c.args.tower.now.part c.args.d.now in
    let exact = g.met.C.Coder.state_exact c.args.self.now.part c.args.tower.now.part c.args.d.now in
    c.requires.members ∙ sym (ap (λ r. r.members) (taken_rules base exact c.args.from.now c.in_ok-base.base (input_of c.take_state.new.from) c.requires.inside c.in_ok-base.ensures.0))
