use Rattle.std.proofs.Common.{sym, subst}
use Rattle.wire_core.specs.Reading.{number}
use Rattle.wire_core.specs.Calls.{input_of}
use Rattle.wire_core.specs.Exact.{number_exact}
use Rattle.wire_core.specs.Taken.{taken_rules}
use Rattle.wire_core.proofs.elements.take_listed.Goals as goal

pub take_each-requires-clause-members : goal.take_each-requires-clause-members
take_each-requires-clause-members g c =
    subst (λ r. g.E.Elements.reads c.args.elements.now r.members)
    (sym (taken_rules (number 4) (number_exact 4) c.args.from.now c.in_ok-count.count (input_of c.take_u32.new.self) c.requires.inside c.in_ok-count.ensures.0)) c.requires.members
