use Rattle.std.proofs.Common.{sym, ap, ◌∙◌}
use Rattle.wire_core.specs.Reading.{number}
use Rattle.wire_core.specs.Calls.{input_of}
use Rattle.wire_core.specs.Exact.{number_exact}
use Rattle.wire_core.specs.Taken.{taken_rules}
use Rattle.kind_codec.proofs.register.LatestCoderCoderLatest.take_state.Goals as goal

pub take_set-requires-clause-members : goal.take_set-requires-clause-members
take_set-requires-clause-members c =
    c.requires.members ∙ sym (ap (λ r. r.members) (taken_rules (number 1) (number_exact 1) c.args.from.now c.in_ok-take_u8.field-0 (input_of c.take_u8.new.self) c.requires.inside c.in_ok-take_u8.ensures.0))
