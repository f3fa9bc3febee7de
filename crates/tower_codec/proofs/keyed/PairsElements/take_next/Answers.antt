use Rattle.std.proofs.Common.{sym, ap, ◌∙◌}
use Rattle.wire_core.specs.Calls.{input_of}
use Rattle.wire_core.specs.Taken.{taken_rules}
use Rattle.tower_codec.specs.Keyed.{next_map_key, next_key_exact}
use Rattle.tower_codec.proofs.keyed.PairsElements.take_next.Goals as goal

pub take_state-requires-clause-members : goal.take_state-requires-clause-members
take_state-requires-clause-members g c =
    c.requires.members.1 ∙ sym (ap (λ r. r.members) (taken_rules (next_map_key c.args.before.now) (next_key_exact c.args.before.now) c.args.from.now c.in_ok-key.key (input_of c.take_next_key.new.from) c.requires.inside c.in_ok-key.ensures.0))
