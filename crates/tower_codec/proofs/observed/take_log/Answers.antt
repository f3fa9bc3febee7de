use Rattle.std.proofs.Common.{sym, ap, ◌∙◌}
use Rattle.wire_core.specs.Reading.{number}
use Rattle.wire_core.specs.Calls.{input_of}
use Rattle.wire_core.specs.Exact.{number_exact}
use Rattle.wire_core.specs.Taken.{taken_rules}
use Rattle.tower_codec.proofs.observed.take_log.Goals as goal

pub take_entries-requires-clause-members : goal.take_entries-requires-clause-members
take_entries-requires-clause-members g c =
    c.requires.members ∙ sym (ap (λ r. r.members) (taken_rules (number 4) (number_exact 4) c.args.from.now c.in_ok-count.count (input_of c.take_u32.new.self) c.requires.inside c.in_ok-count.ensures.0))
