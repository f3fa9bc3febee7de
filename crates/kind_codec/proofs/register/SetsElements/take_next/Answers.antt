use Rattle.std.proofs.lemmas.List.Elements.{All-from_recursion}
use Rattle.vector_clock.specs.Stamp.{IsStamp}
use Rattle.wire_core.specs.Calls.{input_of}
use Rattle.kind_codec.specs.Registers.{helds_are_stamped}
use Rattle.kind_codec.proofs.register.SetsElements.take_next.Goals as goal

pub take_next_stamp-requires-clause-stamps : goal.take_next_stamp-requires-clause-stamps
take_next_stamp-requires-clause-stamps c =
    let clock = c.requires.members in
    All-from_recursion (λ h. IsStamp h.stamp) c.args.before.now (helds_are_stamped (input_of c.args.from.now).rules c.args.self.now.d.now clock.0 clock.1 c.args.before.now c.requires.before)
