use Rattle.std.proofs.Common.{rules}
use Rattle.wire_core.specs.declared.byte_in.ByteIn.{ByteIn}
use Rattle.wire_core.specs.Calls.{IsInside}
use Rattle.wire_core.specs.Taken.{taken_allowed}
use Rattle.wire_core.proofs.tests.take_and_put.Goals as goal

pub put-requires : goal.put-requires
put-requires g c =
    let from : ByteIn = record { bytes = c.args.bytes; at = 1; n = 3; form = c.args.form } in
    let inside : IsInside from = search rules in
    taken_allowed g.W.Wire.grammar g.met.W.Wire.exact from c.in_ok-value.value _ inside c.in_ok-value.ensures.0
