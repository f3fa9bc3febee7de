use Rattle.std.proofs.Common.{rules}
use Rattle.wire_core.specs.declared.byte_in.ByteIn.{ByteIn}
use Rattle.wire_core.specs.declared.form.ClockForm.TheVariants.{Sparse}
use Rattle.wire_core.specs.Calls.{IsInside}
use Rattle.wire_core.specs.Small.{text_grammar, map_key_grammar}
use Rattle.wire_core.specs.SmallExact.{text_exact, map_key_exact}
use Rattle.wire_core.specs.Taken.{taken_allowed}
use Rattle.wire_core.proofs.tests.take_and_put_text.Goals as goal

pub put_text-requires : goal.put_text-requires
put_text-requires c =
    let from : ByteIn = record { bytes = c.args.bytes; at = 1; n = 3; form = Sparse } in
    let inside : IsInside from = search rules in
    taken_allowed text_grammar text_exact from c.in_ok-text-in-Text.text _ inside c.in_ok-text-in-Text.ensures.0

pub put_map_key-requires : goal.put_map_key-requires
put_map_key-requires c =
    let from : ByteIn = record { bytes = c.args.bytes; at = 1; n = 3; form = Sparse } in
    let inside : IsInside from = search rules in
    taken_allowed map_key_grammar map_key_exact from c.in_ok-key-in-MapKey.key _ inside c.in_ok-key-in-MapKey.ensures.0
