use Rattle.std.proofs.Common.{rules}
use Rattle.wire_core.specs.declared.byte_in.ByteIn.{ByteIn}
use Rattle.wire_core.specs.declared.form.ClockForm.TheVariants.{Sparse}
use Rattle.wire_core.specs.Calls.{IsInside}
use Rattle.wire_core.specs.Taken.{taken_allowed}
use Rattle.format_rows.proofs.op_tests.take_and_put.Goals as goal

pub put_op-requires : goal.put_op-requires
put_op-requires g c =
    let from : ByteIn = record { bytes = c.args.bytes; at = 1; n = 2; form = Sparse } in
    let inside : IsInside from = search rules in
    taken_allowed (g.C.Coder.op_grammar c.args.coder.now c.args.tower.now) (g.met.C.Coder.op_exact c.args.coder.now c.args.tower.now) from c.in_ok-op.op _ inside c.in_ok-op.ensures.0
