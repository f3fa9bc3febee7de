use Rattle.std.proofs.Common.{sym, subst}
use Rattle.wire_core.specs.Calls.{rules_of}
use Rattle.wire_core.specs.Reading.{Rules}
use Rattle.format_rows.proofs.long_tests.put_ops.Goals as goal

pub put_op-requires : goal.put_op-requires
put_op-requires g c =
    let of = g.C.Coder.op_grammar c.args.coder.now c.args.tower.now in
    let x = c.op-item.result in
    subst (λ (r : Rules). of.allows r x) (sym c.loop-op.invariant)
    (subst (λ y. of.allows (rules_of c.args.out.now) y) (sym c.op-item.is) (c.requires c.loop-op.op-index x c.loop-op-test.true))
