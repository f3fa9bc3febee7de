use Rattle.std.proofs.Common.{ap, sym, ◌∙◌, arith, Some}
use Rattle.action_tables.specs.TableText.{op_of}
use Rattle.action_tables.proofs.Reading.{read_more, read_none}
use Rattle.action_tables.proofs.written.each_op.Goals as goal

pub returns-in_default : goal.returns-in_default
returns-in_default c =
    read_none op_of c.args.values.now c.loop-value.value-index c.value-item.result
    (omega arith) c.value-item.is (sym c.in_default.is ∙ c.in_ok-op.ensures)

pub loop-value-preserved : goal.loop-value-preserved
loop-value-preserved c =
    read_more op_of c.args.values.now c.loop-value.value-index c.value-item.result c.loop-value.ops.items c.in-Some.op
    (omega arith) c.value-item.is c.loop-value.invariant (sym c.in_ok-op.ensures ∙ c.in-Some.is)
    ∙ ap Some (sym c.in_ok-push.ensures.items)
