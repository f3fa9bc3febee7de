use Rattle.std.proofs.Common.{ap, sym, ◌∙◌, arith, Some}
use Rattle.action_tables.specs.TableText.{byte_of}
use Rattle.action_tables.proofs.Reading.{read_more, read_none}
use Rattle.action_tables.proofs.written.each_byte.Goals as goal

pub returns-in_default : goal.returns-in_default
returns-in_default c =
    read_none byte_of c.args.values.now c.loop-value.value-index c.value-item.result
    (omega arith) c.value-item.is c.in_default.ensures

pub loop-value-preserved : goal.loop-value-preserved
loop-value-preserved c =
    read_more byte_of c.args.values.now c.loop-value.value-index c.value-item.result c.loop-value.bytes.items c.in-Some.byte
    (omega arith) c.value-item.is c.loop-value.invariant (sym c.in-Some.ensures)
    ∙ ap Some (sym c.in_ok-push.ensures.items)
