use Rattle.std.proofs.Common.{ap, sym, ◌∙◌, arith, Some}
use Rattle.serde_json.specs.Find.{as_str}
use Rattle.action_tables.proofs.Reading.{read_more, read_none}
use Rattle.action_tables.proofs.written.each_text.Goals as goal

pub returns-in_default : goal.returns-in_default
returns-in_default c =
    read_none as_str c.args.values.now c.loop-value.value-index c.value-item.result
    (omega arith) c.value-item.is (sym c.in_default.is ∙ c.in_ok-text.ensures)

pub loop-value-preserved : goal.loop-value-preserved
loop-value-preserved c =
    read_more as_str c.args.values.now c.loop-value.value-index c.value-item.result c.loop-value.texts.items c.in-Some.text
    (omega arith) c.value-item.is c.loop-value.invariant (sym c.in_ok-text.ensures ∙ c.in-Some.is)
    ∙ ap Some (sym c.in_ok-push.ensures.items)
