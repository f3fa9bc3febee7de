use Rattle.std.proofs.Common.{◌∙◌}
use Rattle.kind_edits.proofs.Reading.{signed_parsed, signed_only}
use Rattle.kind_edits.proofs.spelled.signed_of.Goals as goal

pub returns-then-is_signed : goal.returns-then-is_signed
returns-then-is_signed c = c.ok.ensures.value ∙ signed_parsed c.args.text.now c.parse.result c.parse.ensures.value.0 (cc)

pub returns-else-is_signed : goal.returns-else-is_signed
returns-else-is_signed c = signed_only c.args.text.now (cc)
