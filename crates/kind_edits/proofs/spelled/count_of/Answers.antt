use Rattle.std.proofs.Common.{◌∙◌}
use Rattle.kind_edits.proofs.Reading.{count_parsed}
use Rattle.kind_edits.proofs.spelled.count_of.Goals as goal

pub returns-then-is_numeral : goal.returns-then-is_numeral
returns-then-is_numeral c = c.ok.ensures.value ∙ count_parsed c.args.text.now c.parse.result c.parse.ensures.value.0 (cc)
