use Rattle.std.proofs.Common.{codes, ap}
use Rattle.register_crdts.specs.Several.{several_show}
use Rattle.kind_edits.specs.TextEdit.{register_edit}
use Rattle.kind_edits.proofs.Numbers.{ok_and}
use Rattle.kind_edits.proofs.Registers.{several_state, text_read}
use Rattle.kind_edits.proofs.laws.several_are_set.Goals as goal

pub returns : goal.returns
returns c d s p text short good after = ok_and (register_edit (codes "set") text) text _ (text_read text short) (ap several_show (several_state d s p text good after))
