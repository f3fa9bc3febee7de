use Rattle.std.proofs.Common.{codes, ap}
use Rattle.register_crdts.specs.Latest.{latest_show}
use Rattle.kind_edits.specs.TextEdit.{register_edit}
use Rattle.kind_edits.proofs.Numbers.{ok_and}
use Rattle.kind_edits.proofs.Registers.{known_sets, set_state, text_read}
use Rattle.kind_edits.proofs.laws.latest_is_set.Goals as goal

pub returns-clause-set : goal.returns-clause-set
returns-clause-set c s p text short less = ok_and (register_edit (codes "set") text) text _ (text_read text short) (ap latest_show (set_state s p text less))

pub returns-clause-known : goal.returns-clause-known
returns-clause-known c xs p all = known_sets xs p all
