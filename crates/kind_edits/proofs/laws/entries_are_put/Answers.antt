use Rattle.std.proofs.Common.{Some, codes, ap, ◌∙◌}
use Rattle.map_crdt.specs.Keyed.{at_key, state_at}
use Rattle.register_crdts.specs.Latest.{latest_meaning, latest_show}
use Rattle.kind_edits.specs.KeyEdit.{entry_edit}
use Rattle.kind_edits.proofs.Numbers.{ok_and}
use Rattle.kind_edits.proofs.Registers.{known_puts, set_state}
use Rattle.kind_edits.proofs.Tallies.{entry_key, entry_read, others_shown, shown_here}
use Rattle.kind_edits.proofs.laws.entries_are_put.Goals as goal

pub returns-clause-put : goal.returns-clause-put
returns-clause-put c es rest key text p cut short small less =
    ok_and (entry_edit (codes "put") rest) (at_key key text) _ (entry_read rest key text cut short small)
    (shown_here latest_meaning es key p text ∙ ap (λ s. Some (latest_show s)) (set_state (state_at latest_meaning es key) p text less))

pub returns-clause-others : goal.returns-clause-others
returns-clause-others c es verb rest key text k p cut differ =
    others_shown latest_meaning es key k p differ (entry_edit verb rest) (entry_key verb rest key text cut)

pub returns-clause-known : goal.returns-clause-known
returns-clause-known c xs key p all = known_puts key p xs all
