use Rattle.std.proofs.Common.{ap, sym, ◌∙◌, option_map, unwrap_or}
use Rattle.action_tables.specs.TableText.{member_count}
use Rattle.action_tables.proofs.Reading.{count-members_view}
use Rattle.action_tables.proofs.written.count_keys.Goals as goal

pub returns-in-Some : goal.returns-in-Some
returns-in-Some c =
    c.len.ensures.len ∙ sym (count-members_view c.in-Some.members.now.entries)
    ∙ ap (λ o. unwrap_or (option_map member_count o) 0) c.in-Some.ensures
