use Rattle.std.proofs.Common.{codes}
use Rattle.kind_edits.proofs.Accepting.{name_accepted, name_accepts, number_accepted, number_accepts, switch_accepted, switch_accepts, tally_accepted, tally_accepts}
use Rattle.kind_edits.proofs.laws.accepted_edits.Goals as goal

pub returns-clause-number : goal.returns-clause-number
returns-clause-number c m verb rest op = (λ h. number_accepted m verb rest op h, λ h. number_accepts m verb rest op h.0 h.1 h.2 h.3)

pub returns-clause-on_flag : goal.returns-clause-on_flag
returns-clause-on_flag c verb rest op = (λ h. switch_accepted 2 1 verb rest op h, λ h. switch_accepts 2 1 verb rest op h.0 h.1)

pub returns-clause-off_flag : goal.returns-clause-off_flag
returns-clause-off_flag c verb rest op = (λ h. switch_accepted 1 2 verb rest op h, λ h. switch_accepts 1 2 verb rest op h.0 h.1)

pub returns-clause-choice : goal.returns-clause-choice
returns-clause-choice c values verb rest op apart =
    (λ h. name_accepted (codes "set") values verb rest op h, λ h. name_accepts (codes "set") values verb rest op apart h.0 h.1)

pub returns-clause-table : goal.returns-clause-table
returns-clause-table c ops verb rest op apart =
    (λ h. name_accepted (codes "do") ops verb rest op h, λ h. name_accepts (codes "do") ops verb rest op apart h.0 h.1)

pub returns-clause-tally : goal.returns-clause-tally
returns-clause-tally c m verb rest op =
    (λ h. tally_accepted m verb rest op h, λ h. tally_accepts m verb rest op h.0 h.1 h.2 h.3 h.4 h.5)
