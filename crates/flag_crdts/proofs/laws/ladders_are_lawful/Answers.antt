use Rattle.action_tables.proofs.Cases.{none_broken}
use Rattle.flag_crdts.specs.Ladder.{ladder_table}
use Rattle.flag_crdts.proofs.LadderTable.{act_at, is_table, keeps_laws, level_at, next_at}
use Rattle.flag_crdts.proofs.laws.ladders_are_lawful.Goals as goal

pub returns-clause-table : goal.returns-clause-table
returns-clause-table c = is_table

pub returns-clause-lawful : goal.returns-clause-lawful
returns-clause-lawful c = λ n size. (none_broken (ladder_table n)).1 (keeps_laws n size)

pub returns-clause-level : goal.returns-clause-level
returns-clause-level c = level_at

pub returns-clause-next : goal.returns-clause-next
returns-clause-next c = next_at

pub returns-clause-act : goal.returns-clause-act
returns-clause-act c = act_at
