use Rattle.action_tables.proofs.Cases.{none_broken}
use Rattle.flag_crdts.specs.Flags.{off_table, on_table}
use Rattle.flag_crdts.proofs.FlagTables.{off_is_table, off_keeps_laws, on_is_table, on_keeps_laws}
use Rattle.flag_crdts.proofs.laws.flags_are_lawful.Goals as goal

pub returns-clause-on : goal.returns-clause-on
returns-clause-on c = on_is_table

pub returns-clause-on_lawful : goal.returns-clause-on_lawful
returns-clause-on_lawful c = (none_broken on_table).1 on_keeps_laws

pub returns-clause-off : goal.returns-clause-off
returns-clause-off c = off_is_table

pub returns-clause-off_lawful : goal.returns-clause-off_lawful
returns-clause-off_lawful c = (none_broken off_table).1 off_keeps_laws
