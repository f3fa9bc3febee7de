use Rattle.action_tables.specs.TableLaws.{table_lawful}
use Rattle.action_tables.proofs.laws.table_is_lawful.Goals as goal

pub returns-clause-tower : goal.returns-clause-tower
returns-clause-tower c = table_lawful c.args.table.now.table c.args.table.now.well_formed c.args.table.now.laws
