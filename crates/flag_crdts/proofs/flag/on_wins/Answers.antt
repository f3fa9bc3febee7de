use Rattle.std.proofs.Common.{rules}
use Rattle.flag_crdts.proofs.FlagTables.{on_is_table, on_keeps_laws}
use Rattle.flag_crdts.proofs.flag.on_wins.Goals as goal

pub invariant_of-result : goal.invariant_of-result
invariant_of-result c = record {
  rows = record { next_rows = search rules; act_rows = search rules };
  table = on_is_table;
  lawful = on_keeps_laws;
}
