use Rattle.std.proofs.Common.{rules}
use Rattle.flag_crdts.proofs.FlagTables.{off_is_table, off_keeps_laws}
use Rattle.flag_crdts.proofs.flag.off_wins.Goals as goal

pub invariant_of-result : goal.invariant_of-result
invariant_of-result c = record {
  rows = record { next_rows = search rules; act_rows = search rules };
  table = off_is_table;
  lawful = off_keeps_laws;
}
