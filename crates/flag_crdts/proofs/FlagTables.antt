-- Both flags are tables that keep the laws: each case of them computes.
use Rattle.std.proofs.Common.{refl, lit<, lit≤}
use Rattle.action_tables.specs.Table.{IsTable, KeepsLaws}
use Rattle.flag_crdts.specs.Flags.{off_table, on_table}
use Rattle.flag_crdts.proofs.Checked.{entries_hold, laws_hold}

pub on_is_table : IsTable on_table
on_is_table = entries_hold on_table
    (record {
      some_states = lit≤ tt;
      most_states = lit≤ tt;
      some_ops = lit≤ tt;
      most_ops = lit≤ tt;
      starts = lit< tt;
      next_length = refl;
      act_length = refl;
    })
    refl

pub on_keeps_laws : KeepsLaws on_table
on_keeps_laws = laws_hold on_table refl

pub off_is_table : IsTable off_table
off_is_table = entries_hold off_table
    (record {
      some_states = lit≤ tt;
      most_states = lit≤ tt;
      some_ops = lit≤ tt;
      most_ops = lit≤ tt;
      starts = lit< tt;
      next_length = refl;
      act_length = refl;
    })
    refl

pub off_keeps_laws : KeepsLaws off_table
off_keeps_laws = laws_hold off_table refl
