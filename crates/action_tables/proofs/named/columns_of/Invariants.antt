use Rattle.std.proofs.Common.{◌≡◌, map}
use Rattle.std.specs.List.{flat_map}
use Rattle.action_tables.specs.TableText.{op_names}
use Rattle.action_tables.proofs.named.columns_of.Given as goal

-- the lists have what the operations so far have
abbrev pub invariant-loop-op : goal.invariant-loop-op
invariant-loop-op l =
    (l.names.items ≡ op_names l.yielded) × (l.levels.items ≡ map (λ o. o.level) l.yielded)
    × (l.next_rows.items ≡ flat_map (λ o. o.next) l.yielded) × (l.act_rows.items ≡ flat_map (λ o. o.act) l.yielded)
