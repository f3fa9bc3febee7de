-- The bytes of tables: an operation and a state by their numbers, in one byte each.
use Rattle.std.specs.Prelude.{true}
use Rattle.std.proofs.Common.{refl, arith}
use Rattle.action_tables.specs.Table.{ActionTable, IsTable, op_count, table_meaning}
use Rattle.wire_core.specs.Small.{below}
use Rattle.wire_core.specs.SmallExact.{below_allowed, below_is}
use Rattle.wire_core.specs.SmallInOrder.{below_in_order}
use Rattle.wire_core.specs.Steady.{IsSteady, in_order_steady}
use Rattle.wire_core.specs.Good.{AreGood}
use Rattle.wire_core.specs.Stands.{Tells}
use Rattle.wire_core.specs.Writes.{Writes}

pub below_steady : (n : _) → IsSteady (below n)
below_steady n = in_order_steady (below n) (below_in_order n)

module _ (t : ActionTable) (h : IsTable t) where
  pub table_writes : Writes (table_meaning t) (below (op_count t))
  table_writes = record { each = λ r p x stamp valid. let most = h.sizes.most_ops in below_allowed r (op_count t) x (omega arith) valid.op }

  -- each operation may stand at each stamp
  pub table_tells : Tells (table_meaning t) (below (op_count t)) (λ _ _. true)
  table_tells = record { each = λ r p x stamp within allowed. (λ _. record { within = within; op = below_is r (op_count t) x allowed }, λ _. refl) }

  -- each state is good
  pub table_good : AreGood (table_meaning t) (λ _. Unit {0}) (λ _. below t.states)
  table_good = record {
    taken = λ r d s k e a. below_is r t.states s a;
    again = λ r d s k e a f. let most = h.sizes.most_states in below_allowed r t.states s (omega arith) a;
  }
