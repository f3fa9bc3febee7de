use Rattle.std.proofs.Common.{◌<◌, ℕ}
use Rattle.action_tables.specs.Table.{op_count, third_count, Holds, case_of}
use Rattle.action_tables.proofs.table.Table.first_broken.Given as goal

-- the law holds at the cases of this row that were passed
abbrev pub invariant-loop-c : goal.invariant-loop-c
invariant-loop-c l = (k : ℕ) → k < l.c → Holds l.self (case_of l.law l.a l.b k)

-- and at those of the rows before
abbrev pub invariant-loop-b : goal.invariant-loop-b
invariant-loop-b l = (j k : ℕ) → j < l.b → k < third_count l.self l.law → Holds l.self (case_of l.law l.a j k)

-- and at those of the operations before
abbrev pub invariant-loop-a : goal.invariant-loop-a
invariant-loop-a l =
    (i j k : ℕ) → i < l.a → j < op_count l.self → k < third_count l.self l.law → Holds l.self (case_of l.law i j k)
