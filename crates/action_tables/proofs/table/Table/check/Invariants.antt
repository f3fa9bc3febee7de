use Rattle.std.proofs.Common.{◌<◌, ◌≤◌, ℕ}
use Rattle.action_tables.specs.Verdict.{HoldsEach}
use Rattle.action_tables.proofs.table.Table.check.Given as goal

-- the laws before hold at all their cases
abbrev pub invariant-loop-law : goal.invariant-loop-law
invariant-loop-law l = (i : ℕ) → 1 ≤ i → i < l.law → HoldsEach l.self i
