use Rattle.std.proofs.Common.{◌≡◌, ℕ, ◌+◌, ◌≤◌, ◌++◌, length, drop, max}
use Rattle.list_crdt.specs.Position.{max_steps}
use Rattle.list_crdt.specs.Between.{next_position, padded}
use Rattle.list_crdt.proofs.gap.parting.Given as goal

abbrev pub invariant-levels : goal.invariant-levels
invariant-levels l = record {
  next : (m s : ℕ) → next_position m s l.p l.q ≡ padded l.depth l.p ++ next_position m s l.low l.high;
  rest : l.low ≡ drop l.depth l.p;
  room : l.depth + max (length l.low) (length l.high) ≤ max_steps;
}

abbrev pub decreases-levels : goal.decreases-levels
decreases-levels l = length l.low + length l.high
