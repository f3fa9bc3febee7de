use Rattle.std.proofs.Common.{◌≡◌, ℕ, ◌+◌, ◌<◌, length, get_or, Some}
use Rattle.std.specs.BTreeMap.{get}
use Rattle.vector_clock.specs.Clock.{count, max_members}
use Rattle.causal_buffer.specs.Buffer.{by_id}
use Rattle.causal_buffer.proofs.turns.heads_of.Given as goal

abbrev pub invariant-loop-member : goal.invariant-loop-member
invariant-loop-member l = record {
  wide : length l.heads ≡ max_members;
  each : (j k : ℕ) → j < l.member → get by_id l.places (record { member = j; seq = count l.d j + 1 }) ≡ Some k → get_or l.heads j 0 ≡ k;
}
