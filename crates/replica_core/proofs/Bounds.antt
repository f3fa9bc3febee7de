-- What counts no more than k operations of a member counts no more than any j from k on.
use Rattle.std.proofs.Common.{ℕ, ◌≤◌, get_or, arith}
use Rattle.vector_clock.specs.declared.clock.Clock.{Clock}
use Rattle.replica_model.specs.Replica.{Batch, Replica}
use Rattle.replica_core.specs.Kept.{IsBatchUpTo, IsReplicaUpTo, IsUpTo}

pub clock_up_to : (k j : ℕ) (c : Clock) → k ≤ j → IsUpTo k c → IsUpTo j c
clock_up_to k j c h u = record { each = λ i. omega (arith, u.each i) }

pub replica_up_to : {Op : Type 0} (k j : ℕ) (r : Replica Op) → k ≤ j → IsReplicaUpTo k r → IsReplicaUpTo j r
replica_up_to k j r h u = record {
  rows = λ i d l. clock_up_to k j (get_or r.known i d) h (u.rows i d l);
  delivered = λ i d l. clock_up_to k j (get_or r.delivered i d).stamp.clock h (u.delivered i d l);
  waiting = λ i d l. clock_up_to k j (get_or r.waiting i d).stamp.clock h (u.waiting i d l);
}

pub batch_up_to : {Op : Type 0} (k j : ℕ) (b : Batch Op) → k ≤ j → IsBatchUpTo k b → IsBatchUpTo j b
batch_up_to k j b h u = record {
  header = clock_up_to k j b.header h u.header;
  ops = λ i d l. clock_up_to k j (get_or b.ops i d).stamp.clock h (u.ops i d l);
}
