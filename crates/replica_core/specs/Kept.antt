-- What each replica and batch keeps, whoever made its operations.
use Rattle.std.specs.Prelude.{◌≡◌, ℕ, ◌<◌, ◌≤◌, List}
use Rattle.std.specs.List.{All}
use Rattle.vector_clock.specs.declared.clock.Clock.{Clock}
use Rattle.vector_clock.specs.Clock.{IsClock, count, max_members, max_seq}
use Rattle.crdt_laws.specs.declared.small.Entry.{Entry}
use Rattle.crdt_laws.specs.Tower.{Meaning}
use Rattle.crdt_laws.specs.Sets.{AreIssued, IsRising}
use Rattle.replica_model.specs.Replica.{Replica, Batch, members, row, version}

-- a clock of a document with n members that counts no operation beyond the limit
pub record IsKnown (n : ℕ) (k : Clock) : Type 0 where
  pub clock : IsClock k
  pub members : k.n ≡ n
  pub within : (j : ℕ) → count k j ≤ max_seq

-- operations of a document with n members, by key
pub record AreKept {State Op : Type 0} (m : Meaning State Op) (n : ℕ) (xs : List (Entry Op)) : Type 0 where
  pub issued : AreIssued m n xs
  pub rising : IsRising xs

pub record IsKept {State Op : Type 0} (m : Meaning State Op) (r : Replica Op) : Type 0 where
  pub member : r.me < members r
  pub most : members r ≤ max_members
  pub rows : All (IsKnown (members r)) r.known
  pub own : row r.known r.me ≡ version (members r) r.delivered
  pub delivered : AreKept m (members r) r.delivered
  pub waiting : AreKept m (members r) r.waiting

pub record IsKeptBatch {State Op : Type 0} (m : Meaning State Op) (n : ℕ) (b : Batch Op) : Type 0 where
  pub sender : b.sender < n
  pub header : IsKnown n b.header
  pub ops : AreKept m n b.ops

-- no clock counts more than k operations of a member
pub record IsUpTo (k : ℕ) (c : Clock) : Type 0 where
  pub each : (j : ℕ) → count c j ≤ k

pub record IsReplicaUpTo {Op : Type 0} (k : ℕ) (r : Replica Op) : Type 0 where
  pub rows : All (IsUpTo k) r.known
  pub delivered : All (λ e. IsUpTo k e.stamp.clock) r.delivered
  pub waiting : All (λ e. IsUpTo k e.stamp.clock) r.waiting

pub record IsBatchUpTo {Op : Type 0} (k : ℕ) (b : Batch Op) : Type 0 where
  pub header : IsUpTo k b.header
  pub ops : All (λ e. IsUpTo k e.stamp.clock) b.ops
