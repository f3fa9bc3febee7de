-- The replicas and batches of one document, wherever they are, and when they are as honest members make them.
use Rattle.std.specs.Prelude.{◌≡◌, ℕ, ◌<◌, ◌≤◌, List, [], ◌∷◌, ◌++◌, false, IsTrue, length, map, nat_eq}
use Rattle.std.specs.List.{All, Any, Contains, IsDistinct, flat_map}
use Rattle.vector_clock.specs.declared.clock.Id.{Id}
use Rattle.vector_clock.specs.Clock.{covers}
use Rattle.vector_clock.specs.Stamp.{IsStamp}
use Rattle.crdt_laws.specs.declared.small.Entry.{Entry}
use Rattle.crdt_laws.specs.Tower.{Meaning}
use Rattle.crdt_laws.specs.Sets.{AreIssued, IsClosed, IsHonest, IsRising, has_id}
use Rattle.replica_model.specs.Replica.{Replica, Batch}

pub data Thing (Op : Type 0) : Type 0 where
  replica : Replica Op → Thing Op
  batch : Batch Op → Thing Op

abbrev pub replicas : {Op : Type 0} → List (Thing Op) → List (Replica Op)
replicas [] = []
replicas (replica r ∷ ts) = r ∷ replicas ts
replicas (batch b ∷ ts) = replicas ts

abbrev pub batches : {Op : Type 0} → List (Thing Op) → List (Batch Op)
batches [] = []
batches (replica r ∷ ts) = batches ts
batches (batch b ∷ ts) = b ∷ batches ts

abbrev pub operations_of : {Op : Type 0} → Thing Op → List (Entry Op)
operations_of (replica r) = r.delivered ++ r.waiting
operations_of (batch b) = b.ops

-- all operations that are anywhere
abbrev pub operations : {Op : Type 0} → List (Thing Op) → List (Entry Op)
operations ts = flat_map operations_of ts

-- the clock of e covers an id that no operation of the set has
pub record WaitsIn {Op : Type 0} (xs : List (Entry Op)) (e : Entry Op) : Type 0 where
  pub id : Id
  pub counted : 1 ≤ id.seq
  pub covered : IsTrue (covers e.stamp.clock id)
  pub absent : has_id xs id ≡ false

-- a replica of a document with n members: what is delivered is causally closed, what waits is not delivered and has cause to
-- wait
pub record IsSoundReplica {Op : Type 0} (n : ℕ) (r : Replica Op) : Type 0 where
  pub member : r.me < n
  pub rows : length r.known ≡ n
  pub delivered_by_key : IsRising r.delivered
  pub waiting_by_key : IsRising r.waiting
  pub closed : IsClosed r.delivered
  pub apart : (e : Entry Op) → Contains r.delivered e → Contains r.waiting e → ⊥
  pub waits : All (WaitsIn (r.delivered ++ r.waiting)) r.waiting

-- A replica and a batch that honest members made: their operations together are an honest set, each list of them is by
-- key, and what is delivered is causally closed.
pub record MayMerge {Op : Type 0} (r : Replica Op) (b : Batch Op) : Type 0 where
  pub honest : IsHonest ((r.delivered ++ r.waiting) ++ b.ops)
  pub stamped : All (λ e. IsStamp e.stamp) ((r.delivered ++ r.waiting) ++ b.ops)
  pub closed : IsClosed r.delivered
  pub delivered_by_key : IsRising r.delivered
  pub waiting_by_key : IsRising r.waiting
  pub batch_by_key : IsRising b.ops

-- Each member has one replica. All operations together are an honest set, and each is in the replica of the member that issued
-- it. Each replica is sound, and each batch is by key.
pub record IsHonestFamily {State Op : Type 0} (m : Meaning State Op) (n : ℕ) (ts : List (Thing Op)) : Type 0 where
  pub one_each : IsDistinct nat_eq (map (λ r. r.me) (replicas ts))
  pub honest : IsHonest (operations ts)
  pub issued : AreIssued m n (operations ts)
  pub owned : (e : Entry Op) → Contains (operations ts) e → Any (λ r. (r.me ≡ e.stamp.member) × Contains r.delivered e) (replicas ts)
  pub sound : All (IsSoundReplica n) (replicas ts)
  pub batches_by_key : All (λ b. IsRising b.ops) (batches ts)
