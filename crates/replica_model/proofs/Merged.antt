-- What a merge leaves.
use Rattle.std.proofs.Common.{◌≡◌, ℕ, ◌<◌, List, [], ◌∷◌, ◌++◌, refl, sym, ◌∙◌, subst, Contains, length, inl, inr}
use Rattle.std.specs.Prelude.{not, slice_set, nat_le}
use Rattle.std.proofs.Math.ListN.{length-set}
use Rattle.std.proofs.lemmas.Bool.{cond_both, false_from_ne_true, both_ways}
use Rattle.std.proofs.lemmas.List.Elements.{All-contains, Contains-append_left, Contains-append_right, Contains-append_cases}
use Rattle.vector_clock.specs.declared.clock.Clock.{Clock}
use Rattle.vector_clock.specs.Clock.{count, join}
use Rattle.vector_clock.specs.Stamp.{IsStamp}
use Rattle.crdt_laws.specs.declared.small.Entry.{Entry}
use Rattle.crdt_laws.specs.Sets.{IsClosed, IsHonest, IsRising, has_id, has_all_of}
use Rattle.crdt_laws.proofs.Both.{honest_part}
use Rattle.crdt_laws.proofs.Filters.{rising-filter}
use Rattle.crdt_laws.proofs.Members.{filter_inside}
use Rattle.replica_model.specs.Family.{IsSoundReplica, MayMerge, WaitsIn}
use Rattle.replica_model.specs.Replica.{Replica, Batch, heard, heard_header, heard_op, merged, pooled, ready, row, unready, version, members}
use Rattle.replica_model.proofs.Names.{all_from_contains, has_id_from, named_in, Misses}
use Rattle.replica_model.proofs.Pools.{in_pooled, pooled_has, rising-pooled}
use Rattle.replica_model.proofs.Ready.{closed_ready, ready_apart, ready_closed, ready_or_not, unready_misses}

-- its parts

pub delivered-merged : {Op : Type 0} (r : Replica Op) (b : Batch Op) → (merged r b).delivered ≡ ready (pooled r b)
unfolding merged
delivered-merged r b = refl

pub waiting-merged : {Op : Type 0} (r : Replica Op) (b : Batch Op) → (merged r b).waiting ≡ unready (pooled r b)
unfolding merged
waiting-merged r b = refl

pub me-merged : {Op : Type 0} (r : Replica Op) (b : Batch Op) → (merged r b).me ≡ r.me
unfolding merged
me-merged r b = refl

pub doc-merged : {Op : Type 0} (r : Replica Op) (b : Batch Op) → (merged r b).doc ≡ r.doc
unfolding merged
doc-merged r b = refl

-- its rows are as many

pub length-heard : {Op : Type 0} (rows : List Clock) (xs : List (Entry Op)) → length (heard rows xs) ≡ length rows
length-heard rows [] = refl
length-heard rows (x ∷ xs) = length-heard (heard_op rows x) xs ∙ length-set rows x.stamp.member (join (row rows x.stamp.member) x.stamp.clock)

pub length-heard_header : (rows : List Clock) (sender : ℕ) (h d : Clock) → length (heard_header rows sender h d) ≡ length rows
length-heard_header rows sender h d =
    cond_both (nat_le (count h sender) (count d sender)) (slice_set rows sender (join (row rows sender) h)) rows (λ (l : List Clock). length l ≡ length rows)
    (λ _. length-set rows sender (join (row rows sender) h))
    (λ _. refl)

pub length-known-merged : {Op : Type 0} (r : Replica Op) (b : Batch Op) → length (merged r b).known ≡ length r.known
unfolding merged
length-known-merged r b =
    let xs = ready (pooled r b) in
    let d = version (members r) xs in
    length-set (heard_header (heard r.known xs) b.sender b.header d) r.me d
    ∙ length-heard_header (heard r.known xs) b.sender b.header d
    ∙ length-heard r.known xs

-- its operations

module _ {Op : Type 0} (r : Replica Op) (b : Batch Op) (may : MayMerge r b) where
  pub pooled_stamped : (e : Entry Op) → Contains (pooled r b) e → IsStamp e.stamp
  pooled_stamped e c = All-contains (λ (e : Entry Op). IsStamp e.stamp) ((r.delivered ++ r.waiting) ++ b.ops) e may.stamped (in_pooled r b may e c)

  pub pooled_honest : IsHonest (pooled r b)
  pooled_honest = honest_part ((r.delivered ++ r.waiting) ++ b.ops) (pooled r b) may.honest (in_pooled r b may)

  pub merged_closed : IsClosed (merged r b).delivered
  unfolding merged
  merged_closed = ready_closed (pooled r b) pooled_stamped pooled_honest

  delivered_pooled : (e : Entry Op) → Contains r.delivered e → Contains (pooled r b) e
  delivered_pooled e c = pooled_has r b may e (Contains-append_left (r.delivered ++ r.waiting) b.ops e (Contains-append_left r.delivered r.waiting e c))

  -- nothing that was in is lost
  pub merged_grows : (e : Entry Op) → Contains r.delivered e → Contains (merged r b).delivered e
  unfolding merged
  merged_grows = closed_ready (pooled r b) r.delivered pooled_stamped may.closed delivered_pooled

  pub in_merged : (e : Entry Op) → Contains ((merged r b).delivered ++ (merged r b).waiting) e → Contains ((r.delivered ++ r.waiting) ++ b.ops) e
  unfolding merged
  in_merged e c =
      in_pooled r b may e (elim (Contains-append_cases (ready (pooled r b)) (unready (pooled r b)) e c) [
        | inl i ↦ filter_inside (λ (e : Entry Op). has_all_of (pooled r b) e.stamp.clock) (pooled r b) e i
        | inr j ↦ filter_inside (λ (e : Entry Op). not (has_all_of (pooled r b) e.stamp.clock)) (pooled r b) e j
      ])

  pub merged_has : (e : Entry Op) → Contains ((r.delivered ++ r.waiting) ++ b.ops) e → Contains ((merged r b).delivered ++ (merged r b).waiting) e
  unfolding merged
  merged_has e c =
      elim (ready_or_not (pooled r b) e (pooled_has r b may e c)) [
        | inl i ↦ Contains-append_left (ready (pooled r b)) (unready (pooled r b)) e i
        | inr j ↦ Contains-append_right (ready (pooled r b)) (unready (pooled r b)) e j
      ]

  pub delivered_rises : IsRising (merged r b).delivered
  unfolding merged
  delivered_rises = rising-filter (λ (e : Entry Op). has_all_of (pooled r b) e.stamp.clock) (pooled r b) (rising-pooled r b may)

  pub waiting_rises : IsRising (merged r b).waiting
  unfolding merged
  waiting_rises = rising-filter (λ (e : Entry Op). not (has_all_of (pooled r b) e.stamp.clock)) (pooled r b) (rising-pooled r b may)

  merged_apart : (e : Entry Op) → Contains (merged r b).delivered e → Contains (merged r b).waiting e → ⊥
  unfolding merged
  merged_apart = ready_apart (pooled r b)

  merged_pooled : (e : Entry Op) → Contains ((merged r b).delivered ++ (merged r b).waiting) e → Contains (pooled r b) e
  merged_pooled e c = pooled_has r b may e (in_merged e c)

  merged_waits : (e : Entry Op) → Contains (merged r b).waiting e → WaitsIn ((merged r b).delivered ++ (merged r b).waiting) e
  merged_waits e c =
      let all = (merged r b).delivered ++ (merged r b).waiting in
      let miss : Misses (pooled r b) e.stamp.clock = unready_misses (pooled r b) e (subst (λ (l : List (Entry Op)). Contains l e) (waiting-merged r b) c) in
      record {
        id = miss.id;
        counted = miss.counted;
        covered = miss.covered;
        absent = false_from_ne_true (has_id all miss.id) (λ t.
            let found = named_in all miss.id t in
            both_ways (has_id (pooled r b) miss.id) miss.absent (has_id_from (pooled r b) found.0 miss.id (merged_pooled found.0 found.1) found.2));
      }

  pub merged_sound : (n : ℕ) → IsSoundReplica n r → IsSoundReplica n (merged r b)
  merged_sound n sound = record {
    member = subst (λ (k : ℕ). k < n) (sym (me-merged r b)) sound.member;
    rows = length-known-merged r b ∙ sound.rows;
    delivered_by_key = delivered_rises;
    waiting_by_key = waiting_rises;
    closed = merged_closed;
    apart = merged_apart;
    waits = all_from_contains (WaitsIn ((merged r b).delivered ++ (merged r b).waiting)) (merged r b).waiting merged_waits;
  }
