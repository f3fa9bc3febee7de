-- What an honest family has, and the steps that keep it honest.
use Rattle.std.proofs.Common.{◌≡◌, ℕ, ◌<◌, ◌≤◌, false, List, [], ◌∷◌, ◌++◌, Option, map, refl, sym, ◌∙◌, subst, arith, Contains, inl, inr, ◌⊎◌, ◌≢◌}
use Rattle.std.specs.Prelude.{nat_eq, not}
use Rattle.std.specs.List.{All, AllByRecursion, Any, IsDistinct}
use Rattle.std.proofs.lemmas.Bool.{ne_eqb}
use Rattle.std.proofs.lemmas.List.{append-nil, length-replicate}
use Rattle.std.proofs.lemmas.List.Elements.{All-contains, All-nil, Contains-append_left, Contains-append_cases}
use Rattle.vector_clock.specs.Clock.{covers, zero_clock, max_members}
use Rattle.vector_clock.specs.Stamp.{IsStamp, id_of}
use Rattle.crdt_laws.specs.declared.small.Entry.{Entry}
use Rattle.crdt_laws.specs.Entry.{entry}
use Rattle.crdt_laws.specs.Sets.{AreIssued, IsClosed, IsHonest, IsRising}
use Rattle.crdt_laws.specs.Tower.{IsIssued, IsWithin, Meaning}
use Rattle.crdt_laws.proofs.Both.{honest_part}
use Rattle.crdt_laws.proofs.Filters.{rising-filter}
use Rattle.crdt_laws.proofs.Members.{Contains-cases, Contains-front, Contains-more, filter_inside}
use Rattle.replica_model.specs.Family.{IsHonestFamily, IsSoundReplica, MayMerge, Thing, WaitsIn, replica, batch, batches, operations, operations_of, replicas}
use Rattle.replica_model.specs.Replica.{Replica, Batch, edited, exported, left_out, merged, new_replica, next_stamp}
use Rattle.replica_model.proofs.Edits.{MayEdit, edited_grows, edited_has, edited_sound, honest_edited, in_edited_all, me-edited, next_stamp_is}
use Rattle.replica_model.proofs.Merged.{in_merged, me-merged, merged_grows, merged_sound}
use Rattle.replica_model.proofs.Names.{all_from_contains, any_from}
use Rattle.replica_model.proofs.Things.{batch_injective, batches_have, distinct_push, in_batches, in_operations, in_replicas, in_split, members_more, no_batch, none_distinct, one_by_member, operations_have, replicas-batch, replica_injective, replicas_have, same_members, split_has, split_it}

-- what it has

module _ {State Op : Type 0} (m : Meaning State Op) (n : ℕ) (ts : List (Thing Op)) (family : IsHonestFamily m n ts) where
  pub issued_at : (e : Entry Op) → Contains (operations ts) e → IsIssued m n e.stamp e.op
  issued_at e c = All-contains (λ (e : Entry Op). IsIssued m n e.stamp e.op) (operations ts) e family.issued c

  pub sound_at : (r : Replica Op) → Contains ts (replica r) → IsSoundReplica n r
  sound_at r c = All-contains (IsSoundReplica n) (replicas ts) r family.sound (replicas_have ts r c)

  pub batch_at : (b : Batch Op) → Contains ts (batch b) → IsRising b.ops
  batch_at b c = All-contains (λ (b : Batch Op). IsRising b.ops) (batches ts) b family.batches_by_key (batches_have ts b c)

  pub owner : (e : Entry Op) → Contains (operations ts) e → (o : Replica Op) × Contains ts (replica o) × (o.me ≡ e.stamp.member) × Contains o.delivered e
  owner e c =
      let f = family.owned e c in
      (f.1, in_replicas ts f.1 (f.0, f.2, f.3), f.4.0, f.4.1)

  pub replica_inside : (r : Replica Op) → Contains ts (replica r) → (e : Entry Op) → Contains (r.delivered ++ r.waiting) e → Contains (operations ts) e
  replica_inside r c e d = operations_have ts (replica r) e c d

  -- each operation knows only of operations that are somewhere
  pub operations_closed : IsClosed (operations ts)
  operations_closed = record {
    each = λ a i c counted cov.
        let o = owner a c in
        let f = (sound_at o.0 o.1).closed.each a i o.3 counted cov in
        any_from (λ (b : Entry Op). id_of b.stamp ≡ i) (operations ts) f.1
        (replica_inside o.0 o.1 f.1 (Contains-append_left o.0.delivered o.0.waiting f.1 (f.0, f.2, f.3))) f.4;
  }

  pub may_edit : n ≤ max_members → (r : Replica Op) → Contains ts (replica r) → MayEdit (operations ts) n r
  may_edit few r c = record {
    few = few;
    honest = family.honest;
    closed = operations_closed;
    stamped = λ e d. (issued_at e d).stamp;
    sound = sound_at r c;
    inside = replica_inside r c;
    mine = λ e d q.
        let o = owner e d in
        let same : o.0 ≡ r = one_by_member (replicas ts) o.0 r family.one_each (replicas_have ts o.0 o.1) (replicas_have ts r c) (o.2 ∙ q) in
        subst (λ (z : Replica Op). Contains z.delivered e) same o.3;
  }

  pooled_inside : (r : Replica Op) (b : Batch Op) → Contains ts (replica r) → Contains ts (batch b)
      → (e : Entry Op) → Contains ((r.delivered ++ r.waiting) ++ b.ops) e → Contains (operations ts) e
  pooled_inside r b c d e h =
      elim (Contains-append_cases (r.delivered ++ r.waiting) b.ops e h) [
        | inl i ↦ replica_inside r c e i
        | inr j ↦ operations_have ts (batch b) e d j
      ]

  -- a replica and a batch of it may meet
  pub may_merge : (r : Replica Op) (b : Batch Op) → Contains ts (replica r) → Contains ts (batch b) → MayMerge r b
  may_merge r b c d =
      let all = (r.delivered ++ r.waiting) ++ b.ops in
      record {
        honest = honest_part (operations ts) all family.honest (pooled_inside r b c d);
        stamped = all_from_contains (λ (e : Entry Op). IsStamp e.stamp) all (λ e h. (issued_at e (pooled_inside r b c d e h)).stamp.stamp);
        closed = (sound_at r c).closed;
        delivered_by_key = (sound_at r c).delivered_by_key;
        waiting_by_key = (sound_at r c).waiting_by_key;
        batch_by_key = batch_at b d;
      }

-- a replica in the place of another of its member

module _ {State Op : Type 0} (m : Meaning State Op) (n : ℕ) (xs ys : List (Thing Op)) (r s : Replica Op) (family : IsHonestFamily m n (xs ++ replica r ∷ ys)) where
  abbrev before : List (Thing Op)
  before = xs ++ replica r ∷ ys

  abbrev after : List (Thing Op)
  after = xs ++ replica s ∷ ys

  -- the operations after it are those before it and those of the new one
  in_after : (e : Entry Op) → Contains (operations after) e → Contains (s.delivered ++ s.waiting) e ⊎ Contains (operations before) e
  in_after e c =
      let f = in_operations after e c in
      elim (in_split xs ys (replica s) f.0 f.1) [
        | inl q ↦ inl (subst (λ (z : Thing Op). Contains (operations_of z) e) (sym q) f.2)
        | inr i ↦ inr (operations_have before f.0 e (split_has xs ys (replica r) f.0 i) f.2)
      ]

  new_owner : s.me ≡ r.me → ((e : Entry Op) → Contains r.delivered e → Contains s.delivered e) → (e : Entry Op) → Contains (operations before) e
      → Any (λ (o : Replica Op). (o.me ≡ e.stamp.member) × Contains o.delivered e) (replicas after)
  new_owner same grows e c =
      let P : (Replica Op → Type 0) = λ o. (o.me ≡ e.stamp.member) × Contains o.delivered e in
      let o = owner m n before family e c in
      elim (in_split xs ys (replica r) (replica o.0) o.1) [
        | inl q ↦
            (let own : r ≡ o.0 = replica_injective r o.0 q in
            let was : P r = subst P (sym own) (o.2, o.3) in
            any_from P (replicas after) s (replicas_have after s (split_it xs ys (replica s))) (same ∙ was.0, grows e was.1))
        | inr i ↦ any_from P (replicas after) o.0 (replicas_have after o.0 (split_has xs ys (replica s) (replica o.0) i)) (o.2, o.3)
      ]

  pub in_place_of : s.me ≡ r.me → IsSoundReplica n s → ((e : Entry Op) → Contains r.delivered e → Contains s.delivered e)
      → IsHonest (operations after) → AreIssued m n (operations after)
      → ((e : Entry Op) → Contains (s.delivered ++ s.waiting) e → Contains (operations before) e ⊎ ((s.me ≡ e.stamp.member) × Contains s.delivered e))
      → IsHonestFamily m n after
  in_place_of same sound grows honest issued own = record {
    one_each = subst (λ (l : List ℕ). IsDistinct nat_eq l) (sym (same_members xs ys r s same)) family.one_each;
    honest = honest;
    issued = issued;
    owned = owned;
    sound = all_from_contains (IsSoundReplica n) (replicas after) sound_after;
    batches_by_key = all_from_contains (λ (b : Batch Op). IsRising b.ops) (batches after) batch_after;
  }
    where
      here : Contains (replicas after) s
      here = replicas_have after s (split_it xs ys (replica s))

      owned : (e : Entry Op) → Contains (operations after) e → Any (λ (o : Replica Op). (o.me ≡ e.stamp.member) × Contains o.delivered e) (replicas after)
      owned e c =
          elim (in_after e c) [
            | inl i ↦ elim (own e i) [
              | inl old ↦ new_owner same grows e old
              | inr new ↦ any_from (λ (o : Replica Op). (o.me ≡ e.stamp.member) × Contains o.delivered e) (replicas after) s here new
            ]
            | inr j ↦ new_owner same grows e j
          ]

      sound_after : (o : Replica Op) → Contains (replicas after) o → IsSoundReplica n o
      sound_after o c =
          elim (in_split xs ys (replica s) (replica o) (in_replicas after o c)) [
            | inl q ↦ subst (IsSoundReplica n) (replica_injective s o q) sound
            | inr i ↦ sound_at m n before family o (split_has xs ys (replica r) (replica o) i)
          ]

      batch_after : (b : Batch Op) → Contains (batches after) b → IsRising b.ops
      batch_after b c =
          elim (in_split xs ys (replica s) (batch b) (in_batches after b c)) [
            | inl q ↦ absurd (no_batch b s (sym q))
            | inr i ↦ batch_at m n before family b (split_has xs ys (replica r) (batch b) i)
          ]

-- the steps of a replica

module _ {State Op : Type 0} (m : Meaning State Op) (n : ℕ) (xs ys : List (Thing Op)) (r : Replica Op) (family : IsHonestFamily m n (xs ++ replica r ∷ ys)) where
  abbrev all : List (Thing Op)
  all = xs ++ replica r ∷ ys

  here : Contains all (replica r)
  here = split_it xs ys (replica r)

  own_merged : (b : Batch Op) → Contains (xs ++ replica r ∷ ys) (batch b) → (e : Entry Op) → Contains ((merged r b).delivered ++ (merged r b).waiting) e → Contains (operations all) e
  own_merged b c e d = pooled_inside m n all family r b here c e (in_merged r b (may_merge m n all family r b here c) e d)

  pub in_family_merged : (b : Batch Op) → Contains (xs ++ replica r ∷ ys) (batch b)
      → (e : Entry Op) → Contains (operations (xs ++ replica (merged r b) ∷ ys)) e → Contains (operations (xs ++ replica r ∷ ys)) e
  in_family_merged b c e d =
      elim (in_after m n xs ys r (merged r b) family e d) [
        | inl i ↦ own_merged b c e i
        | inr j ↦ j
      ]

  pub family_merged : (b : Batch Op) → Contains (xs ++ replica r ∷ ys) (batch b) → IsHonestFamily m n (xs ++ replica (merged r b) ∷ ys)
  family_merged b c =
      in_place_of m n xs ys r (merged r b) family (me-merged r b) (merged_sound r b may n (sound_at m n all family r here)) (merged_grows r b may)
      (honest_part (operations all) (operations later) family.honest (in_family_merged b c))
      (all_from_contains (λ (e : Entry Op). IsIssued m n e.stamp e.op) (operations later) (λ e d. issued_at m n all family e (in_family_merged b c e d)))
      (λ e d. inl (own_merged b c e d))
    where
      later : List (Thing Op)
      later = xs ++ replica (merged r b) ∷ ys

      may : MayMerge r b
      may = may_merge m n all family r b here c

  pub in_family_edited : n ≤ max_members → (op : Op) → (e : Entry Op) → Contains (operations (xs ++ replica (edited r op) ∷ ys)) e
      → Contains (entry (next_stamp r) op ∷ operations (xs ++ replica r ∷ ys)) e
  in_family_edited few op e d =
      elim (in_after m n xs ys r (edited r op) family e d) [
        | inl i ↦ in_edited_all (operations all) n r (may_edit m n all family few r here) op e i
        | inr j ↦ Contains-more (entry (next_stamp r) op) (operations all) e j
      ]

  pub family_edited : n ≤ max_members → (op : Op) → IsIssued m n (next_stamp r) op → IsHonestFamily m n (xs ++ replica (edited r op) ∷ ys)
  family_edited few op new =
      in_place_of m n xs ys r (edited r op) family (me-edited r op) (edited_sound (operations all) n r may op) (edited_grows (operations all) n r may op)
      (honest_part (entry (next_stamp r) op ∷ operations all) (operations later) (honest_edited (operations all) n r may op) (in_family_edited few op))
      (all_from_contains (λ (e : Entry Op). IsIssued m n e.stamp e.op) (operations later) issued)
      own
    where
      later : List (Thing Op)
      later = xs ++ replica (edited r op) ∷ ys

      may : MayEdit (operations all) n r
      may = may_edit m n all family few r here

      issued : (e : Entry Op) → Contains (operations (xs ++ replica (edited r op) ∷ ys)) e → IsIssued m n e.stamp e.op
      issued e d =
          elim (Contains-cases (entry (next_stamp r) op) (operations all) e (in_family_edited few op e d)) [
            | inl q ↦ subst (λ (z : Entry Op). IsIssued m n z.stamp z.op) q new
            | inr j ↦ issued_at m n all family e j
          ]

      own : (e : Entry Op) → Contains ((edited r op).delivered ++ (edited r op).waiting) e
          → Contains (operations all) e ⊎ (((edited r op).me ≡ e.stamp.member) × Contains (edited r op).delivered e)
      own e d =
          elim (Contains-cases (entry (next_stamp r) op) (operations all) e (in_edited_all (operations all) n r may op e d)) [
            | inl q ↦ inr (subst (λ (z : Entry Op). ((edited r op).me ≡ z.stamp.member) × Contains (edited r op).delivered z) q
                (me-edited r op, edited_has (operations all) n r may op))
            | inr j ↦ inl j
          ]

  -- within the limit of sequence numbers
  pub family_edited_valid : n ≤ max_members → (op : Op) → IsWithin (next_stamp r) → m.valid (next_stamp r) op → IsHonestFamily m n (xs ++ replica (edited r op) ∷ ys)
  family_edited_valid few op limit valid =
      family_edited few op (record { stamp = next_stamp_is (operations all) n r (may_edit m n all family few r here) limit; valid = valid })

-- batches come and go

module _ {State Op : Type 0} (m : Meaning State Op) (n : ℕ) (xs ys : List (Thing Op)) where
  pub in_family_lost : (b : Batch Op) → (e : Entry Op) → Contains (operations (xs ++ ys)) e → Contains (operations (xs ++ batch b ∷ ys)) e
  in_family_lost b e c = let f = in_operations (xs ++ ys) e c in operations_have (xs ++ batch b ∷ ys) f.0 e (split_has xs ys (batch b) f.0 f.1) f.2

  pub family_lost : (b : Batch Op) → IsHonestFamily m n (xs ++ batch b ∷ ys) → IsHonestFamily m n (xs ++ ys)
  family_lost b family = record {
    one_each = subst (λ (l : List (Replica Op)). IsDistinct nat_eq (map (λ r. r.me) l)) same family.one_each;
    honest = honest_part (operations before) (operations (xs ++ ys)) family.honest (in_family_lost b);
    issued = all_from_contains (λ (e : Entry Op). IsIssued m n e.stamp e.op) (operations (xs ++ ys)) (λ e c. issued_at m n before family e (in_family_lost b e c));
    owned = λ e c. subst (λ (l : List (Replica Op)). Any (λ (o : Replica Op). (o.me ≡ e.stamp.member) × Contains o.delivered e) l) same (family.owned e (in_family_lost b e c));
    sound = subst (λ (l : List (Replica Op)). All (IsSoundReplica n) l) same family.sound;
    batches_by_key = all_from_contains (λ (b : Batch Op). IsRising b.ops) (batches (xs ++ ys))
        (λ a c. batch_at m n before family a (split_has xs ys (batch b) (batch a) (in_batches (xs ++ ys) a c)));
  }
    where
      before : List (Thing Op)
      before = xs ++ batch b ∷ ys

      same : replicas (xs ++ batch b ∷ ys) ≡ replicas (xs ++ ys)
      same = replicas-batch xs ys b

  pub in_family_sent : (b : Batch Op) → ((e : Entry Op) → Contains b.ops e → Contains (operations (xs ++ ys)) e)
      → (e : Entry Op) → Contains (operations (xs ++ batch b ∷ ys)) e → Contains (operations (xs ++ ys)) e
  in_family_sent b part e c =
      let f = in_operations (xs ++ batch b ∷ ys) e c in
      elim (in_split xs ys (batch b) f.0 f.1) [
        | inl q ↦ part e (subst (λ (z : Thing Op). Contains (operations_of z) e) (sym q) f.2)
        | inr i ↦ operations_have (xs ++ ys) f.0 e i f.2
      ]

  -- a batch by key, of operations that are somewhere
  pub family_sent : (b : Batch Op) → IsHonestFamily m n (xs ++ ys) → IsRising b.ops → ((e : Entry Op) → Contains b.ops e → Contains (operations (xs ++ ys)) e)
      → IsHonestFamily m n (xs ++ batch b ∷ ys)
  family_sent b family rises part = record {
    one_each = subst (λ (l : List (Replica Op)). IsDistinct nat_eq (map (λ r. r.me) l)) (sym same) family.one_each;
    honest = honest_part (operations (xs ++ ys)) (operations after) family.honest inside;
    issued = all_from_contains (λ (e : Entry Op). IsIssued m n e.stamp e.op) (operations after) (λ e c. issued_at m n (xs ++ ys) family e (inside e c));
    owned = λ e c. subst (λ (l : List (Replica Op)). Any (λ (o : Replica Op). (o.me ≡ e.stamp.member) × Contains o.delivered e) l) (sym same) (family.owned e (inside e c));
    sound = subst (λ (l : List (Replica Op)). All (IsSoundReplica n) l) (sym same) family.sound;
    batches_by_key = all_from_contains (λ (b : Batch Op). IsRising b.ops) (batches after) by_key;
  }
    where
      after : List (Thing Op)
      after = xs ++ batch b ∷ ys

      same : replicas (xs ++ batch b ∷ ys) ≡ replicas (xs ++ ys)
      same = replicas-batch xs ys b

      inside : (e : Entry Op) → Contains (operations (xs ++ batch b ∷ ys)) e → Contains (operations (xs ++ ys)) e
      inside = in_family_sent b part

      by_key : (a : Batch Op) → Contains (batches (xs ++ batch b ∷ ys)) a → IsRising a.ops
      by_key a c =
          elim (in_split xs ys (batch b) (batch a) (in_batches (xs ++ batch b ∷ ys) a c)) [
            | inl q ↦ subst (λ (z : Batch Op). IsRising z.ops) (batch_injective b a q) rises
            | inr i ↦ batch_at m n (xs ++ ys) family a i
          ]

  pub family_copied : (b : Batch Op) → IsHonestFamily m n (xs ++ ys) → Contains (xs ++ ys) (batch b) → IsHonestFamily m n (xs ++ batch b ∷ ys)
  family_copied b family c = family_sent b family (batch_at m n (xs ++ ys) family b c) (λ e d. operations_have (xs ++ ys) (batch b) e c d)

-- an export has operations of the replica, by key

pub in_exported : {Op : Type 0} (r : Replica Op) (to : Option ℕ) (e : Entry Op) → Contains (exported r to).ops e → Contains r.delivered e
unfolding exported
in_exported {Op} r to e c = filter_inside (λ (e : Entry Op). not (covers (left_out r to) (id_of e.stamp))) r.delivered e c

pub exported_rises : {Op : Type 0} (r : Replica Op) (to : Option ℕ) → IsRising r.delivered → IsRising (exported r to).ops
unfolding exported
exported_rises {Op} r to h = rising-filter (λ (e : Entry Op). not (covers (left_out r to) (id_of e.stamp))) r.delivered h

module _ {State Op : Type 0} (m : Meaning State Op) (n : ℕ) (xs ys : List (Thing Op)) (r : Replica Op) (to : Option ℕ) where
  part_exported : IsHonestFamily m n (xs ++ ys) → Contains (xs ++ ys) (replica r) → (e : Entry Op) → Contains (exported r to).ops e → Contains (operations (xs ++ ys)) e
  part_exported family c e d = replica_inside m n (xs ++ ys) family r c e (Contains-append_left r.delivered r.waiting e (in_exported r to e d))

  pub in_family_exported : IsHonestFamily m n (xs ++ ys) → Contains (xs ++ ys) (replica r)
      → (e : Entry Op) → Contains (operations (xs ++ batch (exported r to) ∷ ys)) e → Contains (operations (xs ++ ys)) e
  in_family_exported family c = in_family_sent m n xs ys (exported r to) (part_exported family c)

  pub family_exported : IsHonestFamily m n (xs ++ ys) → Contains (xs ++ ys) (replica r) → IsHonestFamily m n (xs ++ batch (exported r to) ∷ ys)
  family_exported family c =
      family_sent m n xs ys (exported r to) family (exported_rises r to (sound_at m n (xs ++ ys) family r c).delivered_by_key) (part_exported family c)

  -- the replica is not the batch
  other_stays : (b : Batch Op) → Contains (xs ++ batch b ∷ ys) (replica r) → Contains (xs ++ ys) (replica r)
  other_stays b c =
      elim (in_split xs ys (batch b) (replica r) c) [
        | inl q ↦ absurd (no_batch b r q)
        | inr i ↦ i
      ]

  pub in_family_exported_over : (b : Batch Op) → IsHonestFamily m n (xs ++ batch b ∷ ys) → Contains (xs ++ batch b ∷ ys) (replica r)
      → (e : Entry Op) → Contains (operations (xs ++ batch (exported r to) ∷ ys)) e → Contains (operations (xs ++ batch b ∷ ys)) e
  in_family_exported_over b family c e d =
      in_family_lost m n xs ys b e (in_family_exported (family_lost m n xs ys b family) (other_stays b c) e d)

  -- in the place of a batch
  pub family_exported_over : (b : Batch Op) → IsHonestFamily m n (xs ++ batch b ∷ ys) → Contains (xs ++ batch b ∷ ys) (replica r) → IsHonestFamily m n (xs ++ batch (exported r to) ∷ ys)
  family_exported_over b family c = family_exported (family_lost m n xs ys b family) (other_stays b c)

module _ {State Op : Type 0} (m : Meaning State Op) (n : ℕ) (ts : List (Thing Op)) (r : Replica Op) (to : Option ℕ) (family : IsHonestFamily m n ts) (there : Contains ts (replica r)) where
  family' : IsHonestFamily m n (ts ++ [])
  family' = subst (IsHonestFamily m n) (sym (append-nil ts)) family

  there' : Contains (ts ++ []) (replica r)
  there' = subst (λ (l : List (Thing Op)). Contains l (replica r)) (sym (append-nil ts)) there

  pub family_exported_last : IsHonestFamily m n (ts ++ batch (exported r to) ∷ [])
  family_exported_last = family_exported m n ts [] r to family' there'

  pub in_family_exported_last : (e : Entry Op) → Contains (operations (ts ++ batch (exported r to) ∷ [])) e → Contains (operations ts) e
  in_family_exported_last e c =
      subst (λ (l : List (Thing Op)). Contains (operations l) e) (append-nil ts) (in_family_exported m n ts [] r to family' there' e c)

-- a new member

new_sound : {Op : Type 0} (doc : List ℕ) (me n : ℕ) → me < n → IsSoundReplica n (new_replica {Op = Op} doc me n)
unfolding new_replica
new_sound {Op} doc me n h = record {
  member = h;
  rows = length-replicate n (zero_clock n);
  delivered_by_key = tt;
  waiting_by_key = tt;
  closed = record { each = λ a i c. let l : c.0 < 0 = c.1 in absurd (omega arith) };
  apart = λ e c. let l : c.0 < 0 = c.1 in absurd (omega arith);
  waits = All-nil (WaitsIn {Op = Op} []);
}

new_has_nothing : {Op : Type 0} (doc : List ℕ) (me n : ℕ) (e : Entry Op) → Contains (operations_of (replica (new_replica {Op = Op} doc me n))) e → ⊥
unfolding new_replica
new_has_nothing doc me n e c = let l : c.0 < 0 = c.1 in omega arith

pub me-new_replica : (Op : Type 0) (doc : List ℕ) (me n : ℕ) → (new_replica {Op = Op} doc me n).me ≡ me
unfolding new_replica
me-new_replica Op doc me n = refl

pub doc-new_replica : (Op : Type 0) (doc : List ℕ) (me n : ℕ) → (new_replica {Op = Op} doc me n).doc ≡ doc
unfolding new_replica
doc-new_replica Op doc me n = refl

-- each number that a map gives is that of an element
all_mapped : {X : Type 0} (f : X → ℕ) (P : ℕ → Type 0) (xs : List X) → ((x : X) → Contains xs x → P (f x)) → AllByRecursion P (map f xs)
all_mapped f P [] h = tt
all_mapped f P (x ∷ xs) h = (h x (Contains-front x xs), all_mapped f P xs (λ y c. h y (Contains-more x xs y c)))

module _ {State Op : Type 0} (m : Meaning State Op) (n : ℕ) (ts : List (Thing Op)) (s : Replica Op) (family : IsHonestFamily m n ts)
    (sound : IsSoundReplica n s) (nothing : (e : Entry Op) → Contains (operations_of (replica s)) e → ⊥) (none : All (λ r. r.me ≢ s.me) (replicas ts)) where
  abbrev joined : List (Thing Op)
  joined = ts ++ replica s ∷ []

  among : (t : Thing Op) → Contains joined t → (replica s ≡ t) ⊎ Contains ts t
  among t c =
      elim (in_split ts [] (replica s) t c) [
        | inl q ↦ inl q
        | inr i ↦ inr (subst (λ (l : List (Thing Op)). Contains l t) (append-nil ts) i)
      ]

  inside : (e : Entry Op) → Contains (operations joined) e → Contains (operations ts) e
  inside e c =
      let f = in_operations joined e c in
      elim (among f.0 f.1) [
        | inl q ↦ absurd (nothing e (subst (λ (z : Thing Op). Contains (operations_of z) e) (sym q) f.2))
        | inr i ↦ operations_have ts f.0 e i f.2
      ]

  owned : (e : Entry Op) → Contains (operations joined) e → Any (λ (o : Replica Op). (o.me ≡ e.stamp.member) × Contains o.delivered e) (replicas joined)
  owned e c =
      let o = owner m n ts family e (inside e c) in
      any_from (λ (o : Replica Op). (o.me ≡ e.stamp.member) × Contains o.delivered e) (replicas joined) o.0
      (replicas_have joined o.0 (Contains-append_left ts (replica s ∷ []) (replica o.0) o.1)) (o.2, o.3)

  sound_joined : (o : Replica Op) → Contains (replicas joined) o → IsSoundReplica n o
  sound_joined o c =
      elim (among (replica o) (in_replicas joined o c)) [
        | inl q ↦ subst (IsSoundReplica n) (replica_injective s o q) sound
        | inr i ↦ sound_at m n ts family o i
      ]

  by_key_joined : (b : Batch Op) → Contains (batches joined) b → IsRising b.ops
  by_key_joined b c =
      elim (among (batch b) (in_batches joined b c)) [
        | inl q ↦ absurd (no_batch b s (sym q))
        | inr i ↦ batch_at m n ts family b i
      ]

  others : AllByRecursion (λ x. nat_eq x s.me ≡ false) (map (λ (r : Replica Op). r.me) (replicas ts))
  others =
      all_mapped (λ (r : Replica Op). r.me) (λ (x : ℕ). nat_eq x s.me ≡ false) (replicas ts)
      (λ r c. ne_eqb r.me s.me (All-contains (λ (r : Replica Op). r.me ≢ s.me) (replicas ts) r none c))

  pub family_with : IsHonestFamily m n (ts ++ replica s ∷ [])
  family_with = record {
    one_each = subst (λ (l : List ℕ). IsDistinct nat_eq l) (sym (members_more ts s)) (distinct_push (map (λ (r : Replica Op). r.me) (replicas ts)) s.me family.one_each others);
    honest = honest_part (operations ts) (operations joined) family.honest inside;
    issued = all_from_contains (λ (e : Entry Op). IsIssued m n e.stamp e.op) (operations joined) (λ e c. issued_at m n ts family e (inside e c));
    owned = owned;
    sound = all_from_contains (IsSoundReplica n) (replicas joined) sound_joined;
    batches_by_key = all_from_contains (λ (b : Batch Op). IsRising b.ops) (batches joined) by_key_joined;
  }

pub family_joined : {State Op : Type 0} (m : Meaning State Op) (n : ℕ) (ts : List (Thing Op)) (doc : List ℕ) (me : ℕ)
    → IsHonestFamily m n ts → me < n → All (λ r. r.me ≢ me) (replicas ts) → IsHonestFamily m n (ts ++ replica (new_replica doc me n) ∷ [])
unfolding new_replica
family_joined m n ts doc me family h none =
    family_with m n ts (new_replica doc me n) family (new_sound doc me n h) (new_has_nothing doc me n) none

pub in_family_joined : {State Op : Type 0} (m : Meaning State Op) (n : ℕ) (ts : List (Thing Op)) (doc : List ℕ) (me : ℕ)
    → IsHonestFamily m n ts → me < n → All (λ r. r.me ≢ me) (replicas ts)
    → (e : Entry Op) → Contains (operations (ts ++ replica (new_replica doc me n) ∷ [])) e → Contains (operations ts) e
unfolding new_replica
in_family_joined m n ts doc me family h none =
    inside m n ts (new_replica doc me n) family (new_sound doc me n h) (new_has_nothing doc me n) none

pub family_empty : {State Op : Type 0} (m : Meaning State Op) (n : ℕ) → IsHonestFamily m n []
family_empty {State} {Op} m n = record {
  one_each = none_distinct;
  honest = record {
    same = λ a b c. let l : c.0 < 0 = c.1 in absurd (omega arith);
    known = λ a b c. let l : c.0 < 0 = c.1 in absurd (omega arith);
  };
  issued = All-nil (λ (e : Entry Op). IsIssued m n e.stamp e.op);
  owned = λ e c. let l : c.0 < 0 = c.1 in absurd (omega arith);
  sound = All-nil (IsSoundReplica n);
  batches_by_key = All-nil (λ (b : Batch Op). IsRising b.ops);
}
