-- Two merges, one after the other.
use Rattle.std.proofs.Common.{◌≡◌, List, ◌++◌, ap, sym, ◌∙◌, Contains, inl, inr, ◌↔◌}
use Rattle.std.proofs.lemmas.List.Elements.{All-contains, Contains-append_left, Contains-append_right, Contains-append_cases}
use Rattle.vector_clock.specs.Stamp.{IsStamp}
use Rattle.crdt_laws.specs.declared.small.Entry.{Entry}
use Rattle.crdt_laws.specs.Sets.{IsHonest, IsRising}
use Rattle.crdt_laws.proofs.Both.{honest_part}
use Rattle.crdt_laws.proofs.Members.{rising_same}
use Rattle.replica_model.specs.Family.{MayMerge}
use Rattle.replica_model.specs.Replica.{Replica, Batch, merged, pooled, ready, unready}
use Rattle.replica_model.proofs.Merged.{delivered-merged, delivered_rises, in_merged, merged_closed, merged_has, waiting-merged, waiting_rises}
use Rattle.replica_model.proofs.Names.{all_from_contains}
use Rattle.replica_model.proofs.Pools.{in_pooled, pooled_has, rising-pooled}

-- the operations of a replica and of two batches
abbrev pub all_three : {Op : Type 0} → Replica Op → Batch Op → Batch Op → List (Entry Op)
all_three r a b = ((r.delivered ++ r.waiting) ++ a.ops) ++ b.ops

module _ {Op : Type 0} (r : Replica Op) (a b : Batch Op) (first : MayMerge r a) (second : MayMerge r b) (honest : IsHonest (all_three r a b)) where
  abbrev own : List (Entry Op)
  own = r.delivered ++ r.waiting

  abbrev later : List (Entry Op)
  later = ((merged r a).delivered ++ (merged r a).waiting) ++ b.ops

  in_later : (e : Entry Op) → Contains later e → Contains (all_three r a b) e
  in_later e c =
      elim (Contains-append_cases ((merged r a).delivered ++ (merged r a).waiting) b.ops e c) [
        | inl i ↦ Contains-append_left (own ++ a.ops) b.ops e (in_merged r a first e i)
        | inr j ↦ Contains-append_right (own ++ a.ops) b.ops e j
      ]

  later_has : (e : Entry Op) → Contains (all_three r a b) e → Contains later e
  later_has e c =
      elim (Contains-append_cases (own ++ a.ops) b.ops e c) [
        | inl i ↦ Contains-append_left ((merged r a).delivered ++ (merged r a).waiting) b.ops e (merged_has r a first e i)
        | inr j ↦ Contains-append_right ((merged r a).delivered ++ (merged r a).waiting) b.ops e j
      ]

  three_stamped : (e : Entry Op) → Contains (all_three r a b) e → IsStamp e.stamp
  three_stamped e c =
      let P : (Entry Op → Type 0) = λ e. IsStamp e.stamp in
      elim (Contains-append_cases (own ++ a.ops) b.ops e c) [
        | inl i ↦ All-contains P (own ++ a.ops) e first.stamped i
        | inr j ↦ All-contains P (own ++ b.ops) e second.stamped (Contains-append_right own b.ops e j)
      ]

  pub may_later : MayMerge (merged r a) b
  may_later = record {
    honest = honest_part (all_three r a b) later honest in_later;
    stamped = all_from_contains (λ (e : Entry Op). IsStamp e.stamp) later (λ e c. three_stamped e (in_later e c));
    closed = merged_closed r a first;
    delivered_by_key = delivered_rises r a first;
    waiting_by_key = waiting_rises r a first;
    batch_by_key = second.batch_by_key;
  }

  pub pooled_later : (e : Entry Op) → Contains (pooled (merged r a) b) e ↔ Contains (all_three r a b) e
  pooled_later e = (λ c. in_later e (in_pooled (merged r a) b may_later e c), λ c. pooled_has (merged r a) b may_later e (later_has e c))

  pub pooled_rises : IsRising (pooled (merged r a) b)
  pooled_rises = rising-pooled (merged r a) b may_later

-- a batch that comes again

module _ {Op : Type 0} (r : Replica Op) (b : Batch Op) (may : MayMerge r b) where
  twice_inside : (e : Entry Op) → Contains (all_three r b b) e → Contains ((r.delivered ++ r.waiting) ++ b.ops) e
  twice_inside e c =
      elim (Contains-append_cases ((r.delivered ++ r.waiting) ++ b.ops) b.ops e c) [
        | inl i ↦ i
        | inr j ↦ Contains-append_right (r.delivered ++ r.waiting) b.ops e j
      ]

  twice_honest : IsHonest (all_three r b b)
  twice_honest = honest_part ((r.delivered ++ r.waiting) ++ b.ops) (all_three r b b) may.honest twice_inside

  pooled_again : pooled (merged r b) b ≡ pooled r b
  pooled_again =
      rising_same (pooled (merged r b) b) (pooled r b) (pooled_rises r b b may may twice_honest) (rising-pooled r b may)
      (λ e. (
        λ c. pooled_has r b may e (twice_inside e ((pooled_later r b b may may twice_honest e).0 c)),
        λ c. (pooled_later r b b may may twice_honest e).1 (Contains-append_left ((r.delivered ++ r.waiting) ++ b.ops) b.ops e (in_pooled r b may e c)),
      ))

  pub delivered_again : (merged (merged r b) b).delivered ≡ (merged r b).delivered
  delivered_again = delivered-merged (merged r b) b ∙ ap ready pooled_again ∙ sym (delivered-merged r b)

  pub waiting_again : (merged (merged r b) b).waiting ≡ (merged r b).waiting
  waiting_again = waiting-merged (merged r b) b ∙ ap unready pooled_again ∙ sym (waiting-merged r b)

-- two batches in either order

swapped : {Op : Type 0} (r : Replica Op) (a b : Batch Op) (e : Entry Op) → Contains (all_three r a b) e → Contains (all_three r b a) e
swapped r a b e c =
    let own = r.delivered ++ r.waiting in
    elim (Contains-append_cases (own ++ a.ops) b.ops e c) [
      | inl i ↦ elim (Contains-append_cases own a.ops e i) [
        | inl j ↦ Contains-append_left (own ++ b.ops) a.ops e (Contains-append_left own b.ops e j)
        | inr j ↦ Contains-append_right (own ++ b.ops) a.ops e j
      ]
      | inr i ↦ Contains-append_left (own ++ b.ops) a.ops e (Contains-append_right own b.ops e i)
    ]

module _ {Op : Type 0} (r : Replica Op) (a b : Batch Op) (first : MayMerge r a) (second : MayMerge r b) (honest : IsHonest (all_three r a b)) where
  other : IsHonest (all_three r b a)
  other = honest_part (all_three r a b) (all_three r b a) honest (swapped r b a)

  pooled_either : pooled (merged r a) b ≡ pooled (merged r b) a
  pooled_either =
      rising_same (pooled (merged r a) b) (pooled (merged r b) a) (pooled_rises r a b first second honest) (pooled_rises r b a second first other)
      (λ e. (
        λ c. (pooled_later r b a second first other e).1 (swapped r a b e ((pooled_later r a b first second honest e).0 c)),
        λ c. (pooled_later r a b first second honest e).1 (swapped r b a e ((pooled_later r b a second first other e).0 c)),
      ))

  pub delivered_either : (merged (merged r a) b).delivered ≡ (merged (merged r b) a).delivered
  delivered_either = delivered-merged (merged r a) b ∙ ap ready pooled_either ∙ sym (delivered-merged (merged r b) a)

  pub waiting_either : (merged (merged r a) b).waiting ≡ (merged (merged r b) a).waiting
  waiting_either = waiting-merged (merged r a) b ∙ ap unready pooled_either ∙ sym (waiting-merged (merged r b) a)
