-- All operations that a replica has once a batch has come: they are those of both, each once, by key.
use Rattle.std.proofs.Common.{List, ◌++◌, Contains, inl, inr}
use Rattle.std.specs.List.{AllByRecursion}
use Rattle.std.proofs.lemmas.List.Elements.{recursion_from_All, Contains-append_left, Contains-append_right, Contains-append_cases}
use Rattle.crdt_laws.specs.declared.small.Entry.{Entry}
use Rattle.crdt_laws.specs.Sets.{IsHonest, IsRising, union}
use Rattle.crdt_laws.proofs.Both.{honest_part, rising_apart, union_first, union_from, union_rises, union_second}
use Rattle.replica_model.specs.Family.{MayMerge}
use Rattle.replica_model.specs.Replica.{Replica, Batch, pooled}
use Rattle.replica_model.proofs.Names.{all_from_contains}

-- facts of each element, by recursion
pub each_from : {X : Type 0} (P : X → Type 0) (xs : List X) → ((x : X) → Contains xs x → P x) → AllByRecursion P xs
each_from P xs h = recursion_from_All P xs (all_from_contains P xs h)

-- the union of both sets

pub in_union : {Op : Type 0} (xs ys : List (Entry Op)) (e : Entry Op) → Contains (union xs ys) e → Contains (xs ++ ys) e
in_union xs ys e c = elim (union_from xs ys e c) [ inl i ↦ Contains-append_left xs ys e i | inr j ↦ Contains-append_right xs ys e j ]

union_has : {Op : Type 0} (zs xs ys : List (Entry Op)) → IsHonest zs → ((e : Entry Op) → Contains (xs ++ ys) e → Contains zs e)
    → (e : Entry Op) → Contains (xs ++ ys) e → Contains (union xs ys) e
union_has zs xs ys h part e c =
    elim (Contains-append_cases xs ys e c) [
      | inl i ↦ union_first xs ys e i
      | inr j ↦ union_second xs ys e (honest_part zs (xs ++ ys) h part) j
    ]

-- the union of what a replica and a batch have

module _ {Op : Type 0} (r : Replica Op) (b : Batch Op) (may : MayMerge r b) where
  abbrev all_ops : List (Entry Op)
  all_ops = (r.delivered ++ r.waiting) ++ b.ops

  own_inside : (e : Entry Op) → Contains (r.delivered ++ r.waiting) e → Contains all_ops e
  own_inside e c = Contains-append_left (r.delivered ++ r.waiting) b.ops e c

  union_inside : (e : Entry Op) → Contains (union r.delivered r.waiting ++ b.ops) e → Contains all_ops e
  union_inside e c =
      elim (Contains-append_cases (union r.delivered r.waiting) b.ops e c) [
        | inl i ↦ own_inside e (in_union r.delivered r.waiting e i)
        | inr j ↦ Contains-append_right (r.delivered ++ r.waiting) b.ops e j
      ]

  pub in_pooled : (e : Entry Op) → Contains (pooled r b) e → Contains ((r.delivered ++ r.waiting) ++ b.ops) e
  unfolding pooled
  in_pooled e c = union_inside e (in_union (union r.delivered r.waiting) b.ops e c)

  pub pooled_has : (e : Entry Op) → Contains ((r.delivered ++ r.waiting) ++ b.ops) e → Contains (pooled r b) e
  unfolding pooled
  pooled_has e c =
      union_has all_ops (union r.delivered r.waiting) b.ops may.honest union_inside e
      (elim (Contains-append_cases (r.delivered ++ r.waiting) b.ops e c) [
        | inl i ↦ Contains-append_left (union r.delivered r.waiting) b.ops e (union_has all_ops r.delivered r.waiting may.honest own_inside e i)
        | inr j ↦ Contains-append_right (union r.delivered r.waiting) b.ops e j
      ])

  pub rising-pooled : IsRising (pooled r b)
  unfolding pooled
  rising-pooled =
      union_rises (union r.delivered r.waiting) b.ops
      (rising_apart (union r.delivered r.waiting) (honest_part all_ops (union r.delivered r.waiting) may.honest (λ e c. own_inside e (in_union r.delivered r.waiting e c)))
      (union_rises r.delivered r.waiting
      (rising_apart r.delivered (honest_part all_ops r.delivered may.honest (λ e c. own_inside e (Contains-append_left r.delivered r.waiting e c))) may.delivered_by_key)
      (rising_apart r.waiting (honest_part all_ops r.waiting may.honest (λ e c. own_inside e (Contains-append_right r.delivered r.waiting e c))) may.waiting_by_key)))
      (rising_apart b.ops (honest_part all_ops b.ops may.honest (λ e c. Contains-append_right (r.delivered ++ r.waiting) b.ops e c)) may.batch_by_key)
