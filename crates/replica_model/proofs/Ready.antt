-- What is ready in an honest set is causally closed, and what is not ready has cause to wait.
use Rattle.std.proofs.Common.{◌≡◌, ◌<◌, ◌≤◌, Bool, true, false, List, sym, subst, arith, Contains, inl, inr, ◌⊎◌}
use Rattle.std.specs.Prelude.{not}
use Rattle.std.specs.List.{Any}
use Rattle.std.proofs.lemmas.Bool.{cases_Bool, cases_lt, leb-true, le-leb, both_ways, not-true, not_from_false}
use Rattle.vector_clock.specs.declared.clock.Clock.{Clock}
use Rattle.vector_clock.specs.declared.clock.Id.{Id}
use Rattle.vector_clock.specs.declared.stamp.Stamp.{Stamp}
use Rattle.vector_clock.specs.Clock.{IsAtMost, IsClock, count, covers, max_members}
use Rattle.vector_clock.specs.Stamp.{IsStamp, id_of, is_before, same_id}
use Rattle.crdt_laws.specs.declared.small.Entry.{Entry}
use Rattle.crdt_laws.specs.Sets.{IsHonest, IsClosed, has_all_of}
use Rattle.crdt_laws.proofs.Members.{filter_has, filter_inside, filter_passed}
use Rattle.replica_model.specs.Replica.{ready, unready}
use Rattle.replica_model.proofs.Names.{any_from, has_id_from, named_in, all_ids, from_all_ids, missing_id, Misses}

-- clocks

pub covers_on : (k l : Clock) (i : Id) → IsAtMost k l → covers k i ≡ true → covers l i ≡ true
covers_on k l i h c =
    let a : i.seq ≤ count k i.member = leb-true i.seq (count k i.member) c in
    let b : count k i.member ≤ count l i.member = h.each i.member in
    le-leb i.seq (count l i.member) (omega arith)

pub member_below : (k : Clock) (i : Id) → IsClock k → 1 ≤ i.seq → covers k i ≡ true → i.member < k.n
member_below k i h counted c =
    elim (cases_lt i.member k.n) [
      | inl l ↦ l
      | inr g ↦
          (let a : i.seq ≤ count k i.member = leb-true i.seq (count k i.member) c in
          let z : count k i.member ≡ 0 = h.empty_past i.member g in
          absurd (omega arith))
    ]

pub member_below_most : (k : Clock) (i : Id) → IsClock k → 1 ≤ i.seq → covers k i ≡ true → i.member < max_members
member_below_most k i h counted c = let l : i.member < k.n = member_below k i h counted c in let m : k.n ≤ max_members = h.most in omega arith

-- what is ready

is_before_from : (a b : Stamp) → covers a.clock (id_of b) ≡ true → same_id b a ≡ false → is_before b a ≡ true
unfolding is_before
is_before_from a b c s = cc (c, s)

-- what an operation of an honest set covers knows at most what the operation knows
pub covered_knows : {Op : Type 0} (xs : List (Entry Op)) → IsHonest xs → (a b : Entry Op) → Contains xs a → Contains xs b
    → covers a.stamp.clock (id_of b.stamp) ≡ true → IsAtMost b.stamp.clock a.stamp.clock
covered_knows {Op} xs h a b ca cb c =
    elim (cases_Bool (same_id b.stamp a.stamp)) [
      | inl s ↦ (let e : b ≡ a = h.same b a cb ca s in subst (λ (z : Entry Op). IsAtMost b.stamp.clock z.stamp.clock) e (record { each = λ m. omega arith }))
      | inr d ↦ (h.known a b ca cb (is_before_from a.stamp b.stamp c d)).knows
    ]

pub ready_closed : {Op : Type 0} (xs : List (Entry Op)) → ((e : Entry Op) → Contains xs e → IsStamp e.stamp) → IsHonest xs → IsClosed (ready xs)
ready_closed {Op} xs stamped honest = record { each = each }
  where
    each : (a : Entry Op) (i : Id) → Contains (ready xs) a → 1 ≤ i.seq → covers a.stamp.clock i ≡ true → Any (λ (b : Entry Op). id_of b.stamp ≡ i) (ready xs)
    each a i c counted covered =
        let p : (Entry Op → Bool) = λ e. has_all_of xs e.stamp.clock in
        let inside = filter_inside p xs a c in
        let all : has_all_of xs a.stamp.clock ≡ true = filter_passed p xs a c in
        let clock = (stamped a inside).clock in
        let found = named_in xs i (all_ids xs a.stamp.clock all i (member_below_most a.stamp.clock i clock counted covered) counted covered) in
        let b = found.0 in
        let known = covered_knows xs honest a b inside found.1 (subst (λ j. covers a.stamp.clock j ≡ true) (sym found.2) covered) in
        let whole : has_all_of xs b.stamp.clock ≡ true = from_all_ids xs b.stamp.clock
        (λ j w n d. all_ids xs a.stamp.clock all j w n (covers_on b.stamp.clock a.stamp.clock j known d)) in
        any_from (λ (e : Entry Op). id_of e.stamp ≡ i) (ready xs) b (filter_has p xs b found.1 whole) found.2

-- all of a causally closed part is ready
pub closed_ready : {Op : Type 0} (xs ys : List (Entry Op)) → ((e : Entry Op) → Contains xs e → IsStamp e.stamp) → IsClosed ys
    → ((e : Entry Op) → Contains ys e → Contains xs e) → (e : Entry Op) → Contains ys e → Contains (ready xs) e
closed_ready {Op} xs ys stamped closed part e c =
    filter_has (λ (e : Entry Op). has_all_of xs e.stamp.clock) xs e (part e c)
    (from_all_ids xs e.stamp.clock (λ i w counted covered.
    let found = closed.each e i c counted covered in
    has_id_from xs found.1 i (part found.1 (found.0, found.2, found.3)) found.4))

-- an operation that is not ready misses an id
pub unready_misses : {Op : Type 0} (xs : List (Entry Op)) (e : Entry Op) → Contains (unready xs) e → Misses xs e.stamp.clock
unready_misses {Op} xs e c =
    missing_id xs e.stamp.clock (not-true (has_all_of xs e.stamp.clock) (filter_passed (λ (e : Entry Op). not (has_all_of xs e.stamp.clock)) xs e c))

pub ready_apart : {Op : Type 0} (xs : List (Entry Op)) (e : Entry Op) → Contains (ready xs) e → Contains (unready xs) e → ⊥
ready_apart {Op} xs e c d =
    both_ways (has_all_of xs e.stamp.clock) (not-true (has_all_of xs e.stamp.clock) (filter_passed (λ (e : Entry Op). not (has_all_of xs e.stamp.clock)) xs e d))
    (filter_passed (λ (e : Entry Op). has_all_of xs e.stamp.clock) xs e c)

pub ready_or_not : {Op : Type 0} (xs : List (Entry Op)) (e : Entry Op) → Contains xs e → Contains (ready xs) e ⊎ Contains (unready xs) e
ready_or_not {Op} xs e c =
    elim (cases_Bool (has_all_of xs e.stamp.clock)) [
      | inl t ↦ inl (filter_has (λ (e : Entry Op). has_all_of xs e.stamp.clock) xs e c t)
      | inr f ↦ inr (filter_has (λ (e : Entry Op). not (has_all_of xs e.stamp.clock)) xs e c (not_from_false (has_all_of xs e.stamp.clock) f))
    ]
