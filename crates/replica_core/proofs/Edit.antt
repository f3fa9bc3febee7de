-- The stamp of a member's next operation, and the replica once it is in.
use Rattle.std.proofs.Common.{List, [], ◌∷◌, ◌++◌, ◌≡◌, ℕ, ◌+◌, ◌<◌, ◌≤◌, true, false, get_or, ap, ap₂, ◌∙◌, refl, sym, subst, inl, inr, arith, fold}
use Rattle.std.specs.List.{All, AllByRecursion}
use Rattle.std.proofs.Math.ListN.{set}
use Rattle.std.proofs.lemmas.Bool.{cases_eq, lt-leb}
use Rattle.std.proofs.lemmas.List.{get_or-set_same, length-set}
use Rattle.std.proofs.lemmas.List.Elements.{All-append, All-from_recursion, All-get_or, All-set, recursion_from_All}
use Rattle.std.proofs.lemmas.List.Sums.{fold_push}
use Rattle.vector_clock.specs.declared.clock.Clock.{Clock}
use Rattle.vector_clock.specs.declared.stamp.Stamp.{Stamp}
use Rattle.vector_clock.specs.Clock.{IsAtMost, IsClock, count, join, with_entry, zero_clock, max_members, max_seq}
use Rattle.vector_clock.specs.Stamp.{is_below}
use Rattle.vector_clock.proofs.Keys.{below_known, key_asym}
use Rattle.crdt_laws.specs.declared.small.Entry.{Entry}
use Rattle.crdt_laws.specs.Entry.{entry}
use Rattle.crdt_laws.specs.Tower.{IsStampOf, IsIssued, IsLawful, IsWithin, Meaning}
use Rattle.crdt_laws.specs.Sets.{AreIssued, IsRising, place}
use Rattle.crdt_laws.proofs.Filters.{all-append}
use Rattle.vector_clock.proofs.Bounds.{at_most_refl, at_most_trans, join_left, join_right, with_is_clock}
use Rattle.crdt_laws.proofs.Place.{place_last}
use Rattle.replica_model.specs.Replica.{Replica, edited, members, next_stamp, row, version}
use Rattle.replica_core.specs.Kept.{AreKept, IsKept, IsKnown, IsReplicaUpTo, IsUpTo}
use Rattle.replica_core.specs.Rows.{IsFrom}
use Rattle.replica_core.proofs.Bounds.{replica_up_to}
use Rattle.replica_core.proofs.Joins.{count-with, count-with_other, join_above, known-join, known_zero}
use Rattle.replica_core.proofs.Steps.{known_clock}
use Rattle.vector_clock.proofs.Ordered.{all_weaker}

-- a clock with one operation more of a member

abbrev next : Clock → ℕ → Clock
next k j = with_entry k j (count k j + 1)

own_count : (n : ℕ) (k : Clock) (j : ℕ) → IsKnown n k → j < n → count (next k j) j ≡ count k j + 1
own_count n k j h l = count-with n k j (count k j + 1) h l

other_count : (k : Clock) (j i : ℕ) → (i ≡ j → ⊥) → count (next k j) i ≡ count k i
other_count k j i h = count-with_other k j (count k j + 1) i h

at_most-next : (n : ℕ) (k : Clock) (j : ℕ) → IsKnown n k → j < n → IsAtMost k (next k j)
at_most-next n k j h l = record {
  each = λ i. elim (cases_eq i j) [
    | inl e ↦ (let o = own_count n k j h l in subst (λ m. count k m ≤ count (next k j) m) (sym e) (omega arith))
    | inr e ↦ (let o = other_count k j i e in omega arith)
  ];
}

clock-next : (n : ℕ) (k : Clock) (j : ℕ) → IsKnown n k → j < n → IsClock (next k j)
clock-next n k j h l = with_is_clock k j (count k j + 1) h.clock (omega (arith, h.members)) (omega (arith, h.within j))

stamp-next : (n : ℕ) (k : Clock) (j : ℕ) → IsKnown n k → j < n → IsStampOf n (record { member = j; clock = next k j })
stamp-next n k j h l = record {
  stamp = record {
    clock = clock-next n k j h l;
    member = subst (λ i. j < i) (sym h.members) l;
    counted = (let own = own_count n k j h l in omega arith);
  };
  members = h.members;
}

-- the stamp of the member's next operation, by its own row
pub stamp_of_next : {Op : Type 0} (r : Replica Op) (s : Stamp) → r.me < members r → All (IsKnown (members r)) r.known → row r.known r.me ≡ version (members r) r.delivered → s ≡ next_stamp r → IsStampOf (members r) s
stamp_of_next r s l rows own is =
    subst (IsStampOf (members r)) (sym is)
    (stamp-next (members r) (version (members r) r.delivered) r.me (subst (IsKnown (members r)) own (All-get_or (IsKnown (members r)) r.known r.me (zero_clock 1) l rows)) l)

up_to-next : (u : ℕ) (n : ℕ) (k : Clock) (j : ℕ) → IsKnown n k → j < n → IsUpTo u k → IsUpTo (u + 1) (next k j)
up_to-next u n k j h l up = record {
  each = λ i. elim (cases_eq i j) [
    | inl e ↦ (let o = own_count n k j h l in let w = up.each j in subst (λ m. count (next k j) m ≤ u + 1) (sym e) (omega arith))
    | inr e ↦ (let o = other_count k j i e in let w = up.each i in omega arith)
  ];
}

-- a replica that counts less than the limit has room for one operation more
pub room_for_next : {Op : Type 0} (r : Replica Op) (s : Stamp) → r.me < members r → All (IsKnown (members r)) r.known → row r.known r.me ≡ version (members r) r.delivered → s ≡ next_stamp r → (k : ℕ) → k < max_seq → IsReplicaUpTo k r → IsWithin s
room_for_next r s l rows own is k less u =
    let latest = version (members r) r.delivered in
    let known : IsKnown (members r) latest = subst (IsKnown (members r)) own (All-get_or (IsKnown (members r)) r.known r.me (zero_clock 1) l rows) in
    let last : IsUpTo k latest = subst (IsUpTo k) own (All-get_or (IsUpTo k) r.known r.me (zero_clock 1) l u.rows) in
    let next_up : IsUpTo (k + 1) (next_stamp r).clock = up_to-next k (members r) latest r.me known l last in
    subst IsWithin (sym is) (record { each = λ i. omega (arith, next_up.each i) })

-- the version knows what its operations know
fold_knows : {Op : Type 0} (n : ℕ) (xs : List (Entry Op)) (k : Clock) → IsKnown n k → AllByRecursion (IsFrom n) xs → IsAtMost k (fold (λ j e. join j e.stamp.clock) k xs) × AllByRecursion (λ d. IsAtMost d.stamp.clock (fold (λ j e. join j e.stamp.clock) k xs)) xs
fold_knows n [] k known all = (at_most_refl k, tt)
fold_knows n (e ∷ xs) k known all =
    let c = e.stamp.clock in
    let come : IsKnown n c = known_clock n e all.0 in
    let last = fold (λ j d. join j d.stamp.clock) (join k c) xs in
    let rest = fold_knows n xs (join k c) (known-join n k c known come) all.1 in (
      at_most_trans k (join k c) last (join_left k c known.clock) rest.0,
      (at_most_trans c (join k c) last (join_right k c come.clock) rest.0, rest.1),
    )

rising_push : {Op : Type 0} (x : Entry Op) (xs : List (Entry Op)) → AllByRecursion (λ d. is_below d.stamp x.stamp ≡ true) xs → IsRising xs → IsRising (xs ++ x ∷ [])
rising_push x [] h r = (tt, tt)
rising_push x (a ∷ xs) h r = (all-append (λ d. is_below a.stamp d.stamp ≡ true) xs (x ∷ []) r.0 (h.0, tt), rising_push x xs h.1 r.1)

-- a replica keeps the same where its number of members is written in another way
pub kept_from : {State Op : Type 0} (m : Meaning State Op) (r : Replica Op) (n : ℕ) → n ≡ members r → r.me < n → n ≤ max_members → All (IsKnown n) r.known → row r.known r.me ≡ version n r.delivered → AreKept m n r.delivered → AreKept m n r.waiting → IsKept m r
kept_from m r n e = subst (λ k. r.me < k → k ≤ max_members → All (IsKnown k) r.known → row r.known r.me ≡ version k r.delivered → AreKept m k r.delivered → AreKept m k r.waiting → IsKept m r) (sym e)
    (λ a b d f h i. record { member = a; most = b; rows = d; own = f; delivered = h; waiting = i })

-- the replica with an operation at the end
abbrev pub with_last : {Op : Type 0} → Stamp → Replica Op → Op → Replica Op
with_last s r x = record { doc = r.doc; me = r.me; delivered = r.delivered ++ entry s x ∷ []; waiting = r.waiting; known = set r.known r.me s.clock }

pub with_last_is : {Op : Type 0} (s t : Stamp) (p r : Replica Op) (x : Op) (ds : List (Entry Op)) (ks : List Clock) → p ≡ r → s ≡ t → ds ≡ p.delivered ++ entry s x ∷ [] → ks ≡ set p.known p.me s.clock → record { doc = p.doc; me = p.me; delivered = ds; waiting = p.waiting; known = ks } ≡ with_last t r x
with_last_is {Op} s t p r x ds ks e f h i =
    ap₂ (λ (a : List (Entry Op)) (b : List Clock). record { doc = p.doc; me = p.me; delivered = a; waiting = p.waiting; known = b }) h i
    ∙ ap (λ q. with_last s q x) e ∙ ap (λ q. with_last q r x) f

module _ {State Op : Type 0} (m : Meaning State Op) (law : IsLawful m) where
  pub issued_from : (n : ℕ) (e : Entry Op) → IsIssued m n e.stamp e.op → IsFrom n e
  issued_from n e h = record { stamp = h.stamp; within = law.valid_within e.stamp e.op h.valid }

  pub all_from : (n : ℕ) (xs : List (Entry Op)) → AreIssued m n xs → All (IsFrom n) xs
  all_from n xs h = λ k d l. issued_from n (get_or xs k d) (h k d l)

  module _ (r : Replica Op) (x : Op) (h : IsKept m r) (v : m.valid (next_stamp r) x) where
    abbrev latest : Clock
    latest = version (members r) r.delivered

    abbrev newest : Entry Op
    newest = entry (next_stamp r) x

    abbrev pub pushed : Replica Op
    pushed = with_last (next_stamp r) r x

    known_latest : IsKnown (members r) latest
    known_latest = subst (IsKnown (members r)) h.own (All-get_or (IsKnown (members r)) r.known r.me (zero_clock 1) h.member h.rows)

    knows : AllByRecursion (λ d. IsAtMost d.stamp.clock latest) r.delivered
    knows = (fold_knows (members r) r.delivered (zero_clock (members r)) (known_zero (members r) (omega (arith, h.member)) h.most) (recursion_from_All (IsFrom (members r)) r.delivered (all_from (members r) r.delivered h.delivered.issued))).1

    below : AllByRecursion (λ d. is_below d.stamp (next_stamp r) ≡ true) r.delivered
    below =
        all_weaker (λ d. IsAtMost d.stamp.clock latest) (λ d. is_below d.stamp (next_stamp r) ≡ true)
        (λ d w.
        (let up = at_most-next (members r) latest r.me known_latest h.member in
        let own = own_count (members r) latest r.me known_latest h.member in
        let less : count d.stamp.clock r.me ≤ count latest r.me = w.each r.me in
        below_known (next_stamp r) d.stamp
        (record {
          knows = record { each = λ i. omega (arith, w.each i, up.each i) };
          new = lt-leb (count (next latest r.me) r.me) (count d.stamp.clock r.me) (omega arith);
        })))
        r.delivered knows

    at_end : place newest r.delivered ≡ r.delivered ++ newest ∷ []
    at_end =
        place_last newest r.delivered
        (all_weaker (λ d. is_below d.stamp (next_stamp r) ≡ true) (λ d. is_below (next_stamp r) d.stamp ≡ false) (λ d b. key_asym d.stamp (next_stamp r) b) r.delivered below)

    version_after : version (members r) (r.delivered ++ newest ∷ []) ≡ (next_stamp r).clock
    version_after =
        fold_push (λ k e. join k e.stamp.clock) (zero_clock (members r)) r.delivered newest
        ∙ join_above latest (next latest r.me) refl (clock-next (members r) latest r.me known_latest h.member).wide (at_most-next (members r) latest r.me known_latest h.member)

    pub pushed_is : pushed ≡ edited r x
    unfolding edited
    pushed_is =
        ap₂ (λ (xs : List (Entry Op)) (c : Clock). record { doc = r.doc; me = r.me; delivered = xs; waiting = r.waiting; known = set r.known r.me c }) (sym at_end)
        (sym (ap (version (members r)) at_end ∙ version_after))

    within : IsWithin (next_stamp r)
    within = law.valid_within (next_stamp r) x v

    clock : IsClock (next_stamp r).clock
    clock = clock-next (members r) latest r.me known_latest h.member

    issued : IsIssued m (members r) (next_stamp r) x
    issued = record {
      stamp = stamp-next (members r) latest r.me known_latest h.member;
      valid = v;
    }

    pub kept_pushed : IsKept m pushed
    kept_pushed =
        kept_from m pushed (members r) (sym (length-set r.known r.me (next_stamp r).clock)) h.member h.most
        (All-set (IsKnown (members r)) r.known r.me (next_stamp r).clock (record { clock = clock; members = known_latest.members; within = within.each }) h.rows)
        (get_or-set_same r.known r.me (next_stamp r).clock (zero_clock 1) h.member ∙ sym version_after)
        (record {
          issued =
              All-append (λ e. IsIssued m (members r) e.stamp e.op) r.delivered (newest ∷ []) h.delivered.issued
              (All-from_recursion (λ e. IsIssued m (members r) e.stamp e.op) (newest ∷ []) (issued, tt));
          rising = rising_push newest r.delivered below h.delivered.rising;
        })
        h.waiting

    up_to_latest : (k : ℕ) → IsReplicaUpTo k r → IsUpTo k latest
    up_to_latest k u = subst (IsUpTo k) h.own (All-get_or (IsUpTo k) r.known r.me (zero_clock 1) h.member u.rows)

    pub up_to_pushed : (k : ℕ) → IsReplicaUpTo k r → IsReplicaUpTo (k + 1) pushed
    up_to_pushed k u =
        let later : IsReplicaUpTo (k + 1) r = replica_up_to k (k + 1) r (omega arith) u in
        let last : IsUpTo (k + 1) (next_stamp r).clock = up_to-next k (members r) latest r.me known_latest h.member (up_to_latest k u) in
        record {
          rows = All-set (IsUpTo (k + 1)) r.known r.me (next_stamp r).clock last later.rows;
          delivered =
              All-append (λ e. IsUpTo (k + 1) e.stamp.clock) r.delivered (newest ∷ []) later.delivered
              (All-from_recursion (λ e. IsUpTo (k + 1) e.stamp.clock) (newest ∷ []) (last, tt));
          waiting = later.waiting;
        }
