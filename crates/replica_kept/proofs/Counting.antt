-- How many operations the clocks of a kept record count, once operations are in.
use Rattle.std.proofs.Common.{◌≡◌, ℕ, ◌+◌, ◌<◌, ◌≤◌, true, List, [], ◌∷◌, set, sum, length, ap, sym, ◌∙◌, subst, arith, inl, inr}
use Rattle.std.proofs.lemmas.Bool.{cases_eq, cases_lt}
use Rattle.std.proofs.lemmas.List.Sums.{sum_by-set}
use Rattle.vector_clock.specs.declared.clock.Clock.{Clock}
use Rattle.vector_clock.specs.Clock.{IsAtMost, IsClock, count, join, with_entry, max_members}
use Rattle.vector_clock.proofs.Bounds.{at_most_antisym, at_most_trans, join_least, join_left, join_right, with_is_clock}
use Rattle.crdt_laws.specs.declared.small.Entry.{Entry}
use Rattle.crdt_laws.specs.Sets.{beyond}
use Rattle.crdt_laws.specs.Tower.{IsStampOf}
use Rattle.crdt_laws.proofs.Members.{Contains-front, Contains-more}
use Rattle.replica_model.specs.Replica.{meet_all, row}
use Rattle.forgetting_model.specs.Ledger.{raised}
use Rattle.forgetting_model.specs.Truth.{IsClockOf}
use Rattle.forgetting_model.specs.Turns.{AreNext, is_next}
use Rattle.forgetting_model.proofs.Floors.{floor_below, floor_clock, floor_greatest}
use Rattle.forgetting_model.proofs.Rows.{AreRows, AreStamped, clock_of-join, stamp_clock}
use Rattle.forgetting_model.proofs.Turns.{next_others, next_seq}
use Rattle.replica_kept.proofs.Between.{AreBetween, beyond_counts}
use Rattle.replica_kept.proofs.Stamping.{count_other, count_own}

-- the next operation raises the count of its member by one, and no other
module _ {Op : Type 0} (n : ℕ) (d : Clock) (h : IsClockOf n d) (e : Entry Op) (s : IsStampOf n e.stamp) (next : is_next d e ≡ true) where
  abbrev m : ℕ
  m = e.stamp.member

  low : m < d.n
  low = let a = s.stamp.member in let b = s.members in let c = h.members in omega (arith, a, b, c)

  seq : count e.stamp.clock m ≡ count d m + 1
  seq = next_seq d e next

  abbrev up : Clock
  up = with_entry d m (count d m + 1)

  up_clock : IsClock up
  up_clock = with_is_clock d m (count d m + 1) h.clock low (let b = s.stamp.clock.bounded m in let q = seq in omega (arith, b, q))

  above : IsAtMost d up
  above = record {
    each = λ j. elim (cases_eq j m) [
      | inl q ↦ subst (λ (i : ℕ). count d i ≤ count up i) (sym q) (let c = count_own d m (count d m + 1) h.clock low in omega (arith, c))
      | inr other ↦ (let c = count_other d m (count d m + 1) j other in omega (arith, c))
    ];
  }

  known : IsAtMost e.stamp.clock up
  known = record {
    each = λ j. elim (cases_eq j m) [
      | inl q ↦ subst (λ (i : ℕ). count e.stamp.clock i ≤ count up i) (sym q) (let c = count_own d m (count d m + 1) h.clock low in let q = seq in omega (arith, c, q))
      | inr other ↦ elim (cases_lt j max_members) [
        | inl l ↦ (let c = count_other d m (count d m + 1) j other in let k = next_others d e next j l other in omega (arith, c, k))
        | inr past ↦ (let z = s.stamp.clock.empty_past j (let b = s.stamp.clock.most in omega (arith, b, past)) in omega (arith, z))
      ]
    ];
  }

  least : IsAtMost up (join d e.stamp.clock)
  least = record {
    each = λ j. elim (cases_eq j m) [
      | inl q ↦ subst (λ (i : ℕ). count up i ≤ count (join d e.stamp.clock) i) (sym q)
          (let c = count_own d m (count d m + 1) h.clock low in let k = (join_right d e.stamp.clock s.stamp.clock).each m in let q = seq in omega (arith, c, k, q))
      | inr other ↦ (let c = count_other d m (count d m + 1) j other in let k = (join_left d e.stamp.clock h.clock).each j in omega (arith, c, k))
    ];
  }

  joined : IsClockOf n (join d e.stamp.clock)
  joined = clock_of-join n d e.stamp.clock h (stamp_clock n e s)

  next_is : join d e.stamp.clock ≡ up
  next_is = at_most_antisym (join d e.stamp.clock) up joined.clock up_clock (joined.members ∙ sym h.members) (join_least d e.stamp.clock up above known) least

  pub next_sums : sum (join d e.stamp.clock).at ≡ sum d.at + 1
  next_sums =
      let size = h.clock.wide in
      let most = h.clock.most in
      let l = low in
      let same : sum (join d e.stamp.clock).at ≡ sum (set d.at m (count d m + 1)) = ap (λ (k : Clock). sum k.at) next_is in
      let more = sum_by-set (λ (z : ℕ). z) d.at m (count d m + 1) 0 (omega (arith, size, most, l)) in
      omega (arith, same, more)

pub raised_sums : {Op : Type 0} (n : ℕ) (d : Clock) (xs : List (Entry Op)) → IsClockOf n d → AreStamped n xs → AreNext d xs → sum (raised d xs).at ≡ sum d.at + length xs
raised_sums n d [] h s next = omega arith
raised_sums {Op} n d (x ∷ xs) h s next =
    let first = s x (Contains-front x xs) in
    let clock : IsClockOf n (join d x.stamp.clock) = clock_of-join n d x.stamp.clock h (stamp_clock n x first) in
    let here = next_sums n d h x first next.0 in
    let rest : sum (raised (join d x.stamp.clock) xs).at ≡ sum (join d x.stamp.clock).at + length xs = raised_sums n (join d x.stamp.clock) xs clock (λ e c. s e (Contains-more x xs e c)) next.1 in
    omega (arith, here, rest)

-- rows that have grown, of which the own one is the later clock
module _ (n : ℕ) (old new : List Clock) (h : AreRows n old) (g : AreRows n new) (me : ℕ) (low : me < n) (later : Clock) (own : row new me ≡ later)
    (grows : (j : ℕ) → j < n → IsAtMost (row old j) (row new j)) where
  pub floor_grows : IsAtMost (meet_all old) (meet_all new)
  floor_grows = floor_greatest n new g (omega (arith, low)) (meet_all old) (λ j l. let a = h.length in at_most_trans (meet_all old) (row old j) (row new j) (floor_below old j (omega (arith, a, l))) (grows j l))

  floor_own : IsAtMost (meet_all new) later
  floor_own = let a = g.length in subst (IsAtMost (meet_all new)) own (floor_below new me (omega (arith, a, low)))

  old_floor : IsClockOf n (meet_all old)
  old_floor = floor_clock n old h (omega (arith, low))

  new_floor : IsClockOf n (meet_all new)
  new_floor = floor_clock n new g (omega (arith, low))

  pub counted_after : {Op : Type 0} (all : List (Entry Op)) → IsClock later → AreBetween (meet_all old) later all → length all + sum (meet_all old).at ≡ sum later.at → length (beyond (meet_all new) all) + sum (meet_all new).at ≡ sum later.at
  counted_after all c between counted =
      beyond_counts (meet_all old) (meet_all new) later (old_floor.clock.wide ∙ sym new_floor.clock.wide) (new_floor.clock.wide ∙ sym c.wide) floor_grows floor_own all between counted
