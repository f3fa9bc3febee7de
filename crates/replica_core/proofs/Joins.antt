-- Known clocks, joins and meets, and what folds of joins keep.
use Rattle.std.proofs.Common.{List, [], ◌∷◌, ◌≡◌, ℕ, ◌<◌, ◌≤◌, length, ◌∙◌, refl, sym, subst, inl, inr, arith, max, fold, replicate}
use Rattle.std.specs.List.{AllByRecursion}
use Rattle.std.proofs.lemmas.Bool.{cases_eq, cases_lt}
use Rattle.std.proofs.lemmas.List.{get_or-replicate, get_or-set_other, get_or-set_same, get_or_past}
use Rattle.vector_clock.specs.declared.clock.Clock.{Clock}
use Rattle.vector_clock.specs.Clock.{IsAtMost, count, join, max_members, max_seq, meet, with_entry, zero_clock}
use Rattle.vector_clock.proofs.Bounds.{join_clock, meet_clock, meet_left, with_is_clock, zero_is_clock}
use Rattle.vector_clock.proofs.Clocks.{clock_by-is, count-clock_by, length-clock_by, n-clock_by}
use Rattle.crdt_laws.specs.declared.small.Entry.{Entry}
use Rattle.replica_core.specs.Kept.{IsKnown, IsUpTo}

count-join_at_most : (a b : Clock) (m : ℕ) → count (join a b) m ≤ max (count a m) (count b m)
count-join_at_most a b m = elim (cases_lt m max_members) [
  | inl h ↦ let e = count-clock_by a.n (λ j. max (count a j) (count b j)) m h in omega arith
  | inr h ↦
      let wide : length (join a b).at ≡ max_members = length-clock_by a.n _ in
      let e : count (join a b) m ≡ 0 = get_or_past (join a b).at m 0 (omega arith) in omega arith
]

pub up_to-join : (k : ℕ) (a b : Clock) → IsUpTo k a → IsUpTo k b → IsUpTo k (join a b)
up_to-join k a b h l = record { each = λ j. omega (arith, h.each j, l.each j, count-join_at_most a b j) }

pub known-join : (n : ℕ) (a b : Clock) → IsKnown n a → IsKnown n b → IsKnown n (join a b)
known-join n a b h l = record {
  clock = join_clock a b h.clock l.clock (h.members ∙ sym l.members);
  members = n-clock_by a.n _ ∙ h.members;
  within = λ m. omega (arith, h.within m, l.within m, count-join_at_most a b m);
}

pub known-meet : (n : ℕ) (a b : Clock) → IsKnown n a → IsKnown n b → IsKnown n (meet a b)
known-meet n a b h l = record {
  clock = meet_clock a b h.clock l.clock (h.members ∙ sym l.members);
  members = n-clock_by a.n _ ∙ h.members;
  within = λ m. omega (arith, h.within m, (meet_left a b).each m);
}

pub none_counted : (n j : ℕ) → count (zero_clock n) j ≡ 0
none_counted n j = elim (cases_lt j max_members) [
  | inl h ↦ get_or-replicate max_members j 0 0 h
  | inr h ↦ get_or_past (replicate max_members 0) j 0 h
]

pub known_zero : (n : ℕ) → 1 ≤ n → n ≤ max_members → IsKnown n (zero_clock n)
known_zero n some most = record {
  clock = zero_is_clock n some most;
  members = refl;
  within = λ j. omega (arith, none_counted n j);
}

-- a clock with another count of a member

pub count-with : (n : ℕ) (k : Clock) (j s : ℕ) → IsKnown n k → j < n → count (with_entry k j s) j ≡ s
count-with n k j s h l = get_or-set_same k.at j s 0 (omega (arith, h.clock.most, h.clock.wide, h.members))

pub count-with_other : (k : Clock) (j s i : ℕ) → (i ≡ j → ⊥) → count (with_entry k j s) i ≡ count k i
count-with_other k j s i h = get_or-set_other k.at j i s 0 h

pub known-with : (n : ℕ) (k : Clock) (j s : ℕ) → IsKnown n k → j < n → s ≤ max_seq → IsKnown n (with_entry k j s)
known-with n k j s h l most = record {
  clock = with_is_clock k j s h.clock (omega (arith, h.members)) (omega arith);
  members = h.members;
  within = λ i. elim (cases_eq i j) [
    | inl e ↦ subst (λ z. count (with_entry k j s) z ≤ max_seq) (sym e) (omega (arith, count-with n k j s h l))
    | inr e ↦ omega (arith, count-with_other k j s i e, h.within i)
  ];
}

-- a clock that another one is below is their join
pub join_above : (a b : Clock) → b.n ≡ a.n → length b.at ≡ max_members → IsAtMost a b → join a b ≡ b
join_above a b same wide h = sym (clock_by-is a.n (λ m. max (count a m) (count b m)) b same wide (λ k l. omega (arith, h.each k)))

-- what joins keep, a version keeps
pub fold-joins : {Op : Type 0} (P : Clock → Type 0) → ((a b : Clock) → P a → P b → P (join a b)) → (xs : List (Entry Op)) (k : Clock) → P k → AllByRecursion (λ e. P e.stamp.clock) xs → P (fold (λ j e. join j e.stamp.clock) k xs)
fold-joins P more [] k h all = h
fold-joins P more (e ∷ xs) k h all = fold-joins P more xs (join k e.stamp.clock) (more k e.stamp.clock h all.0) all.1
