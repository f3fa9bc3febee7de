-- What a set of operations knows of: the version covers just the ids of a causally closed set.
use Rattle.std.proofs.Common.{◌≡◌, ℕ, ◌+◌, ◌<◌, ◌≤◌, true, List, [], ◌∷◌, max, replicate, refl, ap, ap₂, sym, ◌∙◌, subst, arith, Contains, length, inl, inr, ◌⊎◌}
use Rattle.std.specs.Prelude.{fold}
use Rattle.std.specs.List.{Any}
use Rattle.std.proofs.lemmas.Bool.{cases_eq, cases_lt, leb-true, le-leb}
use Rattle.std.proofs.lemmas.List.{get_or-replicate, get_or-set_same, get_or-set_other, get_or_past}
use Rattle.vector_clock.specs.declared.clock.Clock.{Clock}
use Rattle.vector_clock.specs.declared.clock.Id.{Id}
use Rattle.vector_clock.specs.Clock.{IsAtMost, IsClock, count, covers, join, max_entry, with_entry, zero_clock, max_members}
use Rattle.vector_clock.specs.Stamp.{id_of}
use Rattle.vector_clock.proofs.Clocks.{at_most_below, count-clock_by, length-clock_by, n-clock_by}
use Rattle.crdt_laws.specs.declared.small.Entry.{Entry}
use Rattle.crdt_laws.specs.Sets.{IsClosed}
use Rattle.crdt_laws.specs.Tower.{IsStampOf}
use Rattle.crdt_laws.proofs.Members.{Contains-cases, Contains-front, Contains-more}
use Rattle.replica_model.specs.Replica.{version}

-- a clock joined with those of operations
abbrev joined : {Op : Type 0} → Clock → List (Entry Op) → Clock
joined k xs = fold (λ k e. join k e.stamp.clock) k xs

count-join : (a b : Clock) (m : ℕ) → m < max_members → count (join a b) m ≡ max (count a m) (count b m)
count-join a b m h = count-clock_by a.n (λ i. max (count a i) (count b i)) m h

n-joined : {Op : Type 0} (k : Clock) (xs : List (Entry Op)) → (joined k xs).n ≡ k.n
n-joined k [] = refl
n-joined k (x ∷ xs) = n-joined (join k x.stamp.clock) xs ∙ n-clock_by k.n (λ m. max (count k m) (count x.stamp.clock m))

length-joined : {Op : Type 0} (k : Clock) (xs : List (Entry Op)) → length k.at ≡ max_members → length (joined k xs).at ≡ max_members
length-joined k [] h = h
length-joined k (x ∷ xs) h = length-joined (join k x.stamp.clock) xs (length-clock_by k.n (λ m. max (count k m) (count x.stamp.clock m)))

joined_start : {Op : Type 0} (k : Clock) (xs : List (Entry Op)) (m : ℕ) → m < max_members → count k m ≤ count (joined k xs) m
joined_start k [] m h = omega arith
joined_start k (x ∷ xs) m h =
    let a = count-join k x.stamp.clock m h in
    let b = joined_start (join k x.stamp.clock) xs m h in
    omega (arith, a, b)

joined_each : {Op : Type 0} (k : Clock) (xs : List (Entry Op)) (m : ℕ) → m < max_members → (e : Entry Op) → Contains xs e → count e.stamp.clock m ≤ count (joined k xs) m
joined_each k [] m h e c = let l : c.0 < 0 = c.1 in absurd (omega arith)
joined_each {Op} k (x ∷ xs) m h e c =
    elim (Contains-cases x xs e c) [
      | inl q ↦
          (let a = count-join k x.stamp.clock m h in
          let b = joined_start (join k x.stamp.clock) xs m h in
          let s : count x.stamp.clock m ≡ count e.stamp.clock m = ap (λ (z : Entry Op). count z.stamp.clock m) q in
          omega (arith, a, b, s))
      | inr j ↦ joined_each (join k x.stamp.clock) xs m h e j
    ]

joined_from : {Op : Type 0} (k : Clock) (xs : List (Entry Op)) (m : ℕ) → m < max_members
    → (count (joined k xs) m ≡ count k m) ⊎ ((e : Entry Op) × Contains xs e × (count (joined k xs) m ≡ count e.stamp.clock m))
joined_from k [] m h = inl refl
joined_from {Op} k (x ∷ xs) m h =
    let a = count-join k x.stamp.clock m h in
    elim (joined_from (join k x.stamp.clock) xs m h) [
      | inl q ↦ elim (cases_lt (count x.stamp.clock m) (count k m)) [
        | inl l ↦ (let r : max (count k m) (count x.stamp.clock m) ≡ count k m = omega arith in inl (q ∙ a ∙ r))
        | inr l ↦ (let r : max (count k m) (count x.stamp.clock m) ≡ count x.stamp.clock m = omega arith in inr (x, Contains-front x xs, q ∙ a ∙ r))
      ]
      | inr f ↦ inr (f.0, Contains-more x xs f.0 f.1, f.2)
    ]

count-zero_clock : (n m : ℕ) → count (zero_clock n) m ≡ 0
count-zero_clock n m =
    elim (cases_lt m max_members) [
      | inl l ↦ get_or-replicate max_members m 0 0 l
      | inr g ↦ get_or_past (replicate max_members 0) m 0 g
    ]

-- versions

pub n-version : {Op : Type 0} (n : ℕ) (xs : List (Entry Op)) → (version n xs).n ≡ n
n-version n xs = n-joined (zero_clock n) xs

pub length-version : {Op : Type 0} (n : ℕ) (xs : List (Entry Op)) → length (version n xs).at ≡ max_members
length-version n xs = length-joined (zero_clock n) xs refl

-- an entry is zero or that of an operation
pub version_from : {Op : Type 0} (n : ℕ) (xs : List (Entry Op)) (m : ℕ)
    → (count (version n xs) m ≡ 0) ⊎ ((e : Entry Op) × Contains xs e × (count (version n xs) m ≡ count e.stamp.clock m))
version_from {Op} n xs m =
    elim (cases_lt m max_members) [
      | inl l ↦ elim (joined_from (zero_clock n) xs m l) [
        | inl q ↦ inl (q ∙ count-zero_clock n m)
        | inr f ↦ inr f
      ]
      | inr g ↦ (let w = length-version n xs in inl (get_or_past (version n xs).at m 0 (omega (arith, w))))
    ]

-- the version is at most what is at least each clock
pub version_below : {Op : Type 0} (n : ℕ) (xs : List (Entry Op)) (m b : ℕ) → ((e : Entry Op) → Contains xs e → count e.stamp.clock m ≤ b) → count (version n xs) m ≤ b
version_below n xs m b h =
    elim (version_from n xs m) [
      | inl q ↦ omega arith
      | inr f ↦ omega (arith, h f.0 f.1, f.2)
    ]

module _ {Op : Type 0} (n : ℕ) (xs : List (Entry Op)) (stamped : (e : Entry Op) → Contains xs e → IsStampOf n e.stamp) where
  pub version_knows : (e : Entry Op) → Contains xs e → IsAtMost e.stamp.clock (version n xs)
  version_knows e c =
      at_most_below e.stamp.clock (version n xs) (stamped e c).stamp.clock.wide (λ m h. joined_each (zero_clock n) xs m h e c)

  -- each id that it covers is there
  pub version_has : IsClosed xs → (i : Id) → 1 ≤ i.seq → covers (version n xs) i ≡ true → Any (λ (b : Entry Op). id_of b.stamp ≡ i) xs
  version_has closed i counted c =
      let l : i.seq ≤ count (version n xs) i.member = leb-true i.seq (count (version n xs) i.member) c in
      elim (version_from n xs i.member) [
        | inl q ↦ absurd (omega arith)
        | inr f ↦ closed.each f.0 i f.1 counted (le-leb i.seq (count f.0.stamp.clock i.member) (omega (arith, f.2)))
      ]

  pub version_is_clock : 1 ≤ n → n ≤ max_members → IsClock (version n xs)
  version_is_clock some most = record {
    some = subst (λ (k : ℕ). 1 ≤ k) (sym (n-version n xs)) some;
    most = subst (λ (k : ℕ). k ≤ max_members) (sym (n-version n xs)) most;
    wide = length-version n xs;
    bounded = λ m. version_below n xs m max_entry (λ e c. (stamped e c).stamp.clock.bounded m);
    empty_past = λ m h.
        let s = n-version n xs in
        let z : count (version n xs) m ≤ 0 = version_below n xs m 0 (λ e c.
        let t = stamped e c in
        let past : e.stamp.clock.n ≤ m = omega (arith, s, t.members) in
        let none = t.stamp.clock.empty_past m past in
        omega (arith, none)) in
        omega arith;
  }

-- one more of a member

pub count-with_own : (k : Clock) (m x : ℕ) → length k.at ≡ max_members → m < max_members → count (with_entry k m x) m ≡ x
count-with_own k m x wide h = get_or-set_same k.at m x 0 (omega arith)

pub count-with_other : (k : Clock) (m x i : ℕ) → (i ≡ m → ⊥) → count (with_entry k m x) i ≡ count k i
count-with_other k m x i h = get_or-set_other k.at m i x 0 h

module _ (k : Clock) (me : ℕ) (wide : length k.at ≡ max_members) (within : me < max_members) where
  abbrev more : Clock
  more = with_entry k me (count k me + 1)

  pub more_knows : IsAtMost k more
  more_knows = record {
    each = λ m. elim (cases_eq m me) [
      | inl q ↦
          (let a = count-with_own k me (count k me + 1) wide within in
          let b : count more m ≡ count more me = ap (λ i. count more i) q in
          let c : count k m ≡ count k me = ap (λ i. count k i) q in
          omega (arith, a))
      | inr d ↦ (let a = count-with_other k me (count k me + 1) m d in omega (arith, a))
    ];
  }

  -- what it covers is the new id, or was covered
  pub more_covers : (i : Id) → covers more i ≡ true → (i ≡ record { member = me; seq = count k me + 1 }) ⊎ (covers k i ≡ true)
  more_covers i c =
      let l : i.seq ≤ count more i.member = leb-true i.seq (count more i.member) c in
      elim (cases_lt (count k i.member) i.seq) [
        | inl new ↦ elim (cases_eq i.member me) [
          | inl q ↦
              (let a = count-with_own k me (count k me + 1) wide within in
              let b : count more i.member ≡ count more me = ap (λ j. count more j) q in
              let d : count k i.member ≡ count k me = ap (λ j. count k j) q in
              let s : i.seq ≡ count k me + 1 = omega (arith, a) in
              inl (same i q s))
          | inr d ↦ (let a = count-with_other k me (count k me + 1) i.member d in absurd (omega (arith, a)))
        ]
        | inr old ↦ inr (le-leb i.seq (count k i.member) old)
      ]
    where
      same : (i : Id) → i.member ≡ me → i.seq ≡ count k me + 1 → i ≡ record { member = me; seq = count k me + 1 }
      same i q s = ap₂ (λ (j l : ℕ). record { member = j; seq = l }) q s
