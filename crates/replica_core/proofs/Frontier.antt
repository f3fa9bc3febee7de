-- The frontier of an honest set by key tells what all of the set's clocks have.
use Rattle.std.proofs.Common.{List, [], ◌∷◌, ◌≡◌, ℕ, zero, suc, ◌+◌, ◌<◌, ◌≤◌, Bool, true, false, cond, ◌⊎◌, ◌↔◌, Contains, length, ap, ap₂, ◌∙◌, refl, sym, subst, inl, inr, arith, fold}
use Rattle.std.specs.Prelude.{◌&&◌, ◌||◌, ◌==◌, nat_le}
use Rattle.std.specs.Cmp.{both_ways}
use Rattle.std.specs.List.{All, AllByRecursion, list_all, list_any, range_with_len}
use Rattle.std.proofs.lemmas.Bool.{cases_eq, cases_lt, le-leb, leb-true, lt-leb}
use Rattle.std.proofs.lemmas.Bool.Decides.{nat_tests}
use Rattle.std.proofs.lemmas.List.{get_or-set_other, get_or-set_same, length-set}
use Rattle.std.proofs.lemmas.List.Elements.{recursion_from_All}
use Rattle.vector_clock.specs.declared.clock.Clock.{Clock}
use Rattle.vector_clock.specs.declared.stamp.Stamp.{Stamp}
use Rattle.vector_clock.specs.Clock.{IsAtMost, count, with_entry, zero_clock, max_members}
use Rattle.vector_clock.specs.Stamp.{is_before, is_below, same_id}
use Rattle.vector_clock.proofs.Keys.{below_known, key_asym, key_irreflexive, same_id_from}
use Rattle.crdt_laws.specs.declared.small.Entry.{Entry}
use Rattle.crdt_laws.specs.Sets.{IsHonest, IsRising, has_all_of}
use Rattle.crdt_laws.proofs.Filters.{all_both}
use Rattle.crdt_laws.proofs.Members.{each}
use Rattle.replica_model.proofs.Names.{all_in, in_all}
use Rattle.replica_core.specs.Frontier.{counted, frontier, is_at_most}
use Rattle.vector_clock.proofs.Clocks.{at_most_below}
use Rattle.replica_core.specs.Kept.{IsKnown}
use Rattle.replica_core.specs.Rows.{IsFrom}
use Rattle.replica_core.proofs.Joins.{known-with, none_counted}
use Rattle.vector_clock.proofs.Ordered.{all_weaker}

abbrev seq_of : {Op : Type 0} → Entry Op → ℕ
seq_of e = count e.stamp.clock e.stamp.member

-- the operations of a member stand by their numbers
abbrev IsInOrder : {Op : Type 0} → List (Entry Op) → Type 0
IsInOrder [] = Unit {0}
IsInOrder (a ∷ xs) = AllByRecursion (λ b. b.stamp.member ≡ a.stamp.member → seq_of a < seq_of b) xs × IsInOrder xs

before_from : (a b : Stamp) → b.member ≡ a.member → count b.clock b.member < count a.clock a.member → is_before b a ≡ true
unfolding is_before same_id
before_from a b same less =
    let e : count a.clock b.member ≡ count a.clock a.member = ap (count a.clock) same in
    grind (arith, nat_tests)

in_order_one : {Op : Type 0} (all : List (Entry Op)) (a b : Entry Op) → IsHonest all → Contains all a → Contains all b → is_below a.stamp b.stamp ≡ true → b.stamp.member ≡ a.stamp.member → seq_of a < seq_of b
in_order_one all a b h ca cb below same = elim (cases_lt (seq_of a) (seq_of b)) [
  | inl l ↦ l
  | inr l ↦ elim (cases_eq (seq_of b) (seq_of a)) [
    | inl e ↦
        (let one : a ≡ b = h.same a b ca cb (same_id_from a.stamp b.stamp same e) in
        absurd (key_irreflexive b.stamp (subst (λ z. is_below z.stamp b.stamp ≡ true) one below)))
    | inr e ↦
        (let less : seq_of b < seq_of a = omega arith in
        let back : is_below b.stamp a.stamp ≡ true = below_known a.stamp b.stamp (h.known a b ca cb (before_from a.stamp b.stamp same less)) in
        let forth : is_below b.stamp a.stamp ≡ false = key_asym a.stamp b.stamp below in
        cc)
  ]
]

in_order_from : {Op : Type 0} (all : List (Entry Op)) → IsHonest all → (xs : List (Entry Op)) → AllByRecursion (Contains all) xs → IsRising xs → IsInOrder xs
in_order_from all h [] c r = tt
in_order_from all h (a ∷ xs) c r = (
  all_weaker (λ b. Contains all b × (is_below a.stamp b.stamp ≡ true)) (λ b. b.stamp.member ≡ a.stamp.member → seq_of a < seq_of b)
      (λ b w same. in_order_one all a b h c.0 w.0 w.1 same) xs (all_both (Contains all) (λ b. is_below a.stamp b.stamp ≡ true) xs c.1 r.0),
  in_order_from all h xs c.1 r.1,
)

pub in_order : {Op : Type 0} (xs : List (Entry Op)) → IsHonest xs → IsRising xs → IsInOrder xs
in_order xs h r = in_order_from xs h xs (each xs) r

-- whether the operation has the id
abbrev named : {Op : Type 0} → ℕ → ℕ → Entry Op → Bool
named m s e = (e.stamp.member == m) && (seq_of e == s)

is_named : {Op : Type 0} (m s : ℕ) (e : Entry Op) → e.stamp.member ≡ m → seq_of e ≡ s → named m s e ≡ true
is_named m s e h k = grind (arith, nat_tests)

named_is : {Op : Type 0} (m s : ℕ) (e : Entry Op) → named m s e ≡ true → (e.stamp.member ≡ m) × (seq_of e ≡ s)
named_is m s e h = (grind (arith, nat_tests), grind (arith, nat_tests))

-- an id that is there is above those of the operations before it
above : {Op : Type 0} (m s t : ℕ) (xs : List (Entry Op)) → AllByRecursion (λ b. b.stamp.member ≡ m → t < seq_of b) xs → list_any (named m s) xs ≡ true → t < s
above m s t [] h k = absurd cc
above m s t (e ∷ xs) h k = go (named m s e) refl k (above m s t xs h.1)
  where
    go : (b : Bool) → named m s e ≡ b → (b || list_any (named m s) xs) ≡ true → (list_any (named m s) xs ≡ true → t < s) → t < s
    go true q j ih = (let n = named_is m s e q in subst (λ z. t < z) n.1 (h.0 n.0))
    go false q j ih = ih j

-- Where counting goes from k to f over the operations: the ids between are there, and the next one is not.
record Runs {Op : Type 0} (m k f : ℕ) (xs : List (Entry Op)) : Type 0 where
  grows : k ≤ f
  filled : (s : ℕ) → k < s → s ≤ f → list_any (named m s) xs ≡ true
  ends : list_any (named m (f + 1)) xs ≡ false

or_true : (a b : Bool) → b ≡ true → (a || b) ≡ true
or_true a b h = grind arith

or_first : (a b : Bool) → a ≡ true → (a || b) ≡ true
or_first a b h = grind arith

or_false : (a b : Bool) → (a ≡ true → ⊥) → b ≡ false → (a || b) ≡ false
or_false true b h k = absurd (h refl)
or_false false b h k = k

-- what one operation does to the count of a member
abbrev Step : {Op : Type 0} → ℕ → ℕ → ℕ → Entry Op → Type 0
Step m k j e = ((e.stamp.member ≡ m) × (seq_of e ≡ k + 1) × (j ≡ k + 1)) ⊎ ((j ≡ k) × (e.stamp.member ≡ m → seq_of e ≡ k + 1 → ⊥))

runs_more : {Op : Type 0} (m k j f : ℕ) (e : Entry Op) (xs : List (Entry Op)) → Step m k j e → AllByRecursion (λ b. b.stamp.member ≡ e.stamp.member → seq_of e < seq_of b) xs → Runs m j f xs → Runs m k f (e ∷ xs)
runs_more m k j f e xs (inl w) order r = record {
  grows = (let up = r.grows in let is = w.2 in omega arith);
  filled = λ s low high. elim (cases_lt j s) [
    | inl l ↦ or_true (named m s e) (list_any (named m s) xs) (r.filled s l high)
    | inr l ↦ (let is = w.2 in let q = w.1 in or_first (named m s e) (list_any (named m s) xs) (is_named m s e w.0 (omega arith)))
  ];
  ends = or_false (named m (f + 1) e) (list_any (named m (f + 1)) xs) (λ h. (let n = named_is m (f + 1) e h in let a = n.1 in let b = w.1 in let d = w.2 in let up = r.grows in omega arith)) r.ends;
}
runs_more m k j f e xs (inr w) order r = record {
  grows = (let up = r.grows in let is = w.0 in omega arith);
  filled = λ s low high. (let is = w.0 in or_true (named m s e) (list_any (named m s) xs) (r.filled s (omega arith) high));
  ends =
      or_false (named m (f + 1) e) (list_any (named m (f + 1)) xs)
      (λ h.
      (let n = named_is m (f + 1) e h in
      let a : seq_of e ≡ f + 1 = n.1 in
      let is : j ≡ k = w.0 in
      let up = r.grows in
      elim (cases_eq f j) [
        | inl q ↦ w.1 n.0 (omega arith)
        | inr q ↦
            (let last : list_any (named m f) xs ≡ true = r.filled f (omega arith) (omega arith) in
            let less : seq_of e < f = above m f (seq_of e) xs (subst (λ z. AllByRecursion (λ b. b.stamp.member ≡ z → seq_of e < seq_of b) xs) n.0 order) last in
            omega arith)
      ]))
      r.ends;
}

none_named : {Op : Type 0} (n m s : ℕ) (xs : List (Entry Op)) → n ≤ m → AllByRecursion (IsFrom n) xs → list_any (named m s) xs ≡ false
none_named n m s [] h all = refl
none_named n m s (e ∷ xs) h all =
    or_false (named m s e) (list_any (named m s) xs)
    (λ q. (let i = (named_is m s e q).0 in let l = all.0.stamp.stamp.member in let o = all.0.stamp.members in omega arith))
    (none_named n m s xs h all.1)

next_not : {Op : Type 0} (e : Entry Op) (k : Clock) (m : ℕ) → (seq_of e == count k e.stamp.member + 1) ≡ false → e.stamp.member ≡ m → seq_of e ≡ count k m + 1 → ⊥
next_not e k m q same is = (let j : count k e.stamp.member ≡ count k m = ap (count k) same in grind (arith, nat_tests))

next_is : {Op : Type 0} (e : Entry Op) (k : Clock) → (seq_of e == count k e.stamp.member + 1) ≡ true → seq_of e ≡ count k e.stamp.member + 1
next_is e k q = grind (arith, nat_tests)

-- one operation counted
counted_step : {Op : Type 0} (n : ℕ) (k : Clock) (e : Entry Op) (m : ℕ) → n ≤ max_members → length k.at ≡ max_members → IsFrom n e → Step m (count k m) (count (counted k e) m) e
counted_step n k e m most wide from = go (seq_of e == count k e.stamp.member + 1) refl
  where
    go : (b : Bool) → (seq_of e == count k e.stamp.member + 1) ≡ b → Step m (count k m) (count (cond b (with_entry k e.stamp.member (seq_of e)) k) m) e
    go false q = inr (refl, λ same is. next_not e k m q same is)
    go true q = elim (cases_eq m e.stamp.member) [
      | inl same ↦
          (let l : e.stamp.member < length k.at = (let a = from.stamp.stamp.member in let b = from.stamp.members in omega arith) in
          let own : count (with_entry k e.stamp.member (seq_of e)) e.stamp.member ≡ seq_of e = get_or-set_same k.at e.stamp.member (seq_of e) 0 l in
          let is : seq_of e ≡ count k e.stamp.member + 1 = next_is e k q in
          subst (λ z. Step z (count k z) (count (with_entry k e.stamp.member (seq_of e)) z) e) (sym same) (inl (refl, is, own ∙ is)))
      | inr other ↦ inr (get_or-set_other k.at e.stamp.member m (seq_of e) 0 other, λ same is. other (sym same))
    ]

wide-counted : {Op : Type 0} (k : Clock) (e : Entry Op) → length k.at ≡ max_members → length (counted k e).at ≡ max_members
wide-counted k e wide =
    elim (seq_of e == count k e.stamp.member + 1) as (λ b. length (cond b (with_entry k e.stamp.member (seq_of e)) k).at ≡ max_members) [
      | true ↦ length-set k.at e.stamp.member (seq_of e) ∙ wide
      | false ↦ wide
    ]

runs_fold : {Op : Type 0} (n m : ℕ) (xs : List (Entry Op)) (k : Clock) → n ≤ max_members → length k.at ≡ max_members → AllByRecursion (IsFrom n) xs → IsInOrder xs → Runs m (count k m) (count (fold counted k xs) m) xs
runs_fold n m [] k most wide all order = record { grows = omega arith; filled = λ s low high. absurd (omega arith); ends = refl }
runs_fold n m (e ∷ xs) k most wide all order =
    runs_more m (count k m) (count (counted k e) m) (count (fold counted (counted k e) xs) m) e xs (counted_step n k e m most wide all.0) order.0
    (runs_fold n m xs (counted k e) most (wide-counted k e wide) all.1 order.1)

and_first : (a b : Bool) → a ≡ true → (a && b) ≡ b
and_first a b h = grind arith

and_false : (a b : Bool) → a ≡ false → (a && b) ≡ false
and_false a b h = grind arith

next_sum : (a k : ℕ) → a + 1 + k ≡ a + suc k
next_sum a k = omega arith

-- what holds up to t and not of the next number
run_all : (p : ℕ → Bool) (t : ℕ) → ((s : ℕ) → 0 < s → s ≤ t → p s ≡ true) → p (t + 1) ≡ false → (k a : ℕ) → 0 < a → a ≤ t + 1 → list_all p (range_with_len a k) ≡ nat_le (a + k) (t + 1)
run_all p t filled ends zero a some low = sym (le-leb (a + 0) (t + 1) (omega arith))
run_all p t filled ends (suc k) a some low = elim (cases_lt a (t + 1)) [
  | inl l ↦
      and_first (p a) (list_all p (range_with_len (a + 1) k)) (filled a some (omega arith)) ∙ run_all p t filled ends k (a + 1) (omega arith) (omega arith)
      ∙ ap (λ z. nat_le z (t + 1)) (next_sum a k)
  | inr l ↦
      (let q : a ≡ t + 1 = omega arith in
      and_false (p a) (list_all p (range_with_len (a + 1) k)) (ap p q ∙ ends) ∙ sym (lt-leb (a + suc k) (t + 1) (omega arith)))
]

le_suc : (a b : ℕ) → nat_le (1 + a) (b + 1) ≡ nat_le a b
le_suc a b = grind (arith, nat_tests)

all_agree : (p q : ℕ → Bool) → ((m : ℕ) → p m ≡ q m) → (ms : List ℕ) → list_all p ms ≡ list_all q ms
all_agree p q h [] = refl
all_agree p q h (m ∷ ms) = ap₂ (λ a b. a && b) (h m) (all_agree p q h ms)

-- the clock is at most the frontier where the set has all that it covers
pub frontier_exact : {Op : Type 0} (n : ℕ) (xs : List (Entry Op)) → n ≤ max_members → All (IsFrom n) xs → IsHonest xs → IsRising xs → (c : Clock) → has_all_of xs c ≡ is_at_most c (frontier n xs)
unfolding has_all_of is_at_most
frontier_exact n xs most all honest rising c =
    all_agree (λ m. list_all (λ s. list_any (named m s) xs) (range_with_len 1 (count c m))) (λ m. nat_le (count c m) (count (frontier n xs) m))
    (λ m.
    (let r : Runs m (count (zero_clock n) m) (count (frontier n xs) m) xs =
    runs_fold n m xs (zero_clock n) most refl (recursion_from_All (IsFrom n) xs all) (in_order xs honest rising) in
    let none : count (zero_clock n) m ≡ 0 = none_counted n m in
    run_all (λ s. list_any (named m s) xs) (count (frontier n xs) m) (λ s low high. r.filled s (omega arith) high) r.ends (count c m) 1 (omega arith) (omega arith)
    ∙ le_suc (count c m) (count (frontier n xs) m)))
    (range_with_len 0 max_members)

-- the test tells the order of clocks
pub tells : (b : Bool) (k c : Clock) → length k.at ≡ max_members → (b ≡ true) ↔ IsAtMost k c → b ≡ is_at_most k c
unfolding is_at_most
tells b k c wide h =
    both_ways b (is_at_most k c) (λ q. (let l = (h.0 q).each in in_all (λ m. nat_le (count k m) (count c m)) 0 max_members (λ m _ _. le-leb (count k m) (count c m) (l m))))
    (λ q. h.1 (at_most_below k c wide (λ m l. leb-true (count k m) (count c m) (all_in (λ j. nat_le (count k j) (count c j)) 0 max_members q m (omega arith) l))))

-- a clock with the next operation of a member is known
pub known-counted : {Op : Type 0} (n : ℕ) (k : Clock) (e : Entry Op) → IsKnown n k → IsFrom n e → IsKnown n (with_entry k e.stamp.member (seq_of e))
known-counted n k e h from =
    let low : e.stamp.member < n = (let a = from.stamp.stamp.member in let b = from.stamp.members in omega arith) in
    known-with n k e.stamp.member (seq_of e) h low (from.within.each e.stamp.member)

pub counted_hit : {Op : Type 0} (k : Clock) (e : Entry Op) → seq_of e ≡ count k e.stamp.member + 1 → with_entry k e.stamp.member (seq_of e) ≡ counted k e
counted_hit k e h = grind (arith, nat_tests)

pub counted_miss : {Op : Type 0} (k : Clock) (e : Entry Op) → (seq_of e ≡ count k e.stamp.member + 1 → ⊥) → k ≡ counted k e
counted_miss k e h = grind (arith, nat_tests)
