-- What the longest clean prefix of a log keeps, and how it changes with the log.
use Rattle.std.proofs.Common.{◌≡◌, ℕ, zero, suc, ◌+◌, ◌≤◌, ◌<◌, Bool, true, false, ◌&&◌, List, [], ◌∷◌, ◌++◌, cond, refl, ap, ap₂, inl, inr, sym, ◌∙◌, arith, length, take, drop, add-suc}
use Rattle.std.specs.Cmp.{both_ways}
use Rattle.std.specs.List.{AllByRecursion, list_all}
use Rattle.std.proofs.lemmas.Bool.{and_from, and_parts, cases_lt, false_from_ne_true}
use Rattle.std.proofs.lemmas.List.{take-append-drop}
use Rattle.std.proofs.lemmas.List.Folds.{list_all-append}
use Rattle.std.proofs.Math.Seq.{drop-append-add, take-append-add}
use Rattle.vector_clock.specs.declared.clock.Clock.{Clock}
use Rattle.vector_clock.specs.declared.stamp.Stamp.{Stamp}
use Rattle.vector_clock.specs.Clock.{IsAtMost, count, covers}
use Rattle.vector_clock.specs.Stamp.{IsAfter, id_of, is_before, is_below, same_id}
use Rattle.crdt_laws.specs.declared.small.Entry.{Entry}
use Rattle.crdt_laws.specs.Sets.{place}
use Rattle.crdt_laws.proofs.Filters.{all-place, all_true, true_all}
use Rattle.vector_clock.proofs.Causal.{covers_past}
use Rattle.vector_clock.proofs.Keys.{below_known, covers_more, key_asym}
use Rattle.std.proofs.lemmas.Bool.Decides.{nat_tests}
use Rattle.weave_core.proofs.Placed.{all_drop}
use Rattle.reset_products.specs.Cut.{clean_cut, greatest, is_clean, is_clean_prefix}
use Rattle.vector_clock.proofs.Ordered.{all_weaker}

-- the greatest number that passes a test

pub greatest_within : (test : ℕ → Bool) (n : ℕ) → greatest test n ≤ n
greatest_within test zero = omega arith
greatest_within test (suc n) =
    let ih : greatest test n ≤ n = greatest_within test n in
    elim (test (suc n)) as (λ b. cond b (suc n) (greatest test n) ≤ suc n) [ true ↦ omega arith | false ↦ omega arith ]

pub greatest_passes : (test : ℕ → Bool) (n : ℕ) → test 0 ≡ true → test (greatest test n) ≡ true
greatest_passes test zero h = h
greatest_passes test (suc n) h =
    (elim (test (suc n)) as (λ b. test (suc n) ≡ b → test (cond b (suc n) (greatest test n)) ≡ true) [
      | true ↦ λ e. e
      | false ↦ λ _. greatest_passes test n h
    ]) refl

pub greatest_last : (test : ℕ → Bool) (n j : ℕ) → j ≤ n → test j ≡ true → j ≤ greatest test n
greatest_last test zero j m h = m
greatest_last test (suc n) j m h =
    (elim (test (suc n)) as (λ b. test (suc n) ≡ b → j ≤ cond b (suc n) (greatest test n)) [
      | true ↦ λ e. m
      | false ↦ λ e. greatest_last test n j (less j n m e h) h
    ]) refl
  where
    less : (j n : ℕ) → j ≤ suc n → test (suc n) ≡ false → test j ≡ true → j ≤ n
    less j n m e h = (let ne : (j ≡ suc n → ⊥) = λ q. (let g : test (suc n) ≡ true = ap test (sym q) ∙ h in let f : true ≡ false = sym g ∙ e in cc) in omega arith)

greatest_same : (f g : ℕ → Bool) (n : ℕ) → ((i : ℕ) → i ≤ n → f i ≡ g i) → greatest f n ≡ greatest g n
greatest_same f g zero h = refl
greatest_same f g (suc n) h =
    ap₂ (λ (b : Bool) (m : ℕ). cond b (suc n) m) (h (suc n) (omega arith)) (greatest_same f g n (λ i m. h i (omega arith)))

greatest_none : (test : ℕ → Bool) (n : ℕ) → ((i : ℕ) → test (suc i) ≡ false) → greatest test n ≡ 0
greatest_none test zero h = refl
greatest_none test (suc n) h = ap (λ b. cond b (suc n) (greatest test n)) (h n) ∙ greatest_none test n h

pub greatest_at : (test : ℕ → Bool) (a : ℕ) → test a ≡ true → greatest test a ≡ a
greatest_at test zero h = refl
greatest_at test (suc a) h = ap (λ b. cond b (suc a) (greatest test a)) h

-- where no number behind a passes, the greatest is one up to a
pub greatest_skip : (test : ℕ → Bool) (a b : ℕ) → a ≤ b → ((n : ℕ) → a < n → n ≤ b → test n ≡ false) → greatest test b ≡ greatest test a
greatest_skip test a zero m h = ap (greatest test) (let e : 0 ≡ a = omega arith in e)
greatest_skip test a (suc b) m h =
    elim (cases_lt a (suc b)) [
      | inl l ↦
          ap (λ c. cond c (suc b) (greatest test b)) (h (suc b) l (omega arith))
          ∙ greatest_skip test a b (omega arith) (λ n i j. h n i (omega arith))
      | inr g ↦ ap (greatest test) (let e : suc b ≡ a = omega arith in e)
    ]

-- where a passes, the greatest number from a on is a and the greatest further number
greatest_from : (test : ℕ → Bool) (a n : ℕ) → test 0 ≡ true → test a ≡ true → greatest test (a + n) ≡ a + greatest (λ j. test (a + j)) n
greatest_from test a zero z h = ap (greatest test) at_end ∙ greatest_at test a h ∙ sym at_end
  where
    at_end : a + 0 ≡ a
    at_end = omega arith
greatest_from test a (suc n) z h =
    let ih : greatest test (a + n) ≡ a + greatest (λ j. test (a + j)) n = greatest_from test a n z h in
    ap (greatest test) (add-suc a n)
    ∙ choice (test (suc (a + n))) (test (a + suc n)) (ap test (sym (add-suc a n))) ih
  where
    choice : (b c : Bool) → b ≡ c → greatest test (a + n) ≡ a + greatest (λ j. test (a + j)) n → cond b (suc (a + n)) (greatest test (a + n)) ≡ a + cond c (suc n) (greatest (λ j. test (a + j)) n)
    choice true true e ih = sym (add-suc a n)
    choice false false e ih = ih
    choice true false e ih = absurd cc
    choice false true e ih = absurd cc

-- a clean prefix, as a fact

abbrev pub IsClean : {Op : Type 0} → Clock → List (Entry Op) → List (Entry Op) → Type 0
IsClean k xs ys = AllByRecursion (λ x. (covers k (id_of x.stamp) ≡ true) × AllByRecursion (λ y. is_before x.stamp y.stamp ≡ true) ys) xs

pub clean_from : {Op : Type 0} (k : Clock) (xs ys : List (Entry Op)) → is_clean k xs ys ≡ true → IsClean k xs ys
clean_from {Op} k xs ys h =
    all_weaker (λ (x : Entry Op). (covers k (id_of x.stamp) && list_all (λ y. is_before x.stamp y.stamp) ys) ≡ true)
    (λ x. (covers k (id_of x.stamp) ≡ true) × AllByRecursion (λ y. is_before x.stamp y.stamp ≡ true) ys)
    (λ x e. let both = and_parts (covers k (id_of x.stamp)) (list_all (λ y. is_before x.stamp y.stamp) ys) e in (both.0, all_true (λ (y : Entry Op). is_before x.stamp y.stamp) ys both.1))
    xs (all_true (λ (x : Entry Op). covers k (id_of x.stamp) && list_all (λ y. is_before x.stamp y.stamp) ys) xs h)

pub clean_to : {Op : Type 0} (k : Clock) (xs ys : List (Entry Op)) → IsClean k xs ys → is_clean k xs ys ≡ true
clean_to {Op} k xs ys h =
    true_all (λ (x : Entry Op). covers k (id_of x.stamp) && list_all (λ y. is_before x.stamp y.stamp) ys) xs
    (all_weaker (λ (x : Entry Op). (covers k (id_of x.stamp) ≡ true) × AllByRecursion (λ y. is_before x.stamp y.stamp ≡ true) ys)
    (λ x. (covers k (id_of x.stamp) && list_all (λ y. is_before x.stamp y.stamp) ys) ≡ true)
    (λ x e. and_from (covers k (id_of x.stamp)) (list_all (λ y. is_before x.stamp y.stamp) ys) e.0 (true_all (λ (y : Entry Op). is_before x.stamp y.stamp) ys e.1)) xs h)

-- the cut is a clean prefix, and no longer one is

pub cut_within : {Op : Type 0} (log : List (Entry Op)) (k : Clock) → clean_cut log k ≤ length log
unfolding clean_cut
cut_within log k = greatest_within (is_clean_prefix k log) (length log)

pub cut_clean : {Op : Type 0} (log : List (Entry Op)) (k : Clock) → IsClean k (take (clean_cut log k) log) (drop (clean_cut log k) log)
unfolding clean_cut
cut_clean log k =
    let c = greatest (is_clean_prefix k log) (length log) in
    clean_from k (take c log) (drop c log) (greatest_passes (is_clean_prefix k log) (length log) refl)

pub cut_longest : {Op : Type 0} (log : List (Entry Op)) (k : Clock) (n : ℕ) → n ≤ length log → is_clean_prefix k log n ≡ true → n ≤ clean_cut log k
unfolding clean_cut
cut_longest log k n m h = greatest_last (is_clean_prefix k log) (length log) n m h

-- one more operation, which the clock does not cover and which knows all that it covers

length-place : {Op : Type 0} (x : Entry Op) (l : List (Entry Op)) → length (place x l) ≡ suc (length l)
length-place x [] = refl
length-place x (a ∷ l) =
    elim (is_below x.stamp a.stamp) as (λ b. length (cond b (x ∷ a ∷ l) (a ∷ place x l)) ≡ suc (suc (length l))) [
      | true ↦ refl
      | false ↦ ap (λ (n : ℕ). suc n) (length-place x l)
    ]

pub all-unplace : {Op : Type 0} (P : Entry Op → Type 0) (x : Entry Op) (l : List (Entry Op)) → AllByRecursion P (place x l) → AllByRecursion P l
all-unplace P x [] h = tt
all-unplace P x (a ∷ l) h =
    (elim (is_below x.stamp a.stamp) as (λ b. AllByRecursion P (cond b (x ∷ a ∷ l) (a ∷ place x l)) → AllByRecursion P (a ∷ l)) [
      | true ↦ λ k. k.1
      | false ↦ λ k. (k.0, all-unplace P x l k.1)
    ]) h

abbrev IsBehind : {Op : Type 0} → Entry Op → List (Entry Op) → Type 0
IsBehind x l = AllByRecursion (λ e. is_below x.stamp e.stamp ≡ false) l

place_behind : {Op : Type 0} (x a : Entry Op) (l : List (Entry Op)) → is_below x.stamp a.stamp ≡ false → place x (a ∷ l) ≡ a ∷ place x l
place_behind x a l h = ap (λ b. cond b (x ∷ a ∷ l) (a ∷ place x l)) h

-- the first n, where the new operation comes behind them
take-place : {Op : Type 0} (x : Entry Op) (n : ℕ) (l : List (Entry Op)) → n ≤ length l → IsBehind x (take n l) → take n (place x l) ≡ take n l
take-place x zero l m h = refl
take-place x (suc n) [] m h = absurd (omega arith)
take-place {Op} x (suc n) (a ∷ l) m h =
    ap (take (suc n)) (place_behind x a l h.0) ∙ ap (λ (k : List (Entry Op)). a ∷ k) (take-place x n l (let q : suc n ≤ suc (length l) = m in omega arith) h.1)

drop-place : {Op : Type 0} (x : Entry Op) (n : ℕ) (l : List (Entry Op)) → n ≤ length l → IsBehind x (take n l) → drop n (place x l) ≡ place x (drop n l)
drop-place x zero l m h = refl
drop-place x (suc n) [] m h = absurd (omega arith)
drop-place x (suc n) (a ∷ l) m h =
    ap (drop (suc n)) (place_behind x a l h.0) ∙ drop-place x n l (let q : suc n ≤ suc (length l) = m in omega arith) h.1

-- where all of the first n have what the new operation lacks, it comes behind them
taken_behind : {Op : Type 0} (P : Entry Op → Type 0) (x : Entry Op) → (P x → ⊥) → (n : ℕ) (l : List (Entry Op)) → AllByRecursion P (take n (place x l)) → (n ≤ length l) × IsBehind x (take n l)
taken_behind P x lacks zero l h = (omega arith, tt)
taken_behind P x lacks (suc n) [] h = absurd (lacks h.0)
taken_behind P x lacks (suc n) (a ∷ l) h =
    (elim (is_below x.stamp a.stamp) as (λ b. is_below x.stamp a.stamp ≡ b → AllByRecursion P (take (suc n) (cond b (x ∷ a ∷ l) (a ∷ place x l))) → (suc n ≤ suc (length l)) × IsBehind x (a ∷ take n l)) [
      | true ↦ λ _ k. absurd (lacks k.0)
      | false ↦ λ e k. (let r = taken_behind P x lacks n l k.1 in let m : n ≤ length l = r.0 in (omega arith, (e, r.1)))
    ]) refl h

-- each operation of the list that the clock covers knew no more than the clock
abbrev pub AreWithin : {Op : Type 0} → Clock → List (Entry Op) → Type 0
AreWithin k l = AllByRecursion (λ e. covers k (id_of e.stamp) ≡ true → IsAtMost e.stamp.clock k) l

-- what knows of e, where a clock covers e and does not cover it, is another operation
before_past : (k : Clock) (e p : Stamp) → covers p.clock (id_of e) ≡ true → covers k (id_of e) ≡ true → covers k (id_of p) ≡ false → is_before e p ≡ true
unfolding is_before same_id
before_past k e p a b c = grind (arith, nat_tests)

covered_before : (k : Clock) (e p : Stamp) → IsAfter k p → covers k (id_of e) ≡ true → is_before e p ≡ true
covered_before k e p h c = before_past k e p (covers_past k p.clock e h.knows c) c h.new

covered_behind : (k : Clock) (e p : Stamp) → IsAfter k p → IsAtMost e.clock k → is_below p e ≡ false
covered_behind k e p h m =
    key_asym e p (below_known p e (record {
      knows = record { each = λ i. (let a : count e.clock i ≤ count k i = m.each i in let b : count k i ≤ count p.clock i = h.knows.each i in omega arith) };
      new = covers_more e.clock k p m h.new;
    }))

module _ {Op : Type 0} (k : Clock) (x : Entry Op) (after : IsAfter k x.stamp) where
  not_covered : covers k (id_of x.stamp) ≡ true → ⊥
  not_covered h = (let g : covers k (id_of x.stamp) ≡ false = after.new in cc)

  clean_behind : (xs ys : List (Entry Op)) → AreWithin k xs → IsClean k xs ys → IsBehind x xs
  clean_behind [] ys w h = tt
  clean_behind (a ∷ xs) ys w h = (covered_behind k a.stamp x.stamp after (w.0 h.0.0), clean_behind xs ys w.1 h.1)

  clean_with : (xs ys : List (Entry Op)) → IsClean k xs ys → IsClean k xs (place x ys)
  clean_with [] ys h = tt
  clean_with (a ∷ xs) ys h =
      ((h.0.0, all-place (λ (y : Entry Op). is_before a.stamp y.stamp ≡ true) x (covered_before k a.stamp x.stamp after h.0.0) ys h.0.1), clean_with xs ys h.1)

  clean_without : (xs ys : List (Entry Op)) → IsClean k xs (place x ys) → IsClean k xs ys
  clean_without xs ys h =
      all_weaker (λ (a : Entry Op). (covers k (id_of a.stamp) ≡ true) × AllByRecursion (λ (y : Entry Op). is_before a.stamp y.stamp ≡ true) (place x ys))
      (λ (a : Entry Op). (covers k (id_of a.stamp) ≡ true) × AllByRecursion (λ (y : Entry Op). is_before a.stamp y.stamp ≡ true) ys)
      (λ a e. (e.0, all-unplace (λ (y : Entry Op). is_before a.stamp y.stamp ≡ true) x ys e.1)) xs h

  within_take : (n : ℕ) (l : List (Entry Op)) → AreWithin k l → AreWithin k (take n l)
  within_take zero l h = tt
  within_take (suc n) [] h = tt
  within_take (suc n) (a ∷ l) h = (h.0, within_take n l h.1)

  placed_clean : (l : List (Entry Op)) → AreWithin k l → (n : ℕ) → n ≤ length l → is_clean_prefix k l n ≡ true → is_clean_prefix k (place x l) n ≡ true
  placed_clean l w n m h =
      let c = clean_from k (take n l) (drop n l) h in
      let b = clean_behind (take n l) (drop n l) (within_take n l w) c in
      ap₂ (is_clean k) (take-place x n l m b) (drop-place x n l m b) ∙ clean_to k (take n l) (place x (drop n l)) (clean_with (take n l) (drop n l) c)

  placed_behind : (l : List (Entry Op)) (n : ℕ) → is_clean_prefix k (place x l) n ≡ true → (n ≤ length l) × IsBehind x (take n l)
  placed_behind l n h =
      taken_behind (λ (e : Entry Op). covers k (id_of e.stamp) ≡ true) x not_covered n l
      (all_weaker (λ (a : Entry Op). (covers k (id_of a.stamp) ≡ true) × AllByRecursion (λ (y : Entry Op). is_before a.stamp y.stamp ≡ true) (drop n (place x l)))
      (λ (a : Entry Op). covers k (id_of a.stamp) ≡ true) (λ a e. e.0) (take n (place x l)) (clean_from k (take n (place x l)) (drop n (place x l)) h))

  unplaced_clean : (l : List (Entry Op)) (n : ℕ) → is_clean_prefix k (place x l) n ≡ true → is_clean_prefix k l n ≡ true
  unplaced_clean l n h =
      let b = placed_behind l n h in
      let c : is_clean k (take n l) (place x (drop n l)) ≡ true = sym (ap₂ (is_clean k) (take-place x n l b.0 b.1) (drop-place x n l b.0 b.1)) ∙ h in
      clean_to k (take n l) (drop n l) (clean_without (take n l) (drop n l) (clean_from k (take n l) (place x (drop n l)) c))

  whole_not_clean : (l : List (Entry Op)) → is_clean_prefix k (place x l) (suc (length l)) ≡ false
  whole_not_clean l = false_from_ne_true _ (λ h. let b : suc (length l) ≤ length l = (placed_behind l (suc (length l)) h).0 in omega arith)

  -- the cut stays where it is, in front of the new operation
  pub cut-place : (l : List (Entry Op)) → AreWithin k l → clean_cut (place x l) k ≡ clean_cut l k
  unfolding clean_cut
  cut-place l w =
      let test = is_clean_prefix k (place x l) in
      ap (greatest test) (length-place x l)
      ∙ ap (λ b. cond b (suc (length l)) (greatest test (length l))) (whole_not_clean l)
      ∙ greatest_same test (is_clean_prefix k l) (length l) (λ n m. both_ways (test n) (is_clean_prefix k l n) (unplaced_clean l n) (placed_clean l w n m))

  cut_behind : (l : List (Entry Op)) → AreWithin k l → IsBehind x (take (clean_cut l k) l)
  cut_behind l w = let c = clean_cut l k in clean_behind (take c l) (drop c l) (within_take c l w) (cut_clean l k)

  pub settled-place : (l : List (Entry Op)) → AreWithin k l → take (clean_cut (place x l) k) (place x l) ≡ take (clean_cut l k) l
  settled-place l w = ap (λ n. take n (place x l)) (cut-place l w) ∙ take-place x (clean_cut l k) l (cut_within l k) (cut_behind l w)

  pub left-place : (l : List (Entry Op)) → AreWithin k l → drop (clean_cut (place x l) k) (place x l) ≡ place x (drop (clean_cut l k) l)
  left-place l w = ap (λ n. drop n (place x l)) (cut-place l w) ∙ drop-place x (clean_cut l k) l (cut_within l k) (cut_behind l w)

-- nothing is clean where the clock covers nothing
pub cut_none : {Op : Type 0} (k : Clock) (l : List (Entry Op)) → AllByRecursion (λ e. covers k (id_of e.stamp) ≡ false) l → clean_cut l k ≡ 0
unfolding clean_cut
cut_none k [] h = refl
cut_none {Op} k (a ∷ l) h = greatest_none (is_clean_prefix k (a ∷ l)) (suc (length l)) (λ i. first (list_all (λ (y : Entry Op). is_before a.stamp y.stamp) (drop i l)) (is_clean k (take i l) (drop i l)))
  where
    first : (b c : Bool) → ((covers k (id_of a.stamp) && b) && c) ≡ false
    first b c = (let e : covers k (id_of a.stamp) ≡ false = h.0 in cc)

-- at a later clock the cut is the earlier one, and the cut of what is left behind it

clean_later : {Op : Type 0} (k l : Clock) → IsAtMost k l → (xs ys : List (Entry Op)) → IsClean k xs ys → IsClean l xs ys
clean_later {Op} k l later xs ys h =
    all_weaker (λ (a : Entry Op). (covers k (id_of a.stamp) ≡ true) × AllByRecursion (λ (y : Entry Op). is_before a.stamp y.stamp ≡ true) ys)
    (λ (a : Entry Op). (covers l (id_of a.stamp) ≡ true) × AllByRecursion (λ (y : Entry Op). is_before a.stamp y.stamp ≡ true) ys)
    (λ a e. (covers_past k l a.stamp later e.0, e.1)) xs h

clean_drop : {Op : Type 0} (l : Clock) (xs ys : List (Entry Op)) (j : ℕ) → IsClean l xs ys → IsClean l xs (drop j ys)
clean_drop {Op} l xs ys j h =
    all_weaker (λ (a : Entry Op). (covers l (id_of a.stamp) ≡ true) × AllByRecursion (λ (y : Entry Op). is_before a.stamp y.stamp ≡ true) ys)
    (λ (a : Entry Op). (covers l (id_of a.stamp) ≡ true) × AllByRecursion (λ (y : Entry Op). is_before a.stamp y.stamp ≡ true) (drop j ys))
    (λ a e. (e.0, all_drop (λ (y : Entry Op). is_before a.stamp y.stamp ≡ true) j ys e.1)) xs h

clean-append : {Op : Type 0} (l : Clock) (xs ys : List (Entry Op)) (j : ℕ) → IsClean l xs ys → is_clean_prefix l (xs ++ ys) (length xs + j) ≡ is_clean_prefix l ys j
clean-append {Op} l xs ys j h =
    let zs = drop j ys in
    let test : Entry Op → Bool = λ x. covers l (id_of x.stamp) && list_all (λ y. is_before x.stamp y.stamp) zs in
    ap₂ (is_clean l) (take-append-add xs ys j) (drop-append-add xs ys j)
    ∙ list_all-append test xs (take j ys)
    ∙ ap (λ b. b && list_all test (take j ys)) (clean_to l xs zs (clean_drop l xs ys j h))

pub length-take_cut : {X : Type 0} (n : ℕ) (l : List X) → n ≤ length l → length (take n l) ≡ n
length-take_cut zero l m = refl
length-take_cut (suc n) [] m = absurd (omega arith)
length-take_cut (suc n) (a ∷ l) m = ap (λ (i : ℕ). suc i) (length-take_cut n l (let q : suc n ≤ suc (length l) = m in omega arith))

length_parts : {X : Type 0} (xs ys : List X) → length (xs ++ ys) ≡ length xs + length ys
length_parts [] ys = omega arith
length_parts (a ∷ xs) ys = let ih : length (xs ++ ys) ≡ length xs + length ys = length_parts xs ys in omega arith

clean_whole : {Op : Type 0} (l : Clock) (xs ys : List (Entry Op)) → IsClean l xs ys → is_clean_prefix l (xs ++ ys) (length xs) ≡ true
clean_whole l xs ys h = ap (is_clean_prefix l (xs ++ ys)) (let e : length xs ≡ length xs + 0 = omega arith in e) ∙ clean-append l xs ys 0 h

pub cut-append : {Op : Type 0} (l : Clock) (xs ys : List (Entry Op)) → IsClean l xs ys → clean_cut (xs ++ ys) l ≡ length xs + clean_cut ys l
unfolding clean_cut
cut-append l xs ys h =
    let test = is_clean_prefix l (xs ++ ys) in
    ap (greatest test) (length_parts xs ys)
    ∙ greatest_from test (length xs) (length ys) refl (clean_whole l xs ys h)
    ∙ ap (λ n. length xs + n) (greatest_same (λ j. test (length xs + j)) (is_clean_prefix l ys) (length ys) (λ j _. clean-append l xs ys j h))

-- what is settled at the earlier clock, and then at the later one, is what is settled there at once
pub cut_twice : {Op : Type 0} (k l : Clock) (log : List (Entry Op)) → IsAtMost k l
    → clean_cut log l ≡ length (take (clean_cut log k) log) + clean_cut (drop (clean_cut log k) log) l
cut_twice k l log later =
    let c = clean_cut log k in
    let xs = take c log in
    let ys = drop c log in
    ap (λ z. clean_cut z l) (sym (take-append-drop c log))
    ∙ cut-append l xs ys (clean_later k l later xs ys (cut_clean log k))

pub settled_twice : {Op : Type 0} (k l : Clock) (log : List (Entry Op)) → IsAtMost k l
    → take (clean_cut log l) log ≡ take (clean_cut log k) log ++ take (clean_cut (drop (clean_cut log k) log) l) (drop (clean_cut log k) log)
settled_twice k l log later =
    let c = clean_cut log k in
    let xs = take c log in
    let ys = drop c log in
    ap (λ n. take n log) (cut_twice k l log later)
    ∙ ap (take (length xs + clean_cut ys l)) (sym (take-append-drop c log))
    ∙ take-append-add xs ys (clean_cut ys l)

pub left_twice : {Op : Type 0} (k l : Clock) (log : List (Entry Op)) → IsAtMost k l
    → drop (clean_cut log l) log ≡ drop (clean_cut (drop (clean_cut log k) log) l) (drop (clean_cut log k) log)
left_twice k l log later =
    let c = clean_cut log k in
    let xs = take c log in
    let ys = drop c log in
    ap (λ n. drop n log) (cut_twice k l log later)
    ∙ ap (drop (length xs + clean_cut ys l)) (sym (take-append-drop c log))
    ∙ drop-append-add xs ys (clean_cut ys l)
