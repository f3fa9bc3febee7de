-- Which ids a set has, and whether it has all that a clock covers.
use Rattle.std.proofs.Common.{◌≡◌, ℕ, zero, suc, ◌+◌, ◌<◌, ◌≤◌, Bool, true, false, List, refl, ap, ap₂, sym, ◌∙◌, arith, Contains, get_or, inl, inr, eqb}
use Rattle.std.specs.Prelude.{◌&&◌}
use Rattle.std.specs.List.{Any, All, list_all, range_with_len}
use Rattle.std.proofs.lemmas.Bool.{and_parts, and_from, and_cases, eqb-true, eq-eqb, cases_eq, leb-true, le-leb}
use Rattle.std.proofs.lemmas.List.Elements.{Contains-get_or}
use Rattle.std.proofs.lemmas.List.Folds.{Any-from_list_any, list_any-from_Any}
use Rattle.vector_clock.specs.declared.clock.Clock.{Clock}
use Rattle.vector_clock.specs.declared.clock.Id.{Id}
use Rattle.vector_clock.specs.declared.stamp.Stamp.{Stamp}
use Rattle.vector_clock.specs.Clock.{count, covers, max_members}
use Rattle.vector_clock.specs.Stamp.{id_of, same_id}
use Rattle.crdt_laws.specs.declared.small.Entry.{Entry}
use Rattle.crdt_laws.specs.Sets.{has_id, has_all_of}

-- some element

pub any_from : {X : Type 0} (P : X → Type 0) (xs : List X) (x : X) → Contains xs x → P x → Any P xs
any_from P xs x c p = (c.0, x, c.1, c.2, p)

pub all_from_contains : {X : Type 0} (P : X → Type 0) (xs : List X) → ((x : X) → Contains xs x → P x) → All P xs
all_from_contains P xs h = λ k d l. h (get_or xs k d) (Contains-get_or xs k d l)

-- ids

pub is_id : (p : Stamp) (i : Id) → (eqb p.member i.member && eqb (count p.clock p.member) i.seq) ≡ true → id_of p ≡ i
is_id p i h =
    let f = and_parts (eqb p.member i.member) (eqb (count p.clock p.member) i.seq) h in
    ap₂ (λ (j k : ℕ). record { member = j; seq = k }) (eqb-true p.member i.member f.0) (eqb-true (count p.clock p.member) i.seq f.1)

pub is_id_from : (p : Stamp) (i : Id) → id_of p ≡ i → (eqb p.member i.member && eqb (count p.clock p.member) i.seq) ≡ true
is_id_from p i e =
    and_from (eqb p.member i.member) (eqb (count p.clock p.member) i.seq) (eq-eqb p.member i.member (ap (λ j. j.member) e))
    (eq-eqb (count p.clock p.member) i.seq (ap (λ j. j.seq) e))

pub same_id_is : (p q : Stamp) → same_id p q ≡ true → id_of p ≡ id_of q
unfolding same_id
same_id_is p q h = is_id p (id_of q) h

pub same_id_from_ids : (p q : Stamp) → id_of p ≡ id_of q → same_id p q ≡ true
unfolding same_id
same_id_from_ids p q h = is_id_from p (id_of q) h

pub has_id_from : {Op : Type 0} (xs : List (Entry Op)) (e : Entry Op) (i : Id) → Contains xs e → id_of e.stamp ≡ i → has_id xs i ≡ true
has_id_from {Op} xs e i c h =
    list_any-from_Any (λ (e : Entry Op). eqb e.stamp.member i.member && eqb (count e.stamp.clock e.stamp.member) i.seq) xs
    (any_from _ xs e c (is_id_from e.stamp i h))

-- the operation with the id
pub named_in : {Op : Type 0} (xs : List (Entry Op)) (i : Id) → has_id xs i ≡ true → (e : Entry Op) × Contains xs e × (id_of e.stamp ≡ i)
named_in {Op} xs i h =
    let a = Any-from_list_any (λ (e : Entry Op). eqb e.stamp.member i.member && eqb (count e.stamp.clock e.stamp.member) i.seq) xs h in
    (a.1, (a.0, a.2, a.3), is_id a.1.stamp i a.4)

-- tests over a range

pub all_in : (p : ℕ → Bool) (a n : ℕ) → list_all p (range_with_len a n) ≡ true → (x : ℕ) → a ≤ x → x < a + n → p x ≡ true
all_in p a zero h x l m = absurd (omega arith)
all_in p a (suc n) h x l m =
    let f = and_parts (p a) (list_all p (range_with_len (a + 1) n)) h in
    elim (cases_eq a x) [
      | inl e ↦ ap p (sym e) ∙ f.0
      | inr ne ↦ all_in p (a + 1) n f.1 x (omega arith) (omega arith)
    ]

pub in_all : (p : ℕ → Bool) (a n : ℕ) → ((x : ℕ) → a ≤ x → x < a + n → p x ≡ true) → list_all p (range_with_len a n) ≡ true
in_all p a zero h = refl
in_all p a (suc n) h =
    and_from (p a) (list_all p (range_with_len (a + 1) n)) (h a (omega arith) (omega arith))
    (in_all p (a + 1) n (λ x l m. h x (omega arith) (omega arith)))

out_of : (p : ℕ → Bool) (a n : ℕ) → list_all p (range_with_len a n) ≡ false → (x : ℕ) × (a ≤ x) × (x < a + n) × (p x ≡ false)
out_of p a zero h = cc
out_of p a (suc n) h =
    elim (and_cases (p a) (list_all p (range_with_len (a + 1) n)) h) [
      | inl f ↦ (a, omega arith, omega arith, f)
      | inr f ↦ (let r = out_of p (a + 1) n f in (r.0, omega (arith, r.1), omega (arith, r.2), r.3))
    ]

-- all that a clock covers

pub all_ids : {Op : Type 0} (xs : List (Entry Op)) (k : Clock) → has_all_of xs k ≡ true
    → (i : Id) → i.member < max_members → 1 ≤ i.seq → covers k i ≡ true → has_id xs i ≡ true
unfolding has_all_of
all_ids xs k h i within counted c =
    let row = all_in (λ m. list_all (λ s. has_id xs (record { member = m; seq = s })) (range_with_len 1 (count k m))) 0 max_members h i.member (omega arith) (omega arith) in
    let at_most : i.seq ≤ count k i.member = leb-true i.seq (count k i.member) c in
    all_in (λ s. has_id xs (record { member = i.member; seq = s })) 1 (count k i.member) row i.seq counted (omega arith)

pub from_all_ids : {Op : Type 0} (xs : List (Entry Op)) (k : Clock)
    → ((i : Id) → i.member < max_members → 1 ≤ i.seq → covers k i ≡ true → has_id xs i ≡ true) → has_all_of xs k ≡ true
unfolding has_all_of
from_all_ids xs k h =
    in_all (λ m. list_all (λ s. has_id xs (record { member = m; seq = s })) (range_with_len 1 (count k m))) 0 max_members
    (λ m l u. in_all (λ s. has_id xs (record { member = m; seq = s })) 1 (count k m)
    (λ s v w. h (record { member = m; seq = s }) (omega arith) v (le-leb s (count k m) (omega arith))))

-- an id that is missing
pub record Misses {Op : Type 0} (xs : List (Entry Op)) (k : Clock) : Type 0 where
  pub id : Id
  pub member : id.member < max_members
  pub counted : 1 ≤ id.seq
  pub covered : covers k id ≡ true
  pub absent : has_id xs id ≡ false

pub missing_id : {Op : Type 0} (xs : List (Entry Op)) (k : Clock) → has_all_of xs k ≡ false → Misses xs k
unfolding has_all_of
missing_id xs k h =
    let row = out_of (λ m. list_all (λ s. has_id xs (record { member = m; seq = s })) (range_with_len 1 (count k m))) 0 max_members h in
    let one = out_of (λ s. has_id xs (record { member = row.0; seq = s })) 1 (count k row.0) row.3 in
    record {
      id = record { member = row.0; seq = one.0 };
      member = omega (arith, row.2);
      counted = one.1;
      covered = le-leb one.0 (count k row.0) (omega (arith, one.2));
      absent = one.3;
    }
