-- The register of several texts is a lawful tower.
use Rattle.std.specs.Prelude.{◌≡◌, ℕ, ◌≤◌, List, [], ◌∷◌, Bool, true, false, IsTrue}
use Rattle.std.proofs.Common.{ap, refl, sym, ◌∙◌, arith, subst}
use Rattle.std.proofs.lemmas.Bool.Decides.{nat_tests}
use Rattle.std.specs.List.{AllByRecursion, filter}
use Rattle.vector_clock.specs.declared.clock.Clock.{Clock}
use Rattle.vector_clock.specs.declared.stamp.Stamp.{Stamp}
use Rattle.vector_clock.specs.Clock.{IsAtMost, count}
use Rattle.vector_clock.specs.Sets.{IsRising, is_beyond, place}
use Rattle.vector_clock.specs.Stamp.{IsKnownTo, is_before, same_id, are_concurrent}
use Rattle.vector_clock.proofs.Keys.{concurrent_other, concurrent_sym}
use Rattle.vector_clock.proofs.Ordered.{all-filter, all-place, all_weaker, filter-place_in, place_swap, rising-filter, rising-place}
use Rattle.crdt_laws.specs.Tower.{IsLawful, IsIssued, MaySwap}
use Rattle.crdt_laws.proofs.Filters.{all_pass}
use Rattle.crdt_laws.proofs.Plain.{flat_lawful}
use Rattle.register_crdts.specs.declared.several.Held.{Held}
use Rattle.register_crdts.specs.Several.{IsHeldOf, IsSeveralOf, held, several_apply, several_meaning}

abbrev at : Held → Stamp
at h = h.stamp

abbrev beyond_of : Stamp → Held → Bool
beyond_of p h = is_beyond at p.clock h

filter-filter : (p q : Held → Bool) (l : List Held) → filter p (filter q l) ≡ filter q (filter p l)
filter-filter p q [] = refl
filter-filter p q (a ∷ l) = let ih : filter p (filter q l) ≡ filter q (filter p l) = filter-filter p q l in grind (arith, ih)

-- a set does not remove a concurrent one
concurrent_beyond : (p q : Stamp) (x : List ℕ) → IsTrue (are_concurrent p q) → beyond_of q (held p x) ≡ true
unfolding are_concurrent is_before
concurrent_beyond p q x h = grind arith

commute : (n : ℕ) (s : List Held) (p q : Stamp) (x y : List ℕ) → MaySwap several_meaning n s p q
    → several_apply (several_apply s p x) q y ≡ several_apply (several_apply s q y) p x
commute n s p q x y may =
    let first = beyond_of p in
    let second = beyond_of q in
    ap (place at (held q y)) (filter-place_in at second (held p x) (concurrent_beyond p q x may.concurrent) (filter first s) (rising-filter at first s may.good.rising))
    ∙ ap (λ l. place at (held q y) (place at (held p x) l)) (filter-filter second first s)
    ∙ sym (place_swap at (held p x) (held q y) (concurrent_other p q may.concurrent) (filter first (filter second s)))
    ∙ sym (ap (place at (held p x)) (filter-place_in at first (held q y) (concurrent_beyond q p y (concurrent_sym p q may.concurrent)) (filter second s) (rising-filter at second s may.good.rising)))

-- good states

-- a set removes itself, and so what is left has other ids
removes_itself : (p : Stamp) (h : Held) → beyond_of p h ≡ true → same_id p h.stamp ≡ false
unfolding same_id
removes_itself p h u = grind (arith, nat_tests)

pub rising-apply : (s : List Held) (p : Stamp) (x : List ℕ) → IsRising at s → IsRising at (several_apply s p x)
rising-apply s p x r =
    rising-place at (held p x) (filter (beyond_of p) s)
    (all_weaker _ (λ h. same_id p h.stamp ≡ false) (removes_itself p) (filter (beyond_of p) s) (all_pass (beyond_of p) s))
    (rising-filter at (beyond_of p) s r)

all-apply : (P : Held → Type 0) (s : List Held) (p : Stamp) (x : List ℕ) → AllByRecursion P s → P (held p x) → AllByRecursion P (several_apply s p x)
all-apply P s p x h k = all-place at P (held p x) k (filter (beyond_of p) s) (all-filter P (beyond_of p) s h)

good-apply : (n : ℕ) (s : List Held) (p : Stamp) (x : List ℕ) → IsSeveralOf n s → IsIssued several_meaning n p x → IsSeveralOf n (several_apply s p x)
good-apply n s p x good issued = record {
  rising = rising-apply s p x good.rising;
  sets = all-apply (IsHeldOf n) s p x good.sets (record { stamp = issued.stamp; within = issued.valid.within; text = issued.valid.text });
}

known_later : (d e : Clock) (p : Stamp) → IsAtMost d e → IsKnownTo d p → IsKnownTo e p
known_later d e p below known =
    let more : count d p.member ≤ count e p.member = below.each p.member in
    record { covered = grind (arith, nat_tests, known.covered); known = record { each = λ m. omega (arith, known.known.each m, below.each m) } }

pub several_lawful : IsLawful several_meaning
several_lawful = flat_lawful several_meaning (record {
  settle = λ s k. refl;
  holds = λ s p h. h;
  top = omega arith;
  level = λ x. refl;
  act = λ y x. refl;
  valid_within = λ p x h. h.within;
  valid_well_formed = λ p x h. h.text;
  commute = λ n s p q x y may _ _. commute n s p q x y may;
  good-init = λ n. record { rising = tt; sets = tt };
  good-apply = good-apply;
  good_at_good = λ d s h. h.0;
  good_at-init = λ d. (record { rising = tt; sets = tt }, tt);
  good_at_later = λ d e s one below h. (
    subst (λ n. IsSeveralOf n s) one h.0,
    all_weaker (λ g. IsKnownTo d g.stamp) (λ g. IsKnownTo e g.stamp) (λ g known. known_later d e g.stamp below known) s h.1,
  );
  good_at-apply = λ d s p x good issued below covered. (
    good-apply d.n s p x good.0 issued,
    all-apply (λ h. IsKnownTo d h.stamp) s p x good.1 (record { covered = covered; known = below }),
  );
})
