-- The register of one text is a lawful tower.
use Rattle.std.specs.Prelude.{◌≡◌, ℕ, ◌≤◌, List, true, false, IsTrue, Option, Some, None}
use Rattle.std.proofs.Common.{ap, refl, sym, arith, inl, inr, subst}
use Rattle.std.proofs.lemmas.Bool.{cases_Bool, cond_both}
use Rattle.std.proofs.lemmas.Bool.Decides.{nat_tests}
use Rattle.vector_clock.specs.declared.clock.Clock.{Clock}
use Rattle.vector_clock.specs.declared.stamp.Key.{Key}
use Rattle.vector_clock.specs.declared.stamp.Stamp.{Stamp}
use Rattle.vector_clock.specs.Clock.{IsAtMost, count, covers}
use Rattle.vector_clock.specs.Stamp.{id_of, is_less, is_below, same_id}
use Rattle.vector_clock.proofs.Keys.{key_asym, key_total, concurrent_other}
use Rattle.crdt_laws.specs.Tower.{IsLawful, IsIssued, MaySwap}
use Rattle.crdt_laws.proofs.KeyRanges.{key_issued}
use Rattle.crdt_laws.proofs.Plain.{flat_lawful}
use Rattle.register_crdts.specs.declared.latest.Set.{Set}
use Rattle.register_crdts.specs.Latest.{IsSetOf, id_of_key, later, latest_apply, latest_good, latest_good_at, latest_meaning, set_at}

less_trans : (j k l : Key) → is_less j k ≡ true → is_less k l ≡ true → is_less j l ≡ true
unfolding is_less
less_trans j k l a b = grind (arith, nat_tests)

-- sets of different keys may come in either order, since the greatest key stays
later_swap : (s a b : Set) → is_less a.key b.key ≡ true → is_less b.key a.key ≡ false → later (later s a) b ≡ later (later s b) a
later_swap s a b less more =
    let through : (is_less s.key a.key ≡ true → is_less s.key b.key ≡ true) = λ h. less_trans s.key a.key b.key h less in
    grind arith

commute : (n : ℕ) (s : Option Set) (p q : Stamp) (x y : List ℕ) → MaySwap latest_meaning n s p q
    → latest_apply (latest_apply s p x) q y ≡ latest_apply (latest_apply s q y) p x
unfolding is_below
commute n None p q x y may =
    let other : same_id p q ≡ false = concurrent_other p q may.concurrent in
    let total : (is_below p q ≡ false → is_below q p ≡ true) = key_total p q other in
    let asym : (is_below p q ≡ true → is_below q p ≡ false) = key_asym p q in
    grind arith
commute n (Some s) p q x y may = ap Some (elim (cases_Bool (is_below p q)) [
  | inl h ↦ later_swap s (set_at p x) (set_at q y) h (key_asym p q h)
  | inr h ↦
      (let k : is_below q p ≡ true = key_total p q (concurrent_other p q may.concurrent) h in
      sym (later_swap s (set_at q y) (set_at p x) k (key_asym q p k)))
])

kept_by : (P : Set → Type 0) (a b : Set) → P a → P b → P (later a b)
kept_by P a b h k = cond_both (is_less a.key b.key) b a P (λ _. k) (λ _. h)

new_set : (n : ℕ) (p : Stamp) (x : List ℕ) → IsIssued latest_meaning n p x → IsSetOf n (set_at p x)
new_set n p x issued = record { key = key_issued n p issued.stamp issued.valid.within; text = issued.valid.text }

good-apply : (n : ℕ) (s : Option Set) (p : Stamp) (x : List ℕ) → latest_good n s → IsIssued latest_meaning n p x → latest_good n (latest_apply s p x)
good-apply n None p x good issued = new_set n p x issued
good-apply n (Some s) p x good issued = kept_by (IsSetOf n) s (set_at p x) good (new_set n p x issued)

good_at_good : (d : Clock) (s : Option Set) → latest_good_at d s → latest_good d.n s
good_at_good d None h = tt
good_at_good d (Some s) h = h.0

good_at_later : (d e : Clock) (s : Option Set) → d.n ≡ e.n → IsAtMost d e → latest_good_at d s → latest_good_at e s
good_at_later d e None one below h = tt
good_at_later d e (Some s) one below h =
    let more : count d s.key.member ≤ count e s.key.member = below.each s.key.member in
    (subst (λ n. IsSetOf n s) one h.0, grind (arith, nat_tests, h.1))

good_at-apply : (d : Clock) (s : Option Set) (p : Stamp) (x : List ℕ) → latest_good_at d s → IsIssued latest_meaning d.n p x
    → IsTrue (covers d (id_of p)) → latest_good_at d (latest_apply s p x)
good_at-apply d None p x good issued covered = (new_set d.n p x issued, covered)
good_at-apply d (Some s) p x good issued covered =
    kept_by (λ t. IsSetOf d.n t × IsTrue (covers d (id_of_key t.key))) s (set_at p x) good (new_set d.n p x issued, covered)

pub latest_lawful : IsLawful latest_meaning
latest_lawful = flat_lawful latest_meaning (record {
  settle = λ s k. refl;
  holds = λ s p h. h;
  top = omega arith;
  level = λ x. refl;
  act = λ y x. refl;
  valid_within = λ p x h. h.within;
  valid_well_formed = λ p x h. h.text;
  commute = λ n s p q x y may _ _. commute n s p q x y may;
  good-init = λ n. tt;
  good-apply = good-apply;
  good_at_good = good_at_good;
  good_at-init = λ d. tt;
  good_at_later = good_at_later;
  good_at-apply = λ d s p x good issued _ covered. good_at-apply d s p x good issued covered;
})
