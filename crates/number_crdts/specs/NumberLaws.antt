-- Numbers with additions are a lawful tower, and multiplications act lawfully on it, whatever the modulus.
use Rattle.std.specs.Prelude.{◌≡◌, ℕ, ◌+◌, ◌*◌, ◌%◌, ◌^◌, ◌<◌, ◌==◌, IsTrue}
use Rattle.std.proofs.Common.{sym, ap, subst, ◌∙◌, refl, arith, inr}
use Rattle.std.proofs.Math.Nat.{mod-add-mod, add-mod, mod-lt}
use Rattle.std.proofs.lemmas.Bool.{cond_both, eqb-false, eqb-true}
use Rattle.std.proofs.lemmas.Nat.{mul-mod_first}
use Rattle.crdt_laws.specs.Tower.{IsLawful}
use Rattle.crdt_laws.specs.Actor.{IsLawfulAction}
use Rattle.crdt_laws.proofs.Plain.{flat_lawful}
use Rattle.number_crdts.specs.Number.{add_meaning, modulus_of, mul_action}

-- sums and products modulo n, for any n
module _ (n : ℕ) where
  -- additions commute
  sum_swap : (s x y : ℕ) → ((s + x) % n + y) % n ≡ ((s + y) % n + x) % n
  sum_swap s x y =
      let same : (s + x) + y ≡ (s + y) + x = omega arith in
      mod-add-mod (s + x) n y ∙ ap (λ z. z % n) same ∙ sym (mod-add-mod (s + y) n x)

  -- and so do multiplications
  product_swap : (s x y : ℕ) → (((s * x) % n) * y) % n ≡ (((s * y) % n) * x) % n
  product_swap s x y =
      let same : (s * x) * y ≡ (s * y) * x = omega arith in
      mul-mod_first (s * x) y n ∙ ap (λ z. z % n) same ∙ sym (mul-mod_first (s * y) x n)

  -- a product of a sum is the sum of the products
  product_of_sum : (s x y : ℕ) → (((s + x) % n) * y) % n ≡ ((s * y) % n + (x * y) % n) % n
  product_of_sum s x y =
      let same : (s + x) * y ≡ s * y + x * y = omega arith in
      mul-mod_first (s + x) y n ∙ ap (λ z. z % n) same ∙ add-mod (s * y) (x * y) n

positive : (m : ℕ) → 0 < modulus_of m
positive m = cond_both (m == 0) (2 ^ 64) m (λ k. 0 < k) (λ zero. omega arith) (λ some. omega (arith, eqb-false m 0 some))

-- what is left by the modulus is a residue
pub residue-mod : (m x : ℕ) → x % modulus_of m < modulus_of m
residue-mod m x = mod-lt x (positive m)

pub add_lawful : (m : ℕ) → IsLawful (add_meaning m)
add_lawful m = flat_lawful (add_meaning m) (record {
  settle = λ s k. refl;
  holds = λ s p h. h;
  top = omega arith;
  level = λ x. refl;
  act = λ y x. refl;
  valid_within = λ p x h. h.within;
  valid_well_formed = λ p x h. h.residue;
  commute = λ n s p q x y _ _ _. sum_swap (modulus_of m) s x y;
  good-init = λ n. positive m;
  good-apply = λ n s p x _ _. residue-mod m (s + x);
  good_at_good = λ d s h. h;
  good_at-init = λ d. positive m;
  good_at_later = λ d e s _ _ h. h;
  good_at-apply = λ d s p x _ _ _ _. residue-mod m (s + x);
})

pub mul_lawful : (m : ℕ) → IsLawfulAction (add_meaning m) (mul_action m)
mul_lawful m = record {
  valid_within = λ p y h. h.within;
  valid_well_formed = λ p y h. h.residue;
  level-act = λ y x _ _. refl;
  well_formed-act = λ y x _ _. residue-mod m (x * y);
  valid-act = λ p y x _ _ h. record { within = h.within; residue = residue-mod m (x * y) };
  commute = λ n s p q x y _ _ _. product_swap (modulus_of m) s x y;
  exchange = λ n s p q x y _ _ _. product_of_sum (modulus_of m) s x y;
  act-act = λ y v x _ _ _. product_swap (modulus_of m) x v y;
  distribute = λ z y x _ _ _ h. absurd (omega (arith, h));
  settle-apply = λ n s k p y _ _ _ _ _. refl;
  good-apply = λ n s p y _ _ _. residue-mod m (s * y);
  good_at-apply = λ d s p y _ _ _ _ _. residue-mod m (s * y);
  holds-apply = λ s p y q h. inr h;
}

-- multiplications by the modulus of the additions
pub mul_fits_lawful : (m n : ℕ) → IsTrue (m == n) → IsLawfulAction (add_meaning n) (mul_action m)
mul_fits_lawful m n same = subst (λ k. IsLawfulAction (add_meaning k) (mul_action m)) (eqb-true m n same) (mul_lawful m)
