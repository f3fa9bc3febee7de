-- Sums and products of signed numbers, by their residues.
use Rattle.std.proofs.Common.{◌≡◌, ℕ, zero, suc, ◌+◌, ◌-◌, ◌*◌, ◌/◌, ◌%◌, ◌<◌, true, false, nat_lt, ℤ, pos, negsuc, ◌+ℤ◌, ◌*ℤ◌, neg_ℤ, unsigned_abs, FitsSigned, ◌^◌, inl, inr, sym, ◌∙◌, ap, arith}
use Rattle.std.specs.Int.{cast_signed, int_rem_euclid, w64}
use Rattle.std.proofs.Math.Nat.{add-mod-mod, add-mul-mod_self_right, div-add-mod', mod-eq_of_lt, mod-add-mod, mod-lt, mul-mod_left}
use Rattle.std.proofs.lemmas.Bool.{cases_lt}
use Rattle.std.proofs.lemmas.Bool.Decides.{nat_tests}
use Rattle.std.proofs.lemmas.Int.{to_z-of_z}
use Rattle.std.proofs.lemmas.Nat.{mul-mod_first, mul-mod_second}
use Rattle.number_crdts.specs.Number.{modulus_of}
use Rattle.number_crdts.specs.NumberLaws.{residue-mod}

-- no modulus is 0
pub positive : (m : ℕ) → 0 < modulus_of m
positive m = omega (arith, residue-mod m 0)

-- by n, whatever it is but 0
module _ (n : ℕ) (some : 0 < n) where
  abbrev rem : ℤ → ℕ
  rem z = unsigned_abs (int_rem_euclid z (pos n))

  -- what completes a + 1 to a multiple is as much as the residue of - (a + 1)
  completes : (x a k : ℕ) → x + suc a ≡ k * n → x % n ≡ n - 1 - a % n
  completes x a k h =
      let low : a % n < n = mod-lt a some in
      let parts : a / n * n + a % n ≡ a = div-add-mod' a n in
      let both : x + (a / n + 1) * n ≡ (n - 1 - a % n) + k * n = omega arith in
      sym (add-mul-mod_self_right x (a / n + 1) n) ∙ ap (λ y. y % n) both ∙ add-mul-mod_self_right (n - 1 - a % n) k n ∙ mod-eq_of_lt (omega arith)

  pub rem-add : (s : ℕ) (z : ℤ) → rem (pos s +ℤ z) ≡ (s + rem z) % n
  rem-add s (pos a) = sym (add-mod-mod s a n)
  rem-add s (negsuc a) =
      let low : a % n < n = mod-lt a some in
      let parts : a / n * n + a % n ≡ a = div-add-mod' a n in
      elim (cases_lt s (suc a)) [
        | inl less ↦
            (let test : nat_lt s (suc a) ≡ true = grind (arith, nat_tests) in
            let whole : (s + (n - 1 - a % n)) + suc (suc a - suc s) ≡ (a / n + 1) * n = omega arith in
            rw test (sym (completes (s + (n - 1 - a % n)) (suc a - suc s) (a / n + 1) whole)))
        | inr more ↦
            (let test : nat_lt s (suc a) ≡ false = grind (arith, nat_tests) in
            let whole : s + (n - 1 - a % n) ≡ (s - suc a) + (a / n + 1) * n = omega arith in
            rw test (sym (ap (λ y. y % n) whole ∙ add-mul-mod_self_right (s - suc a) (a / n + 1) n)))
      ]

  negated : (p x k : ℕ) → x + p ≡ k * n → rem (neg_ℤ (pos p)) ≡ x % n
  negated zero x k h = (let whole : x ≡ k * n = omega arith in mod-eq_of_lt some ∙ sym (ap (λ y. y % n) whole ∙ mul-mod_left k n))
  negated (suc a) x k h = sym (completes x a k h)

  pub rem-mul : (s : ℕ) (z : ℤ) → rem (pos s *ℤ z) ≡ (s * rem z) % n
  rem-mul s (pos a) = sym (mul-mod_second s a n)
  rem-mul s (negsuc a) =
      let low : a % n < n = mod-lt a some in
      let parts : a / n * n + a % n ≡ a = div-add-mod' a n in
      let one : (n - 1 - a % n) + suc a ≡ (a / n + 1) * n = omega arith in
      let whole : s * (n - 1 - a % n) + s * suc a ≡ (s * (a / n + 1)) * n = grind (arith, ap (λ y. s * y) one) in
      negated (s * suc a) (s * (n - 1 - a % n)) (s * (a / n + 1)) whole

  pub rem-again : (z : ℤ) → rem z % n ≡ rem z
  rem-again (pos a) = mod-eq_of_lt (mod-lt a some)
  rem-again (negsuc a) = mod-eq_of_lt (omega arith)

  -- the residue of a sum is that of the sum of the residues
  rem_of_sum : (y z : ℤ) → rem (y +ℤ z) ≡ (rem y + rem z) % n
  rem_of_sum (pos s) z = rem-add s z ∙ sym (mod-add-mod s n (rem z))
  rem_of_sum (negsuc a) (pos b) =
      let turned : b + (n - 1 - a % n) ≡ (n - 1 - a % n) + b = omega arith in
      rem-add b (negsuc a) ∙ ap (λ x. x % n) turned ∙ sym (add-mod-mod (n - 1 - a % n) b n)
  rem_of_sum (negsuc a) (negsuc b) =
      let low : a % n < n = mod-lt a some in
      let parts : a / n * n + a % n ≡ a = div-add-mod' a n in
      let low' : b % n < n = mod-lt b some in
      let parts' : b / n * n + b % n ≡ b = div-add-mod' b n in
      let whole : ((n - 1 - a % n) + (n - 1 - b % n)) + suc (suc (a + b)) ≡ (a / n + 1 + (b / n + 1)) * n = omega arith in
      sym (completes ((n - 1 - a % n) + (n - 1 - b % n)) (suc (a + b)) (a / n + 1 + (b / n + 1)) whole)

  pub rem-sum : (y z : ℤ) → rem (pos (rem y) +ℤ z) ≡ rem (y +ℤ z)
  rem-sum y z = rem-add (rem y) z ∙ sym (rem_of_sum y z)

  -- n less the residue of a + 1, and a + 1, are a multiple
  whole_of : (a : ℕ) → (n - 1 - a % n) + suc a ≡ (a / n + 1) * n
  whole_of a = (let low : a % n < n = mod-lt a some in let parts : a / n * n + a % n ≡ a = div-add-mod' a n in omega arith)

  -- and that of a product is that of the product of the residues
  rem_of_product : (y z : ℤ) → rem (y *ℤ z) ≡ (rem y * rem z) % n
  rem_of_product (pos s) z = rem-mul s z ∙ sym (mul-mod_first s (rem z) n)
  rem_of_product (negsuc a) (pos b) =
      let one = whole_of a in
      let whole : (n - 1 - a % n) * b + suc a * b ≡ ((a / n + 1) * b) * n = grind (arith, ap (λ x. x * b) one) in
      negated (suc a * b) ((n - 1 - a % n) * b) ((a / n + 1) * b) whole ∙ sym (mul-mod_second (n - 1 - a % n) b n)
  rem_of_product (negsuc a) (negsuc b) = minus_twice (n - 1 - a % n) (n - 1 - b % n) (suc a) (suc b) (a / n + 1) (b / n + 1) (whole_of a) (whole_of b)
    where
      minus_twice : (x y a b k l : ℕ) → x + a ≡ k * n → y + b ≡ l * n → (a * b) % n ≡ (x * y) % n
      minus_twice x y a b k l h j =
          let first : x * y + x * b ≡ (x * l) * n = grind (arith, ap (λ z. x * z) j) in
          let second : x * b + a * b ≡ (k * b) * n = grind (arith, ap (λ z. z * b) h) in
          let both : a * b + (x * l) * n ≡ x * y + (k * b) * n = omega (arith, first, second) in
          sym (add-mul-mod_self_right (a * b) (x * l) n) ∙ ap (λ z. z % n) both ∙ add-mul-mod_self_right (x * y) (k * b) n

  pub rem-product : (y z : ℤ) → rem (pos (rem y) *ℤ z) ≡ rem (y *ℤ z)
  rem-product y z = rem-mul (rem y) z ∙ sym (rem_of_product y z)

-- a signed number of 64 bits is what its residue by 2^64 stands for
pub signed_back : (z : ℤ) → FitsSigned w64 z → cast_signed w64 (unsigned_abs (int_rem_euclid z (pos (modulus_of 0)))) ≡ z
signed_back (pos n) fits =
    let own : n % 2 ^ 64 ≡ n = mod-eq_of_lt (omega (arith, fits.sfits)) in
    ap (cast_signed w64) own ∙ to_z-of_z w64 (pos n) fits
signed_back (negsuc n) fits =
    let own : n % 2 ^ 64 ≡ n = mod-eq_of_lt (omega (arith, fits.sfits)) in
    let bits : 2 ^ 64 - 1 - n % 2 ^ 64 ≡ 2 ^ 64 - suc n = omega (arith, own) in
    ap (cast_signed w64) bits ∙ to_z-of_z w64 (negsuc n) fits
