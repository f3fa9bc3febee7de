-- Each number has one spelling.
use Rattle.std.proofs.Common.{◌≡◌, ℕ, zero, suc, ◌+◌, ◌^◌, ◌<◌, ◌≤◌, ◌==◌, Bool, true, false, ◌&&◌, nat_lt, if◌then◌else◌, List, [], ◌∷◌, length, get_or, Option, Some, None, option_and_then, ℤ, pos, negsuc, FitsSigned, inl, inr, refl, sym, ◌∙◌, ap, subst, arith}
use Rattle.std.specs.Char.{is_ascii_digit}
use Rattle.std.specs.Fmt.{decimal, signed_decimal}
use Rattle.std.specs.Int.{w64}
use Rattle.std.specs.List.{list_all}
use Rattle.std.proofs.lemmas.Bool.{and_parts, cases_Bool, eqb-true}
use Rattle.std.proofs.lemmas.Bool.Decides.{nat_tests}
use Rattle.std.proofs.lemmas.Fmt.{decimal_digit, decimal_nonempty, digits_decimal, digits_value-decimal, first_decimal}
use Rattle.kind_edits.specs.Spelled.{is_numeral, negative, number_below, signed_of, value_of}
use Rattle.kind_edits.proofs.Reading.{own, printed}

given : {A : Type 0} (t : Bool) (v n : A) → (if t then Some v else None) ≡ Some n → (t ≡ true) × (v ≡ n)
given true v n h = (refl, cc)
given false v n h = absurd (cc)

numeral_from : (ds : List ℕ) → list_all is_ascii_digit ds ≡ true → 0 < length ds → (get_or ds 0 0 ≡ 48 → length ds ≡ 1) → is_numeral ds ≡ true
numeral_from [] h some one = absurd (omega arith)
numeral_from (b ∷ bs) h some one = grind (arith, nat_tests)

pub numeral-decimal : (n : ℕ) → n < 2 ^ 64 → is_numeral (decimal n) ≡ true
numeral-decimal zero h = ap is_numeral (decimal_digit 0 (omega arith))
numeral-decimal (suc n) h =
    numeral_from (decimal (suc n)) (digits_decimal own (suc n) h) (decimal_nonempty (suc n) h)
    (λ e. absurd (omega (arith, e, first_decimal (suc n) (omega arith) h)))

-- a number below a limit is read from what is printed of it, and from nothing else
pub below_printed : (limit n : ℕ) → limit ≤ 2 ^ 64 → n < limit → number_below limit (decimal n) ≡ Some n
below_printed limit n most h =
    let numeral : is_numeral (decimal n) ≡ true = numeral-decimal n (omega arith) in
    let value : value_of (decimal n) ≡ n = digits_value-decimal own n (omega arith) in
    let test : (is_numeral (decimal n) && nat_lt (value_of (decimal n)) limit) ≡ true = grind (arith, nat_tests) in
    rw test (ap Some value)

pub below_read : (limit n : ℕ) (text : List ℕ) → limit ≤ 2 ^ 64 → number_below limit text ≡ Some n → (n < limit) × (text ≡ decimal n)
below_read limit n text most h =
    let g = given (is_numeral text && nat_lt (value_of text) limit) (value_of text) n h in
    let numeral : is_numeral text ≡ true = (and_parts (is_numeral text) (nat_lt (value_of text) limit) g.0).0 in
    let small : nat_lt (value_of text) limit ≡ true = (and_parts (is_numeral text) (nat_lt (value_of text) limit) g.0).1 in
    let low : value_of text < limit = grind (arith, nat_tests, small) in
    (omega (arith, low, g.1), sym (ap decimal (sym g.1) ∙ printed text numeral (omega (arith, low))))

gone_on : {A B : Type 0} (o : Option A) (f : A → Option B) (z : B) → option_and_then f o ≡ Some z → (n : A) × (o ≡ Some n) × (f n ≡ Some z)
gone_on None f z h = absurd (cc)
gone_on (Some n) f z h = (n, refl, h)

negative_is : (n : ℕ) (z : ℤ) → negative n ≡ Some z → (k : ℕ) × (n ≡ suc k) × (z ≡ negsuc k)
negative_is zero z h = absurd (cc)
negative_is (suc k) z h = (k, refl, cc)

minus_read : (bs : List ℕ) (z : ℤ) → option_and_then negative (number_below (2 ^ 63 + 1) bs) ≡ Some z → FitsSigned w64 z × (45 ∷ bs ≡ signed_decimal z)
minus_read bs z h =
    let read = gone_on (number_below (2 ^ 63 + 1) bs) negative z h in
    let number = negative_is read.0 z read.2 in
    let spelled = below_read (2 ^ 63 + 1) read.0 bs (omega arith) read.1 in
    let small : number.0 < 2 ^ 63 = omega (arith, spelled.0, number.1) in
    subst (λ (y : ℤ). FitsSigned w64 y × (45 ∷ bs ≡ signed_decimal y)) (sym number.2)
    (record { sfits = small }, ap (λ (ds : List ℕ). 45 ∷ ds) (spelled.1 ∙ ap decimal number.1))

plain_read : (ds : List ℕ) (z : ℤ) → option_and_then (λ n. Some (pos n)) (number_below (2 ^ 63) ds) ≡ Some z → FitsSigned w64 z × (ds ≡ signed_decimal z)
plain_read ds z h =
    let read = gone_on (number_below (2 ^ 63) ds) (λ n. Some (pos n)) z h in
    let number : pos read.0 ≡ z = (let e : Some (pos read.0) ≡ Some z = read.2 in cc) in
    let spelled = below_read (2 ^ 63) read.0 ds (omega arith) read.1 in
    subst (λ (y : ℤ). FitsSigned w64 y × (ds ≡ signed_decimal y)) number (record { sfits = spelled.0 }, spelled.1)

pub signed_read : (text : List ℕ) (z : ℤ) → signed_of text ≡ Some z → FitsSigned w64 z × (text ≡ signed_decimal z)
signed_read [] z h = absurd (cc)
signed_read (b ∷ bs) z h = elim (cases_Bool (b == 45)) [
  | inl minus ↦
      (let first : b ≡ 45 = eqb-true b 45 minus in
      let read : option_and_then negative (number_below (2 ^ 63 + 1) bs) ≡ Some z = rw minus at h in
      subst (λ (c : ℕ). FitsSigned w64 z × (c ∷ bs ≡ signed_decimal z)) (sym first) (minus_read bs z read))
  | inr plain ↦
      (let read : option_and_then (λ n. Some (pos n)) (number_below (2 ^ 63) (b ∷ bs)) ≡ Some z = rw plain at h in
      plain_read (b ∷ bs) z read)
]

-- digits begin with no minus
plain_printed : (ds : List ℕ) (n : ℕ) → number_below (2 ^ 63) ds ≡ Some n → signed_of ds ≡ Some (pos n)
plain_printed [] n h = absurd (cc)
plain_printed (b ∷ bs) n h = elim (cases_Bool (b == 45)) [
  | inl minus ↦
      (let first : b ≡ 45 = eqb-true b 45 minus in
      let e : number_below (2 ^ 63) (45 ∷ bs) ≡ Some n = subst (λ (c : ℕ). number_below (2 ^ 63) (c ∷ bs) ≡ Some n) first h in
      absurd (let g = given false (value_of (45 ∷ bs)) n e in let f : false ≡ true = g.0 in cc))
  | inr plain ↦ rw plain (ap (option_and_then (λ n. Some (pos n))) h)
]

pub signed_printed : (z : ℤ) → FitsSigned w64 z → signed_of (signed_decimal z) ≡ Some z
signed_printed (pos n) h = plain_printed (decimal n) n (below_printed (2 ^ 63) n (omega arith) h.sfits)
signed_printed (negsuc n) h = ap (option_and_then negative) (below_printed (2 ^ 63 + 1) (suc n) (omega arith) (omega (arith, h.sfits)))
