-- What std's `parse` gives of a text that spells a number.
use Rattle.std.proofs.Common.{◌≡◌, ◌≢◌, ℕ, zero, suc, ◌+◌, ◌-◌, ◌*◌, ◌^◌, ◌<◌, ◌≤◌, Bool, true, false, ◌&&◌, ◌==◌, nat_lt, not, if◌then◌else◌, codes, List, [], ◌∷◌, length, get_or, fold, Result, Ok, Err, Option, Some, None, option_and_then, ℤ, pos, neg_ℤ, inl, inr, subst, refl, sym, ◌∙◌, ap, arith, rules}
use Rattle.std.specs.Char.{is_ascii_digit}
use Rattle.std.specs.Fmt.{decimal}
use Rattle.std.specs.Int.{w64}
use Rattle.std.specs.List.{list_all}
use Rattle.std.specs.Result.{result_ok, OkIff}
use Rattle.std.specs.Str.{bytes_eq}
use Rattle.std.specs.Str.Parse.{ParsesUnsigned, ParsesSigned}
use Rattle.std.proofs.lemmas.Bool.{and_parts, cases_Bool, eqb-true}
use Rattle.std.proofs.lemmas.Bool.Decides.{nat_tests}
use Rattle.std.proofs.lemmas.Fmt.{decimal-digits_value, decimal_digit}
use Rattle.std.proofs.lemmas.Slice.Eq.{bytes_eq-Decides}
use Rattle.std.proofs.lemmas.Str.Parse.{IsNumeralModel, numerals_by_fold, parse_digits, parse_signed_digits, parse_signed_minus}
use Rattle.kind_edits.specs.Spelled.{count_of, is_numeral, is_signed, number_below, negative, signed_of, value_of}

-- decimal digits, and their value
pub own : IsNumeralModel (λ ds. list_all is_ascii_digit ds ≡ true) value_of
own = numerals_by_fold (λ ds. list_all is_ascii_digit ds ≡ true) (search rules) (λ n ds. fold (λ n b. 10 * n + (b - 48)) n ds) (search rules)

pub numeral_digits : (ds : List ℕ) → is_numeral ds ≡ true → (list_all is_ascii_digit ds ≡ true) × (0 < length ds)
numeral_digits [] h = absurd (cc)
numeral_digits (b ∷ []) h = (grind (arith, nat_tests), omega arith)
numeral_digits (b ∷ c ∷ bs) h = (grind (arith, nat_tests), omega arith)

-- a result that is Ok exactly where a test holds
tested : {T E : Type 0} (r : Result T E) (P : Type 0) (v : T) (t : Bool) → OkIff r P v → (t ≡ true → P) → (P → t ≡ true) → result_ok r ≡ (if t then Some v else None)
tested (Ok x) P v true h from to = ap Some h.1
tested (Ok x) P v false h from to = absurd (let k : false ≡ true = to h.0 in cc)
tested (Err e) P v true h from to = absurd (h (from refl))
tested (Err e) P v false h from to = refl

pub count_parsed : {E : Type 0} (ds : List ℕ) (r : Result ℕ E) → ParsesUnsigned 32 10 ds r → is_numeral ds ≡ true → result_ok r ≡ count_of ds
count_parsed ds r h numeral =
    let digits = numeral_digits ds numeral in
    tested r _ (value_of ds) (is_numeral ds && nat_lt (value_of ds) (2 ^ 32)) (parse_digits own 32 ds r h digits.0)
    (λ t. (digits.1, grind (arith, nat_tests)))
    (λ p. let small : value_of ds < 2 ^ 32 = p.1 in grind (arith, nat_tests))

and_then_if : {A B : Type 0} (t : Bool) (v : A) (f : A → Option B) → option_and_then f (if t then Some v else None) ≡ (if t then f v else None)
and_then_if true v f = refl
and_then_if false v f = refl

plain_parsed : {E : Type 0} (ds : List ℕ) (r : Result ℤ E) → ParsesSigned w64 10 ds r → is_numeral ds ≡ true
    → result_ok r ≡ option_and_then (λ n. Some (pos n)) (number_below (2 ^ 63) ds)
plain_parsed ds r h numeral =
    let digits = numeral_digits ds numeral in
    tested r _ (pos (value_of ds)) (is_numeral ds && nat_lt (value_of ds) (2 ^ 63)) (parse_signed_digits own w64 ds r h digits.0)
    (λ t. (digits.1, grind (arith, nat_tests)))
    (λ p. let small : value_of ds < 2 ^ 63 = p.1 in grind (arith, nat_tests))
    ∙ sym (and_then_if (is_numeral ds && nat_lt (value_of ds) (2 ^ 63)) (value_of ds) (λ n. Some (pos n)))

numeral_first : (ds : List ℕ) → is_numeral ds ≡ true → get_or ds 0 0 ≡ 48 → length ds ≡ 1
numeral_first [] h e = absurd (cc)
numeral_first (b ∷ bs) h e = grind (arith, nat_tests)

-- digits without a leading zero are what is printed of their value
pub printed : (ds : List ℕ) → is_numeral ds ≡ true → value_of ds < 2 ^ 64 → decimal (value_of ds) ≡ ds
printed ds h small = let digits = numeral_digits ds h in decimal-digits_value own ds digits.0 digits.1 (numeral_first ds h) small

numeral_some : (ds : List ℕ) → is_numeral ds ≡ true → bytes_eq ds (codes "0") ≡ false → value_of ds ≢ 0
numeral_some ds h other none =
    let e : decimal (value_of ds) ≡ ds = printed ds h (omega (arith, none)) in
    let zeros : ds ≡ 48 ∷ [] = sym e ∙ ap decimal none ∙ decimal_digit 0 (omega arith) in
    let same : bytes_eq ds (codes "0") ≡ true = (bytes_eq-Decides ds (codes "0")).1 zeros in
    cc

negative_is : (n : ℕ) → n ≢ 0 → Some (neg_ℤ (pos n)) ≡ negative n
negative_is zero h = absurd (h refl)
negative_is (suc n) h = refl

minus_parsed : {E : Type 0} (ds : List ℕ) (r : Result ℤ E) → ParsesSigned w64 10 (45 ∷ ds) r → is_numeral ds ≡ true → bytes_eq ds (codes "0") ≡ false
    → result_ok r ≡ option_and_then negative (number_below (2 ^ 63 + 1) ds)
minus_parsed ds r h numeral other =
    let digits = numeral_digits ds numeral in
    tested r _ (neg_ℤ (pos (value_of ds))) (is_numeral ds && nat_lt (value_of ds) (2 ^ 63 + 1)) (parse_signed_minus own w64 (45 ∷ ds) r h refl)
    (λ t. (digits.0, digits.1, grind (arith, nat_tests)))
    (λ p. let small : value_of ds ≤ 2 ^ 63 = p.2 in grind (arith, nat_tests))
    ∙ ap (λ o. if is_numeral ds && nat_lt (value_of ds) (2 ^ 63 + 1) then o else None) (negative_is (value_of ds) (numeral_some ds numeral other))
    ∙ sym (and_then_if (is_numeral ds && nat_lt (value_of ds) (2 ^ 63 + 1)) (value_of ds) negative)

not-true : (t : Bool) → not t ≡ true → t ≡ false
not-true true h = absurd (cc)
not-true false h = refl

pub signed_parsed : {E : Type 0} (ds : List ℕ) (r : Result ℤ E) → ParsesSigned w64 10 ds r → is_signed ds ≡ true → result_ok r ≡ signed_of ds
signed_parsed [] r h spelled = absurd (cc)
signed_parsed (b ∷ bs) r h spelled = elim (cases_Bool (b == 45)) [
  | inl minus ↦
      (let first : b ≡ 45 = eqb-true b 45 minus in
      let both : (is_numeral bs && not (bytes_eq bs (codes "0"))) ≡ true = rw minus at spelled in
      let e = minus_parsed bs r (subst (λ (c : ℕ). ParsesSigned w64 10 (c ∷ bs) r) first h) (and_parts _ _ both).0 (not-true (bytes_eq bs (codes "0")) (and_parts _ _ both).1) in
      rw minus e)
  | inr plain ↦
      (let numeral : is_numeral (b ∷ bs) ≡ true = rw plain at spelled in
      let e = plain_parsed (b ∷ bs) r h numeral in
      rw plain e)
]

no_minus : (ds : List ℕ) → (is_numeral ds && not (bytes_eq ds (codes "0"))) ≡ false → None ≡ option_and_then negative (number_below (2 ^ 63 + 1) ds)
no_minus ds h = elim (cases_Bool (bytes_eq ds (codes "0"))) [
  | inl same ↦
      (let e : ds ≡ 48 ∷ [] = (bytes_eq-Decides ds (codes "0")).0 same in
      subst (λ (xs : List ℕ). None ≡ option_and_then negative (number_below (2 ^ 63 + 1) xs)) (sym e) refl)
  | inr other ↦
      (let none : is_numeral ds ≡ false = grind (arith, nat_tests) in
      rw none refl)
]

pub signed_only : (ds : List ℕ) → is_signed ds ≡ false → None ≡ signed_of ds
signed_only [] h = refl
signed_only (b ∷ bs) h = elim (cases_Bool (b == 45)) [
  | inl minus ↦
      (let both : (is_numeral bs && not (bytes_eq bs (codes "0"))) ≡ false = rw minus at h in
      rw minus (no_minus bs both))
  | inr plain ↦
      (let numeral : is_numeral (b ∷ bs) ≡ false = rw plain at h in
      rw (plain, numeral) refl)
]
