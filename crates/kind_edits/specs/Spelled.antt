-- How numbers are spelled, and which residue a signed one stands for.
use Rattle.std.specs.Prelude.{ℕ, zero, suc, ◌+◌, ◌-◌, ◌*◌, ◌^◌, List, [], ◌∷◌, length, Bool, false, not, ◌&&◌, codes, ◌==◌, nat_lt, fold, if◌then◌else◌, Option, None, Some, option_and_then, ℤ, pos, negsuc, unsigned_abs}
use Rattle.std.specs.Char.{is_ascii_digit}
use Rattle.std.specs.Int.{int_rem_euclid}
use Rattle.std.specs.List.{list_all}
use Rattle.std.specs.Str.{bytes_eq}
use Rattle.number_crdts.specs.Number.{modulus_of}

-- decimal digits, of which the first is 0 only where it is the one digit
abbrev pub is_numeral : List ℕ → Bool
is_numeral [] = false
is_numeral (b ∷ bs) = if b == 48 then length bs == 0 else list_all is_ascii_digit (b ∷ bs)

abbrev pub value_of : List ℕ → ℕ
value_of digits = fold (λ n b. 10 * n + (b - 48)) 0 digits

-- the number that digits spell, where it is below the limit
abbrev pub number_below : ℕ → List ℕ → Option ℕ
number_below limit text = if is_numeral text && nat_lt (value_of text) limit then Some (value_of text) else None

-- a count is at most 4,294,967,295
abbrev pub count_of : List ℕ → Option ℕ
count_of text = number_below (2 ^ 32) text

-- such digits, or a minus and such digits, which are not 0
abbrev pub is_signed : List ℕ → Bool
is_signed [] = false
is_signed (b ∷ digits) = if b == 45 then is_numeral digits && not (bytes_eq digits (codes "0")) else is_numeral (b ∷ digits)

-- the negative number with these digits after its minus, which is not 0
abbrev pub negative : ℕ → Option ℤ
negative zero = None
negative (suc n) = Some (negsuc n)

-- A signed number has 64 bits: digits up to 2^63 - 1, or a minus and digits from 1 to 2^63.
abbrev pub signed_of : List ℕ → Option ℤ
signed_of [] = None
signed_of (b ∷ digits) =
    if b == 45 then option_and_then negative (number_below (2 ^ 63 + 1) digits)
    else option_and_then (λ n. Some (pos n)) (number_below (2 ^ 63) (b ∷ digits))

-- the residue of a signed number: what is left of it by the modulus
abbrev pub residue : ℕ → ℤ → ℕ
residue m z = unsigned_abs (int_rem_euclid z (pos (modulus_of m)))
