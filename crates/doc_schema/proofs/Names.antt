-- Names are UTF-8.
use Rattle.std.specs.Prelude.{ℕ, suc, ◌<◌, List, [], ◌∷◌, length, slice_index}
use Rattle.std.specs.Str.{IsUtf8}
use Rattle.std.proofs.Common.{refl, arith, inl, inr}
use Rattle.std.proofs.lemmas.Bool.{lt-ltb}
use Rattle.std.proofs.lemmas.Str.{IsUtf8-append, IsUtf8-nil}
use Rattle.json.proofs.Printed.Utf8.{IsUtf8-are_ascii}
use Rattle.action_tables.specs.Name.{IsName, IsNameByte}

ascii_byte : (b : ℕ) → IsNameByte b → b < 128
ascii_byte b h = elim h [
  | inl letter ↦ omega (arith, letter.1)
  | inr other ↦ elim other [ inl digit ↦ omega (arith, digit.1) | inr low ↦ omega (arith, low) ]
]

ascii : (xs : List ℕ) → ((i : ℕ) → i < length xs → IsNameByte (slice_index xs i)) → IsUtf8 xs
ascii [] h = IsUtf8-nil
ascii (x ∷ xs) h =
    IsUtf8-append (x ∷ []) xs (IsUtf8-are_ascii (x ∷ []) (rw (lt-ltb x 128 (ascii_byte x (h 0 (omega arith)))) refl))
    (ascii xs (λ i l. h (suc i) (omega arith)))

pub utf8_name : (name : List ℕ) → IsName name → IsUtf8 name
utf8_name name h = ascii name h.each
