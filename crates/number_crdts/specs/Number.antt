-- Numbers modulo some number, with additions, and multiplications that act on them.
use Rattle.std.specs.Prelude.{ℕ, ◌+◌, ◌*◌, ◌%◌, ◌^◌, ◌<◌, ◌==◌, if◌then◌else◌, true}
use Rattle.std.specs.Int.{cast_signed, w64}
use Rattle.serde_json.specs.Data.{Num, number, unsigned}
use Rattle.serde_json.specs.Find.{of_integer}
use Rattle.vector_clock.specs.declared.stamp.Stamp.{Stamp}
use Rattle.crdt_laws.specs.Tower.{Meaning, IsWithin}
use Rattle.crdt_laws.specs.Actor.{Action}
use Rattle.semidirect_product.specs.declared.stack.StackOp.{StackOp}
use Rattle.semidirect_product.specs.Stack.{stack_meaning}

-- what residues are below: 0 stands for 2 ^ 64
abbrev pub modulus_of : ℕ → ℕ
modulus_of m = if m == 0 then 2 ^ 64 else m

-- the residue of the sum
abbrev pub sum_mod : ℕ → ℕ → ℕ → ℕ
sum_mod m x y = (x + y) % modulus_of m

-- and of the product
abbrev pub product_mod : ℕ → ℕ → ℕ → ℕ
product_mod m x y = (x * y) % modulus_of m

-- the operand is a residue, and the stamp is within the limits
pub record IsResidueAt (m : ℕ) (p : Stamp) (x : ℕ) : Type 0 where
  pub within : IsWithin p
  pub residue : x < modulus_of m

-- a residue modulo 2 ^ 64 is shown as the signed number with its bits, and one of another modulus as it is
abbrev pub shown_mod : ℕ → ℕ → Num
shown_mod m s = if m == 0 then of_integer (cast_signed w64 s) else unsigned s

-- a number, at first 0, to which residues are added
abbrev pub add_meaning : ℕ → Meaning ℕ ℕ
add_meaning m = record {
  top = 1;
  level = λ _. 1;
  well_formed = λ x. x < modulus_of m;
  valid = IsResidueAt m;
  init = 0;
  apply = λ s _ x. sum_mod m s x;
  act = λ _ x. x;
  settle = λ s _. s;
  show = λ s. number (shown_mod m s);
  good = λ _ s. s < modulus_of m;
  good_at = λ _ s. s < modulus_of m;
  holds = λ _ _. ⊥;
  sparing = true;
  plain = true;
}

-- a multiplication multiplies the number, and what is added meanwhile
abbrev pub mul_action : ℕ → Action ℕ ℕ ℕ
mul_action m = record {
  well_formed = λ x. x < modulus_of m;
  valid = IsResidueAt m;
  apply = λ s _ y. product_mod m s y;
  act = λ y x. product_mod m x y;
  sparing = true;
}

-- an addition or a multiplication
abbrev pub NumberOp : Type 0
NumberOp = StackOp ℕ ℕ

-- a number that is added to and multiplied
abbrev pub number_meaning : ℕ → Meaning ℕ NumberOp
number_meaning m = stack_meaning (add_meaning m) (mul_action m)
