-- The bytes of the operations of numbers: those of a residue.
use Rattle.std.specs.Prelude.{◌≡◌, ℕ, zero, suc, ◌<◌, ◌^◌, Bool, true, false, nat_lt, if◌then◌else◌}
use Rattle.std.proofs.Common.{cond, refl, arith}
use Rattle.std.proofs.lemmas.Bool.{ltb-true}
use Rattle.std.proofs.lemmas.Bool.Decides.{nat_tests}
use Rattle.number_crdts.specs.Number.{add_meaning, modulus_of, mul_action}
use Rattle.wire_core.specs.Reading.{Grammar, IsExact, Rules, number, only}
use Rattle.wire_core.specs.Exact.{number_exact, only_exact}
use Rattle.wire_core.specs.Faults.{IsInOrder}
use Rattle.wire_core.specs.InOrder.{number_in_order, number_is_field, only_in_order}
use Rattle.wire_core.specs.Good.{AreGood}
use Rattle.wire_core.specs.Steady.{IsSteady, in_order_steady}
use Rattle.wire_core.specs.Writes.{Writes, WritesActing}
use Rattle.wire_core.specs.Stands.{Tells, TellsActing}

-- how many bytes spell a residue: eight, where the modulus is a number of 64 bits
abbrev pub width_of : ℕ → ℕ
width_of m = if nat_lt m (2 ^ 64) then 8 else m

-- a residue modulo m, where 0 stands for 2 ^ 64
abbrev pub residue_grammar : ℕ → Grammar ℕ
residue_grammar m = only (λ _ x. nat_lt x (modulus_of m)) (number (width_of m))

pub residue_exact : (m : ℕ) → IsExact (residue_grammar m)
residue_exact m = only_exact _ (number (width_of m)) (number_exact (width_of m))

pub residue_in_order : (m : ℕ) → IsInOrder (residue_grammar m)
residue_in_order m = only_in_order _ (number (width_of m)) (number_is_field (width_of m)) (number_in_order (width_of m))

below_power : (m : ℕ) → m < 256 ^ m
below_power zero = omega arith
below_power (suc m) = omega (arith, below_power m)

fits : (m x : ℕ) → x < modulus_of m → x < 256 ^ width_of m
fits m x h = go (nat_lt m (2 ^ 64)) refl
  where
    go : (b : Bool) → nat_lt m (2 ^ 64) ≡ b → x < 256 ^ cond b 8 m
    go true e = grind (arith, nat_tests)
    go false e = let p = below_power m in grind (arith, nat_tests)

pub residue_allowed : (m : ℕ) (r : Rules) (x : ℕ) → x < modulus_of m → (residue_grammar m).allows r x
unfolding number
residue_allowed m r x h = (fits m x h, grind (arith, nat_tests))

-- the residues are the states that are good

pub residue_steady : (m : ℕ) → IsSteady (residue_grammar m)
residue_steady m = in_order_steady (residue_grammar m) (residue_in_order m)

pub add_good : (m : ℕ) → AreGood (add_meaning m) (λ _. Unit {0}) (λ _. residue_grammar m)
add_good m = record { taken = λ r d s k e h. ltb-true s (modulus_of m) h.1; again = λ r d s k e h f. residue_allowed m r s h }

-- the operations of numbers may be written

pub add_writes : (m : ℕ) → Writes (add_meaning m) (residue_grammar m)
add_writes m = record { each = λ r p x stamp valid. residue_allowed m r x valid.residue }

pub mul_writes : (m : ℕ) → WritesActing (mul_action m) (residue_grammar m)
mul_writes m = record { each = λ r p x stamp valid. residue_allowed m r x valid.residue }

-- each residue may stand at each stamp

pub add_tells : (m : ℕ) → Tells (add_meaning m) (residue_grammar m) (λ _ _. true)
add_tells m = record { each = λ r p x stamp within allowed. (λ _. record { within = within; residue = ltb-true x (modulus_of m) allowed.1 }, λ _. refl) }

pub mul_tells : (m : ℕ) → TellsActing (mul_action m) (residue_grammar m) (λ _ _. true)
mul_tells m = record { each = λ r p x stamp within allowed. (λ _. record { within = within; residue = ltb-true x (modulus_of m) allowed.1 }, λ _. refl) }
