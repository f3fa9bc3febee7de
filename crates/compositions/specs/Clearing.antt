-- A number that is cleared.
use Rattle.std.specs.Prelude.{◌≡◌, ◌≢◌, ℕ, ◌<◌, ◌^◌, ◌==◌, IsTrue, true}
use Rattle.std.proofs.Common.{refl, ap, sym, inr, arith}
use Rattle.std.proofs.Math.Nat.{zero-mod}
use Rattle.std.proofs.lemmas.Bool.{cond_both, eqb-false, eqb-true}
use Rattle.vector_clock.specs.declared.stamp.Stamp.{Stamp}
use Rattle.crdt_laws.specs.Tower.{IsWithin}
use Rattle.crdt_laws.specs.Actor.{Action, IsLawfulAction}
use Rattle.semidirect_product.specs.declared.stack.StackOp.TheVariants.{Low, High}
use Rattle.semidirect_product.specs.Stack.{stack_meaning}
use Rattle.number_crdts.specs.Number.{NumberOp, add_meaning, modulus_of, mul_action, number_meaning}

-- the addition or multiplication that changes nothing
abbrev pub neutral : NumberOp → NumberOp
neutral (Low x) = Low 0
neutral (High y) = High 1

-- the number is 0 again, and what is done meanwhile changes nothing
abbrev pub clear_action : Action ℕ NumberOp (Unit {0})
clear_action = record {
  well_formed = λ _. Unit {0};
  valid = λ p _. IsWithin p;
  apply = λ _ _ _. 0;
  act = λ _ x. neutral x;
  sparing = true;
}

module _ (m : ℕ) (proper : m ≢ 1) where
  -- so 1 is a residue
  room : 1 < modulus_of m
  room = cond_both (m == 0) (2 ^ 64) m (λ k. 1 < k) (λ zero. omega arith) (λ some. omega (arith, proper, eqb-false m 0 some))

  level : (x : NumberOp) → (number_meaning m).level (neutral x) ≡ (number_meaning m).level x
  level (Low x) = refl
  level (High y) = refl

  formed : (x : NumberOp) → (number_meaning m).well_formed (neutral x)
  formed (Low x) = omega (arith, room)
  formed (High y) = room

  valid : (p : Stamp) (x : NumberOp) → (number_meaning m).valid p x → (number_meaning m).valid p (neutral x)
  valid p (Low x) h = record { within = h.within; residue = omega (arith, room) }
  valid p (High y) h = record { within = h.within; residue = room }

  exchange : (p : Stamp) (x : NumberOp) → 0 ≡ (number_meaning m).apply 0 p (neutral x)
  exchange p (Low x) = sym (zero-mod (modulus_of m))
  exchange p (High y) = sym (zero-mod (modulus_of m))

  distribute : (y x : NumberOp) → neutral ((number_meaning m).act y x) ≡ (number_meaning m).act (neutral y) (neutral x)
  distribute (Low y) (Low x) = refl
  distribute (Low y) (High x) = refl
  distribute (High y) (Low x) = ap Low (sym (zero-mod (modulus_of m)))
  distribute (High y) (High x) = refl

  clear_lawful : IsLawfulAction (number_meaning m) clear_action
  clear_lawful = record {
    valid_within = λ p y h. h;
    valid_well_formed = λ p y h. tt;
    level-act = λ y x _ _. level x;
    well_formed-act = λ y x _ _. formed x;
    valid-act = λ p y x _ _ h. valid p x h;
    commute = λ n s p q x y _ _ _. refl;
    exchange = λ n s p q x y _ _ _. exchange p x;
    act-act = λ y v x _ _ _. refl;
    distribute = λ z y x _ _ _ _. distribute y x;
    settle-apply = λ n s k p y _ _ _ _ _. refl;
    good-apply = λ n s p y _ _ _. omega (arith, room);
    good_at-apply = λ d s p y _ _ _ _ _. omega (arith, room);
    holds-apply = λ s p y q h. inr h;
  }

-- on numbers whose multiplications are by the modulus of their additions
pub clear_fits_lawful : (m n : ℕ) → IsTrue (m == n) → n ≢ 1 → IsLawfulAction (stack_meaning (add_meaning n) (mul_action m)) clear_action
clear_fits_lawful m n fit proper = rw (eqb-true m n fit) (clear_lawful n proper)
