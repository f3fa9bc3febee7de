-- The bytes of choices: an operation and a value by their numbers, in one byte each.
use Rattle.std.specs.Prelude.{ℕ, ◌*◌, true}
use Rattle.std.proofs.Common.{refl, arith}
use Rattle.flag_crdts.specs.declared.choice.Choice.{Choice}
use Rattle.flag_crdts.specs.declared.choice.Choice.TheVariants.{Two, Three, Four, Five, Six, Seven, Eight}
use Rattle.flag_crdts.specs.Choice.{size_of}
use Rattle.flag_crdts.specs.Ladder.{IsLadderSize, ladder_meaning}
use Rattle.wire_core.specs.Small.{below}
use Rattle.wire_core.specs.SmallExact.{below_allowed, below_is}
use Rattle.wire_core.specs.Good.{AreGood}
use Rattle.wire_core.specs.Stands.{Tells}
use Rattle.wire_core.specs.Writes.{Writes}

module _ (n : ℕ) (h : IsLadderSize n) where
  pub ladder_writes : Writes (ladder_meaning n) (below (2 * n))
  ladder_writes = record { each = λ r p x stamp valid. let most = h.most in below_allowed r (2 * n) x (omega arith) valid.op }

  -- each operation may stand at each stamp
  pub ladder_tells : Tells (ladder_meaning n) (below (2 * n)) (λ _ _. true)
  ladder_tells = record { each = λ r p x stamp within allowed. (λ _. record { within = within; op = below_is r (2 * n) x allowed }, λ _. refl) }

  -- each value is good
  pub ladder_good : AreGood (ladder_meaning n) (λ _. Unit {0}) (λ _. below n)
  ladder_good = record {
    taken = λ r d s k e a. below_is r n s a;
    again = λ r d s k e a f. let most = h.most in below_allowed r n s (omega arith) a;
  }

-- a choice has 2 to 8 values
pub choice_size : (c : Choice) → IsLadderSize (size_of c)
choice_size (Two l) = record { some = omega arith; most = omega arith }
choice_size (Three l) = record { some = omega arith; most = omega arith }
choice_size (Four l) = record { some = omega arith; most = omega arith }
choice_size (Five l) = record { some = omega arith; most = omega arith }
choice_size (Six l) = record { some = omega arith; most = omega arith }
choice_size (Seven l) = record { some = omega arith; most = omega arith }
choice_size (Eight l) = record { some = omega arith; most = omega arith }
