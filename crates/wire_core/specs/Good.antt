-- States in files: those that are good at a clock.
use Rattle.std.specs.Prelude.{◌≡◌}
use Rattle.vector_clock.specs.declared.clock.Clock.{Clock}
use Rattle.vector_clock.specs.Clock.{IsClock}
use Rattle.crdt_laws.specs.Tower.{Meaning}
use Rattle.wire_core.specs.Reading.{Grammar, Rules}

-- What is allowed at a clock of the document is good there, and what is good there is allowed if each of its lists is short
-- enough for its count.
pub record AreGood {S O : Type 0} (m : Meaning S O) (fits : S → Type 0) (g : Clock → Grammar S) : Type 0 where
  pub taken : (r : Rules) (d : Clock) (s : S) → IsClock d → d.n ≡ r.members → (g d).allows r s → m.good_at d s
  pub again : (r : Rules) (d : Clock) (s : S) → IsClock d → d.n ≡ r.members → m.good_at d s → fits s → (g d).allows r s
