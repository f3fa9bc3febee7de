-- The bytes of kinds: those of the arm, as values of types of their own.
use Rattle.std.specs.Prelude.{Bool}
use Rattle.std.proofs.Common.{refl}
use Rattle.vector_clock.specs.declared.clock.Clock.{Clock}
use Rattle.vector_clock.specs.declared.stamp.Stamp.{Stamp}
use Rattle.crdt_laws.specs.Tower.{Meaning}
use Rattle.doc_tower.specs.declared.kinds.KindOp.{KindOp}
use Rattle.doc_tower.specs.declared.kinds.KindState.{KindState}
use Rattle.doc_tower.specs.Kinds.{AllOps, AllStates, sealed}
use Rattle.wire_core.specs.Reading.{Grammar, IsExact, made}
use Rattle.wire_core.specs.Exact.{made_exact}
use Rattle.wire_core.specs.Faults.{IsInOrder}
use Rattle.wire_core.specs.InOrder.{made_in_order}
use Rattle.wire_core.specs.Steady.{IsSteady, made_steady}
use Rattle.wire_core.specs.Good.{AreGood}
use Rattle.wire_core.specs.Stands.{Tells}
use Rattle.wire_core.specs.Writes.{Writes}

abbrev pub op_in : AllOps → KindOp
op_in x = record { arm = x }

abbrev pub state_in : AllStates → KindState
state_in s = record { arm = s }

abbrev pub kind_ops : Grammar AllOps → Grammar KindOp
kind_ops g = made op_in (λ x. x.arm) g

abbrev pub kind_states : (Clock → Grammar AllStates) → Clock → Grammar KindState
kind_states g d = made state_in (λ s. s.arm) (g d)

-- the arm tells which of its operations may stand at a stamp, and whether the lists of a state are short enough
abbrev pub kind_may_stand : (Stamp → AllOps → Bool) → Stamp → KindOp → Bool
kind_may_stand arm p x = arm p x.arm

abbrev pub kind_fits : (AllStates → Type 0) → KindState → Type 0
kind_fits arm s = arm s.arm

pub kind_ops_exact : (g : Grammar AllOps) → IsExact g → IsExact (kind_ops g)
kind_ops_exact g h = made_exact op_in (λ x. x.arm) g h (λ r x a. refl)

pub kind_ops_in_order : (g : Grammar AllOps) → IsInOrder g → IsInOrder (kind_ops g)
kind_ops_in_order g h = made_in_order op_in (λ x. x.arm) g h

pub kind_states_exact : (g : Clock → Grammar AllStates) (d : Clock) → IsExact (g d) → IsExact (kind_states g d)
kind_states_exact g d h = made_exact state_in (λ s. s.arm) (g d) h (λ r s a. refl)

pub kind_states_steady : (g : Clock → Grammar AllStates) (d : Clock) → IsSteady (g d) → IsSteady (kind_states g d)
kind_states_steady g d h = made_steady state_in (λ s. s.arm) (g d) h

module _ (m : Meaning AllStates AllOps) where
  pub kind_writes : (g : Grammar AllOps) → Writes m g → Writes (sealed m) (kind_ops g)
  kind_writes g h = record { each = λ r p x stamp valid. (h.each r p x.arm stamp valid, refl) }

  pub kind_tells : (g : Grammar AllOps) (arm : Stamp → AllOps → Bool) → Tells m g arm → Tells (sealed m) (kind_ops g) (kind_may_stand arm)
  kind_tells g arm h = record { each = λ r p x stamp within allowed. h.each r p x.arm stamp within allowed.0 }

  pub kind_good : (fits : AllStates → Type 0) (g : Clock → Grammar AllStates) → AreGood m fits g → AreGood (sealed m) (kind_fits fits) (kind_states g)
  kind_good fits g h = record { taken = λ r d s k n a. h.taken r d s.arm k n a.0; again = λ r d s k n a f. (h.again r d s.arm k n a f, refl) }
