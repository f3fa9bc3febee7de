-- What a stack means: a lower tower, and the operations of an actor as one more level above it.
use Rattle.std.specs.Prelude.{ℕ, ◌+◌, ◌&&◌}
use Rattle.vector_clock.specs.declared.stamp.Stamp.{Stamp}
use Rattle.crdt_laws.specs.Tower.{Meaning}
use Rattle.crdt_laws.specs.Actor.{Action}
use Rattle.semidirect_product.specs.declared.stack.StackOp.{StackOp}
use Rattle.semidirect_product.specs.declared.stack.StackOp.TheVariants.{Low, High}

module _ {S L H : Type 0} (m : Meaning S L) (a : Action S L H) where
  -- the acting operations have the level above all those of the lower tower
  abbrev pub stack_level : StackOp L H → ℕ
  stack_level (Low x) = m.level x
  stack_level (High y) = m.top + 1

  -- each part says which operations may stand at some stamp
  abbrev pub stack_well_formed : StackOp L H → Type 0
  stack_well_formed (Low x) = m.well_formed x
  stack_well_formed (High y) = a.well_formed y

  -- and which may stand at this stamp
  abbrev pub stack_valid : Stamp → StackOp L H → Type 0
  stack_valid p (Low x) = m.valid p x
  stack_valid p (High y) = a.valid p y

  -- both kinds of operations change the one state
  abbrev pub stack_apply : S → Stamp → StackOp L H → S
  stack_apply s p (Low x) = m.apply s p x
  stack_apply s p (High y) = a.apply s p y

  -- the acting operations act on all those of the lower tower, and nothing acts on them
  abbrev pub stack_act : StackOp L H → StackOp L H → StackOp L H
  stack_act (Low y) (Low x) = Low (m.act y x)
  stack_act (High y) (Low x) = Low (a.act y x)
  stack_act y (High x) = High x

  -- the states are those of the lower tower
  abbrev pub stack_meaning : Meaning S (StackOp L H)
  stack_meaning = record {
    top = m.top + 1;
    level = stack_level;
    well_formed = stack_well_formed;
    valid = stack_valid;
    init = m.init;
    apply = stack_apply;
    act = stack_act;
    settle = m.settle;
    show = m.show;
    good = m.good;
    good_at = m.good_at;
    holds = m.holds;
    sparing = m.sparing && a.sparing;
    plain = m.plain;
  }
