-- What a tower means that has an operation that does nothing, of each level.
use Rattle.std.specs.Prelude.{ℕ, ◌≤◌, false}
use Rattle.vector_clock.specs.declared.stamp.Stamp.{Stamp}
use Rattle.crdt_laws.specs.Tower.{Meaning, IsWithin}
use Rattle.semidirect_product.specs.declared.maybe.MaybeOp.{MaybeOp}
use Rattle.semidirect_product.specs.declared.maybe.MaybeOp.TheVariants.{Real, Nothing}

-- a level of a tower
pub record IsLevel (top level : ℕ) : Type 0 where
  pub low : 1 ≤ level
  pub high : level ≤ top

module _ {S O : Type 0} (m : Meaning S O) where
  -- nothing has the level of what it stands for
  abbrev pub maybe_level : MaybeOp O → ℕ
  maybe_level (Real x) = m.level x
  maybe_level (Nothing l) = l

  -- nothing may stand at some stamp where its level is one of the tower's
  abbrev pub maybe_well_formed : MaybeOp O → Type 0
  maybe_well_formed (Real x) = m.well_formed x
  maybe_well_formed (Nothing l) = IsLevel m.top l

  -- and at each stamp within the limits
  abbrev pub maybe_valid : Stamp → MaybeOp O → Type 0
  maybe_valid p (Real x) = m.valid p x
  maybe_valid p (Nothing l) = IsWithin p × IsLevel m.top l

  -- nothing leaves the state as it is
  abbrev pub maybe_apply : S → Stamp → MaybeOp O → S
  maybe_apply s p (Real x) = m.apply s p x
  maybe_apply s p (Nothing l) = s

  -- nothing leaves what it acts on as it is, and stays nothing whatever acts on it
  abbrev pub maybe_act : MaybeOp O → MaybeOp O → MaybeOp O
  maybe_act (Real y) (Real x) = Real (m.act y x)
  maybe_act (Nothing l) (Real x) = Real x
  maybe_act y (Nothing l) = Nothing l

  -- the states are those of the tower
  abbrev pub maybe_meaning : Meaning S (MaybeOp O)
  maybe_meaning = record {
    top = m.top;
    level = maybe_level;
    well_formed = maybe_well_formed;
    valid = maybe_valid;
    init = m.init;
    apply = maybe_apply;
    act = maybe_act;
    settle = m.settle;
    show = m.show;
    good = m.good;
    good_at = m.good_at;
    holds = m.holds;
    sparing = false;
    plain = m.plain;
  }
