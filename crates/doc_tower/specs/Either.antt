-- What a tower means that is one of two. Its states and operations are those of either; those of the other arm are none of its
-- own.
use Rattle.std.specs.Prelude.{ℕ}
use Rattle.serde_json.specs.Data.{Data, null}
use Rattle.vector_clock.specs.declared.clock.Clock.{Clock}
use Rattle.vector_clock.specs.declared.stamp.Stamp.{Stamp}
use Rattle.crdt_laws.specs.Tower.{Meaning}
use Rattle.doc_tower.specs.declared.either.Either.{Either}
use Rattle.doc_tower.specs.declared.either.Either.TheVariants.{Left, Right}

-- ---- The left arm

module _ {S L : Type 0} (m : Meaning S L) where
  -- an operation of the other arm has the level 1
  abbrev pub left_level : {R : Type 0} → Either L R → ℕ
  left_level (Left x) = m.level x
  left_level (Right x) = 1

  -- and may stand at no stamp
  abbrev pub left_well_formed : {R : Type 0} → Either L R → Type 0
  left_well_formed (Left x) = m.well_formed x
  left_well_formed (Right x) = ⊥

  abbrev pub left_valid : {R : Type 0} → Stamp → Either L R → Type 0
  left_valid p (Left x) = m.valid p x
  left_valid p (Right x) = ⊥

  -- it changes nothing, and nothing changes a state of the other arm
  abbrev pub left_apply : {T R : Type 0} → Either S T → Stamp → Either L R → Either S T
  left_apply (Left s) p (Left x) = Left (m.apply s p x)
  left_apply s p x = s

  -- nor does it act, or is it acted on
  abbrev pub left_act : {R : Type 0} → Either L R → Either L R → Either L R
  left_act (Left y) (Left x) = Left (m.act y x)
  left_act y x = x

  abbrev pub left_settle : {T : Type 0} → Either S T → Clock → Either S T
  left_settle (Left s) k = Left (m.settle s k)
  left_settle (Right s) k = Right s

  abbrev pub left_show : {T : Type 0} → Either S T → Data
  left_show (Left s) = m.show s
  left_show (Right s) = null

  -- a state of the other arm is not good
  abbrev pub left_good : {T : Type 0} → ℕ → Either S T → Type 0
  left_good n (Left s) = m.good n s
  left_good n (Right s) = ⊥

  abbrev pub left_good_at : {T : Type 0} → Clock → Either S T → Type 0
  left_good_at d (Left s) = m.good_at d s
  left_good_at d (Right s) = ⊥

  abbrev pub left_holds : {T : Type 0} → Either S T → Stamp → Type 0
  left_holds (Left s) p = m.holds s p
  left_holds (Right s) p = ⊥

  -- the tower as the left arm
  abbrev pub left_meaning : {T R : Type 0} → Meaning (Either S T) (Either L R)
  left_meaning = record {
    top = m.top;
    level = left_level;
    well_formed = left_well_formed;
    valid = left_valid;
    init = Left m.init;
    apply = left_apply;
    act = left_act;
    settle = left_settle;
    show = left_show;
    good = left_good;
    good_at = left_good_at;
    holds = left_holds;
    sparing = m.sparing;
    plain = m.plain;
  }

-- ---- The right arm, in the same way

module _ {T R : Type 0} (m : Meaning T R) where
  abbrev pub right_level : {L : Type 0} → Either L R → ℕ
  right_level (Left x) = 1
  right_level (Right x) = m.level x

  abbrev pub right_well_formed : {L : Type 0} → Either L R → Type 0
  right_well_formed (Left x) = ⊥
  right_well_formed (Right x) = m.well_formed x

  abbrev pub right_valid : {L : Type 0} → Stamp → Either L R → Type 0
  right_valid p (Left x) = ⊥
  right_valid p (Right x) = m.valid p x

  abbrev pub right_apply : {S L : Type 0} → Either S T → Stamp → Either L R → Either S T
  right_apply (Right s) p (Right x) = Right (m.apply s p x)
  right_apply s p x = s

  abbrev pub right_act : {L : Type 0} → Either L R → Either L R → Either L R
  right_act (Right y) (Right x) = Right (m.act y x)
  right_act y x = x

  abbrev pub right_settle : {S : Type 0} → Either S T → Clock → Either S T
  right_settle (Left s) k = Left s
  right_settle (Right s) k = Right (m.settle s k)

  abbrev pub right_show : {S : Type 0} → Either S T → Data
  right_show (Left s) = null
  right_show (Right s) = m.show s

  abbrev pub right_good : {S : Type 0} → ℕ → Either S T → Type 0
  right_good n (Left s) = ⊥
  right_good n (Right s) = m.good n s

  abbrev pub right_good_at : {S : Type 0} → Clock → Either S T → Type 0
  right_good_at d (Left s) = ⊥
  right_good_at d (Right s) = m.good_at d s

  abbrev pub right_holds : {S : Type 0} → Either S T → Stamp → Type 0
  right_holds (Left s) p = ⊥
  right_holds (Right s) p = m.holds s p

  -- the tower as the right arm
  abbrev pub right_meaning : {S L : Type 0} → Meaning (Either S T) (Either L R)
  right_meaning = record {
    top = m.top;
    level = right_level;
    well_formed = right_well_formed;
    valid = right_valid;
    init = Right m.init;
    apply = right_apply;
    act = right_act;
    settle = right_settle;
    show = right_show;
    good = right_good;
    good_at = right_good_at;
    holds = right_holds;
    sparing = m.sparing;
    plain = m.plain;
  }

-- ---- One of two

-- it is the tower that it holds
abbrev pub either_meaning : {A B S T L R : Type 0} → (A → Meaning S L) → (B → Meaning T R) → Either A B → Meaning (Either S T) (Either L R)
either_meaning m w (Left t) = left_meaning (m t)
either_meaning m w (Right t) = right_meaning (w t)
