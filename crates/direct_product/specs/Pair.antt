-- What two towers side by side mean.
use Rattle.std.specs.Prelude.{ℕ, ◌⊎◌, false, ◌&&◌, max}
use Rattle.serde_json.specs.Data.{array, item, no_items}
use Rattle.vector_clock.specs.declared.stamp.Stamp.{Stamp}
use Rattle.crdt_laws.specs.Tower.{Meaning}
use Rattle.direct_product.specs.declared.pair.Both.{Both}
use Rattle.direct_product.specs.declared.pair.PairOp.{PairOp}
use Rattle.direct_product.specs.declared.pair.PairOp.TheVariants.{Left, Right}

-- a state of each side
abbrev pub both : {S T : Type 0} → S → T → Both S T
both s t = record { left = s; right = t }

module _ {S T L R : Type 0} (m : Meaning S L) (w : Meaning T R) where
  -- an operation keeps the level that it has in its side
  abbrev pub pair_level : PairOp L R → ℕ
  pair_level (Left x) = m.level x
  pair_level (Right x) = w.level x

  -- each side says which operations may stand at some stamp
  abbrev pub pair_well_formed : PairOp L R → Type 0
  pair_well_formed (Left x) = m.well_formed x
  pair_well_formed (Right x) = w.well_formed x

  -- and which may stand at this stamp
  abbrev pub pair_valid : Stamp → PairOp L R → Type 0
  pair_valid p (Left x) = m.valid p x
  pair_valid p (Right x) = w.valid p x

  -- an operation changes the state of its side alone
  abbrev pub pair_apply : Both S T → Stamp → PairOp L R → Both S T
  pair_apply s p (Left x) = both (m.apply s.left p x) s.right
  pair_apply s p (Right x) = both s.left (w.apply s.right p x)

  -- operations of different sides do not act on each other
  abbrev pub pair_act : PairOp L R → PairOp L R → PairOp L R
  pair_act (Left y) (Left x) = Left (m.act y x)
  pair_act (Right y) (Right x) = Right (w.act y x)
  pair_act (Right y) (Left x) = Left x
  pair_act (Left y) (Right x) = Right x

  -- the stamps that either side holds
  abbrev pub pair_holds : Both S T → Stamp → Type 0
  pair_holds s p = m.holds s.left p ⊎ w.holds s.right p

  -- settling reaches both sides, and both are shown
  abbrev pub pair_meaning : Meaning (Both S T) (PairOp L R)
  pair_meaning = record {
    top = max m.top w.top;
    level = pair_level;
    well_formed = pair_well_formed;
    valid = pair_valid;
    init = both m.init w.init;
    apply = pair_apply;
    act = pair_act;
    settle = λ s k. both (m.settle s.left k) (w.settle s.right k);
    show = λ s. array (item (m.show s.left) (item (w.show s.right) no_items));
    good = λ n s. m.good n s.left × w.good n s.right;
    good_at = λ d s. m.good_at d s.left × w.good_at d s.right;
    holds = pair_holds;
    sparing = false;
    plain = m.plain && w.plain;
  }
