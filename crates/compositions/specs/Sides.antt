-- Two things of one kind side by side that change places.
use Rattle.std.specs.Prelude.{◌≡◌, ℕ, ◌==◌, IsTrue, false}
use Rattle.std.proofs.Common.{refl, inl, inr}
use Rattle.std.proofs.lemmas.Bool.{eqb-true}
use Rattle.vector_clock.specs.declared.stamp.Stamp.{Stamp}
use Rattle.crdt_laws.specs.Tower.{Meaning, IsWithin}
use Rattle.crdt_laws.specs.Actor.{Action, IsLawfulAction}
use Rattle.direct_product.specs.declared.pair.Both.{Both}
use Rattle.direct_product.specs.declared.pair.PairOp.{PairOp}
use Rattle.direct_product.specs.declared.pair.PairOp.TheVariants.{Left, Right}
use Rattle.semidirect_product.specs.Stack.{stack_meaning}
use Rattle.number_crdts.specs.Number.{add_meaning, mul_action, number_meaning}
use Rattle.direct_product.specs.Pair.{both, pair_act, pair_apply, pair_level, pair_meaning, pair_holds, pair_valid, pair_well_formed}

-- each state is now that of the other side
abbrev pub swapped : {S : Type 0} → Both S S → Both S S
swapped s = both s.right s.left

-- what was meant for one side is now meant for the other
abbrev pub other_side : {O : Type 0} → PairOp O O → PairOp O O
other_side (Left x) = Right x
other_side (Right x) = Left x

-- the sides change places, and what is done meanwhile goes where its side went
abbrev pub swap_action : {S O : Type 0} → Action (Both S S) (PairOp O O) (Unit {0})
swap_action = record {
  well_formed = λ _. Unit {0};
  valid = λ p _. IsWithin p;
  apply = λ s _ _. swapped s;
  act = λ _ x. other_side x;
  sparing = false;
}

-- changing places acts lawfully on any two like towers side by side
module _ {S O : Type 0} (m : Meaning S O) where
  level : (x : PairOp O O) → pair_level m m (other_side x) ≡ pair_level m m x
  level (Left x) = refl
  level (Right x) = refl

  formed : (x : PairOp O O) → pair_well_formed m m x → pair_well_formed m m (other_side x)
  formed (Left x) h = h
  formed (Right x) h = h

  valid : (p : Stamp) (x : PairOp O O) → pair_valid m m p x → pair_valid m m p (other_side x)
  valid p (Left x) h = h
  valid p (Right x) h = h

  exchange : (s : Both S S) (p : Stamp) (x : PairOp O O) → swapped (pair_apply m m s p x) ≡ pair_apply m m (swapped s) p (other_side x)
  exchange s p (Left x) = refl
  exchange s p (Right x) = refl

  distribute : (y x : PairOp O O) → other_side (pair_act m m y x) ≡ pair_act m m (other_side y) (other_side x)
  distribute (Left y) (Left x) = refl
  distribute (Left y) (Right x) = refl
  distribute (Right y) (Left x) = refl
  distribute (Right y) (Right x) = refl

  holds : (s : Both S S) (q : Stamp) → pair_holds m m (swapped s) q → pair_holds m m s q
  holds s q (inl h) = inr h
  holds s q (inr h) = inl h

  swap_lawful : IsLawfulAction (pair_meaning m m) swap_action
  swap_lawful = record {
    valid_within = λ p y h. h;
    valid_well_formed = λ p y h. tt;
    level-act = λ y x _ _. level x;
    well_formed-act = λ y x _ h. formed x h;
    valid-act = λ p y x _ _ h. valid p x h;
    commute = λ n s p q x y _ _ _. refl;
    exchange = λ n s p q x y _ _ _. exchange s p x;
    act-act = λ y v x _ _ _. refl;
    distribute = λ z y x _ _ _ _. distribute y x;
    settle-apply = λ n s k p y _ _ _ _ _. refl;
    good-apply = λ n s p y h _ _. (h.1, h.0);
    good_at-apply = λ d s p y h _ _ _ _. (h.1, h.0);
    holds-apply = λ s p y q h. inr (holds s q h);
  }

-- so it does on two numbers of one modulus
pub swap_fits_lawful : (a m b n : ℕ) → IsTrue (m == a) → IsTrue (n == b) → IsTrue (a == b)
    → IsLawfulAction (pair_meaning (stack_meaning (add_meaning a) (mul_action m)) (stack_meaning (add_meaning b) (mul_action n))) swap_action
swap_fits_lawful a m b n left right fit = rw (eqb-true m a left, eqb-true n b right, eqb-true a b fit) (swap_lawful (number_meaning b))
