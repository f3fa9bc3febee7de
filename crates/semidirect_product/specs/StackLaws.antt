-- A stack is lawful where its lower tower is, and the actor is lawful over that tower.
use Rattle.std.specs.Prelude.{◌≡◌, ℕ, ◌+◌, ◌<◌, ◌≤◌, IsTrue, ◌⊎◌}
use Rattle.std.proofs.Common.{ap, refl, arith}
use Rattle.vector_clock.specs.declared.clock.Clock.{Clock}
use Rattle.vector_clock.specs.declared.stamp.Stamp.{Stamp}
use Rattle.vector_clock.specs.declared.clock.Id.{Id}
use Rattle.vector_clock.specs.Clock.{IsAtMost, covers}
use Rattle.vector_clock.specs.Stamp.{IsAfter, IsStamp, id_of}
use Rattle.crdt_laws.specs.Tower.{Meaning, IsLawful, IsIssued, IsWithin, Lacks, Agrees, MaySwap, WasIssued}
use Rattle.crdt_laws.specs.Actor.{Action, IsLawfulAction, IsActing, WasActing}
use Rattle.semidirect_product.specs.declared.stack.StackOp.{StackOp}
use Rattle.semidirect_product.specs.declared.stack.StackOp.TheVariants.{Low, High}
use Rattle.semidirect_product.specs.Stack.{stack_act, stack_apply, stack_level, stack_meaning, stack_valid, stack_well_formed}

module _ {S L H : Type 0} (m : Meaning S L) (a : Action S L H) where
  -- what is said of the stack's states is said of the lower tower's
  low_lacks : (s : S) (i : Id) → Lacks (stack_meaning m a) s i → Lacks m s i
  low_lacks s i h = record { none = h.none }

  low_agrees : (s : S) (k : Clock) → Agrees (stack_meaning m a) s k → Agrees m s k
  low_agrees s k h = record { each = h.each }

  low_swap : (n : ℕ) (s : S) (p q : Stamp) → MaySwap (stack_meaning m a) n s p q → MaySwap m n s p q
  low_swap n s p q h = record {
    concurrent = h.concurrent;
    good = h.good;
    first_fresh = low_lacks s (id_of p) h.first_fresh;
    second_fresh = low_lacks s (id_of q) h.second_fresh;
  }

  -- operations of each part
  low_issued : (n : ℕ) (p : Stamp) (x : L) → IsIssued (stack_meaning m a) n p (Low x) → IsIssued m n p x
  low_issued n p x h = record { stamp = h.stamp; valid = h.valid }

  high_issued : (n : ℕ) (p : Stamp) (y : H) → IsIssued (stack_meaning m a) n p (High y) → IsActing a n p y
  high_issued n p y h = record { stamp = h.stamp; valid = h.valid }

  low_was : (n : ℕ) (x : L) → WasIssued (stack_meaning m a) n (Low x) → WasIssued m n x
  low_was n x h = record { at = h.at; issued = low_issued n h.at x h.issued }

  high_was : (n : ℕ) (y : H) → WasIssued (stack_meaning m a) n (High y) → WasActing a n y
  high_was n y h = record { at = h.at; issued = high_issued n h.at y h.issued }

module _ {S L H : Type 0} (m : Meaning S L) (law : IsLawful m) (a : Action S L H) (act : IsLawfulAction m a) where
  valid_within : (p : Stamp) (x : StackOp L H) → stack_valid m a p x → IsWithin p
  valid_within p (Low x) h = law.valid_within p x h
  valid_within p (High y) h = act.valid_within p y h

  valid_well_formed : (p : Stamp) (x : StackOp L H) → stack_valid m a p x → stack_well_formed m a x
  valid_well_formed p (Low x) h = law.valid_well_formed p x h
  valid_well_formed p (High y) h = act.valid_well_formed p y h

  level_low : (x : StackOp L H) → stack_well_formed m a x → 1 ≤ stack_level m a x
  level_low (Low x) h = law.level_low x h
  level_low (High y) h = omega arith

  level_top : (x : StackOp L H) → stack_well_formed m a x → stack_level m a x ≤ m.top + 1
  level_top (Low x) h = omega (arith, law.level_top x h)
  level_top (High y) h = omega arith

  level-act : (y x : StackOp L H) → stack_well_formed m a y → stack_well_formed m a x → stack_level m a (stack_act m a y x) ≡ stack_level m a x
  level-act (Low y) (Low x) h k = law.level-act y x h k
  level-act (High y) (Low x) h k = act.level-act y x h k
  level-act (Low y) (High x) h k = refl
  level-act (High y) (High x) h k = refl

  act_below : (y x : StackOp L H) → stack_well_formed m a y → stack_well_formed m a x → stack_level m a y ≤ stack_level m a x → stack_act m a y x ≡ x
  act_below (Low y) (Low x) h k below = ap Low (law.act_below y x h k below)
  act_below (High y) (Low x) h k below = absurd (omega (arith, law.level_top x k))
  act_below (Low y) (High x) h k below = refl
  act_below (High y) (High x) h k below = refl

  well_formed-act : (y x : StackOp L H) → stack_well_formed m a y → stack_well_formed m a x → stack_well_formed m a (stack_act m a y x)
  well_formed-act (Low y) (Low x) h k = law.well_formed-act y x h k
  well_formed-act (High y) (Low x) h k = act.well_formed-act y x h k
  well_formed-act (Low y) (High x) h k = k
  well_formed-act (High y) (High x) h k = k

  valid-act : (p : Stamp) (y x : StackOp L H) → IsStamp p → WasIssued (stack_meaning m a) p.clock.n y → stack_valid m a p x → stack_valid m a p (stack_act m a y x)
  valid-act p (Low y) (Low x) stamp h k = law.valid-act p y x stamp (low_was m a p.clock.n y h) k
  valid-act p (High y) (Low x) stamp h k = act.valid-act p y x stamp (high_was m a p.clock.n y h) k
  valid-act p (Low y) (High x) stamp h k = k
  valid-act p (High y) (High x) stamp h k = k

  commute : (n : ℕ) (s : S) (p q : Stamp) (x y : StackOp L H) → MaySwap (stack_meaning m a) n s p q
      → IsIssued (stack_meaning m a) n p x → IsIssued (stack_meaning m a) n q y → stack_level m a x ≡ stack_level m a y
      → stack_apply m a (stack_apply m a s p x) q y ≡ stack_apply m a (stack_apply m a s q y) p x
  commute n s p q (Low x) (Low y) w h k same = law.commute n s p q x y (low_swap m a n s p q w) (low_issued m a n p x h) (low_issued m a n q y k) same
  commute n s p q (High x) (High y) w h k same = act.commute n s p q x y (low_swap m a n s p q w) (high_issued m a n p x h) (high_issued m a n q y k)
  commute n s p q (Low x) (High y) w h k same = absurd (omega (arith, law.level_top x (law.valid_well_formed p x h.valid)))
  commute n s p q (High x) (Low y) w h k same = absurd (omega (arith, law.level_top y (law.valid_well_formed q y k.valid)))

  exchange : (n : ℕ) (s : S) (p q : Stamp) (x y : StackOp L H) → MaySwap (stack_meaning m a) n s p q
      → IsIssued (stack_meaning m a) n p x → IsIssued (stack_meaning m a) n q y → stack_level m a x < stack_level m a y
      → stack_apply m a (stack_apply m a s p x) q y ≡ stack_apply m a (stack_apply m a s q y) p (stack_act m a y x)
  exchange n s p q (Low x) (Low y) w h k below = law.exchange n s p q x y (low_swap m a n s p q w) (low_issued m a n p x h) (low_issued m a n q y k) below
  exchange n s p q (Low x) (High y) w h k below = act.exchange n s p q x y (low_swap m a n s p q w) (low_issued m a n p x h) (high_issued m a n q y k)
  exchange n s p q (High x) (Low y) w h k below = absurd (omega (arith, law.level_top y (law.valid_well_formed q y k.valid)))
  exchange n s p q (High x) (High y) w h k below = absurd (omega arith)

  act-act : (y v x : StackOp L H) → stack_well_formed m a y → stack_well_formed m a v → stack_well_formed m a x
      → stack_level m a y ≡ stack_level m a v → stack_act m a y (stack_act m a v x) ≡ stack_act m a v (stack_act m a y x)
  act-act (Low y) (Low v) (Low x) h j k same = ap Low (law.act-act y v x h j k same)
  act-act (High y) (High v) (Low x) h j k same = ap Low (act.act-act y v x h j k)
  act-act (Low y) (High v) (Low x) h j k same = absurd (omega (arith, law.level_top y h))
  act-act (High y) (Low v) (Low x) h j k same = absurd (omega (arith, law.level_top v j))
  act-act (Low y) (Low v) (High x) h j k same = refl
  act-act (Low y) (High v) (High x) h j k same = refl
  act-act (High y) (Low v) (High x) h j k same = refl
  act-act (High y) (High v) (High x) h j k same = refl

  distribute : (z y x : StackOp L H) → stack_well_formed m a z → stack_well_formed m a y → stack_well_formed m a x
      → stack_level m a x < stack_level m a y → stack_level m a y < stack_level m a z
      → stack_act m a z (stack_act m a y x) ≡ stack_act m a (stack_act m a z y) (stack_act m a z x)
  distribute (Low z) (Low y) (Low x) h j k one two = ap Low (law.distribute z y x h j k one two)
  distribute (High z) (Low y) (Low x) h j k one two = ap Low (act.distribute z y x h j k one)
  distribute (High z) (High y) x h j k one two = absurd (omega arith)
  distribute (Low z) (High y) x h j k one two = absurd (omega (arith, law.level_top z h))
  distribute z (Low y) (High x) h j k one two = absurd (omega (arith, law.level_top y j))

  settle-apply : (n : ℕ) (s : S) (k : Clock) (p : Stamp) (x : StackOp L H) → m.good n s → Agrees (stack_meaning m a) s k
      → IsIssued (stack_meaning m a) n p x → Lacks (stack_meaning m a) s (id_of p) → IsAfter k p
      → m.settle (stack_apply m a s p x) k ≡ stack_apply m a (m.settle s k) p x
  settle-apply n s k p (Low x) good agrees h fresh after =
      law.settle-apply n s k p x good (low_agrees m a s k agrees) (low_issued m a n p x h) (low_lacks m a s (id_of p) fresh) after
  settle-apply n s k p (High y) good agrees h fresh after =
      act.settle-apply n s k p y good (low_agrees m a s k agrees) (high_issued m a n p y h) (low_lacks m a s (id_of p) fresh) after

  good-apply : (n : ℕ) (s : S) (p : Stamp) (x : StackOp L H) → m.good n s → IsIssued (stack_meaning m a) n p x → Lacks (stack_meaning m a) s (id_of p)
      → m.good n (stack_apply m a s p x)
  good-apply n s p (Low x) good h fresh = law.good-apply n s p x good (low_issued m a n p x h) (low_lacks m a s (id_of p) fresh)
  good-apply n s p (High y) good h fresh = act.good-apply n s p y good (high_issued m a n p y h) (low_lacks m a s (id_of p) fresh)

  good_at-apply : (d : Clock) (s : S) (p : Stamp) (x : StackOp L H) → m.good_at d s → IsIssued (stack_meaning m a) d.n p x
      → Lacks (stack_meaning m a) s (id_of p) → IsAtMost p.clock d → IsTrue (covers d (id_of p)) → m.good_at d (stack_apply m a s p x)
  good_at-apply d s p (Low x) good h fresh below covered =
      law.good_at-apply d s p x good (low_issued m a d.n p x h) (low_lacks m a s (id_of p) fresh) below covered
  good_at-apply d s p (High y) good h fresh below covered =
      act.good_at-apply d s p y good (high_issued m a d.n p y h) (low_lacks m a s (id_of p) fresh) below covered

  holds-apply : (s : S) (p : Stamp) (x : StackOp L H) (q : Stamp) → m.holds (stack_apply m a s p x) q → (q ≡ p) ⊎ m.holds s q
  holds-apply s p (Low x) q h = law.holds-apply s p x q h
  holds-apply s p (High y) q h = act.holds-apply s p y q h

  pub stack_lawful : IsLawful (stack_meaning m a)
  stack_lawful = record {
    valid_within = valid_within;
    valid_well_formed = valid_well_formed;
    level_low = level_low;
    level_top = level_top;
    level-act = level-act;
    act_below = act_below;
    well_formed-act = well_formed-act;
    valid-act = valid-act;
    commute = commute;
    exchange = exchange;
    act-act = act-act;
    distribute = distribute;
    settle-apply = settle-apply;
    settle-settle = λ n s k l good left right below.
        law.settle-settle n s k l good (low_agrees m a s k left) (low_agrees m a s l right) below;
    settle-init = law.settle-init;
    show-settle = law.show-settle;
    good-init = law.good-init;
    good-apply = good-apply;
    good-settle = law.good-settle;
    good_at_good = law.good_at_good;
    good_at-init = law.good_at-init;
    good_at_later = law.good_at_later;
    good_at-apply = good_at-apply;
    good_at-settle = law.good_at-settle;
    good_at-holds = law.good_at-holds;
    holds-init = law.holds-init;
    holds-apply = holds-apply;
    holds-settle = law.holds-settle;
    plain_settle = law.plain_settle;
    plain_holds = law.plain_holds;
  }
