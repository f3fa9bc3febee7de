-- Two towers side by side are lawful where both are.
use Rattle.std.specs.Prelude.{◌≡◌, ℕ, ◌<◌, ◌≤◌, ◌⊎◌, IsTrue, ◌&&◌, max}
use Rattle.std.proofs.Common.{ap, refl, arith, inl, inr}
use Rattle.std.proofs.lemmas.Bool.{and_parts}
use Rattle.vector_clock.specs.declared.clock.Clock.{Clock}
use Rattle.vector_clock.specs.declared.stamp.Stamp.{Stamp}
use Rattle.vector_clock.specs.declared.clock.Id.{Id}
use Rattle.vector_clock.specs.Clock.{IsAtMost, covers}
use Rattle.vector_clock.specs.Stamp.{IsAfter, IsKnownTo, IsStamp, id_of}
use Rattle.crdt_laws.specs.Tower.{Meaning, IsLawful, IsIssued, IsWithin, Lacks, Agrees, MaySwap, WasIssued}
use Rattle.direct_product.specs.declared.pair.Both.{Both}
use Rattle.direct_product.specs.declared.pair.PairOp.{PairOp}
use Rattle.direct_product.specs.declared.pair.PairOp.TheVariants.{Left, Right}
use Rattle.direct_product.specs.Pair.{both, pair_act, pair_apply, pair_holds, pair_level, pair_meaning, pair_valid, pair_well_formed}

module _ {S T L R : Type 0} (m : Meaning S L) (w : Meaning T R) where
  left_lacks : (s : Both S T) (i : Id) → Lacks (pair_meaning m w) s i → Lacks m s.left i
  left_lacks s i h = record { none = λ p held. h.none p (inl held) }

  right_lacks : (s : Both S T) (i : Id) → Lacks (pair_meaning m w) s i → Lacks w s.right i
  right_lacks s i h = record { none = λ p held. h.none p (inr held) }

  left_agrees : (s : Both S T) (k : Clock) → Agrees (pair_meaning m w) s k → Agrees m s.left k
  left_agrees s k h = record { each = λ p held. h.each p (inl held) }

  right_agrees : (s : Both S T) (k : Clock) → Agrees (pair_meaning m w) s k → Agrees w s.right k
  right_agrees s k h = record { each = λ p held. h.each p (inr held) }

  left_swap : (n : ℕ) (s : Both S T) (p q : Stamp) → MaySwap (pair_meaning m w) n s p q → MaySwap m n s.left p q
  left_swap n s p q h = record {
    concurrent = h.concurrent;
    good = h.good.0;
    first_fresh = left_lacks s (id_of p) h.first_fresh;
    second_fresh = left_lacks s (id_of q) h.second_fresh;
  }

  right_swap : (n : ℕ) (s : Both S T) (p q : Stamp) → MaySwap (pair_meaning m w) n s p q → MaySwap w n s.right p q
  right_swap n s p q h = record {
    concurrent = h.concurrent;
    good = h.good.1;
    first_fresh = right_lacks s (id_of p) h.first_fresh;
    second_fresh = right_lacks s (id_of q) h.second_fresh;
  }

  left_issued : (n : ℕ) (p : Stamp) (x : L) → IsIssued (pair_meaning m w) n p (Left x) → IsIssued m n p x
  left_issued n p x h = record { stamp = h.stamp; valid = h.valid }

  right_issued : (n : ℕ) (p : Stamp) (x : R) → IsIssued (pair_meaning m w) n p (Right x) → IsIssued w n p x
  right_issued n p x h = record { stamp = h.stamp; valid = h.valid }

  left_was : (n : ℕ) (x : L) → WasIssued (pair_meaning m w) n (Left x) → WasIssued m n x
  left_was n x h = record { at = h.at; issued = left_issued n h.at x h.issued }

  right_was : (n : ℕ) (x : R) → WasIssued (pair_meaning m w) n (Right x) → WasIssued w n x
  right_was n x h = record { at = h.at; issued = right_issued n h.at x h.issued }

module _ {S T L R : Type 0} (m : Meaning S L) (left : IsLawful m) (w : Meaning T R) (right : IsLawful w) where
  valid_within : (p : Stamp) (x : PairOp L R) → pair_valid m w p x → IsWithin p
  valid_within p (Left x) h = left.valid_within p x h
  valid_within p (Right x) h = right.valid_within p x h

  valid_well_formed : (p : Stamp) (x : PairOp L R) → pair_valid m w p x → pair_well_formed m w x
  valid_well_formed p (Left x) h = left.valid_well_formed p x h
  valid_well_formed p (Right x) h = right.valid_well_formed p x h

  level_low : (x : PairOp L R) → pair_well_formed m w x → 1 ≤ pair_level m w x
  level_low (Left x) h = left.level_low x h
  level_low (Right x) h = right.level_low x h

  level_top : (x : PairOp L R) → pair_well_formed m w x → pair_level m w x ≤ max m.top w.top
  level_top (Left x) h = omega (arith, left.level_top x h)
  level_top (Right x) h = omega (arith, right.level_top x h)

  level-act : (y x : PairOp L R) → pair_well_formed m w y → pair_well_formed m w x → pair_level m w (pair_act m w y x) ≡ pair_level m w x
  level-act (Left y) (Left x) h k = left.level-act y x h k
  level-act (Right y) (Right x) h k = right.level-act y x h k
  level-act (Left y) (Right x) h k = refl
  level-act (Right y) (Left x) h k = refl

  act_below : (y x : PairOp L R) → pair_well_formed m w y → pair_well_formed m w x → pair_level m w y ≤ pair_level m w x → pair_act m w y x ≡ x
  act_below (Left y) (Left x) h k below = ap Left (left.act_below y x h k below)
  act_below (Right y) (Right x) h k below = ap Right (right.act_below y x h k below)
  act_below (Left y) (Right x) h k below = refl
  act_below (Right y) (Left x) h k below = refl

  well_formed-act : (y x : PairOp L R) → pair_well_formed m w y → pair_well_formed m w x → pair_well_formed m w (pair_act m w y x)
  well_formed-act (Left y) (Left x) h k = left.well_formed-act y x h k
  well_formed-act (Right y) (Right x) h k = right.well_formed-act y x h k
  well_formed-act (Left y) (Right x) h k = k
  well_formed-act (Right y) (Left x) h k = k

  valid-act : (p : Stamp) (y x : PairOp L R) → IsStamp p → WasIssued (pair_meaning m w) p.clock.n y → pair_valid m w p x → pair_valid m w p (pair_act m w y x)
  valid-act p (Left y) (Left x) stamp h k = left.valid-act p y x stamp (left_was m w p.clock.n y h) k
  valid-act p (Right y) (Right x) stamp h k = right.valid-act p y x stamp (right_was m w p.clock.n y h) k
  valid-act p (Left y) (Right x) stamp h k = k
  valid-act p (Right y) (Left x) stamp h k = k

  commute : (n : ℕ) (s : Both S T) (p q : Stamp) (x y : PairOp L R) → MaySwap (pair_meaning m w) n s p q
      → IsIssued (pair_meaning m w) n p x → IsIssued (pair_meaning m w) n q y → pair_level m w x ≡ pair_level m w y
      → pair_apply m w (pair_apply m w s p x) q y ≡ pair_apply m w (pair_apply m w s q y) p x
  commute n s p q (Left x) (Left y) swap h k same =
      ap (λ l. both l s.right) (left.commute n s.left p q x y (left_swap m w n s p q swap) (left_issued m w n p x h) (left_issued m w n q y k) same)
  commute n s p q (Right x) (Right y) swap h k same =
      ap (both s.left) (right.commute n s.right p q x y (right_swap m w n s p q swap) (right_issued m w n p x h) (right_issued m w n q y k) same)
  commute n s p q (Left x) (Right y) swap h k same = refl
  commute n s p q (Right x) (Left y) swap h k same = refl

  exchange : (n : ℕ) (s : Both S T) (p q : Stamp) (x y : PairOp L R) → MaySwap (pair_meaning m w) n s p q
      → IsIssued (pair_meaning m w) n p x → IsIssued (pair_meaning m w) n q y → pair_level m w x < pair_level m w y
      → pair_apply m w (pair_apply m w s p x) q y ≡ pair_apply m w (pair_apply m w s q y) p (pair_act m w y x)
  exchange n s p q (Left x) (Left y) swap h k below =
      ap (λ l. both l s.right) (left.exchange n s.left p q x y (left_swap m w n s p q swap) (left_issued m w n p x h) (left_issued m w n q y k) below)
  exchange n s p q (Right x) (Right y) swap h k below =
      ap (both s.left) (right.exchange n s.right p q x y (right_swap m w n s p q swap) (right_issued m w n p x h) (right_issued m w n q y k) below)
  exchange n s p q (Left x) (Right y) swap h k below = refl
  exchange n s p q (Right x) (Left y) swap h k below = refl

  act-act : (y v x : PairOp L R) → pair_well_formed m w y → pair_well_formed m w v → pair_well_formed m w x
      → pair_level m w y ≡ pair_level m w v → pair_act m w y (pair_act m w v x) ≡ pair_act m w v (pair_act m w y x)
  act-act (Left y) (Left v) (Left x) h j k same = ap Left (left.act-act y v x h j k same)
  act-act (Right y) (Right v) (Right x) h j k same = ap Right (right.act-act y v x h j k same)
  act-act (Left y) (Right v) (Left x) h j k same = refl
  act-act (Right y) (Left v) (Left x) h j k same = refl
  act-act (Right y) (Right v) (Left x) h j k same = refl
  act-act (Left y) (Right v) (Right x) h j k same = refl
  act-act (Right y) (Left v) (Right x) h j k same = refl
  act-act (Left y) (Left v) (Right x) h j k same = refl

  distribute : (z y x : PairOp L R) → pair_well_formed m w z → pair_well_formed m w y → pair_well_formed m w x
      → pair_level m w x < pair_level m w y → pair_level m w y < pair_level m w z
      → pair_act m w z (pair_act m w y x) ≡ pair_act m w (pair_act m w z y) (pair_act m w z x)
  distribute (Left z) (Left y) (Left x) h j k one two = ap Left (left.distribute z y x h j k one two)
  distribute (Right z) (Right y) (Right x) h j k one two = ap Right (right.distribute z y x h j k one two)
  distribute (Left z) (Right y) (Left x) h j k one two = refl
  distribute (Right z) (Left y) (Left x) h j k one two = refl
  distribute (Right z) (Right y) (Left x) h j k one two = refl
  distribute (Left z) (Right y) (Right x) h j k one two = refl
  distribute (Right z) (Left y) (Right x) h j k one two = refl
  distribute (Left z) (Left y) (Right x) h j k one two = refl

  settle-apply : (n : ℕ) (s : Both S T) (k : Clock) (p : Stamp) (x : PairOp L R) → m.good n s.left × w.good n s.right
      → Agrees (pair_meaning m w) s k → IsIssued (pair_meaning m w) n p x → Lacks (pair_meaning m w) s (id_of p) → IsAfter k p
      → (pair_meaning m w).settle (pair_apply m w s p x) k ≡ pair_apply m w ((pair_meaning m w).settle s k) p x
  settle-apply n s k p (Left x) good agree h fresh after =
      ap (λ l. both l (w.settle s.right k))
      (left.settle-apply n s.left k p x good.0 (left_agrees m w s k agree) (left_issued m w n p x h) (left_lacks m w s (id_of p) fresh) after)
  settle-apply n s k p (Right x) good agree h fresh after =
      ap (both (m.settle s.left k))
      (right.settle-apply n s.right k p x good.1 (right_agrees m w s k agree) (right_issued m w n p x h) (right_lacks m w s (id_of p) fresh) after)

  two : {s u : S} {t v : T} → s ≡ u → t ≡ v → both s t ≡ both u v
  two e f = cc

  good-apply : (n : ℕ) (s : Both S T) (p : Stamp) (x : PairOp L R) → m.good n s.left × w.good n s.right → IsIssued (pair_meaning m w) n p x
      → Lacks (pair_meaning m w) s (id_of p) → (pair_meaning m w).good n (pair_apply m w s p x)
  good-apply n s p (Left x) good h fresh = (left.good-apply n s.left p x good.0 (left_issued m w n p x h) (left_lacks m w s (id_of p) fresh), good.1)
  good-apply n s p (Right x) good h fresh = (good.0, right.good-apply n s.right p x good.1 (right_issued m w n p x h) (right_lacks m w s (id_of p) fresh))

  good_at-apply : (d : Clock) (s : Both S T) (p : Stamp) (x : PairOp L R) → m.good_at d s.left × w.good_at d s.right
      → IsIssued (pair_meaning m w) d.n p x → Lacks (pair_meaning m w) s (id_of p) → IsAtMost p.clock d → IsTrue (covers d (id_of p))
      → (pair_meaning m w).good_at d (pair_apply m w s p x)
  good_at-apply d s p (Left x) good h fresh below covered =
      (left.good_at-apply d s.left p x good.0 (left_issued m w d.n p x h) (left_lacks m w s (id_of p) fresh) below covered, good.1)
  good_at-apply d s p (Right x) good h fresh below covered =
      (good.0, right.good_at-apply d s.right p x good.1 (right_issued m w d.n p x h) (right_lacks m w s (id_of p) fresh) below covered)

  good_at-holds : (d : Clock) (s : Both S T) (p : Stamp) → m.good_at d s.left × w.good_at d s.right → pair_holds m w s p → IsKnownTo d p
  good_at-holds d s p good (inl h) = left.good_at-holds d s.left p good.0 h
  good_at-holds d s p good (inr h) = right.good_at-holds d s.right p good.1 h

  holds-apply : (s : Both S T) (p : Stamp) (x : PairOp L R) (q : Stamp) → pair_holds m w (pair_apply m w s p x) q → (q ≡ p) ⊎ pair_holds m w s q
  holds-apply s p (Left x) q (inl h) = elim (left.holds-apply s.left p x q h) [ inl e ↦ inl e | inr held ↦ inr (inl held) ]
  holds-apply s p (Left x) q (inr h) = inr (inr h)
  holds-apply s p (Right x) q (inl h) = inr (inl h)
  holds-apply s p (Right x) q (inr h) = elim (right.holds-apply s.right p x q h) [ inl e ↦ inl e | inr held ↦ inr (inr held) ]

  holds-init : (p : Stamp) → pair_holds m w (both m.init w.init) p → ⊥
  holds-init p (inl h) = left.holds-init p h
  holds-init p (inr h) = right.holds-init p h

  holds-settle : (s : Both S T) (k : Clock) (q : Stamp) → pair_holds m w ((pair_meaning m w).settle s k) q → pair_holds m w s q
  holds-settle s k q (inl h) = inl (left.holds-settle s.left k q h)
  holds-settle s k q (inr h) = inr (right.holds-settle s.right k q h)

  plain_holds : (s : Both S T) (p : Stamp) → IsTrue (m.plain && w.plain) → pair_holds m w s p → ⊥
  plain_holds s p plain (inl h) = left.plain_holds s.left p (and_parts m.plain w.plain plain).0 h
  plain_holds s p plain (inr h) = right.plain_holds s.right p (and_parts m.plain w.plain plain).1 h

  pub pair_lawful : IsLawful (pair_meaning m w)
  pair_lawful = record {
    valid_within = valid_within;
    valid_well_formed = valid_well_formed;
    level_low = level_low;
    level_top = level_top;
    level-act = level-act;
    act_below = act_below;
    well_formed-act = well_formed-act;
    valid-act = valid-act;
    commute = commute;
    exchange = exchange;
    act-act = act-act;
    distribute = distribute;
    settle-apply = settle-apply;
    settle-settle = λ n s k l good first second below. two
        (left.settle-settle n s.left k l good.0 (left_agrees m w s k first) (left_agrees m w s l second) below)
        (right.settle-settle n s.right k l good.1 (right_agrees m w s k first) (right_agrees m w s l second) below);
    settle-init = λ k. two (left.settle-init k) (right.settle-init k);
    show-settle = λ n s k good.
        let first : m.show (m.settle s.left k) ≡ m.show s.left = left.show-settle n s.left k good.0 in
        let second : w.show (w.settle s.right k) ≡ w.show s.right = right.show-settle n s.right k good.1 in
        cc;
    good-init = λ n. (left.good-init n, right.good-init n);
    good-apply = good-apply;
    good-settle = λ n s k good. (left.good-settle n s.left k good.0, right.good-settle n s.right k good.1);
    good_at_good = λ d s h. (left.good_at_good d s.left h.0, right.good_at_good d s.right h.1);
    good_at-init = λ d. (left.good_at-init d, right.good_at-init d);
    good_at_later = λ d e s one below h. (left.good_at_later d e s.left one below h.0, right.good_at_later d e s.right one below h.1);
    good_at-apply = good_at-apply;
    good_at-settle = λ d s k h. (left.good_at-settle d s.left k h.0, right.good_at-settle d s.right k h.1);
    good_at-holds = good_at-holds;
    holds-init = holds-init;
    holds-apply = holds-apply;
    holds-settle = holds-settle;
    plain_settle = λ s k plain. two (left.plain_settle s.left k (and_parts m.plain w.plain plain).0) (right.plain_settle s.right k (and_parts m.plain w.plain plain).1);
    plain_holds = plain_holds;
  }
