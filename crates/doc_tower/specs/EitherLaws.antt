-- One of two lawful towers is a lawful tower. Each law is that of the tower that is held: nothing of the other arm is good or valid.
use Rattle.std.specs.Prelude.{◌≡◌, ℕ, ◌<◌, ◌≤◌, ◌⊎◌, IsTrue}
use Rattle.std.proofs.Common.{ap, refl, inr}
use Rattle.vector_clock.specs.declared.clock.Clock.{Clock}
use Rattle.vector_clock.specs.declared.clock.Id.{Id}
use Rattle.vector_clock.specs.declared.stamp.Stamp.{Stamp}
use Rattle.vector_clock.specs.Clock.{IsAtMost, covers}
use Rattle.vector_clock.specs.Stamp.{IsAfter, IsKnownTo, IsStamp, id_of}
use Rattle.crdt_laws.specs.Tower.{Meaning, IsLawful, IsIssued, IsWithin, Lacks, Agrees, MaySwap, WasIssued}
use Rattle.doc_tower.specs.declared.either.Either.{Either}
use Rattle.doc_tower.specs.declared.either.Either.TheVariants.{Left, Right}
use Rattle.doc_tower.specs.Either.{either_meaning, left_act, left_apply, left_good, left_good_at, left_holds, left_level, left_meaning, left_settle, left_show, left_valid, left_well_formed, right_act, right_apply, right_good, right_good_at, right_holds, right_level, right_meaning, right_settle, right_show, right_valid, right_well_formed}

-- ---- The left arm

module _ {S L : Type 0} (m : Meaning S L) (law : IsLawful m) where
  -- operations
  module _ {R : Type 0} where
    left_valid_within : (p : Stamp) (x : Either L R) → left_valid m p x → IsWithin p
    left_valid_within p (Left x) h = law.valid_within p x h
    left_valid_within p (Right x) h = absurd h

    left_valid_well_formed : (p : Stamp) (x : Either L R) → left_valid m p x → left_well_formed m x
    left_valid_well_formed p (Left x) h = law.valid_well_formed p x h
    left_valid_well_formed p (Right x) h = h

    left_level_low : (x : Either L R) → left_well_formed m x → 1 ≤ left_level m x
    left_level_low (Left x) h = law.level_low x h
    left_level_low (Right x) h = absurd h

    left_level_top : (x : Either L R) → left_well_formed m x → left_level m x ≤ m.top
    left_level_top (Left x) h = law.level_top x h
    left_level_top (Right x) h = absurd h

    left_level-act : (y x : Either L R) → left_well_formed m y → left_well_formed m x → left_level m (left_act m y x) ≡ left_level m x
    left_level-act (Left y) (Left x) h k = law.level-act y x h k
    left_level-act (Left y) (Right x) h k = refl
    left_level-act (Right y) x h k = absurd h

    left_act_below : (y x : Either L R) → left_well_formed m y → left_well_formed m x → left_level m y ≤ left_level m x → left_act m y x ≡ x
    left_act_below (Left y) (Left x) h k below = ap Left (law.act_below y x h k below)
    left_act_below (Left y) (Right x) h k below = refl
    left_act_below (Right y) x h k below = absurd h

    left_well_formed-act : (y x : Either L R) → left_well_formed m y → left_well_formed m x → left_well_formed m (left_act m y x)
    left_well_formed-act (Left y) (Left x) h k = law.well_formed-act y x h k
    left_well_formed-act (Left y) (Right x) h k = k
    left_well_formed-act (Right y) x h k = absurd h

    left_act-act : (y v x : Either L R) → left_well_formed m y → left_well_formed m v → left_well_formed m x → left_level m y ≡ left_level m v
        → left_act m y (left_act m v x) ≡ left_act m v (left_act m y x)
    left_act-act (Left y) (Left v) (Left x) h j k same = ap Left (law.act-act y v x h j k same)
    left_act-act (Left y) (Left v) (Right x) h j k same = refl
    left_act-act (Left y) (Right v) x h j k same = absurd j
    left_act-act (Right y) v x h j k same = absurd h

    left_distribute : (z y x : Either L R) → left_well_formed m z → left_well_formed m y → left_well_formed m x → left_level m x < left_level m y → left_level m y < left_level m z
        → left_act m z (left_act m y x) ≡ left_act m (left_act m z y) (left_act m z x)
    left_distribute (Left z) (Left y) (Left x) h j k one two = ap Left (law.distribute z y x h j k one two)
    left_distribute (Left z) (Left y) (Right x) h j k one two = refl
    left_distribute (Left z) (Right y) x h j k one two = absurd j
    left_distribute (Right z) y x h j k one two = absurd h

  -- states
  module _ {T : Type 0} where
    left_show-settle : (n : ℕ) (s : Either S T) (k : Clock) → left_good m n s → left_show m (left_settle m s k) ≡ left_show m s
    left_show-settle n (Left s) k good = law.show-settle n s k good
    left_show-settle n (Right s) k good = refl

    left_good-settle : (n : ℕ) (s : Either S T) (k : Clock) → left_good m n s → left_good m n (left_settle m s k)
    left_good-settle n (Left s) k good = law.good-settle n s k good
    left_good-settle n (Right s) k good = good

    left_good_at_good : (d : Clock) (s : Either S T) → left_good_at m d s → left_good m d.n s
    left_good_at_good d (Left s) good = law.good_at_good d s good
    left_good_at_good d (Right s) good = good

    left_good_at_later : (d e : Clock) (s : Either S T) → d.n ≡ e.n → IsAtMost d e → left_good_at m d s → left_good_at m e s
    left_good_at_later d e (Left s) one below good = law.good_at_later d e s one below good
    left_good_at_later d e (Right s) one below good = good

    left_good_at-settle : (d : Clock) (s : Either S T) (k : Clock) → left_good_at m d s → left_good_at m d (left_settle m s k)
    left_good_at-settle d (Left s) k good = law.good_at-settle d s k good
    left_good_at-settle d (Right s) k good = good

    left_good_at-holds : (d : Clock) (s : Either S T) (p : Stamp) → left_good_at m d s → left_holds m s p → IsKnownTo d p
    left_good_at-holds d (Left s) p good held = law.good_at-holds d s p good held
    left_good_at-holds d (Right s) p good held = absurd good

    left_holds-settle : (s : Either S T) (k : Clock) (q : Stamp) → left_holds m (left_settle m s k) q → left_holds m s q
    left_holds-settle (Left s) k q held = law.holds-settle s k q held
    left_holds-settle (Right s) k q held = held

    left_plain_settle : (s : Either S T) (k : Clock) → IsTrue m.plain → left_settle m s k ≡ s
    left_plain_settle (Left s) k plain = ap Left (law.plain_settle s k plain)
    left_plain_settle (Right s) k plain = refl

    left_plain_holds : (s : Either S T) (p : Stamp) → IsTrue m.plain → left_holds m s p → ⊥
    left_plain_holds (Left s) p plain held = law.plain_holds s p plain held
    left_plain_holds (Right s) p plain held = held

  -- both
  module _ {T R : Type 0} where
    abbrev left : Meaning (Either S T) (Either L R)
    left = left_meaning m

    -- what is said of a state or an operation of the arm is said of the tower's
    left_lacks : (s : S) (i : Id) → Lacks left (Left s) i → Lacks m s i
    left_lacks s i h = record { none = h.none }

    left_agrees : (s : S) (k : Clock) → Agrees left (Left s) k → Agrees m s k
    left_agrees s k h = record { each = h.each }

    left_swap : (n : ℕ) (s : S) (p q : Stamp) → MaySwap left n (Left s) p q → MaySwap m n s p q
    left_swap n s p q h = record {
      concurrent = h.concurrent;
      good = h.good;
      first_fresh = left_lacks s (id_of p) h.first_fresh;
      second_fresh = left_lacks s (id_of q) h.second_fresh;
    }

    left_issued : (n : ℕ) (p : Stamp) (x : L) → IsIssued left n p (Left x) → IsIssued m n p x
    left_issued n p x h = record { stamp = h.stamp; valid = h.valid }

    left_was : (n : ℕ) (x : L) → WasIssued left n (Left x) → WasIssued m n x
    left_was n x h = record { at = h.at; issued = left_issued n h.at x h.issued }

    left_valid-act : (p : Stamp) (y x : Either L R) → IsStamp p → WasIssued left p.clock.n y → left_valid m p x → left_valid m p (left_act m y x)
    left_valid-act p (Left y) (Left x) stamp h k = law.valid-act p y x stamp (left_was p.clock.n y h) k
    left_valid-act p (Left y) (Right x) stamp h k = k
    left_valid-act p (Right y) x stamp h k = absurd h.issued.valid

    left_commute : (n : ℕ) (s : Either S T) (p q : Stamp) (x y : Either L R) → MaySwap left n s p q → IsIssued left n p x → IsIssued left n q y
        → left_level m x ≡ left_level m y → left_apply m (left_apply m s p x) q y ≡ left_apply m (left_apply m s q y) p x
    left_commute n (Left s) p q (Left x) (Left y) w h k same =
        ap Left (law.commute n s p q x y (left_swap n s p q w) (left_issued n p x h) (left_issued n q y k) same)
    left_commute n (Left s) p q (Left x) (Right y) w h k same = absurd k.valid
    left_commute n (Left s) p q (Right x) y w h k same = absurd h.valid
    left_commute n (Right s) p q x y w h k same = absurd w.good

    left_exchange : (n : ℕ) (s : Either S T) (p q : Stamp) (x y : Either L R) → MaySwap left n s p q → IsIssued left n p x → IsIssued left n q y
        → left_level m x < left_level m y → left_apply m (left_apply m s p x) q y ≡ left_apply m (left_apply m s q y) p (left_act m y x)
    left_exchange n (Left s) p q (Left x) (Left y) w h k below =
        ap Left (law.exchange n s p q x y (left_swap n s p q w) (left_issued n p x h) (left_issued n q y k) below)
    left_exchange n (Left s) p q (Left x) (Right y) w h k below = absurd k.valid
    left_exchange n (Left s) p q (Right x) y w h k below = absurd h.valid
    left_exchange n (Right s) p q x y w h k below = absurd w.good

    left_settle-apply : (n : ℕ) (s : Either S T) (k : Clock) (p : Stamp) (x : Either L R) → left_good m n s → Agrees left s k
        → IsIssued left n p x → Lacks left s (id_of p) → IsAfter k p → left_settle m (left_apply m s p x) k ≡ left_apply m (left_settle m s k) p x
    left_settle-apply n (Left s) k p (Left x) good agrees h fresh after =
        ap Left (law.settle-apply n s k p x good (left_agrees s k agrees) (left_issued n p x h) (left_lacks s (id_of p) fresh) after)
    left_settle-apply n (Left s) k p (Right x) good agrees h fresh after = refl
    left_settle-apply n (Right s) k p x good agrees h fresh after = absurd good

    left_settle-settle : (n : ℕ) (s : Either S T) (k l : Clock) → left_good m n s → Agrees left s k → Agrees left s l → IsAtMost k l
        → left_settle m (left_settle m s k) l ≡ left_settle m s l
    left_settle-settle n (Left s) k l good first second below =
        ap Left (law.settle-settle n s k l good (left_agrees s k first) (left_agrees s l second) below)
    left_settle-settle n (Right s) k l good first second below = refl

    left_good-apply : (n : ℕ) (s : Either S T) (p : Stamp) (x : Either L R) → left_good m n s → IsIssued left n p x → Lacks left s (id_of p)
        → left_good m n (left_apply m s p x)
    left_good-apply n (Left s) p (Left x) good h fresh = law.good-apply n s p x good (left_issued n p x h) (left_lacks s (id_of p) fresh)
    left_good-apply n (Left s) p (Right x) good h fresh = good
    left_good-apply n (Right s) p x good h fresh = absurd good

    left_good_at-apply : (d : Clock) (s : Either S T) (p : Stamp) (x : Either L R) → left_good_at m d s → IsIssued left d.n p x → Lacks left s (id_of p)
        → IsAtMost p.clock d → IsTrue (covers d (id_of p)) → left_good_at m d (left_apply m s p x)
    left_good_at-apply d (Left s) p (Left x) good h fresh below covered =
        law.good_at-apply d s p x good (left_issued d.n p x h) (left_lacks s (id_of p) fresh) below covered
    left_good_at-apply d (Left s) p (Right x) good h fresh below covered = good
    left_good_at-apply d (Right s) p x good h fresh below covered = absurd good

    left_holds-apply : (s : Either S T) (p : Stamp) (x : Either L R) (q : Stamp) → left_holds m (left_apply m s p x) q → (q ≡ p) ⊎ left_holds m s q
    left_holds-apply (Left s) p (Left x) q held = law.holds-apply s p x q held
    left_holds-apply (Left s) p (Right x) q held = inr held
    left_holds-apply (Right s) p (Left x) q held = absurd held
    left_holds-apply (Right s) p (Right x) q held = absurd held

    pub left_lawful : IsLawful left
    left_lawful = record {
      valid_within = left_valid_within;
      valid_well_formed = left_valid_well_formed;
      level_low = left_level_low;
      level_top = left_level_top;
      level-act = left_level-act;
      act_below = left_act_below;
      well_formed-act = left_well_formed-act;
      valid-act = left_valid-act;
      commute = left_commute;
      exchange = left_exchange;
      act-act = left_act-act;
      distribute = left_distribute;
      settle-apply = left_settle-apply;
      settle-settle = left_settle-settle;
      settle-init = λ k. ap Left (law.settle-init k);
      show-settle = left_show-settle;
      good-init = law.good-init;
      good-apply = left_good-apply;
      good-settle = left_good-settle;
      good_at_good = left_good_at_good;
      good_at-init = law.good_at-init;
      good_at_later = left_good_at_later;
      good_at-apply = left_good_at-apply;
      good_at-settle = left_good_at-settle;
      good_at-holds = left_good_at-holds;
      holds-init = law.holds-init;
      holds-apply = left_holds-apply;
      holds-settle = left_holds-settle;
      plain_settle = left_plain_settle;
      plain_holds = left_plain_holds;
    }

-- ---- The right arm, in the same way

module _ {T R : Type 0} (m : Meaning T R) (law : IsLawful m) where
  -- operations
  module _ {L : Type 0} where
    right_valid_within : (p : Stamp) (x : Either L R) → right_valid m p x → IsWithin p
    right_valid_within p (Right x) h = law.valid_within p x h
    right_valid_within p (Left x) h = absurd h

    right_valid_well_formed : (p : Stamp) (x : Either L R) → right_valid m p x → right_well_formed m x
    right_valid_well_formed p (Right x) h = law.valid_well_formed p x h
    right_valid_well_formed p (Left x) h = h

    right_level_low : (x : Either L R) → right_well_formed m x → 1 ≤ right_level m x
    right_level_low (Right x) h = law.level_low x h
    right_level_low (Left x) h = absurd h

    right_level_top : (x : Either L R) → right_well_formed m x → right_level m x ≤ m.top
    right_level_top (Right x) h = law.level_top x h
    right_level_top (Left x) h = absurd h

    right_level-act : (y x : Either L R) → right_well_formed m y → right_well_formed m x → right_level m (right_act m y x) ≡ right_level m x
    right_level-act (Right y) (Right x) h k = law.level-act y x h k
    right_level-act (Right y) (Left x) h k = refl
    right_level-act (Left y) x h k = absurd h

    right_act_below : (y x : Either L R) → right_well_formed m y → right_well_formed m x → right_level m y ≤ right_level m x → right_act m y x ≡ x
    right_act_below (Right y) (Right x) h k below = ap Right (law.act_below y x h k below)
    right_act_below (Right y) (Left x) h k below = refl
    right_act_below (Left y) x h k below = absurd h

    right_well_formed-act : (y x : Either L R) → right_well_formed m y → right_well_formed m x → right_well_formed m (right_act m y x)
    right_well_formed-act (Right y) (Right x) h k = law.well_formed-act y x h k
    right_well_formed-act (Right y) (Left x) h k = k
    right_well_formed-act (Left y) x h k = absurd h

    right_act-act : (y v x : Either L R) → right_well_formed m y → right_well_formed m v → right_well_formed m x → right_level m y ≡ right_level m v
        → right_act m y (right_act m v x) ≡ right_act m v (right_act m y x)
    right_act-act (Right y) (Right v) (Right x) h j k same = ap Right (law.act-act y v x h j k same)
    right_act-act (Right y) (Right v) (Left x) h j k same = refl
    right_act-act (Right y) (Left v) x h j k same = absurd j
    right_act-act (Left y) v x h j k same = absurd h

    right_distribute : (z y x : Either L R) → right_well_formed m z → right_well_formed m y → right_well_formed m x → right_level m x < right_level m y → right_level m y < right_level m z
        → right_act m z (right_act m y x) ≡ right_act m (right_act m z y) (right_act m z x)
    right_distribute (Right z) (Right y) (Right x) h j k one two = ap Right (law.distribute z y x h j k one two)
    right_distribute (Right z) (Right y) (Left x) h j k one two = refl
    right_distribute (Right z) (Left y) x h j k one two = absurd j
    right_distribute (Left z) y x h j k one two = absurd h

  -- states
  module _ {S : Type 0} where
    right_show-settle : (n : ℕ) (s : Either S T) (k : Clock) → right_good m n s → right_show m (right_settle m s k) ≡ right_show m s
    right_show-settle n (Right s) k good = law.show-settle n s k good
    right_show-settle n (Left s) k good = refl

    right_good-settle : (n : ℕ) (s : Either S T) (k : Clock) → right_good m n s → right_good m n (right_settle m s k)
    right_good-settle n (Right s) k good = law.good-settle n s k good
    right_good-settle n (Left s) k good = good

    right_good_at_good : (d : Clock) (s : Either S T) → right_good_at m d s → right_good m d.n s
    right_good_at_good d (Right s) good = law.good_at_good d s good
    right_good_at_good d (Left s) good = good

    right_good_at_later : (d e : Clock) (s : Either S T) → d.n ≡ e.n → IsAtMost d e → right_good_at m d s → right_good_at m e s
    right_good_at_later d e (Right s) one below good = law.good_at_later d e s one below good
    right_good_at_later d e (Left s) one below good = good

    right_good_at-settle : (d : Clock) (s : Either S T) (k : Clock) → right_good_at m d s → right_good_at m d (right_settle m s k)
    right_good_at-settle d (Right s) k good = law.good_at-settle d s k good
    right_good_at-settle d (Left s) k good = good

    right_good_at-holds : (d : Clock) (s : Either S T) (p : Stamp) → right_good_at m d s → right_holds m s p → IsKnownTo d p
    right_good_at-holds d (Right s) p good held = law.good_at-holds d s p good held
    right_good_at-holds d (Left s) p good held = absurd good

    right_holds-settle : (s : Either S T) (k : Clock) (q : Stamp) → right_holds m (right_settle m s k) q → right_holds m s q
    right_holds-settle (Right s) k q held = law.holds-settle s k q held
    right_holds-settle (Left s) k q held = held

    right_plain_settle : (s : Either S T) (k : Clock) → IsTrue m.plain → right_settle m s k ≡ s
    right_plain_settle (Right s) k plain = ap Right (law.plain_settle s k plain)
    right_plain_settle (Left s) k plain = refl

    right_plain_holds : (s : Either S T) (p : Stamp) → IsTrue m.plain → right_holds m s p → ⊥
    right_plain_holds (Right s) p plain held = law.plain_holds s p plain held
    right_plain_holds (Left s) p plain held = held

  -- both
  module _ {S L : Type 0} where
    abbrev right : Meaning (Either S T) (Either L R)
    right = right_meaning m

    -- what is said of a state or an operation of the arm is said of the tower's
    right_lacks : (s : T) (i : Id) → Lacks right (Right s) i → Lacks m s i
    right_lacks s i h = record { none = h.none }

    right_agrees : (s : T) (k : Clock) → Agrees right (Right s) k → Agrees m s k
    right_agrees s k h = record { each = h.each }

    right_swap : (n : ℕ) (s : T) (p q : Stamp) → MaySwap right n (Right s) p q → MaySwap m n s p q
    right_swap n s p q h = record {
      concurrent = h.concurrent;
      good = h.good;
      first_fresh = right_lacks s (id_of p) h.first_fresh;
      second_fresh = right_lacks s (id_of q) h.second_fresh;
    }

    right_issued : (n : ℕ) (p : Stamp) (x : R) → IsIssued right n p (Right x) → IsIssued m n p x
    right_issued n p x h = record { stamp = h.stamp; valid = h.valid }

    right_was : (n : ℕ) (x : R) → WasIssued right n (Right x) → WasIssued m n x
    right_was n x h = record { at = h.at; issued = right_issued n h.at x h.issued }

    right_valid-act : (p : Stamp) (y x : Either L R) → IsStamp p → WasIssued right p.clock.n y → right_valid m p x → right_valid m p (right_act m y x)
    right_valid-act p (Right y) (Right x) stamp h k = law.valid-act p y x stamp (right_was p.clock.n y h) k
    right_valid-act p (Right y) (Left x) stamp h k = k
    right_valid-act p (Left y) x stamp h k = absurd h.issued.valid

    right_commute : (n : ℕ) (s : Either S T) (p q : Stamp) (x y : Either L R) → MaySwap right n s p q → IsIssued right n p x → IsIssued right n q y
        → right_level m x ≡ right_level m y → right_apply m (right_apply m s p x) q y ≡ right_apply m (right_apply m s q y) p x
    right_commute n (Right s) p q (Right x) (Right y) w h k same =
        ap Right (law.commute n s p q x y (right_swap n s p q w) (right_issued n p x h) (right_issued n q y k) same)
    right_commute n (Right s) p q (Right x) (Left y) w h k same = absurd k.valid
    right_commute n (Right s) p q (Left x) y w h k same = absurd h.valid
    right_commute n (Left s) p q x y w h k same = absurd w.good

    right_exchange : (n : ℕ) (s : Either S T) (p q : Stamp) (x y : Either L R) → MaySwap right n s p q → IsIssued right n p x → IsIssued right n q y
        → right_level m x < right_level m y → right_apply m (right_apply m s p x) q y ≡ right_apply m (right_apply m s q y) p (right_act m y x)
    right_exchange n (Right s) p q (Right x) (Right y) w h k below =
        ap Right (law.exchange n s p q x y (right_swap n s p q w) (right_issued n p x h) (right_issued n q y k) below)
    right_exchange n (Right s) p q (Right x) (Left y) w h k below = absurd k.valid
    right_exchange n (Right s) p q (Left x) y w h k below = absurd h.valid
    right_exchange n (Left s) p q x y w h k below = absurd w.good

    right_settle-apply : (n : ℕ) (s : Either S T) (k : Clock) (p : Stamp) (x : Either L R) → right_good m n s → Agrees right s k
        → IsIssued right n p x → Lacks right s (id_of p) → IsAfter k p → right_settle m (right_apply m s p x) k ≡ right_apply m (right_settle m s k) p x
    right_settle-apply n (Right s) k p (Right x) good agrees h fresh after =
        ap Right (law.settle-apply n s k p x good (right_agrees s k agrees) (right_issued n p x h) (right_lacks s (id_of p) fresh) after)
    right_settle-apply n (Right s) k p (Left x) good agrees h fresh after = refl
    right_settle-apply n (Left s) k p x good agrees h fresh after = absurd good

    right_settle-settle : (n : ℕ) (s : Either S T) (k l : Clock) → right_good m n s → Agrees right s k → Agrees right s l → IsAtMost k l
        → right_settle m (right_settle m s k) l ≡ right_settle m s l
    right_settle-settle n (Right s) k l good first second below =
        ap Right (law.settle-settle n s k l good (right_agrees s k first) (right_agrees s l second) below)
    right_settle-settle n (Left s) k l good first second below = refl

    right_good-apply : (n : ℕ) (s : Either S T) (p : Stamp) (x : Either L R) → right_good m n s → IsIssued right n p x → Lacks right s (id_of p)
        → right_good m n (right_apply m s p x)
    right_good-apply n (Right s) p (Right x) good h fresh = law.good-apply n s p x good (right_issued n p x h) (right_lacks s (id_of p) fresh)
    right_good-apply n (Right s) p (Left x) good h fresh = good
    right_good-apply n (Left s) p x good h fresh = absurd good

    right_good_at-apply : (d : Clock) (s : Either S T) (p : Stamp) (x : Either L R) → right_good_at m d s → IsIssued right d.n p x → Lacks right s (id_of p)
        → IsAtMost p.clock d → IsTrue (covers d (id_of p)) → right_good_at m d (right_apply m s p x)
    right_good_at-apply d (Right s) p (Right x) good h fresh below covered =
        law.good_at-apply d s p x good (right_issued d.n p x h) (right_lacks s (id_of p) fresh) below covered
    right_good_at-apply d (Right s) p (Left x) good h fresh below covered = good
    right_good_at-apply d (Left s) p x good h fresh below covered = absurd good

    right_holds-apply : (s : Either S T) (p : Stamp) (x : Either L R) (q : Stamp) → right_holds m (right_apply m s p x) q → (q ≡ p) ⊎ right_holds m s q
    right_holds-apply (Right s) p (Right x) q held = law.holds-apply s p x q held
    right_holds-apply (Right s) p (Left x) q held = inr held
    right_holds-apply (Left s) p (Right x) q held = absurd held
    right_holds-apply (Left s) p (Left x) q held = absurd held

    pub right_lawful : IsLawful right
    right_lawful = record {
      valid_within = right_valid_within;
      valid_well_formed = right_valid_well_formed;
      level_low = right_level_low;
      level_top = right_level_top;
      level-act = right_level-act;
      act_below = right_act_below;
      well_formed-act = right_well_formed-act;
      valid-act = right_valid-act;
      commute = right_commute;
      exchange = right_exchange;
      act-act = right_act-act;
      distribute = right_distribute;
      settle-apply = right_settle-apply;
      settle-settle = right_settle-settle;
      settle-init = λ k. ap Right (law.settle-init k);
      show-settle = right_show-settle;
      good-init = law.good-init;
      good-apply = right_good-apply;
      good-settle = right_good-settle;
      good_at_good = right_good_at_good;
      good_at-init = law.good_at-init;
      good_at_later = right_good_at_later;
      good_at-apply = right_good_at-apply;
      good_at-settle = right_good_at-settle;
      good_at-holds = right_good_at-holds;
      holds-init = law.holds-init;
      holds-apply = right_holds-apply;
      holds-settle = right_holds-settle;
      plain_settle = right_plain_settle;
      plain_holds = right_plain_holds;
    }

-- ---- One of two

pub either_lawful : {A B S T L R : Type 0} (m : A → Meaning S L) → ((a : A) → IsLawful (m a)) → (w : B → Meaning T R) → ((b : B) → IsLawful (w b))
    → (t : Either A B) → IsLawful (either_meaning m w t)
either_lawful m first w second (Left a) = left_lawful (m a) (first a)
either_lawful m first w second (Right b) = right_lawful (w b) (second b)
