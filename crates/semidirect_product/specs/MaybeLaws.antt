-- A tower with operations that do nothing is lawful where the tower is.
use Rattle.std.specs.Prelude.{◌≡◌, ℕ, ◌<◌, ◌≤◌, ◌⊎◌, IsTrue}
use Rattle.std.proofs.Common.{ap, refl, inr}
use Rattle.vector_clock.specs.declared.clock.Clock.{Clock}
use Rattle.vector_clock.specs.declared.stamp.Stamp.{Stamp}
use Rattle.vector_clock.specs.declared.clock.Id.{Id}
use Rattle.vector_clock.specs.Clock.{IsAtMost, covers}
use Rattle.vector_clock.specs.Stamp.{IsAfter, IsStamp, id_of}
use Rattle.crdt_laws.specs.Tower.{Meaning, IsLawful, IsIssued, IsWithin, Lacks, Agrees, MaySwap, WasIssued}
use Rattle.semidirect_product.specs.declared.maybe.MaybeOp.{MaybeOp}
use Rattle.semidirect_product.specs.declared.maybe.MaybeOp.TheVariants.{Real, Nothing}
use Rattle.semidirect_product.specs.Maybe.{maybe_act, maybe_apply, maybe_level, maybe_meaning, maybe_valid, maybe_well_formed}

module _ {S O : Type 0} (m : Meaning S O) where
  lacks : (s : S) (i : Id) → Lacks (maybe_meaning m) s i → Lacks m s i
  lacks s i h = record { none = h.none }

  agrees : (s : S) (k : Clock) → Agrees (maybe_meaning m) s k → Agrees m s k
  agrees s k h = record { each = h.each }

  may_swap : (n : ℕ) (s : S) (p q : Stamp) → MaySwap (maybe_meaning m) n s p q → MaySwap m n s p q
  may_swap n s p q h = record {
    concurrent = h.concurrent;
    good = h.good;
    first_fresh = lacks s (id_of p) h.first_fresh;
    second_fresh = lacks s (id_of q) h.second_fresh;
  }

  issued : (n : ℕ) (p : Stamp) (x : O) → IsIssued (maybe_meaning m) n p (Real x) → IsIssued m n p x
  issued n p x h = record { stamp = h.stamp; valid = h.valid }

  was_issued : (n : ℕ) (x : O) → WasIssued (maybe_meaning m) n (Real x) → WasIssued m n x
  was_issued n x h = record { at = h.at; issued = issued n h.at x h.issued }

module _ {S O : Type 0} (m : Meaning S O) (law : IsLawful m) where
  valid_within : (p : Stamp) (x : MaybeOp O) → maybe_valid m p x → IsWithin p
  valid_within p (Real x) h = law.valid_within p x h
  valid_within p (Nothing l) h = h.0

  valid_well_formed : (p : Stamp) (x : MaybeOp O) → maybe_valid m p x → maybe_well_formed m x
  valid_well_formed p (Real x) h = law.valid_well_formed p x h
  valid_well_formed p (Nothing l) h = h.1

  level_low : (x : MaybeOp O) → maybe_well_formed m x → 1 ≤ maybe_level m x
  level_low (Real x) h = law.level_low x h
  level_low (Nothing l) h = h.low

  level_top : (x : MaybeOp O) → maybe_well_formed m x → maybe_level m x ≤ m.top
  level_top (Real x) h = law.level_top x h
  level_top (Nothing l) h = h.high

  level-act : (y x : MaybeOp O) → maybe_well_formed m y → maybe_well_formed m x → maybe_level m (maybe_act m y x) ≡ maybe_level m x
  level-act (Real y) (Real x) h k = law.level-act y x h k
  level-act (Nothing j) (Real x) h k = refl
  level-act (Real y) (Nothing l) h k = refl
  level-act (Nothing j) (Nothing l) h k = refl

  act_below : (y x : MaybeOp O) → maybe_well_formed m y → maybe_well_formed m x → maybe_level m y ≤ maybe_level m x → maybe_act m y x ≡ x
  act_below (Real y) (Real x) h k below = ap Real (law.act_below y x h k below)
  act_below (Nothing j) (Real x) h k below = refl
  act_below (Real y) (Nothing l) h k below = refl
  act_below (Nothing j) (Nothing l) h k below = refl

  well_formed-act : (y x : MaybeOp O) → maybe_well_formed m y → maybe_well_formed m x → maybe_well_formed m (maybe_act m y x)
  well_formed-act (Real y) (Real x) h k = law.well_formed-act y x h k
  well_formed-act (Nothing j) (Real x) h k = k
  well_formed-act (Real y) (Nothing l) h k = k
  well_formed-act (Nothing j) (Nothing l) h k = k

  valid-act : (p : Stamp) (y x : MaybeOp O) → IsStamp p → WasIssued (maybe_meaning m) p.clock.n y → maybe_valid m p x → maybe_valid m p (maybe_act m y x)
  valid-act p (Real y) (Real x) stamp h k = law.valid-act p y x stamp (was_issued m p.clock.n y h) k
  valid-act p (Nothing j) (Real x) stamp h k = k
  valid-act p (Real y) (Nothing l) stamp h k = k
  valid-act p (Nothing j) (Nothing l) stamp h k = k

  commute : (n : ℕ) (s : S) (p q : Stamp) (x y : MaybeOp O) → MaySwap (maybe_meaning m) n s p q
      → IsIssued (maybe_meaning m) n p x → IsIssued (maybe_meaning m) n q y → maybe_level m x ≡ maybe_level m y
      → maybe_apply m (maybe_apply m s p x) q y ≡ maybe_apply m (maybe_apply m s q y) p x
  commute n s p q (Real x) (Real y) w h k same = law.commute n s p q x y (may_swap m n s p q w) (issued m n p x h) (issued m n q y k) same
  commute n s p q (Nothing i) (Real y) w h k same = refl
  commute n s p q (Real x) (Nothing j) w h k same = refl
  commute n s p q (Nothing i) (Nothing j) w h k same = refl

  exchange : (n : ℕ) (s : S) (p q : Stamp) (x y : MaybeOp O) → MaySwap (maybe_meaning m) n s p q
      → IsIssued (maybe_meaning m) n p x → IsIssued (maybe_meaning m) n q y → maybe_level m x < maybe_level m y
      → maybe_apply m (maybe_apply m s p x) q y ≡ maybe_apply m (maybe_apply m s q y) p (maybe_act m y x)
  exchange n s p q (Real x) (Real y) w h k below = law.exchange n s p q x y (may_swap m n s p q w) (issued m n p x h) (issued m n q y k) below
  exchange n s p q (Nothing i) (Real y) w h k below = refl
  exchange n s p q (Real x) (Nothing j) w h k below = refl
  exchange n s p q (Nothing i) (Nothing j) w h k below = refl

  act-act : (y v x : MaybeOp O) → maybe_well_formed m y → maybe_well_formed m v → maybe_well_formed m x
      → maybe_level m y ≡ maybe_level m v → maybe_act m y (maybe_act m v x) ≡ maybe_act m v (maybe_act m y x)
  act-act (Real y) (Real v) (Real x) h j k same = ap Real (law.act-act y v x h j k same)
  act-act (Nothing i) (Real v) (Real x) h j k same = refl
  act-act (Real y) (Nothing i) (Real x) h j k same = refl
  act-act (Nothing i) (Nothing o) (Real x) h j k same = refl
  act-act (Real y) (Real v) (Nothing l) h j k same = refl
  act-act (Real y) (Nothing v) (Nothing l) h j k same = refl
  act-act (Nothing y) (Real v) (Nothing l) h j k same = refl
  act-act (Nothing y) (Nothing v) (Nothing l) h j k same = refl

  distribute : (z y x : MaybeOp O) → maybe_well_formed m z → maybe_well_formed m y → maybe_well_formed m x
      → maybe_level m x < maybe_level m y → maybe_level m y < maybe_level m z
      → maybe_act m z (maybe_act m y x) ≡ maybe_act m (maybe_act m z y) (maybe_act m z x)
  distribute (Real z) (Real y) (Real x) h j k one two = ap Real (law.distribute z y x h j k one two)
  distribute (Nothing i) (Real y) (Real x) h j k one two = refl
  distribute (Real z) (Nothing i) (Real x) h j k one two = refl
  distribute (Nothing i) (Nothing o) (Real x) h j k one two = refl
  distribute (Real z) (Real y) (Nothing l) h j k one two = refl
  distribute (Real z) (Nothing y) (Nothing l) h j k one two = refl
  distribute (Nothing z) (Real y) (Nothing l) h j k one two = refl
  distribute (Nothing z) (Nothing y) (Nothing l) h j k one two = refl

  settle-apply : (n : ℕ) (s : S) (k : Clock) (p : Stamp) (x : MaybeOp O) → m.good n s → Agrees (maybe_meaning m) s k
      → IsIssued (maybe_meaning m) n p x → Lacks (maybe_meaning m) s (id_of p) → IsAfter k p
      → m.settle (maybe_apply m s p x) k ≡ maybe_apply m (m.settle s k) p x
  settle-apply n s k p (Real x) good agree h fresh after =
      law.settle-apply n s k p x good (agrees m s k agree) (issued m n p x h) (lacks m s (id_of p) fresh) after
  settle-apply n s k p (Nothing l) good agree h fresh after = refl

  good-apply : (n : ℕ) (s : S) (p : Stamp) (x : MaybeOp O) → m.good n s → IsIssued (maybe_meaning m) n p x → Lacks (maybe_meaning m) s (id_of p)
      → m.good n (maybe_apply m s p x)
  good-apply n s p (Real x) good h fresh = law.good-apply n s p x good (issued m n p x h) (lacks m s (id_of p) fresh)
  good-apply n s p (Nothing l) good h fresh = good

  good_at-apply : (d : Clock) (s : S) (p : Stamp) (x : MaybeOp O) → m.good_at d s → IsIssued (maybe_meaning m) d.n p x
      → Lacks (maybe_meaning m) s (id_of p) → IsAtMost p.clock d → IsTrue (covers d (id_of p)) → m.good_at d (maybe_apply m s p x)
  good_at-apply d s p (Real x) good h fresh below covered =
      law.good_at-apply d s p x good (issued m d.n p x h) (lacks m s (id_of p) fresh) below covered
  good_at-apply d s p (Nothing l) good h fresh below covered = good

  holds-apply : (s : S) (p : Stamp) (x : MaybeOp O) (q : Stamp) → m.holds (maybe_apply m s p x) q → (q ≡ p) ⊎ m.holds s q
  holds-apply s p (Real x) q h = law.holds-apply s p x q h
  holds-apply s p (Nothing l) q h = inr h

  pub maybe_lawful : IsLawful (maybe_meaning m)
  maybe_lawful = record {
    valid_within = valid_within;
    valid_well_formed = valid_well_formed;
    level_low = level_low;
    level_top = level_top;
    level-act = level-act;
    act_below = act_below;
    well_formed-act = well_formed-act;
    valid-act = valid-act;
    commute = commute;
    exchange = exchange;
    act-act = act-act;
    distribute = distribute;
    settle-apply = settle-apply;
    settle-settle = λ n s k l good left right below.
        law.settle-settle n s k l good (agrees m s k left) (agrees m s l right) below;
    settle-init = law.settle-init;
    show-settle = law.show-settle;
    good-init = law.good-init;
    good-apply = good-apply;
    good-settle = law.good-settle;
    good_at_good = law.good_at_good;
    good_at-init = law.good_at-init;
    good_at_later = law.good_at_later;
    good_at-apply = good_at-apply;
    good_at-settle = law.good_at-settle;
    good_at-holds = law.good_at-holds;
    holds-init = law.holds-init;
    holds-apply = holds-apply;
    holds-settle = law.holds-settle;
    plain_settle = law.plain_settle;
    plain_holds = law.plain_holds;
  }
