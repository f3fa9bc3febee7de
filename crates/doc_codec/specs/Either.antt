-- The bytes of towers that are one of two: those of the arm alone, without a tag.
use Rattle.std.specs.Prelude.{◌≡◌, ◌↔◌, Bool, false, IsTrue, Option, None, Some}
use Rattle.std.proofs.Common.{refl, ap, sym}
use Rattle.vector_clock.specs.declared.clock.Clock.{Clock}
use Rattle.vector_clock.specs.declared.stamp.Stamp.{Stamp}
use Rattle.vector_clock.specs.Clock.{IsClock}
use Rattle.crdt_laws.specs.Tower.{Meaning, IsStampOf, IsWithin}
use Rattle.doc_tower.specs.declared.either.Either.{Either}
use Rattle.doc_tower.specs.declared.either.Either.TheVariants.{Left, Right}
use Rattle.doc_tower.specs.Either.{either_meaning}
use Rattle.wire_core.specs.Reading.{Grammar, IsExact, IsPart, Rules, by_part}
use Rattle.wire_core.specs.Exact.{by_part_exact}
use Rattle.wire_core.specs.Faults.{IsInOrder}
use Rattle.wire_core.specs.InOrder.{by_part_in_order}
use Rattle.wire_core.specs.Steady.{IsSteady, by_part_steady}
use Rattle.wire_core.specs.Good.{AreGood}
use Rattle.wire_core.specs.Stands.{Tells}
use Rattle.wire_core.specs.Writes.{Writes}

-- the value of an arm
abbrev pub in_left : {L R : Type 0} → Either L R → Option L
in_left (Left x) = Some x
in_left (Right y) = None

abbrev pub in_right : {L R : Type 0} → Either L R → Option R
in_right (Left x) = None
in_right (Right y) = Some y

some_is : {A : Type 0} (a b : A) → Some a ≡ Some b → a ≡ b
some_is a b e = cc

none_is : {A C : Type 0} (x : A) → None ≡ Some x → C
none_is x e = absurd cc

module _ {L R : Type 0} where
  left_of : (c : Either L R) (x : L) → in_left c ≡ Some x → Left x ≡ c
  left_of (Left y) x e = ap (λ (z : L). let c : Either L R = Left z in c) (sym (some_is y x e))
  left_of (Right y) x e = none_is x e

  right_of : (c : Either L R) (y : R) → in_right c ≡ Some y → Right y ≡ c
  right_of (Left x) y e = none_is y e
  right_of (Right x) y e = ap (λ (z : R). let c : Either L R = Right z in c) (sym (some_is x y e))

  is_left : IsPart {A = L} {C = Either L R} Left in_left
  is_left = record { at_whole = λ x. refl; of_part = left_of }

  is_right : IsPart {A = R} {C = Either L R} Right in_right
  is_right = record { at_whole = λ x. refl; of_part = right_of }

-- what is spelled of the tower that it is
module _ {A B L R : Type 0} (left : A → Grammar L) (right : B → Grammar R) where
  abbrev pub either_grammar : Either A B → Grammar (Either L R)
  either_grammar (Left t) = by_part Left in_left (left t)
  either_grammar (Right t) = by_part Right in_right (right t)

  pub either_exact : ((t : A) → IsExact (left t)) → ((t : B) → IsExact (right t)) → (t : Either A B) → IsExact (either_grammar t)
  either_exact h k (Left t) = by_part_exact Left in_left is_left (left t) (h t)
  either_exact h k (Right t) = by_part_exact Right in_right is_right (right t) (k t)

  pub either_in_order : ((t : A) → IsInOrder (left t)) → ((t : B) → IsInOrder (right t)) → (t : Either A B) → IsInOrder (either_grammar t)
  either_in_order h k (Left t) = by_part_in_order Left in_left (left t) (h t)
  either_in_order h k (Right t) = by_part_in_order Right in_right (right t) (k t)

  pub either_steady : ((t : A) → IsSteady (left t)) → ((t : B) → IsSteady (right t)) → (t : Either A B) → IsSteady (either_grammar t)
  either_steady h k (Left t) = by_part_steady Left in_left (left t) (h t)
  either_steady h k (Right t) = by_part_steady Right in_right (right t) (k t)

-- operations of the arm may stand where the tower says so, and none of the other arm
module _ {A B L R : Type 0} (left : A → Stamp → L → Bool) (right : B → Stamp → R → Bool) where
  abbrev pub either_may_stand : Either A B → Stamp → Either L R → Bool
  either_may_stand (Left t) p (Left x) = left t p x
  either_may_stand (Right t) p (Right y) = right t p y
  either_may_stand (Left t) p (Right y) = false
  either_may_stand (Right t) p (Left x) = false

module _ {A B S T L R : Type 0} (m : A → Meaning S L) (w : B → Meaning T R) (left : A → Grammar L) (right : B → Grammar R) where
  writes_left : (t : A) → Writes (m t) (left t) → (r : Rules) (p : Stamp) (x : Either L R) → IsStampOf r.members p → (either_meaning m w (Left t)).valid p x
      → (either_grammar left right (Left t)).allows r x
  writes_left t h r p (Left x) stamp valid = h.each r p x stamp valid
  writes_left t h r p (Right x) stamp valid = absurd valid

  writes_right : (t : B) → Writes (w t) (right t) → (r : Rules) (p : Stamp) (x : Either L R) → IsStampOf r.members p → (either_meaning m w (Right t)).valid p x
      → (either_grammar left right (Right t)).allows r x
  writes_right t h r p (Left x) stamp valid = absurd valid
  writes_right t h r p (Right x) stamp valid = h.each r p x stamp valid

  pub either_writes : ((t : A) → Writes (m t) (left t)) → ((t : B) → Writes (w t) (right t)) → (t : Either A B) → Writes (either_meaning m w t) (either_grammar left right t)
  either_writes h k (Left t) = record { each = writes_left t (h t) }
  either_writes h k (Right t) = record { each = writes_right t (k t) }

  module _ (lefts : A → Stamp → L → Bool) (rights : B → Stamp → R → Bool) where
    told_left : (t : A) → Tells (m t) (left t) (lefts t) → (r : Rules) (p : Stamp) (x : Either L R) → IsStampOf r.members p → IsWithin p → (either_grammar left right (Left t)).allows r x
        → IsTrue (either_may_stand lefts rights (Left t) p x) ↔ (either_meaning m w (Left t)).valid p x
    told_left t h r p (Left x) stamp within allowed = h.each r p x stamp within allowed
    told_left t h r p (Right x) stamp within allowed = absurd allowed

    told_right : (t : B) → Tells (w t) (right t) (rights t) → (r : Rules) (p : Stamp) (x : Either L R) → IsStampOf r.members p → IsWithin p → (either_grammar left right (Right t)).allows r x
        → IsTrue (either_may_stand lefts rights (Right t) p x) ↔ (either_meaning m w (Right t)).valid p x
    told_right t h r p (Left x) stamp within allowed = absurd allowed
    told_right t h r p (Right x) stamp within allowed = h.each r p x stamp within allowed

    pub either_tells : ((t : A) → Tells (m t) (left t) (lefts t)) → ((t : B) → Tells (w t) (right t) (rights t))
        → (t : Either A B) → Tells (either_meaning m w t) (either_grammar left right t) (either_may_stand lefts rights t)
    either_tells h k (Left t) = record { each = told_left t (h t) }
    either_tells h k (Right t) = record { each = told_right t (k t) }

-- ---- states

-- at a clock
abbrev pub at_clock : {A S : Type 0} → (A → Clock → Grammar S) → Clock → A → Grammar S
at_clock of d t = of t d

module _ {A B S T : Type 0} (left : A → Clock → Grammar S) (right : B → Clock → Grammar T) where
  abbrev pub either_states : Either A B → Clock → Grammar (Either S T)
  either_states t d = either_grammar (at_clock left d) (at_clock right d) t

-- the lists of the state are short enough
module _ {A B S T : Type 0} (left : A → S → Type 0) (right : B → T → Type 0) where
  abbrev pub either_fit : Either A B → Either S T → Type 0
  either_fit (Left t) (Left s) = left t s
  either_fit (Right t) (Right s) = right t s
  either_fit (Left t) (Right s) = Unit {0}
  either_fit (Right t) (Left s) = Unit {0}

module _ {A B S T L R : Type 0} (m : A → Meaning S L) (w : B → Meaning T R) (fits : A → S → Type 0) (suits : B → T → Type 0) (left : A → Clock → Grammar S) (right : B → Clock → Grammar T) where
  taken_left : (t : A) → AreGood (m t) (fits t) (left t) → (r : Rules) (d : Clock) (s : Either S T) → IsClock d → d.n ≡ r.members → (either_states left right (Left t) d).allows r s
      → (either_meaning m w (Left t)).good_at d s
  taken_left t h r d (Left s) k n a = h.taken r d s k n a
  taken_left t h r d (Right s) k n a = absurd a

  taken_right : (t : B) → AreGood (w t) (suits t) (right t) → (r : Rules) (d : Clock) (s : Either S T) → IsClock d → d.n ≡ r.members → (either_states left right (Right t) d).allows r s
      → (either_meaning m w (Right t)).good_at d s
  taken_right t h r d (Left s) k n a = absurd a
  taken_right t h r d (Right s) k n a = h.taken r d s k n a

  again_left : (t : A) → AreGood (m t) (fits t) (left t) → (r : Rules) (d : Clock) (s : Either S T) → IsClock d → d.n ≡ r.members → (either_meaning m w (Left t)).good_at d s
      → either_fit fits suits (Left t) s → (either_states left right (Left t) d).allows r s
  again_left t h r d (Left s) k n a f = h.again r d s k n a f
  again_left t h r d (Right s) k n a f = absurd a

  again_right : (t : B) → AreGood (w t) (suits t) (right t) → (r : Rules) (d : Clock) (s : Either S T) → IsClock d → d.n ≡ r.members → (either_meaning m w (Right t)).good_at d s
      → either_fit fits suits (Right t) s → (either_states left right (Right t) d).allows r s
  again_right t h r d (Left s) k n a f = absurd a
  again_right t h r d (Right s) k n a f = h.again r d s k n a f

  pub either_good : ((t : A) → AreGood (m t) (fits t) (left t)) → ((t : B) → AreGood (w t) (suits t) (right t))
      → (t : Either A B) → AreGood (either_meaning m w t) (either_fit fits suits t) (either_states left right t)
  either_good h k (Left t) = record { taken = taken_left t (h t); again = again_left t (h t) }
  either_good h k (Right t) = record { taken = taken_right t (k t); again = again_right t (k t) }
