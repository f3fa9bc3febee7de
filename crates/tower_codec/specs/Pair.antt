-- The bytes of pairs: a tag and the operation of a side, and the state of the left side before that of the right one.
use Rattle.std.specs.Prelude.{◌↔◌, ◌⊎◌, Bool, IsTrue}
use Rattle.std.proofs.Common.{refl, inl, inr}
use Rattle.vector_clock.specs.declared.clock.Clock.{Clock}
use Rattle.vector_clock.specs.declared.stamp.Stamp.{Stamp}
use Rattle.crdt_laws.specs.Tower.{Meaning, IsStampOf, IsWithin}
use Rattle.direct_product.specs.declared.pair.Both.{Both}
use Rattle.direct_product.specs.declared.pair.PairOp.{PairOp}
use Rattle.direct_product.specs.declared.pair.PairOp.TheVariants.{Left, Right}
use Rattle.direct_product.specs.Pair.{both, pair_meaning}
use Rattle.wire_core.specs.Reading.{Grammar, IsExact, IsSplit, Rules, chain, made, tagged}
use Rattle.wire_core.specs.Exact.{chain_exact, made_exact, tagged_exact}
use Rattle.wire_core.specs.Faults.{IsInOrder}
use Rattle.wire_core.specs.InOrder.{tagged_in_order}
use Rattle.wire_core.specs.Steady.{IsSteady, chain_steady, made_steady}
use Rattle.wire_core.specs.Good.{AreGood}
use Rattle.wire_core.specs.Writes.{Writes}
use Rattle.wire_core.specs.Stands.{Tells}

abbrev pub pair_split : {L R : Type 0} → PairOp L R → L ⊎ R
pair_split (Left x) = inl x
pair_split (Right y) = inr y

abbrev pub pair_op_grammar : {L R : Type 0} → Grammar L → Grammar R → Grammar (PairOp L R)
pair_op_grammar left right = tagged Left Right pair_split left right

pair_whole : {L R : Type 0} → IsSplit {A = L} {B = R} {C = PairOp L R} Left Right pair_split
pair_whole = record { at_left = λ x. refl; at_right = λ y. refl; whole = elim [ Left x ↦ refl | Right y ↦ refl ] }

pub pair_op_exact : {L R : Type 0} (left : Grammar L) (right : Grammar R) → IsExact left → IsExact right → IsExact (pair_op_grammar left right)
pair_op_exact left right one two = tagged_exact Left Right pair_split pair_whole left right one two

pub pair_op_in_order : {L R : Type 0} (left : Grammar L) (right : Grammar R) → IsInOrder left → IsInOrder right → IsInOrder (pair_op_grammar left right)
pair_op_in_order left right one two = tagged_in_order Left Right pair_split left right one two

module _ {S T L R : Type 0} (m : Meaning S L) (w : Meaning T R) (left : Grammar L) (right : Grammar R) where
  each_allowed : Writes m left → Writes w right → (r : Rules) (p : Stamp) (x : PairOp L R) → IsStampOf r.members p
      → (pair_meaning m w).valid p x → (pair_op_grammar left right).allows r x
  each_allowed one two r p (Left x) stamp valid = one.each r p x stamp valid
  each_allowed one two r p (Right y) stamp valid = two.each r p y stamp valid

  pub pair_op_writes : Writes m left → Writes w right → Writes (pair_meaning m w) (pair_op_grammar left right)
  pair_op_writes one two = record { each = each_allowed one two }

-- each side tells which of its operations may stand at a stamp
abbrev pub pair_may_stand : {L R : Type 0} → (Stamp → L → Bool) → (Stamp → R → Bool) → Stamp → PairOp L R → Bool
pair_may_stand left right p (Left x) = left p x
pair_may_stand left right p (Right y) = right p y

module _ {S T L R : Type 0} (m : Meaning S L) (w : Meaning T R) (left : Grammar L) (right : Grammar R) (lefts : Stamp → L → Bool) (rights : Stamp → R → Bool) where
  each_told : Tells m left lefts → Tells w right rights → (r : Rules) (p : Stamp) (x : PairOp L R) → IsStampOf r.members p → IsWithin p
      → (pair_op_grammar left right).allows r x → IsTrue (pair_may_stand lefts rights p x) ↔ (pair_meaning m w).valid p x
  each_told one two r p (Left x) stamp within allowed = one.each r p x stamp within allowed
  each_told one two r p (Right y) stamp within allowed = two.each r p y stamp within allowed

  pub pair_tells : Tells m left lefts → Tells w right rights → Tells (pair_meaning m w) (pair_op_grammar left right) (pair_may_stand lefts rights)
  pair_tells one two = record { each = each_told one two }

-- ---- states

module _ {S T : Type 0} where
  abbrev pub pair_states : (Clock → Grammar S) → (Clock → Grammar T) → Clock → Grammar (Both S T)
  pair_states left right d = made (λ p. both p.0 p.1) (λ s. (s.left, s.right)) (chain (left d) (λ _. right d))

  -- the lists of both states are short enough
  abbrev pub both_fit : (S → Type 0) → (T → Type 0) → Both S T → Type 0
  both_fit left right s = left s.left × right s.right

  pub pair_states_exact : (left : Clock → Grammar S) (right : Clock → Grammar T) (d : Clock) → IsExact (left d) → IsExact (right d) → IsExact (pair_states left right d)
  pair_states_exact left right d one two = made_exact _ _ _ (chain_exact (left d) (λ _. right d) one (λ _. two)) (λ r p a. refl)

  pub pair_states_steady : (left : Clock → Grammar S) (right : Clock → Grammar T) (d : Clock) → IsSteady (left d) → IsSteady (right d) → IsSteady (pair_states left right d)
  pair_states_steady left right d one two = made_steady _ _ _ (chain_steady (left d) (λ _. right d) one (λ _. two))

pub pair_good : {S T L R : Type 0} (m : Meaning S L) (w : Meaning T R) (fits : S → Type 0) (suits : T → Type 0) (left : Clock → Grammar S) (right : Clock → Grammar T)
    → AreGood m fits left → AreGood w suits right → AreGood (pair_meaning m w) (both_fit fits suits) (pair_states left right)
pair_good m w fits suits left right one two = record {
  taken = λ r d s k n a. (one.taken r d s.left k n a.0.0, two.taken r d s.right k n a.0.1);
  again = λ r d s k n a f. ((one.again r d s.left k n a.0 f.0, two.again r d s.right k n a.1 f.1), refl);
}
