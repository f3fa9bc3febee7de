-- The bytes of the operations of a text: a tag, a position, and what an insert puts there.
use Rattle.std.specs.Prelude.{◌≡◌, ℕ, ◌↔◌, ◌≤◌, ◌⊎◌, Bool, true, not, ◌&&◌, ◌==◌, IsTrue, List}
use Rattle.std.proofs.Common.{refl, sym, subst, ◌∙◌, false, inl, inr, arith}
use Rattle.std.proofs.lemmas.Bool.{false≢true}
use Rattle.std.proofs.lemmas.Bool.Decides.{nat_tests}
use Rattle.vector_clock.specs.declared.clock.Id.{Id}
use Rattle.vector_clock.specs.declared.stamp.Stamp.{Stamp}
use Rattle.vector_clock.specs.Clock.{covers}
use Rattle.vector_clock.specs.Stamp.{id_of}
use Rattle.crdt_laws.specs.Tower.{IsStampOf, IsWithin}
use Rattle.list_crdt.specs.declared.position.Step.{Step}
use Rattle.list_crdt.specs.declared.text.TextOp.{TextOp}
use Rattle.list_crdt.specs.declared.text.TextOp.TheVariants.{Insert, Delete}
use Rattle.list_crdt.specs.Position.{IsPositionOf, maker}
use Rattle.list_crdt.specs.Text.{IsDeleteOf, text_meaning}
use Rattle.wire_core.specs.Reading.{Grammar, IsExact, IsSplit, Rules, chain, tagged}
use Rattle.wire_core.specs.Exact.{chain_exact, tagged_exact}
use Rattle.wire_core.specs.Small.{char_grammar}
use Rattle.wire_core.specs.SmallExact.{char_exact, char_allowed}
use Rattle.wire_core.specs.Faults.{IsInOrder}
use Rattle.wire_core.specs.InOrder.{chain_in_order, tagged_in_order}
use Rattle.wire_core.specs.SmallInOrder.{char_in_order}
use Rattle.wire_core.specs.Writes.{Writes}
use Rattle.wire_core.specs.Stands.{Tells}
use Rattle.wire_core.specs.ClocksExact.{both}
use Rattle.kind_codec.specs.Position.{position_allowed, position_exact, position_grammar, position_in_order, position_is}

abbrev pub insert_grammar : Grammar (List Step × ℕ)
insert_grammar = chain position_grammar (λ _. char_grammar)

abbrev pub text_split : TextOp → (List Step × ℕ) ⊎ List Step
text_split (Insert at ch) = inl (at, ch)
text_split (Delete at) = inr at

abbrev pub inserting : List Step × ℕ → TextOp
inserting p = Insert p.0 p.1

abbrev pub text_op_grammar : Grammar TextOp
text_op_grammar = tagged inserting Delete text_split insert_grammar position_grammar

text_whole : IsSplit inserting Delete text_split
text_whole = record { at_left = λ x. refl; at_right = λ y. refl; whole = elim [ Insert at ch ↦ refl | Delete at ↦ refl ] }

pub text_op_exact : IsExact text_op_grammar
text_op_exact = tagged_exact inserting Delete text_split text_whole insert_grammar position_grammar (chain_exact position_grammar (λ _. char_grammar) position_exact (λ _. char_exact)) position_exact

pub text_op_in_order : IsInOrder text_op_grammar
text_op_in_order = tagged_in_order inserting Delete text_split insert_grammar position_grammar (chain_in_order position_grammar (λ _. char_grammar) position_in_order (λ _. char_in_order)) position_in_order

-- ---- valid operations may be written

pub few_members : (r : Rules) (p : Stamp) → IsStampOf r.members p → r.members ≤ 256
few_members r p h = let most = h.stamp.clock.most in let same = h.members in omega arith

each_allowed : (r : Rules) (p : Stamp) (x : TextOp) → IsStampOf r.members p → text_meaning.valid p x → text_op_grammar.allows r x
each_allowed r p (Insert at ch) stamp valid =
    (position_allowed r at (few_members r p stamp) (subst (λ (n : ℕ). IsPositionOf n at) stamp.members valid.position), char_allowed r ch valid.char)
each_allowed r p (Delete at) stamp valid = position_allowed r at (few_members r p stamp) (subst (λ (n : ℕ). IsPositionOf n at) stamp.members valid.position)

pub text_writes : Writes text_meaning text_op_grammar
text_writes = record { each = each_allowed }

-- ---- which may stand at a stamp

abbrev pub is_id : Id → Id → Bool
is_id i j = (i.member == j.member) && (i.seq == j.seq)

-- the position was made for the operation at this stamp
abbrev pub is_own : Stamp → List Step → Bool
is_own p at = is_id (maker at) (id_of p)

-- it was made for another operation, of which the member knew
abbrev pub is_known : Stamp → List Step → Bool
is_known p at = covers p.clock (maker at) && not (is_id (maker at) (id_of p))

abbrev pub text_may_stand : Stamp → TextOp → Bool
text_may_stand p (Insert at ch) = is_own p at
text_may_stand p (Delete at) = is_known p at

same_id : (i j : Id) → i.member ≡ j.member → i.seq ≡ j.seq → i ≡ j
same_id i j m s = λ k. record { member = m k; seq = s k }

id_is : (i j : Id) → is_id i j ≡ true → i ≡ j
id_is i j h = let sides = both (i.member == j.member) (i.seq == j.seq) h in same_id i j (grind (arith, nat_tests)) (grind (arith, nat_tests))

is_id_itself : (i : Id) → is_id i i ≡ true
is_id_itself i = grind (arith, nat_tests)

not_is : (b : Bool) → not b ≡ true → b ≡ false
not_is true e = absurd cc
not_is false e = refl

is_not : (b : Bool) → (b ≡ true → ⊥) → not b ≡ true
is_not true h = absurd (h refl)
is_not false h = refl

pub own_is : (p : Stamp) (at : List Step) → is_own p at ≡ true → maker at ≡ id_of p
own_is p at h = id_is (maker at) (id_of p) h

pub is_own_back : (p : Stamp) (at : List Step) → maker at ≡ id_of p → is_own p at ≡ true
is_own_back p at e = subst (λ (i : Id). is_id i (id_of p) ≡ true) (sym e) (is_id_itself (id_of p))

-- a position that is allowed was made for another operation, which the member knew, exactly where the test says so
pub known_tells : (r : Rules) (p : Stamp) (at : List Step) → IsStampOf r.members p → IsWithin p → position_grammar.allows r at → IsTrue (is_known p at) ↔ IsDeleteOf p at
known_tells r p at stamp within allowed = (
  λ h.
      let sides = both (covers p.clock (maker at)) (not (is_id (maker at) (id_of p))) h in
      record {
        within = within;
        position = subst (λ (n : ℕ). IsPositionOf n at) (sym stamp.members) (position_is r at allowed);
        known = sides.0;
        other = λ e. false≢true (sym (not_is (is_id (maker at) (id_of p)) sides.1) ∙ is_own_back p at e);
      },
  λ k. rw k.known (is_not (is_id (maker at) (id_of p)) (λ e. k.other (own_is p at e))),
)

each_told : (r : Rules) (p : Stamp) (x : TextOp) → IsStampOf r.members p → IsWithin p → text_op_grammar.allows r x → IsTrue (text_may_stand p x) ↔ text_meaning.valid p x
each_told r p (Insert at ch) stamp within allowed = (
  λ h. record { within = within; position = subst (λ (n : ℕ). IsPositionOf n at) (sym stamp.members) (position_is r at allowed.0); own = own_is p at h; char = allowed.1.1 },
  λ k. is_own_back p at k.own,
)
each_told r p (Delete at) stamp within allowed = known_tells r p at stamp within allowed

pub text_tells : Tells text_meaning text_op_grammar text_may_stand
text_tells = record { each = each_told }
