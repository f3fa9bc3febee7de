-- The bytes of texts with marks: the operations, and the states.
use Rattle.std.specs.Prelude.{◌≡◌, ℕ, ◌↔◌, ◌≤◌, ◌⊎◌, ◌&&◌, ◌==◌, Bool, true, IsTrue, List, [], length}
use Rattle.std.proofs.Common.{refl, sym, subst, inl, inr, arith}
use Rattle.std.proofs.lemmas.Bool.Decides.{nat_tests}
use Rattle.vector_clock.specs.declared.clock.Clock.{Clock}
use Rattle.vector_clock.specs.declared.stamp.Key.{Key}
use Rattle.vector_clock.specs.declared.stamp.Stamp.{Stamp}
use Rattle.vector_clock.specs.Stamp.{key_of}
use Rattle.crdt_laws.specs.Keys.{IsKeyOf}
use Rattle.crdt_laws.specs.Tower.{IsStampOf, IsWithin}
use Rattle.crdt_laws.proofs.KeyRanges.{key_issued}
use Rattle.list_crdt.specs.declared.position.Step.{Step}
use Rattle.list_crdt.specs.Position.{IsPositionOf}
use Rattle.rich_text.specs.declared.marked.RichCell.{RichCell}
use Rattle.rich_text.specs.declared.marked.RichOp.{RichOp}
use Rattle.rich_text.specs.declared.marked.RichOp.TheVariants.{Insert, Delete}
use Rattle.rich_text.specs.declared.marks.MarkEntry.{MarkEntry}
use Rattle.rich_text.specs.declared.over.MarkRange.{MarkRange}
use Rattle.rich_text.specs.Marked.{IsRichText, IsRichEditOf, at, cell, marked_meaning}
use Rattle.rich_text.specs.Marks.{AreMarksOf, same_key}
use Rattle.rich_text.specs.Over.{IsRangeOf, entry_of, is_up_to, mark_action}
use Rattle.wire_core.specs.Reading.{Grammar, IsExact, IsSplit, Rules, chain, made, tagged, max_listed}
use Rattle.wire_core.specs.Exact.{chain_exact, made_exact, tagged_exact}
use Rattle.wire_core.specs.Small.{char_grammar}
use Rattle.wire_core.specs.SmallExact.{char_allowed, char_exact, count_listed}
use Rattle.wire_core.specs.SmallInOrder.{char_in_order}
use Rattle.wire_core.specs.Faults.{IsInOrder}
use Rattle.wire_core.specs.InOrder.{chain_in_order, made_in_order, tagged_in_order}
use Rattle.wire_core.specs.Steady.{IsSteady, in_order_steady}
use Rattle.wire_core.specs.Good.{AreGood}
use Rattle.wire_core.specs.Stands.{Tells, TellsActing}
use Rattle.wire_core.specs.Writes.{Writes, WritesActing}
use Rattle.wire_core.specs.ClocksExact.{both}
use Rattle.kind_codec.specs.Marks.{entry_allowed, entry_exact, entry_grammar, entry_in_order, entry_is, marks_allowed, marks_are, marks_exact, marks_grammar, marks_in_order}
use Rattle.kind_codec.specs.Placed.{placed_again, placed_exact, placed_grammar, placed_states, placed_states_exact, placed_states_steady, placed_taken}
use Rattle.kind_codec.specs.Position.{position_allowed, position_exact, position_grammar, position_in_order, position_is}
use Rattle.kind_codec.specs.Text.{few_members, is_known, is_own, is_own_back, known_tells, own_is}

-- a character with its marks
abbrev pub Marked : Type 0
Marked = ℕ × List MarkEntry

abbrev pub rich_split : RichOp → (List Step × Marked) ⊎ List Step
rich_split (Insert p ch ms) = inl (p, (ch, ms))
rich_split (Delete p) = inr p

abbrev pub inserting : List Step × Marked → RichOp
inserting p = Insert p.0 p.1.0 p.1.1

rich_whole : IsSplit inserting Delete rich_split
rich_whole = record { at_left = λ x. refl; at_right = λ y. refl; whole = elim [ Insert p ch ms ↦ refl | Delete p ↦ refl ] }

abbrev pub cell_of : List Step × Marked → RichCell
cell_of p = cell p.0 p.1.0 p.1.1

abbrev pub marked_of : RichCell → Marked
marked_of c = (c.ch, c.marks)

-- the first position, the last one, and what the range says of its mark
abbrev pub range_of : List Step × (List Step × MarkEntry) → MarkRange
range_of p = record { first = p.0; last = p.1.0; mark = p.1.1.mark; key = p.1.1.key; on = p.1.1.on }

abbrev pub parts_of : MarkRange → List Step × (List Step × MarkEntry)
parts_of x = (x.first, (x.last, entry_of x))

-- an insert may stand at the stamp for which its position was made, and a delete where its member knew of the other operation
abbrev pub rich_may_stand : Stamp → RichOp → Bool
rich_may_stand p (Insert q ch ms) = is_own p q
rich_may_stand p (Delete q) = is_known p q

-- a range may stand where its member knew of both ends, which are in order, and which has its key
abbrev pub range_may_stand : Stamp → MarkRange → Bool
range_may_stand p x = (is_known p x.first && is_known p x.last) && (is_up_to x.first x.last && same_key x.key (key_of p))

-- the number of marks that a text may have
module _ (marks : ℕ) where
  -- a character, and its marks
  abbrev pub marked_grammar : Grammar Marked
  marked_grammar = chain char_grammar (λ _. marks_grammar marks)

  abbrev pub insert_grammar : Grammar (List Step × Marked)
  insert_grammar = chain position_grammar (λ _. marked_grammar)

  abbrev pub rich_op_grammar : Grammar RichOp
  rich_op_grammar = tagged inserting Delete rich_split insert_grammar position_grammar

  abbrev pub range_grammar : Grammar MarkRange
  range_grammar = made range_of parts_of (chain position_grammar (λ _. chain position_grammar (λ _. entry_grammar marks [])))

  -- a position, its character and the marks
  abbrev pub rich_cell_grammar : Clock → List RichCell → Grammar RichCell
  rich_cell_grammar d before = placed_grammar at cell_of marked_of marked_grammar d before

  abbrev pub rich_states : Clock → Grammar (List RichCell)
  rich_states d = placed_states at cell_of marked_of marked_grammar d

  marked_exact : IsExact marked_grammar
  marked_exact = chain_exact char_grammar (λ _. marks_grammar marks) char_exact (λ _. marks_exact marks)

  marked_in_order : IsInOrder marked_grammar
  marked_in_order = chain_in_order char_grammar (λ _. marks_grammar marks) char_in_order (λ _. marks_in_order marks)

  pub rich_op_exact : IsExact rich_op_grammar
  rich_op_exact = tagged_exact inserting Delete rich_split rich_whole insert_grammar position_grammar (chain_exact position_grammar (λ _. marked_grammar) position_exact (λ _. marked_exact)) position_exact

  pub rich_op_in_order : IsInOrder rich_op_grammar
  rich_op_in_order = tagged_in_order inserting Delete rich_split insert_grammar position_grammar (chain_in_order position_grammar (λ _. marked_grammar) position_in_order (λ _. marked_in_order)) position_in_order

  pub range_exact : IsExact range_grammar
  range_exact = made_exact _ _ _ (chain_exact position_grammar (λ _. chain position_grammar (λ _. entry_grammar marks [])) position_exact
      (λ _. chain_exact position_grammar (λ _. entry_grammar marks []) position_exact (λ _. entry_exact marks []))) (λ r p a. refl)

  pub range_in_order : IsInOrder range_grammar
  range_in_order = made_in_order _ _ _ (chain_in_order position_grammar (λ _. chain position_grammar (λ _. entry_grammar marks [])) position_in_order
      (λ _. chain_in_order position_grammar (λ _. entry_grammar marks []) position_in_order (λ _. entry_in_order marks [])))

  -- ---- valid operations may be written

  rich_allowed : (r : Rules) (p : Stamp) (x : RichOp) → IsStampOf r.members p → IsRichEditOf marks p x → rich_op_grammar.allows r x
  rich_allowed r p (Insert q ch ms) stamp valid =
      let few = few_members r p stamp in (
        position_allowed r q few (subst (λ (n : ℕ). IsPositionOf n q) stamp.members valid.plain.position),
        (char_allowed r ch valid.plain.char, marks_allowed marks r ms few (subst (λ (n : ℕ). AreMarksOf marks n ms) stamp.members valid.marks)),
      )
  rich_allowed r p (Delete q) stamp valid = position_allowed r q (few_members r p stamp) (subst (λ (n : ℕ). IsPositionOf n q) stamp.members valid.position)

  pub rich_writes : Writes (marked_meaning marks) rich_op_grammar
  rich_writes = record { each = rich_allowed }

  range_allowed : (r : Rules) (p : Stamp) (x : MarkRange) → IsStampOf r.members p → IsRangeOf marks p x → range_grammar.allows r x
  range_allowed r p x stamp valid =
      let few = few_members r p stamp in
      let first = position_allowed r x.first few (subst (λ (n : ℕ). IsPositionOf n x.first) stamp.members valid.first.position) in
      let last = position_allowed r x.last few (subst (λ (n : ℕ). IsPositionOf n x.last) stamp.members valid.last.position) in
      let key : IsKeyOf r.members x.key = subst (IsKeyOf r.members) (sym valid.key) (key_issued r.members p stamp valid.first.within) in
      ((first, (last, entry_allowed marks r [] (entry_of x) few refl (record { mark = valid.mark; key = key }))), refl)

  pub range_writes : WritesActing (mark_action marks) range_grammar
  range_writes = record { each = range_allowed }

  -- ---- which may stand at a stamp

  rich_told : (r : Rules) (p : Stamp) (x : RichOp) → IsStampOf r.members p → IsWithin p → rich_op_grammar.allows r x → IsTrue (rich_may_stand p x) ↔ IsRichEditOf marks p x
  rich_told r p (Insert q ch ms) stamp within allowed = (
    λ h.
        record {
          plain = record { within = within; position = subst (λ (n : ℕ). IsPositionOf n q) (sym stamp.members) (position_is r q allowed.0); own = own_is p q h; char = allowed.1.0.1 };
          marks = subst (λ (n : ℕ). AreMarksOf marks n ms) (sym stamp.members) (marks_are marks r ms allowed.1.1);
        },
    λ k. is_own_back p q k.plain.own,
  )
  rich_told r p (Delete q) stamp within allowed = known_tells r p q stamp within allowed

  pub rich_tells : Tells (marked_meaning marks) rich_op_grammar rich_may_stand
  rich_tells = record { each = rich_told }

  key_is : (j k : Key) → same_key j k ≡ true → j ≡ k
  key_is j k h =
      let one = both (j.sum == k.sum) ((j.member == k.member) && (j.seq == k.seq)) h in
      let two = both (j.member == k.member) (j.seq == k.seq) one.1 in
      same_parts (grind (arith, nat_tests)) (grind (arith, nat_tests)) (grind (arith, nat_tests))
    where
      same_parts : j.sum ≡ k.sum → j.member ≡ k.member → j.seq ≡ k.seq → j ≡ k
      same_parts s m q = λ i. record { sum = s i; member = m i; seq = q i }

  same_itself : (k : Key) → same_key k k ≡ true
  same_itself k = grind (arith, nat_tests)

  range_told : (r : Rules) (p : Stamp) (x : MarkRange) → IsStampOf r.members p → IsWithin p → range_grammar.allows r x → IsTrue (range_may_stand p x) ↔ IsRangeOf marks p x
  range_told r p x stamp within allowed =
      let first = known_tells r p x.first stamp within allowed.0.0 in
      let last = known_tells r p x.last stamp within allowed.0.1.0 in (
        λ h.
            let sides = both (is_known p x.first && is_known p x.last) (is_up_to x.first x.last && same_key x.key (key_of p)) h in
            let ends = both (is_known p x.first) (is_known p x.last) sides.0 in
            let rest = both (is_up_to x.first x.last) (same_key x.key (key_of p)) sides.1 in
            record {
              first = first.0 ends.0;
              last = last.0 ends.1;
              order = rest.0;
              key = key_is x.key (key_of p) rest.1;
              mark = (entry_is marks r [] (entry_of x) allowed.0.1.1).mark;
            },
        λ k.
            let one : is_known p x.first ≡ true = first.1 k.first in
            let two : is_known p x.last ≡ true = last.1 k.last in
            let order : is_up_to x.first x.last ≡ true = k.order in
            let key : same_key x.key (key_of p) ≡ true = subst (λ (j : Key). same_key j (key_of p) ≡ true) (sym k.key) (same_itself (key_of p)) in
            rw (one, two, order) key,
      )

  pub range_tells : TellsActing (mark_action marks) range_grammar range_may_stand
  range_tells = record { each = range_told }

  -- ---- states

  pub rich_cell_exact : (d : Clock) (before : List RichCell) → IsExact (rich_cell_grammar d before)
  rich_cell_exact d before = placed_exact at cell_of marked_of marked_grammar (λ p. refl) marked_exact (in_order_steady marked_grammar marked_in_order) d before

  pub rich_states_exact : (d : Clock) → IsExact (rich_states d)
  rich_states_exact d = placed_states_exact at cell_of marked_of marked_grammar (λ p. refl) marked_exact (in_order_steady marked_grammar marked_in_order) d

  pub rich_states_steady : (d : Clock) → IsSteady (rich_states d)
  rich_states_steady d = placed_states_steady at cell_of marked_of marked_grammar (λ p. refl) marked_exact (in_order_steady marked_grammar marked_in_order) d

-- four bytes can tell the number of characters
abbrev pub rich_fits : List RichCell → Type 0
rich_fits s = length s ≤ max_listed

-- the texts that are allowed are those that are good
pub rich_good : (marks : ℕ) → AreGood (marked_meaning marks) rich_fits (rich_states marks)
rich_good marks = record {
  taken = λ r d s k n a.
      let t = placed_taken at cell_of marked_of (marked_grammar marks) r d s a.1 in
      record {
        text = subst (λ (m : ℕ). IsRichText marks m s) (sym n) (record {
          rising = t.rising;
          cells = λ i c lt. record { position = t.positions i c lt; char = (t.rests i c lt).0.1; marks = marks_are marks r _ (t.rests i c lt).1 };
        });
        known = t.known;
      };
  again = λ r d s k n a f.
      let text = subst (λ (m : ℕ). IsRichText marks m s) n a.text in
      let few = k.most in
      let members : r.members ≤ 256 = omega (arith, n) in (
        count_listed r (length s) f,
        placed_again at cell_of marked_of (marked_grammar marks) (λ c. refl) r d s members (record {
          rising = text.rising;
          positions = λ i c lt. (text.cells i c lt).position;
          known = a.known;
          rests = λ i c lt. (char_allowed r _ (text.cells i c lt).char, marks_allowed marks r _ members (text.cells i c lt).marks);
        }),
      );
}
