-- The operations of an edit are valid, each at its stamp.
use Rattle.std.proofs.Common.{◌≡◌, ℕ, ◌+◌, ◌-◌, ◌≤◌, ◌<◌, Bool, true, false, nat_le, inl, inr, List, [], ◌∷◌, length, map, Option, Some, Result, Ok, Err, IfSome, IfOk, refl, sym, ◌∙◌, ap, subst, arith}
use Rattle.std.specs.Char.{IsScalar}
use Rattle.std.proofs.Math.Utf8.{scalar}
use Rattle.std.specs.Str.{all_scalars}
use Rattle.std.proofs.lemmas.Bool.{and_parts, cases_eq}
use Rattle.std.proofs.lemmas.Bool.Decides.{nat_tests}
use Rattle.std.proofs.lemmas.List.{get_or-set_other, get_or-set_same, set-get_or, set-set}
use Rattle.std.proofs.Math.ListN.{length-set, set}
use Rattle.vector_clock.specs.declared.clock.Clock.{Clock}
use Rattle.vector_clock.specs.declared.stamp.Stamp.{Stamp}
use Rattle.vector_clock.specs.Clock.{IsClock, count, max_seq, with_entry}
use Rattle.vector_clock.specs.Stamp.{IsAfter, IsStamp}
use Rattle.crdt_laws.specs.Tower.{IsWithin, Meaning}
use Rattle.forgetting_model.specs.Made.{AreValidWithin, stamp_after, stamp_then}
use Rattle.list_crdt.specs.declared.position.Step.{Step}
use Rattle.list_crdt.specs.declared.text.Cell.{Cell}
use Rattle.list_crdt.specs.Between.{position_between}
use Rattle.list_crdt.specs.Position.{IsPositionOf, max_steps}
use Rattle.list_crdt.specs.Text.{IsInsertOf}
use Rattle.list_crdt.proofs.Next.{maker_between, names_operations}
use Rattle.kind_edits.specs.declared.fault.EditError.{EditError}
use Rattle.kind_edits.specs.declared.fault.EditError.TheVariants.{PositionFull}
use Rattle.kind_edits.specs.Letters.{letters_between}
use Rattle.kind_edits.specs.Rules.{demands, follows}
use Rattle.kind_edits.specs.Stamps.{clock_before}
use Rattle.kind_edits.proofs.Typing.{letter}

-- ---- entries of a clock

count-own : (k : Clock) (m x : ℕ) → m < length k.at → count (with_entry k m x) m ≡ x
count-own k m x h = get_or-set_same k.at m x 0 h

count-other : (k : Clock) (m x i : ℕ) → (i ≡ m → ⊥) → count (with_entry k m x) i ≡ count k i
count-other k m x i h = get_or-set_other k.at m i x 0 h

-- ---- what a member had before an operation

member_wide : (p : Stamp) → IsStamp p → p.member < length p.clock.at
member_wide p h = omega (arith, h.member, h.clock.most, h.clock.wide)

pub after_before : (p : Stamp) → IsStamp p → IsAfter (clock_before p) p
after_before p h =
    let own : count (clock_before p) p.member ≡ count p.clock p.member - 1 = count-own p.clock p.member (count p.clock p.member - 1) (member_wide p h) in
    let counted = h.counted in
    record {
      knows = record {
        each = λ i. elim (cases_eq i p.member) [
          | inl same ↦ subst (λ (j : ℕ). count (clock_before p) j ≤ count p.clock j) (sym same) (omega (arith, own))
          | inr other ↦ (let e = count-other p.clock p.member (count p.clock p.member - 1) i other in omega (arith, e))
        ];
      };
      new = (let less : count (clock_before p) p.member < count p.clock p.member = omega (arith, own, counted) in grind (arith, nat_tests, less));
    }

pub before_next : (k : Clock) (me : ℕ) → IsClock k → me < k.n → clock_before (stamp_after k me) ≡ k
before_next k me h low =
    let c = count k me in
    let own : count (with_entry k me (c + 1)) me ≡ c + 1 = count-own k me (c + 1) (omega (arith, low, h.most, h.wide)) in
    let back : count (with_entry k me (c + 1)) me - 1 ≡ c = omega (arith, own) in
    let entries : set (set k.at me (c + 1)) me (count (with_entry k me (c + 1)) me - 1) ≡ k.at =
    set-set k.at me (c + 1) (count (with_entry k me (c + 1)) me - 1) ∙ ap (set k.at me) back ∙ set-get_or k.at me 0 in
    ap (λ (at : List ℕ). record { n = k.n; at = at }) entries

-- ---- the stamps of an edit

-- a member of a document of n members issues an operation at the stamp
pub record IsMaking (n : ℕ) (p : Stamp) : Type 0 where
  pub members : p.clock.n ≡ n
  pub member : p.member < n
  pub wide : p.member < length p.clock.at
  pub counted : 1 ≤ count p.clock p.member

pub making : (p : Stamp) → IsStamp p → IsMaking p.clock.n p
making p h = record { members = refl; member = h.member; wide = member_wide p h; counted = h.counted }

module _ (n : ℕ) (p : Stamp) (h : IsMaking n p) where
  pub count-then : count (stamp_then p).clock p.member ≡ count p.clock p.member + 1
  count-then = count-own p.clock p.member (count p.clock p.member + 1) h.wide

  pub making_then : IsMaking n (stamp_then p)
  making_then = record {
    members = h.members;
    member = h.member;
    wide = (let e = length-set p.clock.at p.member (count p.clock p.member + 1) in let w = h.wide in omega (arith, e, w));
    counted = (let e = count-then in omega (arith, e));
  }

  -- where the next stamp is within the limit, so is this one
  pub within_then : IsWithin (stamp_then p) → IsWithin p
  within_then w = record {
    each = λ i. elim (cases_eq i p.member) [
      | inl same ↦ (let l = w.each p.member in let e = count-then in subst (λ (j : ℕ). count p.clock j ≤ max_seq) (sym same) (omega (arith, l, e)))
      | inr other ↦ (let l = w.each i in let e = count-other p.clock p.member (count p.clock p.member + 1) i other in omega (arith, l, e))
    ];
  }

-- ---- letters

-- the inserts of letters are valid, where each letter gives an operation that is valid where the insert of a text is
module _ {State Op : Type 0} (m : Meaning State Op) (put : Cell → Op) (n : ℕ)
    (valid : (p : Stamp) (c : Cell) → p.clock.n ≡ n → IsInsertOf p c.at c.ch → m.valid p (put c)) (high : Option (List Step)) (above : IfSome high (IsPositionOf n)) where
  letter_valid : (p : Stamp) (low : Option (List Step)) (ch : ℕ) → IsMaking n p → IsWithin p → IfSome low (IsPositionOf n) → IsScalar ch
      → let a = position_between p.member (count p.clock p.member) low high in length a ≤ max_steps → IsPositionOf n a × IsInsertOf p a ch
  letter_valid p low ch h within below scalar room =
      let a : List Step = position_between p.member (count p.clock p.member) low high in
      let position : IsPositionOf n a = record {
        steps = names_operations p.member (count p.clock p.member) low high n below above (record { below = h.member; counted = h.counted; within = within.each p.member });
        most = room;
      } in (
        position,
        record {
          within = within;
          position = subst (λ (k : ℕ). IsPositionOf k a) (sym h.members) position;
          own = maker_between p.member (count p.clock p.member) low high;
          char = scalar;
        },
      )

  -- one letter, and those after it at the next stamp
  letter_then : (p : Stamp) (low : Option (List Step)) (ch : ℕ) (chs : List ℕ) → IsMaking n p → (IsWithin p → IfSome low (IsPositionOf n)) → IsScalar ch
      → let a = position_between p.member (count p.clock p.member) low high in
      (length a ≤ max_steps → IfOk (letters_between p.member high (count p.clock p.member + 1) (Some a) chs) (λ cells. AreValidWithin m (stamp_then p) (map put cells)))
      → IfOk (letters_between p.member high (count p.clock p.member) low (ch ∷ chs)) (λ cells. AreValidWithin m p (map put cells))
  letter_then p low ch chs h below scalar rest =
      by (nat_le (length a) max_steps) refl (letters_between p.member high (count p.clock p.member + 1) (Some a) chs) rest
    where
      a : List Step
      a = position_between p.member (count p.clock p.member) low high

      by : (t : Bool) → nat_le (length a) max_steps ≡ t → (r : Result (List Cell) EditError) → (length a ≤ max_steps → IfOk r (λ cells. AreValidWithin m (stamp_then p) (map put cells)))
          → IfOk (demands t (PositionFull (length a)) (follows r (λ cells. Ok (letter a ch ∷ cells)))) (λ cells. AreValidWithin m p (map put cells))
      by true e (Ok cells) rest =
          let room : length a ≤ max_steps = grind (arith, nat_tests, e) in
          (λ w. valid p (letter a ch) h.members (letter_valid p low ch h w (below w) scalar room).1, rest room)
      by true e (Err fault) rest = tt
      by false e r rest = tt

  pub letters_valid : (chs : List ℕ) (p : Stamp) (low : Option (List Step)) → IsMaking n p → (IsWithin p → IfSome low (IsPositionOf n)) → all_scalars chs ≡ true
      → IfOk (letters_between p.member high (count p.clock p.member) low chs) (λ cells. AreValidWithin m p (map put cells))
  letters_valid [] p low h below scalars = tt
  letters_valid (ch ∷ chs) p low h below scalars =
      let a : List Step = position_between p.member (count p.clock p.member) low high in
      let parts = and_parts (scalar ch) (all_scalars chs) scalars in
      letter_then p low ch chs h below parts.0 (λ room.
      subst (λ (seq : ℕ). IfOk (letters_between p.member high seq (Some a) chs) (λ cells. AreValidWithin m (stamp_then p) (map put cells))) (count-then n p h)
      (letters_valid chs (stamp_then p) (Some a) (making_then n p h)
      (λ w. let one = within_then n p h w in (letter_valid p low ch h one (below one) parts.0 room).0) parts.1))
