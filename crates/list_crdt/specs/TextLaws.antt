-- Texts are a lawful tower.
use Rattle.std.specs.Prelude.{◌≡◌, ℕ, List, [], ◌∷◌, Some, None, true, false, IsTrue}
use Rattle.std.proofs.Common.{refl, sym, ap, ◌∙◌, subst, arith, inl, inr}
use Rattle.std.specs.List.{All}
use Rattle.std.proofs.lemmas.List.Elements.{All-nil, All-weaker}
use Rattle.std.proofs.lemmas.Bool.{false≢true}
use Rattle.std.proofs.lemmas.Bool.Decides.{nat_tests}
use Rattle.vector_clock.specs.declared.clock.Clock.{Clock}
use Rattle.vector_clock.specs.declared.clock.Id.{Id}
use Rattle.vector_clock.specs.declared.stamp.Stamp.{Stamp}
use Rattle.vector_clock.specs.Clock.{IsAtMost, covers}
use Rattle.vector_clock.specs.Stamp.{id_of, are_concurrent, is_before}
use Rattle.vector_clock.proofs.Keys.{concurrent_other, concurrent_sym, other_ids}
use Rattle.crdt_laws.specs.Tower.{IsLawful, IsIssued, IsWithin, MaySwap}
use Rattle.crdt_laws.proofs.Plain.{flat_lawful}
use Rattle.list_crdt.specs.declared.position.Step.{Step}
use Rattle.list_crdt.specs.declared.text.Cell.{Cell}
use Rattle.list_crdt.specs.declared.text.TextOp.{TextOp}
use Rattle.list_crdt.specs.declared.text.TextOp.TheVariants.{Insert, Delete}
use Rattle.list_crdt.specs.Position.{AreSteps, HasDigit, IsPosition, IsPositionOf, NamesOperation, maker}
use Rattle.list_crdt.specs.Text.{IsCellOf, IsDeleteOf, IsEdit, IsEditOf, IsInsertOf, IsText, IsTextAt, at, edited, text_meaning}
use Rattle.list_crdt.specs.Around.{all-with_at, any_order, deletes_swap, rising-with_at}

-- a position of a document is a position
steps_weaker : (P Q : Step → Type 0) → ((s : Step) → P s → Q s) → (p : List Step) → AreSteps P p → AreSteps Q p
steps_weaker P Q f [] h = h
steps_weaker P Q f (s ∷ []) h = f s h
steps_weaker P Q f (s ∷ t ∷ p) h = (elim h.0 [ inl e ↦ inl e | inr k ↦ inr (f s k) ], steps_weaker P Q f (t ∷ p) h.1)

pub any_position : (n : ℕ) (p : List Step) → IsPositionOf n p → IsPosition p
any_position n p h = record { steps = steps_weaker (NamesOperation n) HasDigit (λ s k. k.digit) p h.steps; most = h.most }

valid_within : (p : Stamp) (x : TextOp) → IsEditOf p x → IsWithin p
valid_within p (Insert at ch) h = h.within
valid_within p (Delete at) h = h.within

well_formed : (p : Stamp) (x : TextOp) → IsEditOf p x → IsEdit x
well_formed p (Insert at ch) h = (any_position p.clock.n at h.position, h.char)
well_formed p (Delete at) h = any_position p.clock.n at h.position

-- of two concurrent operations neither knows the other
not_known : (p q : Stamp) → are_concurrent p q ≡ true → covers q.clock (id_of p) ≡ false
unfolding are_concurrent is_before
not_known p q h = let d = concurrent_other p q h in grind arith

-- an insert is not at the position of a concurrent insert or delete
pub other_insert : (p q : Stamp) (at as' : List Step) (ch ch' : ℕ) → are_concurrent p q ≡ true → IsInsertOf p at ch → IsInsertOf q as' ch' → at ≡ as' → ⊥
other_insert p q at as' ch ch' c h k e = other_ids p q (concurrent_other p q c) (sym k.own ∙ sym (ap maker e) ∙ h.own)

pub other_delete : (p q : Stamp) (at as' : List Step) (ch : ℕ) → are_concurrent p q ≡ true → IsInsertOf p at ch → IsDeleteOf q as' → at ≡ as' → ⊥
other_delete p q at as' ch c h k e =
    let named : maker as' ≡ id_of p = sym (ap maker e) ∙ h.own in
    false≢true (sym (not_known p q c) ∙ sym (ap (λ i. covers q.clock i) named) ∙ k.known)

commute : (n : ℕ) (s : List Cell) (p q : Stamp) (x y : TextOp) → MaySwap text_meaning n s p q → IsIssued text_meaning n p x → IsIssued text_meaning n q y
    → edited (edited s x) y ≡ edited (edited s y) x
commute n s p q (Insert a c) (Insert b d) w h k = any_order at a b (Some (record { at = a; ch = c })) (Some (record { at = b; ch = d })) refl refl s (other_insert p q a b c d w.concurrent h.valid k.valid)
commute n s p q (Insert a c) (Delete b) w h k = any_order at a b (Some (record { at = a; ch = c })) None refl tt s (other_delete p q a b c w.concurrent h.valid k.valid)
commute n s p q (Delete a) (Insert b d) w h k =
    sym (any_order at b a (Some (record { at = b; ch = d })) None refl tt s (other_delete q p b a d (concurrent_sym p q w.concurrent) k.valid h.valid))
commute n s p q (Delete a) (Delete b) w h k = deletes_swap at a b s

-- each edit keeps a text

edited_text : (n : ℕ) (s : List Cell) (p : Stamp) (x : TextOp) → IsText n s → p.clock.n ≡ n → IsEditOf p x → IsText n (edited s x)
edited_text n s p (Insert a ch) t e h = record {
  rising = rising-with_at at a s (Some (record { at = a; ch = ch })) refl t.rising;
  cells = all-with_at at (IsCellOf n) a (Some (record { at = a; ch = ch })) (record { position = subst (λ m. IsPositionOf m a) e h.position; char = h.char }) s t.cells;
}
edited_text n s p (Delete a) t e h = record {
  rising = rising-with_at at a s None tt t.rising;
  cells = all-with_at at (IsCellOf n) a None tt s t.cells;
}

edited_known : (d : Clock) (s : List Cell) (p : Stamp) (x : TextOp) → IsTextAt d s → IsEditOf p x → IsTrue (covers d (id_of p)) → All (λ c. IsTrue (covers d (maker c.at))) (edited s x)
edited_known d s p (Insert a ch) t h k = all-with_at at (λ c. IsTrue (covers d (maker c.at))) a (Some (record { at = a; ch = ch })) (ap (covers d) h.own ∙ k) s t.known
edited_known d s p (Delete a) t h k = all-with_at at (λ c. IsTrue (covers d (maker c.at))) a None tt s t.known

-- a later clock covers what an earlier one covers
pub covers_later : (d e : Clock) (i : Id) → IsAtMost d e → IsTrue (covers d i) → IsTrue (covers e i)
covers_later d e i h k = let m = h.each i.member in grind (arith, nat_tests)

no_text : (n : ℕ) → IsText n []
no_text n = record { rising = λ i j d l m. absurd (omega (arith, m)); cells = All-nil (IsCellOf n) }

pub text_lawful : IsLawful text_meaning
text_lawful = flat_lawful text_meaning (record {
  settle = λ s k. refl;
  holds = λ s p h. h;
  top = omega arith;
  level = λ x. refl;
  act = λ y x. refl;
  valid_within = valid_within;
  valid_well_formed = well_formed;
  commute = commute;
  good-init = no_text;
  good-apply = λ n s p x t h. edited_text n s p x t h.stamp.members h.valid;
  good_at_good = λ d s h. h.text;
  good_at-init = λ d. record { text = no_text d.n; known = All-nil (λ (c : Cell). IsTrue (covers d (maker c.at))) };
  good_at_later = λ d e s same h t. record { text = subst (λ n. IsText n s) same t.text; known = All-weaker _ (λ (c : Cell). IsTrue (covers e (maker c.at))) (λ c k. covers_later d e (maker c.at) h k) s t.known };
  good_at-apply = λ d s p x t h _ k. record { text = edited_text d.n s p x t.text h.stamp.members h.valid; known = edited_known d s p x t h.valid k };
})
