-- Neighbours by index among things that stand at positions, and the next position between them.
use Rattle.std.proofs.Common.{◌≡◌, ℕ, zero, suc, ◌+◌, ◌≤◌, ◌<◌, inl, inr, List, [], ◌∷◌, ◌++◌, length, get_or, drop, Option, Some, None, IfSome, refl, ap, ap₂, sym, ◌∙◌, subst, arith}
use Rattle.std.specs.Prelude.{IsTrue, insert, remove}
use Rattle.std.specs.Char.{IsScalar}
use Rattle.std.specs.declared.cmp.Ordering.TheVariants.{Less, Equal, Greater}
use Rattle.std.specs.Ordering.{ordering_reverse}
use Rattle.std.specs.Cmp.{tied_itself}
use Rattle.std.specs.List.{All, AllWithin}
use Rattle.std.proofs.lemmas.Bool.{cases_lt, false≢true}
use Rattle.std.proofs.lemmas.List.Elements.{All-head, All-tail}
use Rattle.vector_clock.specs.declared.clock.Clock.{Clock}
use Rattle.vector_clock.specs.declared.stamp.Stamp.{Stamp}
use Rattle.vector_clock.specs.Clock.{count, covers}
use Rattle.vector_clock.specs.Stamp.{IsAfter, IsStamp}
use Rattle.crdt_laws.specs.Tower.{IsWithin}
use Rattle.list_crdt.specs.declared.position.Step.{Step}
use Rattle.list_crdt.specs.Position.{IsBefore, IsPosition, IsPositionOf, maker, max_steps, position_cmp}
use Rattle.list_crdt.specs.Order.{position_total}
use Rattle.list_crdt.specs.Between.{AreInOrder, IsBetween, position_between}
use Rattle.list_crdt.specs.Cells.{IsRising, place, place_before, with_at}
use Rattle.list_crdt.specs.Text.{IsDeleteOf, IsInsertOf}
use Rattle.list_crdt.specs.TextLaws.{any_position, covers_later}
use Rattle.list_crdt.specs.Places.{IsStandingAt}
use Rattle.list_crdt.proofs.Next.{maker_between, names_operations}
use Rattle.list_crdt.proofs.Found.{gap, inserted, standing}

some_same : {X : Type 0} (p q : X) → Some p ≡ Some q → p ≡ q
some_same p q e = cc

some_of : (P : List Step → Type 0) (o : Option (List Step)) (p : List Step) → IfSome o P → o ≡ Some p → P p
some_of P o p h e = subst (λ x. IfSome x P) e h

module _ {C : Type 0} (at : C → List Step) where
  place_all : (P : List Step → Type 0) (s : List C) (i : ℕ) → All (λ c. P (at c)) s → IfSome (place at s i) P
  place_all P [] zero h = tt
  place_all P [] (suc i) h = tt
  place_all P (c ∷ s) zero h = All-head (λ c. P (at c)) c s h
  place_all P (c ∷ s) (suc i) h = place_all P s i (All-tail (λ c. P (at c)) c s h)

  pub place_within : (s : List C) (i : ℕ) (d : C) → i < length s → place at s i ≡ Some (at (get_or s i d))
  place_within [] i d h = absurd (omega (arith, h))
  place_within (c ∷ s) zero d h = refl
  place_within (c ∷ s) (suc i) d h = place_within s i d (omega (arith, h))

  -- there is a position just where the index is below the length
  pub place_some : (s : List C) (i : ℕ) (p : List Step) → place at s i ≡ Some p → i < length s
  place_some [] zero p e = cc
  place_some [] (suc i) p e = cc
  place_some (c ∷ s) zero p e = omega arith
  place_some (c ∷ s) (suc i) p e = let h = place_some s i p e in omega (arith, h)

  pub place_is : (s : List C) (i : ℕ) (d : C) (p : List Step) → place at s i ≡ Some p → at (get_or s i d) ≡ p
  place_is s i d p e = some_same (at (get_or s i d)) p (sym (place_within s i d (place_some s i p e)) ∙ e)

  tail_rising : (c : C) (s : List C) → IsRising at (c ∷ s) → IsRising at s
  tail_rising c s h = λ i j d l m. h (suc i) (suc j) d (omega (arith, l)) (omega (arith, m))

  place_apart : (s : List C) (i : ℕ) → IsRising at s → IfSome (place_before at s i) (λ p. IfSome (place at s i) (λ q. IsBefore p q))
  place_apart s zero h = tt
  place_apart [] (suc zero) h = tt
  place_apart [] (suc (suc i)) h = tt
  place_apart (c ∷ []) (suc zero) h = tt
  place_apart (c ∷ d ∷ s) (suc zero) h = h 0 1 c (omega arith) (omega arith)
  place_apart (c ∷ s) (suc (suc i)) h = place_apart s (suc i) (tail_rising c s h)

  module _ (n : ℕ) (s : List C) (positions : All (λ c. IsPositionOf n (at c)) s) where
    any_positions : All (λ c. IsPosition (at c)) s
    any_positions = λ k d h. any_position n (at (get_or s k d)) (positions k d h)

    low_position : (i : ℕ) → IfSome (place_before at s i) IsPosition
    low_position zero = tt
    low_position (suc i) = place_all IsPosition s i any_positions

    pub in_order : IsRising at s → (i : ℕ) → AreInOrder (place_before at s i) (place at s i)
    in_order rising i = record { low = low_position i; high = place_all IsPosition s i any_positions; apart = place_apart s i rising }

    pub places_of : (i : ℕ) → IfSome (place at s i) (IsPositionOf n)
    places_of i = place_all (IsPositionOf n) s i positions

    pub places_before_of : (i : ℕ) → IfSome (place_before at s i) (IsPositionOf n)
    places_before_of zero = tt
    places_before_of (suc i) = places_of i

  module _ (s : List C) (rising : IsRising at s) (r : List Step) where
    -- all things before the index come before the position
    low : (i : ℕ) → i ≤ length s → IfSome (place_before at s i) (λ p. IsBefore p r) → AllWithin (λ c. position_cmp (at c) r ≡ Less) s 0 i
    low zero within h k d l m = absurd (omega (arith, m))
    low (suc i) within h k d l m =
        let next : IsBefore (at (get_or s i d)) r = subst (λ o. IfSome o (λ p. IsBefore p r)) (place_within s i d (omega (arith, within))) h in
        elim (cases_lt k i) [
          | inl lt ↦ position_total.trans (at (get_or s k d)) (at (get_or s i d)) r (rising k i d lt (omega (arith, within))) next
          | inr ge ↦ (let same : i ≡ k = omega (arith, ge, m) in subst (λ j. IsBefore (at (get_or s j d)) r) same next)
        ]

    -- and the others after it
    high : (i : ℕ) → IfSome (place at s i) (λ q. IsBefore r q) → AllWithin (λ c. position_cmp (at c) r ≡ Greater) s i (length s)
    high i h k d l m =
        let next : IsBefore r (at (get_or s i d)) = subst (λ o. IfSome o (λ q. IsBefore r q)) (place_within s i d (omega (arith, l, m))) h in
        let after : IsBefore r (at (get_or s k d)) = elim (cases_lt i k) [
          | inl lt ↦ position_total.trans r (at (get_or s i d)) (at (get_or s k d)) next (rising i k d lt m)
          | inr ge ↦ (let same : i ≡ k = omega (arith, ge, l) in subst (λ j. IsBefore r (at (get_or s j d))) same next)
        ] in
        position_total.antisymm (at (get_or s k d)) r ∙ ap ordering_reverse after

    -- a thing between neighbours stands at their index
    pub inserted_between : (i : ℕ) (c : C) → i ≤ length s → IsBetween (place_before at s i) (place at s i) r → with_at at r (Some c) s ≡ insert s i c
    inserted_between i c within h = sym (inserted at r s i c (gap at r s rising i within (low i within h.after) (high i h.before)))

    -- a delete takes out the thing at its position
    pub removed_at : (i : ℕ) → place at s i ≡ Some r → with_at at r None s ≡ remove s i
    removed_at i h =
        let within : i < length s = place_some s i r h in
        let here : (d : C) → position_cmp (at (get_or s i d)) r ≡ Equal = λ d. ap (λ p. position_cmp p r) (place_is s i d r h) ∙ tied_itself position_total r in
        let found : IsStandingAt at r s i = standing at r s rising i within here in
        let last : i + 1 ≡ suc i = omega arith in
        ap₂ (λ (x y : List C). x ++ y) found.front (found.back ∙ ap (λ k. drop k s) last)

  -- what is made for a stamp is valid at it

  pub insert_valid : (p : Stamp) (i ch : ℕ) (s : List C) → IsStamp p → IsWithin p → IsScalar ch → All (λ c. IsPositionOf p.clock.n (at c)) s
      → length (position_between p.member (count p.clock p.member) (place_before at s i) (place at s i)) ≤ max_steps
      → IsInsertOf p (position_between p.member (count p.clock p.member) (place_before at s i) (place at s i)) ch
  insert_valid p i ch s stamp within scalar positions short =
      let n = p.clock.n in
      let seq = count p.clock p.member in
      record {
        within = within;
        position = record {
          steps = names_operations p.member seq (place_before at s i) (place at s i) n (places_before_of n s positions i) (places_of n s positions i)
              (record { below = stamp.member; counted = stamp.counted; within = within.each p.member });
          most = short;
        };
        own = maker_between p.member seq (place_before at s i) (place at s i);
        char = scalar;
      }

  pub delete_valid : (p : Stamp) (d : Clock) (i : ℕ) (s : List C) (a : List Step) → IsWithin p → d.n ≡ p.clock.n → IsAfter d p
      → All (λ c. IsPositionOf d.n (at c)) s → All (λ c. IsTrue (covers d (maker (at c)))) s → place at s i ≡ Some a → IsDeleteOf p a
  delete_valid p d i s a within same after positions known here =
      let old : IsTrue (covers d (maker a)) = some_of (λ q. IsTrue (covers d (maker q))) (place at s i) a (place_all (λ q. IsTrue (covers d (maker q))) s i known) here in
      record {
        within = within;
        position = subst (λ n. IsPositionOf n a) same (some_of (IsPositionOf d.n) (place at s i) a (places_of d.n s positions i) here);
        known = covers_later d p.clock (maker a) after.knows old;
        other = λ e. false≢true (sym after.new ∙ sym (ap (covers d) e) ∙ old);
      }
