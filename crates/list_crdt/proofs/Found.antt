-- What a search by position finds in a text.
use Rattle.std.proofs.Common.{◌≡◌, ℕ, zero, suc, ◌+◌, ◌≤◌, ◌<◌, inl, inr, Bool, true, false, cond, List, [], ◌∷◌, ◌++◌, length, get_or, take, drop, set, Some, Result, Ok, Err, refl, ap, ap₂, sym, ◌∙◌, arith}
use Rattle.std.specs.declared.cmp.Ordering.{Ordering}
use Rattle.std.specs.declared.cmp.Ordering.TheVariants.{Less, Equal, Greater}
use Rattle.std.specs.Ordering.{is_lt, is_gt, ordering_index, ordering_reverse}
use Rattle.std.specs.Prelude.{encode_utf8, encode_utf8_all, insert, map}
use Rattle.std.specs.List.{HoldsAt, AllWithin, filter}
use Rattle.std.proofs.lemmas.List.{append-nil, map_more}
use Rattle.std.proofs.lemmas.Str.{encodes-append}
use Rattle.std.specs.List.Sorted.{IsBinarySearchResult, IsNonDecreasingBy}
use Rattle.std.specs.Result.{MatchResult, IfOk, IfErr}
use Rattle.std.proofs.lemmas.Bool.{cases_lt}
use Rattle.list_crdt.specs.declared.position.Step.{Step}
use Rattle.list_crdt.specs.Position.{IsBefore, position_cmp}
use Rattle.list_crdt.specs.Order.{position_total, same_position}
use Rattle.list_crdt.specs.Cells.{IsRising, after, before, with_at, stands_after}
use Rattle.list_crdt.specs.Places.{IsGapAt, IsStandingAt}

-- a test that holds just of what stands before an index, or from it on

module _ {X : Type 0} (test : X → Bool) where
  filter-take : (xs : List X) (i : ℕ) → ((k : ℕ) (d : X) → k < i → k < length xs → test (get_or xs k d) ≡ true)
      → ((k : ℕ) (d : X) → i ≤ k → k < length xs → test (get_or xs k d) ≡ false) → filter test xs ≡ take i xs
  filter-take [] zero passes fails = refl
  filter-take [] (suc i) passes fails = refl
  filter-take (x ∷ xs) zero passes fails =
      ap (λ b. cond b (x ∷ filter test xs) (filter test xs)) (fails 0 x (omega arith) (omega arith))
      ∙ filter-take xs zero (λ k d h l. absurd (omega (arith, h))) (λ k d h l. fails (suc k) d (omega arith) (omega (arith, l)))
      ∙ none xs
    where
      none : (xs : List X) → take 0 xs ≡ []
      none [] = refl
      none (x ∷ xs) = refl
  filter-take (x ∷ xs) (suc i) passes fails =
      ap (λ b. cond b (x ∷ filter test xs) (filter test xs)) (passes 0 x (omega arith) (omega arith))
      ∙ ap (λ l. x ∷ l) (filter-take xs i (λ k d h l. passes (suc k) d (omega (arith, h)) (omega (arith, l))) (λ k d h l. fails (suc k) d (omega (arith, h)) (omega (arith, l))))

  filter-drop : (xs : List X) (i : ℕ) → ((k : ℕ) (d : X) → k < i → k < length xs → test (get_or xs k d) ≡ false)
      → ((k : ℕ) (d : X) → i ≤ k → k < length xs → test (get_or xs k d) ≡ true) → filter test xs ≡ drop i xs
  filter-drop [] zero fails passes = refl
  filter-drop [] (suc i) fails passes = refl
  filter-drop (x ∷ xs) zero fails passes =
      ap (λ b. cond b (x ∷ filter test xs) (filter test xs)) (passes 0 x (omega arith) (omega arith))
      ∙ ap (λ l. x ∷ l) (filter-drop xs zero (λ k d h l. absurd (omega (arith, h))) (λ k d h l. passes (suc k) d (omega arith) (omega (arith, l))) ∙ whole xs)
    where
      whole : (xs : List X) → drop 0 xs ≡ xs
      whole [] = refl
      whole (x ∷ xs) = refl
  filter-drop (x ∷ xs) (suc i) fails passes =
      ap (λ b. cond b (x ∷ filter test xs) (filter test xs)) (fails 0 x (omega arith) (omega arith))
      ∙ filter-drop xs i (λ k d h l. fails (suc k) d (omega (arith, h)) (omega (arith, l))) (λ k d h l. passes (suc k) d (omega (arith, h)) (omega (arith, l)))

module _ {C : Type 0} (at : C → List Step) (p : List Step) (s : List C) (rising : IsRising at s) where
  abbrev pub order : C → Ordering
  order c = position_cmp (at c) p

  -- the tests in one comparison
  turned : (c : C) → is_lt (position_cmp p (at c)) ≡ is_gt (order c)
  turned c = ap is_lt (position_total.antisymm p (at c)) ∙ by (order c)
    where
      by : (o : Ordering) → is_lt (ordering_reverse o) ≡ is_gt o
      by Less = refl
      by Equal = refl
      by Greater = refl

  front_is : (i : ℕ) → ((k : ℕ) (d : C) → k < i → k < length s → order (get_or s k d) ≡ Less)
      → ((k : ℕ) (d : C) → i ≤ k → k < length s → is_lt (order (get_or s k d)) ≡ false) → before at p s ≡ take i s
  front_is i passes fails = filter-take (λ (c : C). is_lt (order c)) s i (λ k d h l. ap is_lt (passes k d h l)) fails

  back_is : (i : ℕ) → ((k : ℕ) (d : C) → k < i → k < length s → is_gt (order (get_or s k d)) ≡ false)
      → ((k : ℕ) (d : C) → i ≤ k → k < length s → order (get_or s k d) ≡ Greater) → after at p s ≡ drop i s
  back_is i fails passes =
      filter-drop (stands_after at p) s i (λ k d h l. turned (get_or s k d) ∙ fails k d h l) (λ k d h l. turned (get_or s k d) ∙ ap is_gt (passes k d h l))

  -- what comes before the position's character is less, and what comes after it greater
  less_before : (a b : C) → IsBefore (at a) (at b) → order b ≡ Equal → order a ≡ Less
  less_before a b h e = ap (position_cmp (at a)) (sym (same_position (at b) p e)) ∙ h

  greater_after : (a b : C) → IsBefore (at a) (at b) → order a ≡ Equal → order b ≡ Greater
  greater_after a b h e = ap (position_cmp (at b)) (sym (same_position (at a) p e)) ∙ position_total.antisymm (at b) (at a) ∙ ap ordering_reverse h

  greater_still : (a b : C) → IsBefore (at a) (at b) → order a ≡ Greater → order b ≡ Greater
  greater_still a b h e =
      position_total.antisymm (at b) p ∙ ap ordering_reverse (position_total.trans p (at a) (at b) (position_total.antisymm p (at a) ∙ ap ordering_reverse e) h)

  index_rises : (a b : C) → IsBefore (at a) (at b) → ordering_index (order a) ≤ ordering_index (order b)
  index_rises a b h =
      (elim (order a) as (λ o. order a ≡ o → ordering_index o ≤ ordering_index (order b)) [
        | Less ↦ λ e. omega arith
        | Equal ↦ λ e. (let g = ap ordering_index (greater_after a b h e) in omega arith)
        | Greater ↦ λ e. (let g = ap ordering_index (greater_still a b h e) in omega arith)
      ]) refl

  non_decreasing : IsNonDecreasingBy (λ (c : C). ordering_index (order c)) s
  non_decreasing i j d h l =
      elim (cases_lt i j) [
        | inl lt ↦ index_rises (get_or s i d) (get_or s j d) (rising i j d lt l)
        | inr ge ↦ (let same : i ≡ j = omega (arith, ge, h) in let e = ap (λ k. ordering_index (order (get_or s k d))) same in omega arith)
      ]

  pub standing : (i : ℕ) → i < length s → HoldsAt (λ (c : C). order c ≡ Equal) s i → IsStandingAt at p s i
  standing i within here = record {
    within = within;
    here = λ d. same_position (at (get_or s i d)) p (here d);
    front = front_is i (λ k d h l. less_before (get_or s k d) (get_or s i d) (rising k i d h within) (here d))
        (λ k d h l. elim (cases_lt i k) [
          | inl lt ↦ ap is_lt (greater_after (get_or s i d) (get_or s k d) (rising i k d lt l) (here d))
          | inr ge ↦ (let same : k ≡ i = omega (arith, ge, h) in ap (λ j. is_lt (order (get_or s j d))) same ∙ ap is_lt (here d))
        ]);
    back = back_is (i + 1)
        (λ k d h l. elim (cases_lt k i) [
          | inl lt ↦ ap is_gt (less_before (get_or s k d) (get_or s i d) (rising k i d lt within) (here d))
          | inr ge ↦ (let same : k ≡ i = omega (arith, ge, h) in ap (λ j. is_gt (order (get_or s j d))) same ∙ ap is_gt (here d))
        ])
        (λ k d h l. greater_after (get_or s i d) (get_or s k d) (rising i k d (omega (arith, h)) l) (here d));
  }

  pub gap : (i : ℕ) → i ≤ length s → AllWithin (λ (c : C). order c ≡ Less) s 0 i → AllWithin (λ (c : C). order c ≡ Greater) s i (length s) → IsGapAt at p s i
  gap i within low high = record {
    within = within;
    front = front_is i (λ k d h l. low k d (omega arith) h) (λ k d h l. ap is_lt (high k d h l));
    back = back_is i (λ k d h l. ap is_gt (low k d (omega arith) h)) (λ k d h l. high k d h l);
  }

  pub found : (r : Result ℕ ℕ) → MatchResult r (λ i. i < length s) (λ i. i ≤ length s) → IsBinarySearchResult order s r → IfOk r (IsStandingAt at p s) × IfErr r (IsGapAt at p s)
  found (Ok i) within h = (standing i within h, tt)
  found (Err i) within h = (tt, (let parts = h non_decreasing in gap i within parts.0 parts.1))

-- what edits of the list give

module _ {X : Type 0} (x : X) where
  set_parts : (xs : List X) (i : ℕ) → i < length xs → set xs i x ≡ take i xs ++ (x ∷ drop (suc i) xs)
  set_parts [] i h = absurd (omega (arith, h))
  set_parts (y ∷ ys) zero h = refl
  set_parts (y ∷ ys) (suc i) h = ap (λ l. y ∷ l) (set_parts ys i (omega (arith, h)))

module _ {C : Type 0} (at : C → List Step) where
  pub replaced : (p : List Step) (s : List C) (i : ℕ) (c : C) → IsStandingAt at p s i → set s i c ≡ with_at at p (Some c) s
  replaced p s i c h =
      let last : suc i ≡ i + 1 = omega arith in
      set_parts c s i h.within
      ∙ ap (λ k. take i s ++ (c ∷ drop k s)) last
      ∙ ap₂ (λ (x y : List C). x ++ (c ∷ y)) (sym h.front) (sym h.back)

  pub inserted : (p : List Step) (s : List C) (i : ℕ) (c : C) → IsGapAt at p s i → insert s i c ≡ with_at at p (Some c) s
  inserted p s i c h = ap₂ (λ (x y : List C). x ++ (c ∷ y)) (sym h.front) (sym h.back)

-- what is shown, a character more
pub shown_more : {C : Type 0} (f : C → ℕ) (s : List C) (i : ℕ) (c : C) (old new : List ℕ) → i < length s → c ≡ get_or s i c
    → old ≡ encode_utf8_all (map f (take i s)) → new ≡ old ++ encode_utf8 (f c)
    → new ≡ encode_utf8_all (map f (take (i + 1) s))
shown_more {C} f s i c old new l e h k =
    k ∙ ap₂ (λ (x y : List ℕ). x ++ y) h (sym (append-nil (encode_utf8 (f c))) ∙ ap (λ (x : C). encode_utf8 (f x) ++ []) e)
    ∙ sym (ap encode_utf8_all (map_more f s i c l) ∙ encodes-append (map f (take i s)) (f (get_or s i c) ∷ []))
