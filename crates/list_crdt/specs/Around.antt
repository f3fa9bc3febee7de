-- What stands before a position and after it: edits at different positions commute.
use Rattle.std.specs.Prelude.{◌≡◌, suc, Bool, true, false, List, [], ◌∷◌, ◌++◌, Option, None, Some, IfSome}
use Rattle.std.proofs.Common.{refl, sym, ap, ap₂, ◌∙◌, cond, subst, arith, append_assoc}
use Rattle.std.specs.declared.cmp.Ordering.{Ordering}
use Rattle.std.specs.declared.cmp.Ordering.TheVariants.{Less, Equal, Greater}
use Rattle.std.specs.Ordering.{is_lt, ordering_reverse}
use Rattle.std.specs.List.{All, AllPairs, filter}
use Rattle.std.proofs.lemmas.List.{append-nil}
use Rattle.std.proofs.lemmas.List.Elements.{All-append, All-cons, All-nil, All-filter, All-head, All-tail, filter-append, filter_passes, All-weaker}
use Rattle.std.proofs.lemmas.List.Kept.{AllPairs-cons, AllPairs-filter}
use Rattle.list_crdt.specs.declared.position.Step.{Step}
use Rattle.list_crdt.specs.Position.{IsBefore, position_cmp}
use Rattle.list_crdt.specs.Order.{position_total, same_position}
use Rattle.list_crdt.specs.Cells.{IsRising, after, before, cells_of, with_at, stands_after, stands_before}

-- filters

module _ {X : Type 0} (p q : X → Bool) where
  filter_swap : (xs : List X) → filter p (filter q xs) ≡ filter q (filter p xs)
  filter_swap [] = refl
  filter_swap (x ∷ xs) = let ih : filter p (filter q xs) ≡ filter q (filter p xs) = filter_swap xs in grind (arith, ih)

  filter_again : ((x : X) → p x ≡ true → q x ≡ true) → (xs : List X) → filter q (filter p xs) ≡ filter p xs
  filter_again f [] = refl
  filter_again f (x ∷ xs) = let ih : filter q (filter p xs) ≡ filter p xs = filter_again f xs in let g : (p x ≡ true → q x ≡ true) = f x in grind (arith, ih)

  filter_other : ((x : X) → p x ≡ true → q x ≡ false) → (xs : List X) → filter q (filter p xs) ≡ []
  filter_other f [] = refl
  filter_other f (x ∷ xs) = let ih : filter q (filter p xs) ≡ [] = filter_other f xs in let g : (p x ≡ true → q x ≡ false) = f x in grind (arith, ih)

-- the order of positions

pub less_from_test : (o : Ordering) → is_lt o ≡ true → o ≡ Less
less_from_test Less h = refl
less_from_test Equal h = cc
less_from_test Greater h = cc

pub before_trans : (p q r : List Step) → IsBefore p q → IsBefore q r → IsBefore p r
before_trans = position_total.trans

pub not_after : (p q : List Step) → IsBefore p q → is_lt (position_cmp q p) ≡ false
not_after p q h = ap is_lt (position_total.antisymm q p ∙ ap ordering_reverse h)

not_both : (p q r : List Step) → IsBefore p q → is_lt (position_cmp r p) ≡ true → is_lt (position_cmp q r) ≡ false
not_both p q r h k = not_after r q (before_trans r p q (less_from_test _ k) h)

not_both_after : (p q r : List Step) → IsBefore p q → is_lt (position_cmp q r) ≡ true → is_lt (position_cmp r p) ≡ false
not_both_after p q r h k = not_after p r (before_trans p q r h (less_from_test _ k))

-- what a test leaves of the thing at a position
filter_cells : {C : Type 0} (test : C → Bool) (b : Bool) (o : Option C) → IfSome o (λ c. test c ≡ b) → filter test (cells_of o) ≡ cond b (cells_of o) []
filter_cells test true None f = refl
filter_cells test false None f = refl
filter_cells test true (Some c) f = ap (λ b. cond b (c ∷ []) []) f
filter_cells test false (Some c) f = ap (λ b. cond b (c ∷ []) []) f

if_some : {C : Type 0} (P Q : C → Type 0) (o : Option C) → ((c : C) → P c → Q c) → IfSome o P → IfSome o Q
if_some P Q None f h = tt
if_some P Q (Some c) f h = f c h

module _ {C : Type 0} (at : C → List Step) where
  -- the thing, if there is one, is at the position
  abbrev pub IsAt : List Step → Option C → Type 0
  IsAt p o = IfSome o (λ c. at c ≡ p)

  -- what an edit at p leaves before a later q and after it, and what an edit at q leaves before p and after it
  module _ (p q : List Step) (h : IsBefore p q) (m k : Option C) (m_at : IsAt p m) (k_at : IsAt q k) (s : List C) where
    abbrev mid : List C
    mid = before at q (after at p s)

    parts : (test : C → Bool) (a b c : List C) → filter test (a ++ (b ++ c)) ≡ filter test a ++ (filter test b ++ filter test c)
    parts test a b c = filter-append test a (b ++ c) ∙ ap (λ x. filter test a ++ x) (filter-append test b c)

    before_q : before at q (with_at at p m s) ≡ before at p s ++ (cells_of m ++ mid)
    before_q =
        parts _ (before at p s) (cells_of m) (after at p s)
        ∙ ap₂ (λ (x y : List C). x ++ (y ++ mid))
        (filter_again (stands_before at p) (stands_before at q) (λ c t. ap is_lt (before_trans (at c) p q (less_from_test _ t) h)) s)
        (filter_cells (stands_before at q) true m (if_some _ (λ c. stands_before at q c ≡ true) m (λ c e. ap (λ x. is_lt (position_cmp x q)) e ∙ ap is_lt h) m_at))

    after_q : after at q (with_at at p m s) ≡ after at q s
    after_q =
        parts _ (before at p s) (cells_of m) (after at p s)
        ∙ ap₂ (λ (x y : List C). x ++ (y ++ after at q (after at p s)))
        (filter_other (stands_before at p) (stands_after at q) (λ c t. not_both p q (at c) h t) s)
        (filter_cells (stands_after at q) false m (if_some _ (λ c. stands_after at q c ≡ false) m (λ c e. ap (λ x. is_lt (position_cmp q x)) e ∙ not_after p q h) m_at))
        ∙ filter_swap (stands_after at q) (stands_after at p) s
        ∙ filter_again (stands_after at q) (stands_after at p) (λ c t. ap is_lt (before_trans p q (at c) h (less_from_test _ t))) s

    before_p : before at p (with_at at q k s) ≡ before at p s
    before_p =
        parts _ (before at q s) (cells_of k) (after at q s)
        ∙ ap₂ (λ (x y : List C). before at p (before at q s) ++ (x ++ y))
        (filter_cells (stands_before at p) false k (if_some _ (λ c. stands_before at p c ≡ false) k (λ c e. ap (λ x. is_lt (position_cmp x p)) e ∙ not_after p q h) k_at))
        (filter_other (stands_after at q) (stands_before at p) (λ c t. not_both_after p q (at c) h t) s)
        ∙ append-nil (before at p (before at q s))
        ∙ filter_swap (stands_before at p) (stands_before at q) s
        ∙ filter_again (stands_before at p) (stands_before at q) (λ c t. ap is_lt (before_trans (at c) p q (less_from_test _ t) h)) s

    after_p : after at p (with_at at q k s) ≡ mid ++ (cells_of k ++ after at q s)
    after_p =
        parts _ (before at q s) (cells_of k) (after at q s)
        ∙ ap₂ (λ (x y : List C). after at p (before at q s) ++ (x ++ y))
        (filter_cells (stands_after at p) true k (if_some _ (λ c. stands_after at p c ≡ true) k (λ c e. ap (λ x. is_lt (position_cmp p x)) e ∙ ap is_lt h) k_at))
        (filter_again (stands_after at q) (stands_after at p) (λ c t. ap is_lt (before_trans p q (at c) h (less_from_test _ t))) s)
        ∙ ap (λ x. x ++ (cells_of k ++ after at q s)) (filter_swap (stands_after at p) (stands_before at q) s)

    pub edits_apart : with_at at q k (with_at at p m s) ≡ with_at at p m (with_at at q k s)
    edits_apart =
        ap₂ (λ (x y : List C). x ++ (cells_of k ++ y)) before_q after_q
        ∙ append_assoc (before at p s) (cells_of m ++ mid) (cells_of k ++ after at q s)
        ∙ ap (λ x. before at p s ++ x) (append_assoc (cells_of m) mid (cells_of k ++ after at q s))
        ∙ sym (ap₂ (λ (x y : List C). x ++ (cells_of m ++ y)) before_p after_p)

  -- and so do edits at positions that differ
  pub any_order : (p q : List Step) (m k : Option C) → IsAt p m → IsAt q k → (s : List C) → (p ≡ q → ⊥) → with_at at q k (with_at at p m s) ≡ with_at at p m (with_at at q k s)
  any_order p q m k m_at k_at s d =
      (elim (position_cmp p q) as (λ o. position_cmp p q ≡ o → with_at at q k (with_at at p m s) ≡ with_at at p m (with_at at q k s)) [
        | Less ↦ λ e. edits_apart p q e m k m_at k_at s
        | Equal ↦ λ e. absurd (d (same_position p q e))
        | Greater ↦ λ e. sym (edits_apart q p (position_total.antisymm q p ∙ ap ordering_reverse e) k m k_at m_at s)
      ]) refl

  -- deletes may come in either order, at one position too
  pub deletes_swap : (p q : List Step) (s : List C) → with_at at q None (with_at at p None s) ≡ with_at at p None (with_at at q None s)
  deletes_swap p q s =
      (elim (position_cmp p q) as (λ o. position_cmp p q ≡ o → with_at at q None (with_at at p None s) ≡ with_at at p None (with_at at q None s)) [
        | Less ↦ λ e. edits_apart p q e None None tt tt s
        | Equal ↦ λ e. (let same = same_position p q e in ap₂ (λ (x y : List Step). with_at at x None (with_at at y None s)) (sym same) same)
        | Greater ↦ λ e. sym (edits_apart q p (position_total.antisymm q p ∙ ap ordering_reverse e) None None tt tt s)
      ]) refl

  -- an edit keeps what all things have

  module _ (P : C → Type 0) (p : List Step) (o : Option C) (own : IfSome o P) (s : List C) (all : All P s) where
    own_cells : All P (cells_of o)
    own_cells = by o own
      where
        by : (o : Option C) → IfSome o P → All P (cells_of o)
        by None f = All-nil P
        by (Some c) f = All-cons P c [] f (All-nil P)

    pub all-with_at : All P (with_at at p o s)
    all-with_at =
        All-append P (before at p s) (cells_of o ++ after at p s) (All-filter (stands_before at p) P s all)
        (All-append P (cells_of o) (after at p s) own_cells (All-filter (stands_after at p) P s all))

-- and the order

module _ {X : Type 0} (R : X → X → Type 0) where
  pairs-append : (xs ys : List X) → AllPairs R xs → AllPairs R ys → All (λ x. All (R x) ys) xs → AllPairs R (xs ++ ys)
  pairs-append [] ys h k f = k
  pairs-append (x ∷ xs) ys h k f =
      AllPairs-cons R x (xs ++ ys)
      (All-append (R x) xs ys (λ i d l. h 0 (suc i) d (omega arith) (omega (arith, l))) (All-head (λ x. All (R x) ys) x xs f))
      (pairs-append xs ys (λ i j d l m. h (suc i) (suc j) d (omega (arith, l)) (omega (arith, m))) k (All-tail (λ x. All (R x) ys) x xs f))

module _ {C : Type 0} (at : C → List Step) (p : List Step) (s : List C) where
  before_all : All (λ c. IsBefore (at c) p) (before at p s)
  before_all = All-weaker _ (λ (c : C). IsBefore (at c) p) (λ c t. less_from_test _ t) (before at p s) (filter_passes (stands_before at p) s)

  after_all : All (λ c. IsBefore p (at c)) (after at p s)
  after_all = All-weaker _ (λ (c : C). IsBefore p (at c)) (λ c t. less_from_test _ t) (after at p s) (filter_passes (stands_after at p) s)

  far_after : (a : List Step) → IsBefore a p → All (λ d. IsBefore a (at d)) (after at p s)
  far_after a h = All-weaker _ (λ (d : C). IsBefore a (at d)) (λ d k. before_trans a p (at d) h k) (after at p s) after_all

  rising-rest : (o : Option C) → IsAt at p o → IsRising at s → IsRising at (cells_of o ++ after at p s)
  rising-rest None e h = AllPairs-filter (λ (a b : C). IsBefore (at a) (at b)) (stands_after at p) s h
  rising-rest (Some c) e h =
      AllPairs-cons (λ (a b : C). IsBefore (at a) (at b)) c (after at p s)
      (subst (λ x. All (λ d. IsBefore x (at d)) (after at p s)) (sym e) after_all) (AllPairs-filter (λ (a b : C). IsBefore (at a) (at b)) (stands_after at p) s h)

  rest_after : (o : Option C) → IsAt at p o → (a : List Step) → IsBefore a p → All (λ d. IsBefore a (at d)) (cells_of o ++ after at p s)
  rest_after None e a h = far_after a h
  rest_after (Some c) e a h = All-cons (λ (d : C). IsBefore a (at d)) c (after at p s) (subst (λ x. IsBefore a x) (sym e) h) (far_after a h)

  pub rising-with_at : (o : Option C) → IsAt at p o → IsRising at s → IsRising at (with_at at p o s)
  rising-with_at o e h =
      pairs-append (λ (a b : C). IsBefore (at a) (at b)) (before at p s) (cells_of o ++ after at p s)
      (AllPairs-filter (λ (a b : C). IsBefore (at a) (at b)) (stands_before at p) s h)
      (rising-rest o e h)
      (All-weaker _ (λ (c : C). All (λ d. IsBefore (at c) (at d)) (cells_of o ++ after at p s)) (λ c k. rest_after o e (at c) k) (before at p s) before_all)
