-- Positions are totally ordered.
use Rattle.std.proofs.Common.{◌≡◌, ℕ, List, [], ◌∷◌, refl, sym, ap, ap₂, ◌∙◌, true, arith}
use Rattle.std.proofs.lemmas.Bool.Decides.{nat_tests}
use Rattle.std.specs.declared.cmp.Ordering.{Ordering}
use Rattle.std.specs.declared.cmp.Ordering.TheVariants.{Less, Equal, Greater}
use Rattle.std.specs.Cmp.{IsTotalOrder, IsEquivalence, IsPartialEquivalence, IsPartialOrder, partial_equiv_from_equiv, on_total, then_total, nat_cmp_total, eq_by_cmp_equiv, po, tied_itself}
use Rattle.std.specs.Ordering.{eq_by_cmp, as_partial_cmp, is_eq, nat_cmp, ordering_then}
use Rattle.std.specs.Cmp.Lexicographic.{lists_total}
use Rattle.list_crdt.specs.declared.position.Step.{Step}
use Rattle.list_crdt.specs.Position.{step_cmp, position_cmp}

pub step_total : IsTotalOrder step_cmp
step_total = then_total (on_total (λ (s : Step). s.digit) nat_cmp_total) (then_total (on_total (λ (s : Step). s.member) nat_cmp_total) (on_total (λ (s : Step). s.seq) nat_cmp_total))

pub position_total : IsTotalOrder position_cmp
position_total = lists_total step_total

pub equivalence : IsEquivalence (eq_by_cmp position_cmp)
equivalence = eq_by_cmp_equiv position_total

pub equal_laws : IsPartialEquivalence (eq_by_cmp position_cmp)
equal_laws = partial_equiv_from_equiv equivalence

pub partial : IsPartialOrder (eq_by_cmp position_cmp) (as_partial_cmp position_cmp)
partial = po position_total (λ x y. refl)

-- steps and positions that compare as equal are the same

same_number : (a b : ℕ) → nat_cmp a b ≡ Equal → a ≡ b
same_number a b h = grind (arith, nat_tests)

same_fields : (s t : Step) → s.digit ≡ t.digit → s.member ≡ t.member → s.seq ≡ t.seq → s ≡ t
same_fields s t d m q = λ i. record { digit = d i; member = m i; seq = q i }

first_equal : (a b : Ordering) → ordering_then a b ≡ Equal → (a ≡ Equal) × (b ≡ Equal)
first_equal Less b h = absurd (let e : Less ≡ Equal = h in cc)
first_equal Equal b h = (refl, h)
first_equal Greater b h = absurd (let e : Greater ≡ Equal = h in cc)

pub same_step : (s t : Step) → step_cmp s t ≡ Equal → s ≡ t
same_step s t h =
    let one = first_equal (nat_cmp s.digit t.digit) _ h in
    let two = first_equal (nat_cmp s.member t.member) (nat_cmp s.seq t.seq) one.1 in
    same_fields s t (same_number _ _ one.0) (same_number _ _ two.0) (same_number _ _ two.1)

pub same_position : (p q : List Step) → position_cmp p q ≡ Equal → p ≡ q
same_position [] [] h = refl
same_position [] (t ∷ q) h = absurd (let e : Less ≡ Equal = h in cc)
same_position (s ∷ p) [] h = absurd (let e : Greater ≡ Equal = h in cc)
same_position (s ∷ p) (t ∷ q) h =
    let one = first_equal (step_cmp s t) (position_cmp p q) h in
    ap₂ (λ (x : Step) (y : List Step). x ∷ y) (same_step s t one.0) (same_position p q one.1)

pub same_from_test : (p q : List Step) → eq_by_cmp position_cmp p q ≡ true → p ≡ q
same_from_test p q h = same_position p q (by (position_cmp p q) h)
  where
    by : (o : Ordering) → is_eq o ≡ true → o ≡ Equal
    by Less h = cc
    by Equal h = refl
    by Greater h = cc

pub test_of_same : (p q : List Step) → p ≡ q → eq_by_cmp position_cmp p q ≡ true
test_of_same p q h = ap (λ r. eq_by_cmp position_cmp p r) (sym h) ∙ ap is_eq (tied_itself position_total p)
