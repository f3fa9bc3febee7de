-- The cases of the laws: that all hold is that the table keeps the laws, and what a search case by case has found.
use Rattle.std.specs.Prelude.{◌≡◌, ◌≢◌, ◌↔◌, ℕ, ◌<◌, ◌≤◌, IsTrue}
use Rattle.std.proofs.Common.{refl, subst, arith, inl, inr}
use Rattle.std.proofs.lemmas.Bool.{cases_eq, cases_order}
use Rattle.std.proofs.lemmas.Bool.Decides.{nat_tests}
use Rattle.action_tables.specs.Table.{ActionTable, KeepsLaws, Case, case_of, IsCase, Holds, IsBroken, IsFirstBroken, is_earlier, third_count}
use Rattle.action_tables.specs.Verdict.{HoldsEach, IsFirst}

-- numbers that are not different are equal
pub stable : (m n : ℕ) → ¬ (¬ (m ≡ n)) → m ≡ n
stable m n h = elim (cases_eq m n) [ inl same ↦ same | inr other ↦ absurd (h other) ]

-- a case of a later law, or of the same one and at later places, is later
pub later_law : (j : Case) (law a b c : ℕ) → law < j.law → IsTrue (is_earlier (case_of law a b c) j)
later_law j law a b c high = grind (arith, nat_tests)

pub later_a : (j : Case) (law a b c : ℕ) → j.law ≡ law → a < j.a → IsTrue (is_earlier (case_of law a b c) j)
later_a j law a b c same high = grind (arith, nat_tests)

pub later_b : (j : Case) (law a b c : ℕ) → j.law ≡ law → j.a ≡ a → b < j.b → IsTrue (is_earlier (case_of law a b c) j)
later_b j law a b c same same_a high = grind (arith, nat_tests)

pub later_c : (j : Case) (law a b c : ℕ) → j.law ≡ law → j.a ≡ a → j.b ≡ b → c < j.c
    → IsTrue (is_earlier (case_of law a b c) j)
later_c j law a b c same same_a same_b high = grind (arith, nat_tests)

module _ (t : ActionTable) where
  -- where the table keeps the laws, each case holds
  pub laws_hold : KeepsLaws t → (k : Case) → IsCase t k → Holds t k
  laws_hold keeps k case = record {
    upward = λ _. keeps.upward k.a k.b case.a case.b;
    commute = λ law. keeps.commute k.a k.b k.c case.a case.b (subst (λ n. k.c < third_count t n) law case.c);
    exchange = λ law. keeps.exchange k.a k.b k.c case.a case.b (subst (λ n. k.c < third_count t n) law case.c);
    act_alike = λ law. keeps.act_alike k.a k.b k.c case.a case.b (subst (λ n. k.c < third_count t n) law case.c);
    distribute = λ law. keeps.distribute k.a k.b k.c case.a case.b (subst (λ n. k.c < third_count t n) law case.c);
  }

  -- and where each case holds, it keeps the laws
  pub laws_of_cases : ((k : Case) → IsCase t k → Holds t k) → KeepsLaws t
  laws_of_cases each = record {
    upward = λ y x h j. (each (case_of 1 y x 0)
        (record { first_law = omega arith; last_law = omega arith; a = h; b = j; c = omega arith })).upward refl;
    commute = λ x y s h j l. (each (case_of 2 x y s)
        (record { first_law = omega arith; last_law = omega arith; a = h; b = j; c = l })).commute refl;
    exchange = λ y x s h j l. (each (case_of 3 y x s)
        (record { first_law = omega arith; last_law = omega arith; a = h; b = j; c = l })).exchange refl;
    act_alike = λ y v x h j l. (each (case_of 4 y v x)
        (record { first_law = omega arith; last_law = omega arith; a = h; b = j; c = l })).act_alike refl;
    distribute = λ z y x h j l. (each (case_of 5 z y x)
        (record { first_law = omega arith; last_law = omega arith; a = h; b = j; c = l })).distribute refl;
  }

  -- a case that is not broken holds
  pub holds_where : (k : Case) → ¬ (¬ Holds t k) → Holds t k
  holds_where k h = record {
    upward = λ law. record {
      level = stable _ _ (λ no. h (λ holds. no (holds.upward law).level));
      below = λ below. stable _ _ (λ no. h (λ holds. no ((holds.upward law).below below)));
    };
    commute = λ law level. stable _ _ (λ no. h (λ holds. no (holds.commute law level)));
    exchange = λ law level. stable _ _ (λ no. h (λ holds. no (holds.exchange law level)));
    act_alike = λ law same level. stable _ _ (λ no. h (λ holds. no (holds.act_alike law same level)));
    distribute = λ law low high. stable _ _ (λ no. h (λ holds. no (holds.distribute law low high)));
  }

  -- no case is broken exactly where the table keeps the laws
  pub none_broken : ((k : Case) → ¬ IsBroken t k) ↔ KeepsLaws t
  none_broken = (
    (λ none. laws_of_cases (λ k case. holds_where k (λ no. none k (record { case = case; fails = no })))),
    (λ keeps k broken. broken.fails (laws_hold keeps k broken.case)),
  )

  -- the first case that was found broken, after laws that hold at each case
  module _ (law a b c : ℕ) (first : IsFirst t law a b c) (laws : (i : ℕ) → 1 ≤ i → i < law → HoldsEach t i) where
    -- the same law, and an earlier first place
    holds_a : (j : Case) → IsCase t j → j.law ≡ law → j.a < a → Holds t j
    holds_a j case same low =
        let third : j.c < third_count t law = subst (λ n. j.c < third_count t n) same case.c in
        let whole : case_of law j.a j.b j.c ≡ case_of j.law j.a j.b j.c = cc in
        subst (λ k. Holds t k) whole (first.before_a j.a j.b j.c low case.b third)

    -- the same first place too, and an earlier second one
    holds_b : (j : Case) → IsCase t j → j.law ≡ law → j.a ≡ a → j.b < b → Holds t j
    holds_b j case same same_a low =
        let third : j.c < third_count t law = subst (λ n. j.c < third_count t n) same case.c in
        let whole : case_of law a j.b j.c ≡ case_of j.law j.a j.b j.c = cc in
        subst (λ k. Holds t k) whole (first.before_b j.b j.c low third)

    -- and an earlier third one
    holds_c : (j : Case) → j.law ≡ law → j.a ≡ a → j.b ≡ b → j.c < c → Holds t j
    holds_c j same same_a same_b low =
        let whole : case_of law a b j.c ≡ case_of j.law j.a j.b j.c = cc in
        subst (λ k. Holds t k) whole (first.before_c j.c low)

    -- each other case that is broken comes later
    others : (j : Case) → IsBroken t j → j ≢ case_of law a b c → IsTrue (is_earlier (case_of law a b c) j)
    others j broken other =
        elim (cases_order j.law law) [
          | inr (inl low) ↦ absurd (broken.fails
              (laws j.law broken.case.first_law low j.a j.b j.c broken.case.a broken.case.b broken.case.c))
          | inr (inr high) ↦ later_law j law a b c high
          | inl same ↦ elim (cases_order j.a a) [
            | inr (inl low) ↦ absurd (broken.fails (holds_a j broken.case same low))
            | inr (inr high) ↦ later_a j law a b c same high
            | inl same_a ↦ elim (cases_order j.b b) [
              | inr (inl low) ↦ absurd (broken.fails (holds_b j broken.case same same_a low))
              | inr (inr high) ↦ later_b j law a b c same same_a high
              | inl same_b ↦ elim (cases_order j.c c) [
                | inr (inl low) ↦ absurd (broken.fails (holds_c j same same_a same_b low))
                | inr (inr high) ↦ later_c j law a b c same same_a same_b high
                | inl same_c ↦ absurd (other (let whole : case_of j.law j.a j.b j.c ≡ case_of law a b c = cc in whole))
              ]
            ]
          ]
        ]

    pub found : IsFirstBroken t (case_of law a b c)
    found = record { broken = record { case = first.case; fails = first.fails }; others = others }
