-- The order of cases, and that a table has one verdict.
use Rattle.std.specs.Prelude.{◌≡◌, ◌≢◌, ◌<◌, ◌≤◌, IsTrue}
use Rattle.std.proofs.Common.{refl, sym, ap, arith, inl, inr}
use Rattle.std.proofs.lemmas.Bool.{cases_order}
use Rattle.std.proofs.lemmas.Bool.Decides.{nat_tests}
use Rattle.action_tables.specs.declared.table.Verdict.{Verdict}
use Rattle.action_tables.specs.declared.table.Verdict.TheVariants.{Lawful, Broken}
use Rattle.action_tables.specs.Table.{ActionTable, Case, case_of, IsFirstBroken, is_earlier}
use Rattle.action_tables.specs.Verdict.{IsVerdict}
use Rattle.action_tables.proofs.Cases.{stable, later_law, later_a, later_b, later_c}

-- what an earlier case says of each number in turn
law_le : (j k : Case) → IsTrue (is_earlier j k) → j.law ≤ k.law
law_le j k h = grind (arith, nat_tests)

a_le : (j k : Case) → IsTrue (is_earlier j k) → j.law ≡ k.law → j.a ≤ k.a
a_le j k h law = grind (arith, nat_tests)

b_le : (j k : Case) → IsTrue (is_earlier j k) → j.law ≡ k.law → j.a ≡ k.a → j.b ≤ k.b
b_le j k h law a = grind (arith, nat_tests)

c_lt : (j k : Case) → IsTrue (is_earlier j k) → j.law ≡ k.law → j.a ≡ k.a → j.b ≡ k.b → j.c < k.c
c_lt j k h law a b = grind (arith, nat_tests)

pub asymmetric : (j k : Case) → IsTrue (is_earlier j k) → IsTrue (is_earlier k j) → ⊥
asymmetric j k one two =
    let law : j.law ≡ k.law = omega (arith, law_le j k one, law_le k j two) in
    let a : j.a ≡ k.a = omega (arith, a_le j k one law, a_le k j two (sym law)) in
    let b : j.b ≡ k.b = omega (arith, b_le j k one law a, b_le k j two (sym law) (sym a)) in
    omega (arith, c_lt j k one law a b, c_lt k j two (sym law) (sym a) (sym b))

pub transitive : (i j k : Case) → IsTrue (is_earlier i j) → IsTrue (is_earlier j k) → IsTrue (is_earlier i k)
transitive i j k one two =
    elim (cases_order i.law k.law) [
      | inr (inl low) ↦ later_law k i.law i.a i.b i.c low
      | inr (inr high) ↦ absurd (omega (arith, law_le i j one, law_le j k two))
      | inl law ↦
          let same : i.law ≡ j.law = omega (arith, law_le i j one, law_le j k two) in
          let same' : j.law ≡ k.law = omega (arith, law_le i j one, law_le j k two) in
          elim (cases_order i.a k.a) [
            | inr (inl low) ↦ later_a k i.law i.a i.b i.c (sym law) low
            | inr (inr high) ↦ absurd (omega (arith, a_le i j one same, a_le j k two same'))
            | inl a ↦
                let same_a : i.a ≡ j.a = omega (arith, a_le i j one same, a_le j k two same') in
                let same_a' : j.a ≡ k.a = omega (arith, a_le i j one same, a_le j k two same') in
                elim (cases_order i.b k.b) [
                  | inr (inl low) ↦ later_b k i.law i.a i.b i.c (sym law) (sym a) low
                  | inr (inr high) ↦ absurd (omega (arith, b_le i j one same same_a, b_le j k two same' same_a'))
                  | inl b ↦
                      let same_b : i.b ≡ j.b = omega (arith, b_le i j one same same_a, b_le j k two same' same_a') in
                      let same_b' : j.b ≡ k.b = omega (arith, b_le i j one same same_a, b_le j k two same' same_a') in
                      later_c k i.law i.a i.b i.c (sym law) (sym a) (sym b)
                      (omega (arith, c_lt i j one same same_a same_b, c_lt j k two same' same_a' same_b'))
                ]
          ]
    ]

-- two first broken cases are one
first_alike : (t : ActionTable) (j k : Case) → IsFirstBroken t j → IsFirstBroken t k → ¬ (j ≢ k)
first_alike t j k one two other =
    asymmetric j k (one.others k two.broken (λ e. other (sym e))) (two.others j one.broken other)

pub one_verdict_lem : (t : ActionTable) (v w : Verdict) → IsVerdict t v → IsVerdict t w → v ≡ w
one_verdict_lem t Lawful Lawful none none' = refl
one_verdict_lem t Lawful (Broken law a b c) none first = absurd (none (case_of law a b c) first.broken)
one_verdict_lem t (Broken law a b c) Lawful first none = absurd (none (case_of law a b c) first.broken)
one_verdict_lem t (Broken law a b c) (Broken law' a' b' c') one two =
    let alike = first_alike t (case_of law a b c) (case_of law' a' b' c') one two in
    let e : law ≡ law' = stable law law' (λ no. alike (λ e. no (ap (λ k. k.law) e))) in
    let f : a ≡ a' = stable a a' (λ no. alike (λ e. no (ap (λ k. k.a) e))) in
    let g : b ≡ b' = stable b b' (λ no. alike (λ e. no (ap (λ k. k.b) e))) in
    let h : c ≡ c' = stable c c' (λ no. alike (λ e. no (ap (λ k. k.c) e))) in
    cc
