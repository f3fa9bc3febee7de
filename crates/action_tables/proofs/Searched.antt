-- Each table has a verdict: whether a law holds at a case can be told, and the cases are gone through in their order.
use Rattle.std.specs.Prelude.{◌≡◌, ℕ, zero, suc, ◌+◌, ◌<◌, ◌≤◌, ◌⊎◌}
use Rattle.std.proofs.Common.{arith, inl, inr, subst, sym}
use Rattle.std.proofs.Math.Decide.{dec_le, dec_lt, map_dec}
use Rattle.std.proofs.lemmas.Bool.{cases_eq}
use Rattle.action_tables.specs.declared.table.Verdict.{Verdict}
use Rattle.action_tables.specs.declared.table.Verdict.TheVariants.{Lawful, Broken}
use Rattle.action_tables.specs.Table.{ActionTable, ActAlike, ActsUpward, Case, Commute, Distribute, Exchange, Holds, IsBroken, act_of, case_of, level_of, next_of, op_count, third_count}
use Rattle.action_tables.specs.Verdict.{HoldsEach, IsFirst, IsVerdict}
use Rattle.action_tables.proofs.Cases.{found, holds_where}
use Rattle.action_tables.proofs.Decided.{both, first, same}

implies : {P Q : Type 0} → Dec P → Dec Q → Dec (P → Q)
implies (yes p) (yes q) = yes (λ _. q)
implies (yes p) (no n) = no (λ f. n (f p))
implies (no n) d = yes (λ p. absurd (n p))

module _ (t : ActionTable) where
  upward : (y x : ℕ) → Dec (ActsUpward t y x)
  upward y x =
      map_dec (λ h. record { level = h.0; below = h.1 }) (λ h. (h.level, h.below))
      (both (same (level_of t (act_of t y x)) (level_of t x)) (implies (dec_le (level_of t y) (level_of t x)) (same (act_of t y x) x)))

  commute : (x y s : ℕ) → Dec (Commute t x y s)
  commute x y s = implies (same (level_of t x) (level_of t y)) (same (next_of t (next_of t s x) y) (next_of t (next_of t s y) x))

  exchange : (y x s : ℕ) → Dec (Exchange t y x s)
  exchange y x s =
      implies (dec_lt (level_of t x) (level_of t y)) (same (next_of t (next_of t s x) y) (next_of t (next_of t s y) (act_of t y x)))

  act_alike : (y v x : ℕ) → Dec (ActAlike t y v x)
  act_alike y v x =
      implies (same (level_of t y) (level_of t v)) (implies (dec_lt (level_of t x) (level_of t y))
      (same (act_of t y (act_of t v x)) (act_of t v (act_of t y x))))

  distribute : (z y x : ℕ) → Dec (Distribute t z y x)
  distribute z y x =
      implies (dec_lt (level_of t x) (level_of t y)) (implies (dec_lt (level_of t y) (level_of t z))
      (same (act_of t z (act_of t y x)) (act_of t (act_of t z y) (act_of t z x))))

  holds : (k : Case) → Dec (Holds t k)
  holds k =
      map_dec (λ h. record { upward = h.0.0; commute = h.0.1; exchange = h.1.0; act_alike = h.1.1.0; distribute = h.1.1.1 })
      (λ h. ((h.upward, h.commute), (h.exchange, (h.act_alike, h.distribute))))
      (both (both (implies (same k.law 1) (upward k.a k.b)) (implies (same k.law 2) (commute k.a k.b k.c)))
      (both (implies (same k.law 3) (exchange k.a k.b k.c))
      (both (implies (same k.law 4) (act_alike k.a k.b k.c)) (implies (same k.law 5) (distribute k.a k.b k.c)))))

  fails : (k : Case) → Dec (¬ Holds t k)
  fails k = elim (holds k) [ yes h ↦ no (λ n. n h) | no n ↦ yes n ]

  module _ (law : ℕ) where
    abbrev thirds : ℕ
    thirds = third_count t law

    -- the law does not hold at this case
    abbrev Fails : ℕ → ℕ → ℕ → Type 0
    Fails a b c = (c < thirds) × (¬ Holds t (case_of law a b c))

    holds_there : (a b c : ℕ) → c < thirds → ¬ Fails a b c → Holds t (case_of law a b c)
    holds_there a b c low n = holds_where t (case_of law a b c) (λ f. n (low, f))

    -- the first case of these two places at which it does not
    record FirstThird (a b : ℕ) : Type 0 where
      c : ℕ
      low : c < thirds
      fails : ¬ Holds t (case_of law a b c)
      before : (k : ℕ) → k < c → Holds t (case_of law a b k)

    third : (a b : ℕ) → FirstThird a b ⊎ ((c : ℕ) → c < thirds → Holds t (case_of law a b c))
    third a b = elim (first (Fails a b) (λ c. both (dec_lt c thirds) (fails (case_of law a b c))) thirds) [
      | inl f ↦
          let low : f.0 < thirds = f.1.0 in
          inl (record { c = f.0; low = low; fails = f.1.1; before = λ k l. holds_there a b k (omega arith) (f.2 k l) })
      | inr none ↦ inr (λ c l. holds_there a b c l (none c l))
    ]

    -- of this first place
    record FirstSecond (a : ℕ) : Type 0 where
      b : ℕ
      low : b < op_count t
      at : FirstThird a b
      before : (j k : ℕ) → j < b → k < thirds → Holds t (case_of law a j k)

    abbrev Second : ℕ → ℕ → Type 0
    Second a b = (b < op_count t) × FirstThird a b

    tell_second : (a b : ℕ) → Dec (Second a b)
    tell_second a b = both (dec_lt b (op_count t)) (elim (third a b) [
      | inl f ↦ yes f
      | inr none ↦ no (λ f. f.fails (none f.c f.low))
    ])

    holds_second : (a b k : ℕ) → b < op_count t → k < thirds → ¬ Second a b → Holds t (case_of law a b k)
    holds_second a b k low l n = elim (third a b) [ inl f ↦ absurd (n (low, f)) | inr all ↦ all k l ]

    second : (a : ℕ) → FirstSecond a ⊎ ((b c : ℕ) → b < op_count t → c < thirds → Holds t (case_of law a b c))
    second a = elim (first (Second a) (tell_second a) (op_count t)) [
      | inl f ↦
          let low : f.0 < op_count t = f.1.0 in
          inl (record { b = f.0; low = low; at = f.1.1; before = λ j k l m. holds_second a j k (omega arith) m (f.2 j l) })
      | inr none ↦ inr (λ b c l m. holds_second a b c l m (none b l))
    ]

    abbrev First : ℕ → Type 0
    First a = (a < op_count t) × FirstSecond a

    tell_first : (a : ℕ) → Dec (First a)
    tell_first a = both (dec_lt a (op_count t)) (elim (second a) [
      | inl f ↦ yes f
      | inr none ↦ no (λ f. f.at.fails (none f.b f.at.c f.low f.at.low))
    ])

    holds_first : (a b c : ℕ) → a < op_count t → b < op_count t → c < thirds → ¬ First a → Holds t (case_of law a b c)
    holds_first a b c low l m n = elim (second a) [ inl f ↦ absurd (n (low, f)) | inr all ↦ all b c l m ]

    -- the first case of the law at which it does not hold
    record FirstOf : Type 0 where
      a : ℕ
      b : ℕ
      c : ℕ
      is : 1 ≤ law → law ≤ 5 → IsFirst t law a b c

    of_law : FirstOf ⊎ HoldsEach t law
    of_law = elim (first First tell_first (op_count t)) [
      | inl f ↦
          let low : f.0 < op_count t = f.1.0 in
          let s = f.1.1 in
          inl (record {
            a = f.0;
            b = s.b;
            c = s.at.c;
            is = λ one five. record {
              case = record { first_law = one; last_law = five; a = low; b = s.low; c = s.at.low };
              fails = s.at.fails;
              before_a = λ i j k l m n. holds_first i j k (omega arith) m n (f.2 i l);
              before_b = s.before;
              before_c = s.at.before;
            };
          })
      | inr none ↦ inr (λ a b c l m n. holds_first a b c l m n (none a l))
    ]

  -- the laws from this one on, where those before hold at each case
  search_on : (left law : ℕ) → law + left ≡ 6 → 1 ≤ law → ((i : ℕ) → 1 ≤ i → i < law → HoldsEach t i) → (v : Verdict) × IsVerdict t v
  search_on zero law e one before = (
    Lawful,
    λ k broken. broken.fails (before k.law broken.case.first_law (omega (arith, broken.case.last_law)) k.a k.b k.c broken.case.a broken.case.b broken.case.c),
  )
  search_on (suc left) law e one before = elim (of_law law) [
    | inl f ↦ (Broken law f.a f.b f.c, found t law f.a f.b f.c (f.is one (omega arith)) before)
    | inr all ↦ search_on left (law + 1) (omega arith) (omega arith) (λ i low high. elim (cases_eq i law) [
      | inl e ↦ subst (HoldsEach t) (sym e) all
      | inr other ↦ before i low (omega arith)
    ])
  ]

  pub verdict_there : (v : Verdict) × IsVerdict t v
  verdict_there = search_on 5 1 (omega arith) (omega arith) (λ i low high. absurd (omega arith))
