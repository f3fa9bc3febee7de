-- The next position is strictly between the two, keeps the rules and ends with the step that was made for it.
use Rattle.std.proofs.Common.{◌≡◌, ℕ, ◌+◌, ◌-◌, ◌≤◌, ◌<◌, ◌⊎◌, inl, inr, true, false, cond, List, [], ◌∷◌, length, refl, ap, sym, ◌∙◌, arith, nat_le, ◌==◌, Option, Some, None, IfSome}
use Rattle.std.specs.declared.cmp.Ordering.TheVariants.{Less, Equal, Greater}
use Rattle.std.specs.Ordering.{ordering_then, is_eq}
use Rattle.std.specs.Cmp.{tied_itself}
use Rattle.std.proofs.lemmas.Bool.Decides.{nat_tests}
use Rattle.list_crdt.specs.declared.position.Step.{Step}
use Rattle.list_crdt.specs.Position.{step_cmp, position_cmp, pad, AreSteps, HasDigit, IsBefore, IsPosition, IsPositionOf, NamesOperation, maker}
use Rattle.list_crdt.specs.Between.{AreInOrder, IsBetween, MayName, one_step, next_position, position_between, steps_of}
use Rattle.list_crdt.specs.Order.{step_total}

-- a step with a lower digit is less
step_lower : (s t : Step) → s.digit < t.digit → step_cmp s t ≡ Less
step_lower s t h = grind (arith, nat_tests)

-- the first steps decide, or else what follows them
first_less : (s t : Step) (p q : List Step) → step_cmp s t ≡ Less → position_cmp (s ∷ p) (t ∷ q) ≡ Less
first_less s t p q h = ap (λ o. ordering_then o (position_cmp p q)) h

first_same : (s t : Step) (p q : List Step) → step_cmp s t ≡ Equal → position_cmp (s ∷ p) (t ∷ q) ≡ position_cmp p q
first_same s t p q h = ap (λ o. ordering_then o (position_cmp p q)) h

same_step : (s : Step) → step_cmp s s ≡ Equal
same_step s = tied_itself step_total s

module _ (member seq : ℕ) where
  pub next_after : (p q : List Step) → position_cmp p (next_position member seq p q) ≡ Less
  next_after [] [] = refl
  next_after [] (t ∷ q) =
      elim (nat_le 2 t.digit) as (λ b. position_cmp [] (cond b (one_step member seq (t.digit - 1)) (pad ∷ cond (t.digit == 1) (one_step member seq 32768) (next_position member seq [] q))) ≡ Less) [
        | true ↦ refl
        | false ↦ refl
      ]
  next_after (s ∷ p) [] =
      elim (nat_le (s.digit + 2) 65536) as (λ b. position_cmp (s ∷ p) (cond b (one_step member seq (s.digit + 1)) (s ∷ next_position member seq p [])) ≡ Less) [
        | true ↦ first_less s _ p [] (step_lower s _ (omega arith))
        | false ↦ first_same s s p _ (same_step s) ∙ next_after p []
      ]
  next_after (s ∷ p) (t ∷ q) =
      elim (nat_le (s.digit + 2) t.digit) as (λ b. position_cmp (s ∷ p) (cond b (one_step member seq (s.digit + 1)) (s ∷ cond (is_eq (step_cmp s t)) (next_position member seq p q) (next_position member seq p []))) ≡ Less) [
        | true ↦ first_less s _ p [] (step_lower s _ (omega arith))
        | false ↦ first_same s s p _ (same_step s) ∙ elim (is_eq (step_cmp s t)) as (λ b. position_cmp p (cond b (next_position member seq p q) (next_position member seq p [])) ≡ Less) [
          | true ↦ next_after p q
          | false ↦ next_after p []
        ]
      ]

-- a list of steps, or none
abbrev pub AreStepsOrNone : (Step → Type 0) → List Step → Type 0
AreStepsOrNone P [] = Unit {0}
AreStepsOrNone P (s ∷ p) = AreSteps P (s ∷ p)

module _ (P : Step → Type 0) where
  first_step : (s : Step) (p : List Step) → AreSteps P (s ∷ p) → (s ≡ pad) ⊎ P s
  first_step s [] h = inr h
  first_step s (t ∷ p) h = h.0

  rest_steps : (s : Step) (p : List Step) → AreSteps P (s ∷ p) → AreStepsOrNone P p
  rest_steps s [] h = tt
  rest_steps s (t ∷ p) h = h.1

  more_steps : (s : Step) (p : List Step) → (s ≡ pad) ⊎ P s → AreSteps P p → AreSteps P (s ∷ p)
  more_steps s [] h k = absurd k
  more_steps s (t ∷ p) h k = (h, k)

  not_none : (p q : List Step) → AreStepsOrNone P q → position_cmp p q ≡ Less → AreSteps P q
  not_none [] [] k l = cc
  not_none (s ∷ p) [] k l = cc
  not_none p (u ∷ q) k l = k

  module _ (digits : (s : Step) → P s → HasDigit s) where
    first_low : (s : Step) (p : List Step) → AreSteps P (s ∷ p) → s.digit < 65536
    first_low s p h = elim (first_step s p h) [ inl e ↦ (let d : s.digit ≡ 0 = ap (λ (t : Step). t.digit) e in omega arith) | inr k ↦ (digits s k).high ]

    -- a step without a digit is a pad, and something follows it
    first_pad : (s : Step) (p : List Step) → AreSteps P (s ∷ p) → s.digit ≡ 0 → s ≡ pad
    first_pad s p h z = elim (first_step s p h) [ inl e ↦ e | inr k ↦ absurd (omega (arith, (digits s k).low)) ]

    module _ (member seq : ℕ) where
      module _ (own : (d : ℕ) → 1 ≤ d → d < 65536 → P (record { digit = d; member = member; seq = seq })) where
        pub next_steps : (p q : List Step) → AreStepsOrNone P p → AreStepsOrNone P q → AreSteps P (next_position member seq p q)
        next_steps [] [] h k = own 32768 (omega arith) (omega arith)
        next_steps [] (t ∷ q) h k =
            let high : t.digit < 65536 = first_low t q k in
            (elim (nat_le 2 t.digit) as (λ b. nat_le 2 t.digit ≡ b → AreSteps P (cond b (one_step member seq (t.digit - 1)) (pad ∷ cond (t.digit == 1) (one_step member seq 32768) (next_position member seq [] q)))) [
              | true ↦ λ e. (let le : 2 ≤ t.digit = grind (arith, nat_tests) in own (t.digit - 1) (omega arith) (omega arith))
              | false ↦ λ e. more_steps pad _ (inl refl) (elim (t.digit == 1) as (λ b. AreSteps P (cond b (one_step member seq 32768) (next_position member seq [] q))) [
                | true ↦ own 32768 (omega arith) (omega arith)
                | false ↦ next_steps [] q tt (rest_steps t q k)
              ])
            ]) refl
        next_steps (s ∷ p) [] h k =
            (elim (nat_le (s.digit + 2) 65536) as (λ b. nat_le (s.digit + 2) 65536 ≡ b → AreSteps P (cond b (one_step member seq (s.digit + 1)) (s ∷ next_position member seq p []))) [
              | true ↦ λ e. (let le : s.digit + 2 ≤ 65536 = grind (arith, nat_tests) in own (s.digit + 1) (omega arith) (omega arith))
              | false ↦ λ e. more_steps s _ (first_step s p h) (next_steps p [] (rest_steps s p h) tt)
            ]) refl
        next_steps (s ∷ p) (t ∷ q) h k =
            let high : t.digit < 65536 = first_low t q k in
            (elim (nat_le (s.digit + 2) t.digit) as (λ b. nat_le (s.digit + 2) t.digit ≡ b → AreSteps P (cond b (one_step member seq (s.digit + 1)) (s ∷ cond (is_eq (step_cmp s t)) (next_position member seq p q) (next_position member seq p [])))) [
              | true ↦ λ e. (let le : s.digit + 2 ≤ t.digit = grind (arith, nat_tests) in own (s.digit + 1) (omega arith) (omega arith))
              | false ↦ λ e. more_steps s _ (first_step s p h) (elim (is_eq (step_cmp s t)) as (λ b. AreSteps P (cond b (next_position member seq p q) (next_position member seq p []))) [
                | true ↦ next_steps p q (rest_steps s p h) (rest_steps t q k)
                | false ↦ next_steps p [] (rest_steps s p h) tt
              ])
            ]) refl

      pub next_before : (p q : List Step) → AreSteps P q → position_cmp p q ≡ Less → position_cmp (next_position member seq p q) q ≡ Less
      next_before p [] k l = absurd k
      next_before [] (t ∷ []) k l =
          let low : 1 ≤ t.digit = (digits t k).low in
          (elim (nat_le 2 t.digit) as (λ b. nat_le 2 t.digit ≡ b → position_cmp (cond b (one_step member seq (t.digit - 1)) (pad ∷ cond (t.digit == 1) (one_step member seq 32768) (next_position member seq [] []))) (t ∷ []) ≡ Less) [
            | true ↦ λ e. first_less _ t [] [] (step_lower _ t (omega arith))
            | false ↦ λ e. first_less pad t _ [] (step_lower pad t (omega arith))
          ]) refl
      next_before [] (t ∷ u ∷ q) k l =
          (elim (nat_le 2 t.digit) as (λ b. nat_le 2 t.digit ≡ b → position_cmp (cond b (one_step member seq (t.digit - 1)) (pad ∷ cond (t.digit == 1) (one_step member seq 32768) (next_position member seq [] (u ∷ q)))) (t ∷ u ∷ q) ≡ Less) [
            | true ↦ λ e. (let le : 2 ≤ t.digit = grind (arith, nat_tests) in first_less _ t [] (u ∷ q) (step_lower _ t (omega arith)))
            | false ↦ λ e. (let gt : t.digit < 2 = grind (arith, nat_tests) in (elim (t.digit == 1) as (λ b. (t.digit == 1) ≡ b → position_cmp (pad ∷ cond b (one_step member seq 32768) (next_position member seq [] (u ∷ q))) (t ∷ u ∷ q) ≡ Less) [
              | true ↦ λ f. (let is : t.digit ≡ 1 = grind (arith, nat_tests) in first_less pad t (one_step member seq 32768) (u ∷ q) (step_lower pad t (omega arith)))
              | false ↦ λ f. (let none : t.digit ≡ 0 = grind (arith, nat_tests) in
                  let is : t ≡ pad = first_pad t (u ∷ q) k none in
                  first_same pad t (next_position member seq [] (u ∷ q)) (u ∷ q) (ap (λ x. step_cmp pad x) is ∙ same_step pad) ∙ next_before [] (u ∷ q) k.1 refl)
            ]) refl)
          ]) refl
      next_before (s ∷ p) (t ∷ q) k l =
          (elim (nat_le (s.digit + 2) t.digit) as (λ b. nat_le (s.digit + 2) t.digit ≡ b → position_cmp (cond b (one_step member seq (s.digit + 1)) (s ∷ cond (is_eq (step_cmp s t)) (next_position member seq p q) (next_position member seq p []))) (t ∷ q) ≡ Less) [
            | true ↦ λ e. (let le : s.digit + 2 ≤ t.digit = grind (arith, nat_tests) in first_less _ t [] q (step_lower _ t (omega arith)))
            | false ↦ λ e. (elim (step_cmp s t) as (λ o. step_cmp s t ≡ o → position_cmp (s ∷ cond (is_eq o) (next_position member seq p q) (next_position member seq p [])) (t ∷ q) ≡ Less) [
              | Less ↦ λ f. first_less s t (next_position member seq p []) q f
              | Equal ↦ λ f. first_same s t (next_position member seq p q) q f ∙ (let m : position_cmp p q ≡ Less = sym (first_same s t p q f) ∙ l in next_before p q (not_none p q (rest_steps t q k) m) m)
              | Greater ↦ λ f. (let g : position_cmp (s ∷ p) (t ∷ q) ≡ Greater = ap (λ o. ordering_then o (position_cmp p q)) f in cc)
            ]) refl
          ]) refl

-- the last step is that of what follows, where something follows
last-cons : (s : Step) (p : List Step) → 1 ≤ length p → maker (s ∷ p) ≡ maker p
last-cons s [] h = absurd (omega (arith, h))
last-cons s (t ∷ p) h = refl

module _ (member seq : ℕ) where
  next_some : (p q : List Step) → 1 ≤ length (next_position member seq p q)
  next_some [] [] = omega arith
  next_some [] (t ∷ q) = elim (nat_le 2 t.digit) as (λ b. 1 ≤ length (cond b (one_step member seq (t.digit - 1)) (pad ∷ cond (t.digit == 1) (one_step member seq 32768) (next_position member seq [] q)))) [ true ↦ omega arith | false ↦ omega arith ]
  next_some (s ∷ p) [] = elim (nat_le (s.digit + 2) 65536) as (λ b. 1 ≤ length (cond b (one_step member seq (s.digit + 1)) (s ∷ next_position member seq p []))) [ true ↦ omega arith | false ↦ omega arith ]
  next_some (s ∷ p) (t ∷ q) = elim (nat_le (s.digit + 2) t.digit) as (λ b. 1 ≤ length (cond b (one_step member seq (s.digit + 1)) (s ∷ cond (is_eq (step_cmp s t)) (next_position member seq p q) (next_position member seq p [])))) [ true ↦ omega arith | false ↦ omega arith ]

  abbrev EndsInOwn : List Step → Type 0
  EndsInOwn r = maker r ≡ record { member = member; seq = seq }

  pub maker-next : (p q : List Step) → EndsInOwn (next_position member seq p q)
  maker-next [] [] = refl
  maker-next [] (t ∷ q) =
      elim (nat_le 2 t.digit) as (λ b. EndsInOwn (cond b (one_step member seq (t.digit - 1)) (pad ∷ cond (t.digit == 1) (one_step member seq 32768) (next_position member seq [] q)))) [
        | true ↦ refl
        | false ↦ elim (t.digit == 1) as (λ b. EndsInOwn (pad ∷ cond b (one_step member seq 32768) (next_position member seq [] q))) [
          | true ↦ refl
          | false ↦ last-cons pad _ (next_some [] q) ∙ maker-next [] q
        ]
      ]
  maker-next (s ∷ p) [] =
      elim (nat_le (s.digit + 2) 65536) as (λ b. EndsInOwn (cond b (one_step member seq (s.digit + 1)) (s ∷ next_position member seq p []))) [
        | true ↦ refl
        | false ↦ last-cons s _ (next_some p []) ∙ maker-next p []
      ]
  maker-next (s ∷ p) (t ∷ q) =
      elim (nat_le (s.digit + 2) t.digit) as (λ b. EndsInOwn (cond b (one_step member seq (s.digit + 1)) (s ∷ cond (is_eq (step_cmp s t)) (next_position member seq p q) (next_position member seq p [])))) [
        | true ↦ refl
        | false ↦ elim (is_eq (step_cmp s t)) as (λ b. EndsInOwn (s ∷ cond b (next_position member seq p q) (next_position member seq p []))) [
          | true ↦ last-cons s _ (next_some p q) ∙ maker-next p q
          | false ↦ last-cons s _ (next_some p []) ∙ maker-next p []
        ]
      ]

-- what the next position between two keeps, where these may be absent
abbrev AreStepsOf : (Step → Type 0) → Option (List Step) → Type 0
AreStepsOf P p = IfSome p (AreSteps P)

given_steps : (P : Step → Type 0) (p : Option (List Step)) → AreStepsOf P p → AreStepsOrNone P (steps_of p)
given_steps P None h = tt
given_steps P (Some []) h = absurd h
given_steps P (Some (s ∷ p)) h = h

steps_of_position : (p : Option (List Step)) → IfSome p IsPosition → AreStepsOf HasDigit p
steps_of_position None h = tt
steps_of_position (Some p) h = h.steps

steps_of_position_of : (n : ℕ) (p : Option (List Step)) → IfSome p (IsPositionOf n) → AreStepsOf (NamesOperation n) p
steps_of_position_of n None h = tt
steps_of_position_of n (Some p) h = h.steps

module _ (member seq : ℕ) (p q : Option (List Step)) where
  before_given : AreInOrder p q → IfSome q (λ t. IsBefore (position_between member seq p q) t)
  before_given o = by p q o
    where
      start : (t : List Step) → AreSteps HasDigit t → IsBefore [] t
      start [] h = absurd h
      start (s ∷ t) h = refl

      by : (p q : Option (List Step)) → AreInOrder p q → IfSome q (λ t. IsBefore (position_between member seq p q) t)
      by p None o = tt
      by None (Some t) o = next_before HasDigit (λ _ h. h) member seq [] t o.high.steps (start t o.high.steps)
      by (Some s) (Some t) o = next_before HasDigit (λ _ h. h) member seq s t o.high.steps o.apart

  after_given : IfSome p (λ s. IsBefore s (position_between member seq p q))
  after_given = by p
    where
      by : (p : Option (List Step)) → IfSome p (λ s. IsBefore s (position_between member seq p q))
      by None = tt
      by (Some s) = next_after member seq s (steps_of q)

  pub is_between : AreInOrder p q → IsBetween p q (position_between member seq p q)
  is_between o = record { after = after_given; before = before_given o }

  pub has_digits : AreInOrder p q → AreSteps HasDigit (position_between member seq p q)
  has_digits o = next_steps HasDigit (λ _ h. h) member seq (λ d low high. record { low = low; high = high }) (steps_of p) (steps_of q)
      (given_steps HasDigit p (steps_of_position p o.low)) (given_steps HasDigit q (steps_of_position q o.high))

  pub names_operations : (n : ℕ) → IfSome p (IsPositionOf n) → IfSome q (IsPositionOf n) → MayName n member seq → AreSteps (NamesOperation n) (position_between member seq p q)
  names_operations n h k own =
      next_steps (NamesOperation n) (λ _ h. h.digit) member seq
      (λ d low high. record { digit = record { low = low; high = high }; member = own.below; counted = own.counted; within = own.within })
      (steps_of p) (steps_of q)
      (given_steps (NamesOperation n) p (steps_of_position_of n p h)) (given_steps (NamesOperation n) q (steps_of_position_of n q k))

  module _ (r : List Step) (is : r ≡ position_between member seq p q) where
    pub made_between : AreInOrder p q → IsBetween p q r
    made_between o = rw is (is_between o)

    pub made_maker : maker r ≡ record { member = member; seq = seq }
    made_maker = ap maker is ∙ maker-next member seq (steps_of p) (steps_of q)

    pub made_position : length r ≤ 32 → AreInOrder p q → IsPosition r
    made_position short o = record { steps = rw is (has_digits o); most = short }

    pub made_position_of : length r ≤ 32 → (n : ℕ) → IfSome p (IsPositionOf n) → IfSome q (IsPositionOf n) → MayName n member seq → IsPositionOf n r
    made_position_of short n h k own = record { steps = rw is (names_operations n h k own); most = short }

pub maker_between : (member seq : ℕ) (p q : Option (List Step)) → maker (position_between member seq p q) ≡ record { member = member; seq = seq }
maker_between member seq p q = maker-next member seq (steps_of p) (steps_of q)

-- positions that were made for different operations differ
pub different_makers : (m n s t : ℕ) (p q u v : Option (List Step)) → (m ≡ n → s ≡ t → ⊥) → position_between m s p q ≡ position_between n t u v → ⊥
different_makers m n s t p q u v d e =
    let one : maker (position_between m s p q) ≡ maker (position_between n t u v) = ap maker e in
    let same = sym (maker_between m s p q) ∙ one ∙ maker_between n t u v in
    d (ap (λ i. i.member) same) (ap (λ i. i.seq) same)
