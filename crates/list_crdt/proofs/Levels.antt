-- The search for the level at which the next position parts from the two.
use Rattle.std.proofs.Common.{Option, ap₂, ◌≡◌, ℕ, zero, suc, ◌+◌, ◌-◌, ◌≤◌, ◌<◌, true, false, List, [], ◌∷◌, ◌++◌, length, drop, max, refl, ap, sym, ◌∙◌, arith, append_assoc, length-append, get_or, nat_le, ◌==◌, ◌&&◌}
use Rattle.std.specs.Ordering.{is_eq}
use Rattle.std.proofs.lemmas.Bool.Decides.{nat_tests}
use Rattle.list_crdt.specs.declared.position.Step.{Step}
use Rattle.list_crdt.specs.Position.{step_cmp, pad}
use Rattle.list_crdt.specs.Between.{one_step, next_position, padded, position_between, steps_of}

abbrev pub first_or_pad : List Step → Step
first_or_pad [] = pad
first_or_pad (s ∷ p) = s

-- the next position takes one step over, and goes on between what is left
pub record GoesOn (low high low' high' : List Step) : Type 0 where
  pub next : (m s : ℕ) → next_position m s low high ≡ first_or_pad low ∷ next_position m s low' high'
  pub rest : low' ≡ drop 1 low
  pub shorter : max (length low') (length high') + 1 ≤ max (length low) (length high)

-- what `==` of two steps tests
pub same_fields : (s t : Step) → ((s.digit == t.digit) && ((s.member == t.member) && (s.seq == t.seq))) ≡ is_eq (step_cmp s t)
same_fields s t = grind (arith, nat_tests)

pub at_pad : (t : Step) (q : List Step) → t.digit < 2 → t.digit ≡ 0 → GoesOn [] (t ∷ q) [] q
at_pad t q h z = record {
  next = λ m s. (let one : nat_le 2 t.digit ≡ false = grind (arith, nat_tests) in let two : (t.digit == 1) ≡ false = grind (arith, nat_tests) in cc);
  rest = refl;
  shorter = omega arith;
}

pub at_one : (t : Step) (q : List Step) → t.digit < 2 → (t.digit ≡ 0 → ⊥) → GoesOn [] (t ∷ q) [] []
at_one t q h z = record {
  next = λ m s. (let one : nat_le 2 t.digit ≡ false = grind (arith, nat_tests) in let two : (t.digit == 1) ≡ true = grind (arith, nat_tests) in cc);
  rest = refl;
  shorter = omega arith;
}

pub at_last_digit : (s : Step) (p : List Step) → 65535 ≤ s.digit → GoesOn (s ∷ p) [] p []
at_last_digit s p h = record {
  next = λ m x. (let one : nat_le (s.digit + 2) 65536 ≡ false = grind (arith, nat_tests) in cc);
  rest = refl;
  shorter = omega arith;
}

pub at_same : (s t : Step) (p q : List Step) → t.digit - s.digit < 2 → is_eq (step_cmp s t) ≡ true → GoesOn (s ∷ p) (t ∷ q) p q
at_same s t p q h e = record {
  next = λ m x. (let one : nat_le (s.digit + 2) t.digit ≡ false = grind (arith, nat_tests) in cc);
  rest = refl;
  shorter = omega arith;
}

pub at_other : (s t : Step) (p q : List Step) → t.digit - s.digit < 2 → is_eq (step_cmp s t) ≡ false → GoesOn (s ∷ p) (t ∷ q) p []
at_other s t p q h e = record {
  next = λ m x. (let one : nat_le (s.digit + 2) t.digit ≡ false = grind (arith, nat_tests) in cc);
  rest = refl;
  shorter = omega arith;
}

drop_none : (n : ℕ) → drop {A = Step} n [] ≡ []
drop_none zero = refl
drop_none (suc n) = refl

pub padded-more : (n : ℕ) (p : List Step) → padded (suc n) p ≡ padded n p ++ first_or_pad (drop n p) ∷ []
padded-more zero [] = refl
padded-more zero (s ∷ p) = refl
padded-more (suc n) [] = ap (λ x. pad ∷ x) (padded-more n [] ∙ ap (λ x. padded n [] ++ first_or_pad x ∷ []) (drop_none n))
padded-more (suc n) (s ∷ p) = ap (λ x. s ∷ x) (padded-more n p)

drop_one_more : (n : ℕ) (p : List Step) → drop 1 (drop n p) ≡ drop (suc n) p
drop_one_more zero p = refl
drop_one_more (suc n) [] = refl
drop_one_more (suc n) (s ∷ p) = drop_one_more n p

-- the loop's step
module _ (p q low high low' high' : List Step) (n : ℕ) (here : low ≡ drop n p) (goes : GoesOn low high low' high') where
  pub next_level : ((m s : ℕ) → next_position m s p q ≡ padded n p ++ next_position m s low high)
      → (m s : ℕ) → next_position m s p q ≡ padded (n + 1) p ++ next_position m s low' high'
  next_level before m s =
      let joined : padded n p ++ first_or_pad low ∷ [] ≡ padded (suc n) p = ap (λ l. padded n p ++ first_or_pad l ∷ []) here ∙ sym (padded-more n p) in
      let last : suc n ≡ n + 1 = omega arith in
      before m s
      ∙ ap (λ r. padded n p ++ r) (goes.next m s)
      ∙ sym (append_assoc (padded n p) (first_or_pad low ∷ []) (next_position m s low' high'))
      ∙ ap (λ r. r ++ next_position m s low' high') (joined ∙ ap (λ k. padded k p) last)

  pub rest_below : low' ≡ drop (n + 1) p
  rest_below = let last : suc n ≡ n + 1 = omega arith in goes.rest ∙ ap (drop 1) here ∙ drop_one_more n p ∙ ap (λ k. drop k p) last

-- the lists that a level is read from
pub goes_along : (low high low' high' a b a' b' : List Step) → low ≡ a → high ≡ b → low' ≡ a' → high' ≡ b' → GoesOn a b a' b' → GoesOn low high low' high'
goes_along low high low' high' a b a' b' e f e' f' h = rw (e, f, e', f') h

-- the loop that takes the steps over

pub length-padded : (n : ℕ) (p : List Step) → length (padded n p) ≡ n
length-padded zero p = refl
length-padded (suc n) [] = let h : length (padded n []) ≡ n = length-padded n [] in omega arith
length-padded (suc n) (s ∷ p) = let h : length (padded n p) ≡ n = length-padded n p in omega arith

step_at : (n : ℕ) (p : List Step) → first_or_pad (drop n p) ≡ get_or p n pad
step_at zero [] = refl
step_at zero (s ∷ p) = refl
step_at (suc n) [] = refl
step_at (suc n) (s ∷ p) = step_at n p

pub padded-push : (n : ℕ) (p xs : List Step) (x : Step) → xs ≡ padded n p → x ≡ get_or p n pad → xs ++ x ∷ [] ≡ padded (n + 1) p
padded-push n p xs x h e =
    let last : suc n ≡ n + 1 = omega arith in
    ap (λ (y : List Step). y ++ x ∷ []) h ∙ ap (λ y. padded n p ++ y ∷ []) (e ∙ sym (step_at n p)) ∙ sym (padded-more n p) ∙ ap (λ k. padded k p) last

pub length_next : (n : ℕ) (p r : List Step) (x : Step) → r ≡ padded n p ++ x ∷ [] → length r ≡ n + 1
length_next n p r x h = omega (arith, ap length h, length-append (padded n p) (x ∷ []), length-padded n p)

pub length_between : (member seq : ℕ) (p q : Option (List Step)) (low high : List Step) (n digit : ℕ) → low ≡ steps_of p → high ≡ steps_of q
    → next_position member seq low high ≡ padded n low ++ one_step member seq digit → length (position_between member seq p q) ≡ n + 1
length_between member seq p q low high n digit e f h =
    ap₂ (λ (x y : List Step). length (next_position member seq x y)) (sym e) (sym f) ∙ length_next n low _ _ h
