-- What can be told of texts, of all numbers below one, and of all elements of a list.
use Rattle.std.specs.Prelude.{◌≡◌, ◌≢◌, ℕ, zero, suc, ◌<◌, ◌⊎◌, List, [], ◌∷◌}
use Rattle.std.specs.List.{All, AllPairs}
use Rattle.std.specs.Str.{bytes_eq}
use Rattle.std.proofs.Common.{arith, inl, inr, subst, sym}
use Rattle.std.proofs.lemmas.Bool.{both_ways, cases_Bool, cases_eq, cases_order}
use Rattle.std.proofs.lemmas.List.Elements.{All-cons, All-head, All-nil, All-tail}
use Rattle.std.proofs.lemmas.List.Kept.{AllPairs-cons}
use Rattle.std.proofs.lemmas.Slice.Eq.{bytes_eq-Decides}

pub both : {P Q : Type 0} → Dec P → Dec Q → Dec (P × Q)
both (yes h) (yes k) = yes (h, k)
both (yes h) (no m) = no (λ k. m k.1)
both (no n) d = no (λ h. n h.0)

pub either : {P Q : Type 0} → Dec P → Dec Q → Dec (P ⊎ Q)
either (yes h) d = yes (inl h)
either (no n) (yes k) = yes (inr k)
either (no n) (no m) = no (λ h. elim h [ inl p ↦ n p | inr q ↦ m q ])

pub same : (m n : ℕ) → Dec (m ≡ n)
same m n = elim (cases_eq m n) [ inl e ↦ yes e | inr other ↦ no other ]

pub other : (xs ys : List ℕ) → Dec (xs ≢ ys)
other xs ys = elim (cases_Bool (bytes_eq xs ys)) [
  | inl t ↦ no (λ n. n ((bytes_eq-Decides xs ys).0 t))
  | inr f ↦ yes (λ e. both_ways (bytes_eq xs ys) f ((bytes_eq-Decides xs ys).1 e))
]

module _ (P : ℕ → Type 0) (tell : (i : ℕ) → Dec (P i)) where
  pub each_below : (n : ℕ) → Dec ((i : ℕ) → i < n → P i)
  each_below zero = yes (λ i h. absurd (omega (arith, h)))
  each_below (suc n) = elim (each_below n) [
    | no n' ↦ no (λ each. n' (λ i h. each i (omega (arith, h))))
    | yes before ↦ elim (tell n) [
      | no n' ↦ no (λ each. n' (each n (omega arith)))
      | yes here ↦ yes (λ i h. elim (cases_order i n) [
        | inl e ↦ subst P (sym e) here
        | inr o ↦ elim o [ inl low ↦ before i low | inr high ↦ absurd (omega (arith, h, high)) ]
      ])
    ]
  ]

  -- the first of them that is so
  pub first : (n : ℕ) → ((at : ℕ) × P at × ((i : ℕ) → i < at → ¬ P i)) ⊎ ((i : ℕ) → i < n → ¬ P i)
  first zero = inr (λ i h. absurd (omega (arith, h)))
  first (suc n) = elim (first n) [
    | inl f ↦ inl f
    | inr none ↦ elim (tell n) [
      | yes here ↦ inl (n, here, none)
      | no n' ↦ inr (λ i h. elim (cases_order i n) [
        | inl e ↦ subst (λ j. ¬ P j) (sym e) n'
        | inr o ↦ elim o [ inl low ↦ none i low | inr high ↦ absurd (omega (arith, h, high)) ]
      ])
    ]
  ]

pub all : {X : Type 0} (P : X → Type 0) → ((x : X) → Dec (P x)) → (xs : List X) → Dec (All P xs)
all P tell [] = yes (All-nil P)
all P tell (x ∷ xs) = elim (tell x) [
  | no n ↦ no (λ h. n (All-head P x xs h))
  | yes here ↦ elim (all P tell xs) [ yes rest ↦ yes (All-cons P x xs here rest) | no n ↦ no (λ h. n (All-tail P x xs h)) ]
]

pub all_pairs : {X : Type 0} (R : X → X → Type 0) → ((x y : X) → Dec (R x y)) → (xs : List X) → Dec (AllPairs R xs)
all_pairs R tell [] = yes (λ i j d l m. absurd (omega (arith, m)))
all_pairs R tell (x ∷ xs) = elim (all (R x) (tell x) xs) [
  | no n ↦ no (λ h. n (λ k d l. h 0 (suc k) d (omega arith) (omega (arith, l))))
  | yes here ↦ elim (all_pairs R tell xs) [
    | yes rest ↦ yes (AllPairs-cons R x xs here rest)
    | no n ↦ no (λ h. n (λ i j d l m. h (suc i) (suc j) d (omega (arith, l)) (omega (arith, m))))
  ]
]
