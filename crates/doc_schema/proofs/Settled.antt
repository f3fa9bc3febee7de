-- Rules that give one result, whatever they are given.
use Rattle.std.specs.Prelude.{◌≡◌, ◌⊎◌, Option, None, Some, Result, Ok, Err}
use Rattle.std.proofs.Common.{refl, ap, sym, ◌∙◌, subst, inl, inr}
use Rattle.doc_schema.specs.Rules.{Demands, Follows, Reads}

-- there is a result, and no other
pub record IsSettled {A E : Type 0} (rules : Result A E → Type 0) : Type 0 where
  pub some : (r : Result A E) × rules r
  pub one : (r q : Result A E) → rules r → rules q → r ≡ q

module _ {A E : Type 0} where
  pub demands : (P : Type 0) (fault : E) (next : Result A E → Type 0) → Dec P → IsSettled next → IsSettled (Demands P fault next)
  demands P fault next tell rest = record { some = there tell; one = alike }
    where
      there : Dec P → (r : Result A E) × Demands P fault next r
      there (yes h) = (rest.some.0, inr (h, rest.some.1))
      there (no n) = (Err fault, inl (n, refl))

      alike : (r q : Result A E) → Demands P fault next r → Demands P fault next q → r ≡ q
      alike r q (inl h) (inl k) = h.1 ∙ sym k.1
      alike r q (inl h) (inr k) = absurd (h.0 k.0)
      alike r q (inr h) (inl k) = absurd (k.0 h.0)
      alike r q (inr h) (inr k) = rest.one r q h.1 k.1

  module _ {X : Type 0} where
    pub reads : (read : Option X) (fault : E) (next : X → Result A E → Type 0) → ((x : X) → IsSettled (next x)) → IsSettled (Reads read fault next)
    reads read fault next rest = record { some = there read refl; one = alike }
      where
        there : (o : Option X) → read ≡ o → (r : Result A E) × Reads read fault next r
        there None e = (Err fault, inl (e, refl))
        there (Some x) e = ((rest x).some.0, inr (x, e, (rest x).some.1))

        alike : (r q : Result A E) → Reads read fault next r → Reads read fault next q → r ≡ q
        alike r q (inl h) (inl k) = h.1 ∙ sym k.1
        alike r q (inl h) (inr k) = absurd (let e : None ≡ Some k.0 = sym h.0 ∙ k.1 in cc)
        alike r q (inr h) (inl k) = absurd (let e : None ≡ Some h.0 = sym k.0 ∙ h.1 in cc)
        alike r q (inr h) (inr k) =
            let e : Some h.0 ≡ Some k.0 = sym h.1 ∙ k.1 in
            let same : h.0 ≡ k.0 = cc in
            (rest k.0).one r q (subst (λ x. next x r) same h.2) k.2

    pub follows : (rules : Result X E → Type 0) (next : X → Result A E → Type 0) → IsSettled rules → ((x : X) → IsSettled (next x))
        → IsSettled (Follows rules next)
    follows rules next first rest = record { some = there first.some.0 first.some.1; one = alike }
      where
        there : (f : Result X E) → rules f → (r : Result A E) × Follows rules next r
        there (Err fault) h = (Err fault, inl (fault, h, refl))
        there (Ok x) h = ((rest x).some.0, inr (x, h, (rest x).some.1))

        alike : (r q : Result A E) → Follows rules next r → Follows rules next q → r ≡ q
        alike r q (inl h) (inl k) =
            let e : Err h.0 ≡ Err k.0 = first.one (Err h.0) (Err k.0) h.1 k.1 in
            let same : h.0 ≡ k.0 = cc in
            h.2 ∙ ap Err same ∙ sym k.2
        alike r q (inl h) (inr k) = absurd (let e : Err h.0 ≡ Ok k.0 = first.one (Err h.0) (Ok k.0) h.1 k.1 in cc)
        alike r q (inr h) (inl k) = absurd (let e : Ok h.0 ≡ Err k.0 = first.one (Ok h.0) (Err k.0) h.1 k.1 in cc)
        alike r q (inr h) (inr k) =
            let e : Ok h.0 ≡ Ok k.0 = first.one (Ok h.0) (Ok k.0) h.1 k.1 in
            let same : h.0 ≡ k.0 = cc in
            (rest k.0).one r q (subst (λ x. next x r) same h.2) k.2

    module _ {F : Type 0} (rules : Result X F → Type 0) (of_fault : F → E) (of : X → A) (first : IsSettled rules) where
      abbrev Made : Result A E → Type 0
      Made r = ((f : F) × rules (Err f) × (r ≡ Err (of_fault f))) ⊎ ((x : X) × rules (Ok x) × (r ≡ Ok (of x)))

      made_some : (f : Result X F) → rules f → (r : Result A E) × Made r
      made_some (Err f) h = (Err (of_fault f), inl (f, h, refl))
      made_some (Ok x) h = (Ok (of x), inr (x, h, refl))

      made_one : (r q : Result A E) → Made r → Made q → r ≡ q
      made_one r q (inl h) (inl k) =
          let e : Err h.0 ≡ Err k.0 = first.one (Err h.0) (Err k.0) h.1 k.1 in
          let same : h.0 ≡ k.0 = cc in
          h.2 ∙ ap (λ f. Err (of_fault f)) same ∙ sym k.2
      made_one r q (inl h) (inr k) = absurd (let e : Err h.0 ≡ Ok k.0 = first.one (Err h.0) (Ok k.0) h.1 k.1 in cc)
      made_one r q (inr h) (inl k) = absurd (let e : Ok h.0 ≡ Err k.0 = first.one (Ok h.0) (Err k.0) h.1 k.1 in cc)
      made_one r q (inr h) (inr k) =
          let e : Ok h.0 ≡ Ok k.0 = first.one (Ok h.0) (Ok k.0) h.1 k.1 in
          let same : h.0 ≡ k.0 = cc in
          h.2 ∙ ap (λ x. Ok (of x)) same ∙ sym k.2

      -- a result that is made of another one, whose fault has its own
      pub made : IsSettled Made
      made = record { some = made_some first.some.0 first.some.1; one = made_one }
