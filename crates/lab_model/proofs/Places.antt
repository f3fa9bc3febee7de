-- A lab with a thing put under a name.
use Rattle.std.proofs.Common.{◌≡◌, ℕ, true, false, List, [], ◌∷◌, ◌++◌, None, Some, cond, map, refl, ap, sym, ◌∙◌, subst, inl, inr}
use Rattle.std.specs.List.{AllByRecursion, IsDistinct}
use Rattle.std.specs.Str.{bytes_eq}
use Rattle.std.proofs.lemmas.Bool.{both_ways, cases_Bool, cond-false, cond-true, false_from_ne_true}
use Rattle.std.proofs.lemmas.Map.Keys.{IsDistinct-cons, IsDistinct-head, IsDistinct-tail}
use Rattle.std.proofs.lemmas.Slice.Eq.{bytes_eq-Decides}
use Rattle.replica_model.specs.Family.{Thing}
use Rattle.lab_model.specs.Honest.{things}
use Rattle.lab_model.specs.Lab.{Lab, thing_at, with_thing}

-- where a thing stands: what is before it, and what is behind it, also once another is put there
pub record Stands {Op : Type 0} (lab : Lab Op) (name : List ℕ) (t : Thing Op) : Type 0 where
  pub front : List (Thing Op)
  pub back : List (Thing Op)
  pub now : things lab ≡ front ++ t ∷ back
  pub then' : (s : Thing Op) → things (with_thing lab name s) ≡ front ++ s ∷ back

some_injective : {X : Type 0} (a b : X) → Some a ≡ Some b → a ≡ b
some_injective a b q = cc

pub stands : {Op : Type 0} (lab : Lab Op) (name : List ℕ) (t : Thing Op) → thing_at lab name ≡ Some t → Stands lab name t
stands [] name t h = absurd (none t h)
  where
    none : {X : Type 0} (x : X) → None ≡ Some x → ⊥
    none x q = cc
stands {Op} (pair ∷ lab) name t h =
    elim (cases_Bool (bytes_eq name pair.0)) [
      | inl q ↦ record {
        front = [];
        back = things lab;
        now = ap (λ (s : Thing Op). s ∷ things lab) (some_injective pair.1 t (sym (cond-true (bytes_eq name pair.0) (Some pair.1) (thing_at lab name) q) ∙ h));
        then' = λ s. ap things (cond-true (bytes_eq name pair.0) ((name, s) ∷ lab) (pair ∷ with_thing lab name s) q);
      }
      | inr q ↦
          (let rest = stands lab name t (sym (cond-false (bytes_eq name pair.0) (Some pair.1) (thing_at lab name) q) ∙ h) in
          record {
            front = pair.1 ∷ rest.front;
            back = rest.back;
            now = ap (λ (l : List (Thing Op)). pair.1 ∷ l) rest.now;
            then' = λ s. ap things (cond-false (bytes_eq name pair.0) ((name, s) ∷ lab) (pair ∷ with_thing lab name s) q) ∙ ap (λ (l : List (Thing Op)). pair.1 ∷ l) (rest.then' s);
          })
    ]

pub stands_last : {Op : Type 0} (lab : Lab Op) (name : List ℕ) (s : Thing Op) → thing_at lab name ≡ None → things (with_thing lab name s) ≡ things lab ++ s ∷ []
stands_last [] name s h = refl
stands_last {Op} (pair ∷ lab) name s h =
    elim (cases_Bool (bytes_eq name pair.0)) [
      | inl q ↦ absurd (none pair.1 (sym (cond-true (bytes_eq name pair.0) (Some pair.1) (thing_at lab name) q) ∙ h))
      | inr q ↦
          ap things (cond-false (bytes_eq name pair.0) ((name, s) ∷ lab) (pair ∷ with_thing lab name s) q)
          ∙ ap (λ (l : List (Thing Op)). pair.1 ∷ l) (stands_last lab name s (sym (cond-false (bytes_eq name pair.0) (Some pair.1) (thing_at lab name) q) ∙ h))
    ]
  where
    none : {X : Type 0} (x : X) → Some x ≡ None → ⊥
    none x q = cc

-- names

abbrev pub names : {Op : Type 0} → Lab Op → List (List ℕ)
names lab = map (λ pair. pair.0) lab

abbrev Others : List ℕ → List (List ℕ) → Type 0
Others a ns = AllByRecursion (λ b. bytes_eq a b ≡ false) ns

others_with : {Op : Type 0} (a : List ℕ) (lab : Lab Op) (name : List ℕ) (s : Thing Op) → bytes_eq a name ≡ false → Others a (names lab) → Others a (names (with_thing lab name s))
others_with a [] name s h k = (h, tt)
others_with {Op} a (pair ∷ lab) name s h k =
    elim (bytes_eq name pair.0) as (λ b. Others a (names (cond b ((name, s) ∷ lab) (pair ∷ with_thing lab name s)))) [
      | true ↦ (h, k.1)
      | false ↦ (k.0, others_with a lab name s h k.1)
    ]

pub none_distinct : IsDistinct bytes_eq []
unfolding IsDistinct
none_distinct = tt

bytes_sym : (a b : List ℕ) → bytes_eq a b ≡ false → bytes_eq b a ≡ false
bytes_sym a b h = false_from_ne_true (bytes_eq b a) (λ t. both_ways (bytes_eq a b) h ((bytes_eq-Decides a b).1 (sym ((bytes_eq-Decides b a).0 t))))

pub distinct_with : {Op : Type 0} (lab : Lab Op) (name : List ℕ) (s : Thing Op) → IsDistinct bytes_eq (names lab) → IsDistinct bytes_eq (names (with_thing lab name s))
distinct_with [] name s h = IsDistinct-cons bytes_eq name [] tt none_distinct
distinct_with {Op} (pair ∷ lab) name s h =
    let head = IsDistinct-head bytes_eq pair.0 (names lab) h in
    let tail = IsDistinct-tail bytes_eq pair.0 (names lab) h in
    (elim (bytes_eq name pair.0) as (λ b. bytes_eq name pair.0 ≡ b → IsDistinct bytes_eq (names (cond b ((name, s) ∷ lab) (pair ∷ with_thing lab name s)))) [
      | true ↦ λ q. subst (λ (n : List ℕ). IsDistinct bytes_eq (n ∷ names lab)) (sym ((bytes_eq-Decides name pair.0).0 q)) h
      | false ↦ λ q. IsDistinct-cons bytes_eq pair.0 (names (with_thing lab name s)) (others_with pair.0 lab name s (bytes_sym name pair.0 q) head) (distinct_with lab name s tail)
    ]) refl
