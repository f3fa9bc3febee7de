-- Replicas and batches in a list of things, and their operations.
use Rattle.std.proofs.Common.{◌≡◌, ℕ, ◌<◌, false, List, [], ◌∷◌, ◌++◌, map, refl, ap, sym, ◌∙◌, subst, arith, Contains, inl, inr, ◌⊎◌}
use Rattle.std.specs.Prelude.{nat_eq}
use Rattle.std.specs.List.{AllByRecursion, IsDistinct}
use Rattle.std.proofs.lemmas.Bool.{both_ways, eq-eqb}
use Rattle.std.proofs.lemmas.List.Elements.{Contains-append_left, Contains-append_right, Contains-append_cases}
use Rattle.std.proofs.lemmas.Map.Keys.{IsDistinct-cons, IsDistinct-head, IsDistinct-tail}
use Rattle.crdt_laws.specs.declared.small.Entry.{Entry}
use Rattle.crdt_laws.proofs.Filters.{all-append}
use Rattle.crdt_laws.proofs.Members.{Contains-cases, Contains-front, Contains-more, at_member}
use Rattle.replica_model.specs.Family.{Thing, replica, batch, batches, operations, operations_of, replicas}
use Rattle.replica_model.specs.Replica.{Replica, Batch}

-- one thing and the others

pub in_split : {X : Type 0} (xs ys : List X) (t s : X) → Contains (xs ++ t ∷ ys) s → (t ≡ s) ⊎ Contains (xs ++ ys) s
in_split xs ys t s c =
    elim (Contains-append_cases xs (t ∷ ys) s c) [
      | inl i ↦ inr (Contains-append_left xs ys s i)
      | inr j ↦ elim (Contains-cases t ys s j) [
        | inl q ↦ inl q
        | inr h ↦ inr (Contains-append_right xs ys s h)
      ]
    ]

pub split_has : {X : Type 0} (xs ys : List X) (t s : X) → Contains (xs ++ ys) s → Contains (xs ++ t ∷ ys) s
split_has xs ys t s c =
    elim (Contains-append_cases xs ys s c) [
      | inl i ↦ Contains-append_left xs (t ∷ ys) s i
      | inr j ↦ Contains-append_right xs (t ∷ ys) s (Contains-more t ys s j)
    ]

pub split_it : {X : Type 0} (xs ys : List X) (t : X) → Contains (xs ++ t ∷ ys) t
split_it xs ys t = Contains-append_right xs (t ∷ ys) t (Contains-front t ys)

pub Contains-map : {X Y : Type 0} (f : X → Y) (xs : List X) (x : X) → Contains xs x → Contains (map f xs) (f x)
Contains-map f [] x c = let l : c.0 < 0 = c.1 in absurd (omega arith)
Contains-map {X} {Y} f (a ∷ xs) x c =
    elim (Contains-cases a xs x c) [
      | inl q ↦ subst (λ (z : X). Contains (f a ∷ map f xs) (f z)) q (Contains-front (f a) (map f xs))
      | inr j ↦ Contains-more (f a) (map f xs) (f x) (Contains-map f xs x j)
    ]

-- replicas and batches

pub in_replicas : {Op : Type 0} (ts : List (Thing Op)) (r : Replica Op) → Contains (replicas ts) r → Contains ts (replica r)
in_replicas [] r c = let l : c.0 < 0 = c.1 in absurd (omega arith)
in_replicas {Op} (replica s ∷ ts) r c =
    elim (Contains-cases s (replicas ts) r c) [
      | inl q ↦ subst (λ (z : Replica Op). Contains (replica s ∷ ts) (replica z)) q (Contains-front (replica s) ts)
      | inr j ↦ Contains-more (replica s) ts (replica r) (in_replicas ts r j)
    ]
in_replicas (batch b ∷ ts) r c = Contains-more (batch b) ts (replica r) (in_replicas ts r c)

pub replica_injective : {Op : Type 0} (s r : Replica Op) → replica s ≡ replica r → s ≡ r
replica_injective s r q = cc

pub batch_injective : {Op : Type 0} (s r : Batch Op) → batch s ≡ batch r → s ≡ r
batch_injective s r q = cc

pub no_batch : {Op : Type 0} (b : Batch Op) (r : Replica Op) → batch b ≡ replica r → ⊥
no_batch b r q = cc

pub replicas_have : {Op : Type 0} (ts : List (Thing Op)) (r : Replica Op) → Contains ts (replica r) → Contains (replicas ts) r
replicas_have [] r c = let l : c.0 < 0 = c.1 in absurd (omega arith)
replicas_have {Op} (replica s ∷ ts) r c =
    elim (Contains-cases (replica s) ts (replica r) c) [
      | inl q ↦ subst (λ (z : Replica Op). Contains (s ∷ replicas ts) z) (replica_injective s r q) (Contains-front s (replicas ts))
      | inr j ↦ Contains-more s (replicas ts) r (replicas_have ts r j)
    ]
replicas_have (batch b ∷ ts) r c =
    elim (Contains-cases (batch b) ts (replica r) c) [
      | inl q ↦ absurd (no_batch b r q)
      | inr j ↦ replicas_have ts r j
    ]

pub in_batches : {Op : Type 0} (ts : List (Thing Op)) (b : Batch Op) → Contains (batches ts) b → Contains ts (batch b)
in_batches [] b c = let l : c.0 < 0 = c.1 in absurd (omega arith)
in_batches (replica s ∷ ts) b c = Contains-more (replica s) ts (batch b) (in_batches ts b c)
in_batches {Op} (batch a ∷ ts) b c =
    elim (Contains-cases a (batches ts) b c) [
      | inl q ↦ subst (λ (z : Batch Op). Contains (batch a ∷ ts) (batch z)) q (Contains-front (batch a) ts)
      | inr j ↦ Contains-more (batch a) ts (batch b) (in_batches ts b j)
    ]

pub batches_have : {Op : Type 0} (ts : List (Thing Op)) (b : Batch Op) → Contains ts (batch b) → Contains (batches ts) b
batches_have [] b c = let l : c.0 < 0 = c.1 in absurd (omega arith)
batches_have (replica s ∷ ts) b c =
    elim (Contains-cases (replica s) ts (batch b) c) [
      | inl q ↦ absurd (no_batch b s (sym q))
      | inr j ↦ batches_have ts b j
    ]
batches_have {Op} (batch a ∷ ts) b c =
    elim (Contains-cases (batch a) ts (batch b) c) [
      | inl q ↦ subst (λ (z : Batch Op). Contains (a ∷ batches ts) z) (batch_injective a b q) (Contains-front a (batches ts))
      | inr j ↦ Contains-more a (batches ts) b (batches_have ts b j)
    ]

-- operations

pub in_operations : {Op : Type 0} (ts : List (Thing Op)) (e : Entry Op) → Contains (operations ts) e → (t : Thing Op) × Contains ts t × Contains (operations_of t) e
in_operations [] e c = let l : c.0 < 0 = c.1 in absurd (omega arith)
in_operations (t ∷ ts) e c =
    elim (Contains-append_cases (operations_of t) (operations ts) e c) [
      | inl i ↦ (t, Contains-front t ts, i)
      | inr j ↦ (let f = in_operations ts e j in (f.0, Contains-more t ts f.0 f.1, f.2))
    ]

pub operations_have : {Op : Type 0} (ts : List (Thing Op)) (t : Thing Op) (e : Entry Op) → Contains ts t → Contains (operations_of t) e → Contains (operations ts) e
operations_have [] t e c d = let l : c.0 < 0 = c.1 in absurd (omega arith)
operations_have {Op} (s ∷ ts) t e c d =
    elim (Contains-cases s ts t c) [
      | inl q ↦ Contains-append_left (operations_of s) (operations ts) e (subst (λ (z : Thing Op). Contains (operations_of z) e) (sym q) d)
      | inr j ↦ Contains-append_right (operations_of s) (operations ts) e (operations_have ts t e j d)
    ]

-- members

pub one_by_member : {Op : Type 0} (rs : List (Replica Op)) (r s : Replica Op) → IsDistinct nat_eq (map (λ r. r.me) rs) → Contains rs r → Contains rs s → r.me ≡ s.me → r ≡ s
one_by_member [] r s h c d q = let l : c.0 < 0 = c.1 in absurd (omega arith)
one_by_member {Op} (x ∷ rs) r s h c d q =
    let me : (Replica Op → ℕ) = λ r. r.me in
    let first = IsDistinct-head nat_eq x.me (map me rs) h in
    let rest = IsDistinct-tail nat_eq x.me (map me rs) h in
    let other : ((t : Replica Op) → Contains rs t → nat_eq x.me t.me ≡ false) = λ t j. at_member (λ (y : ℕ). nat_eq x.me y ≡ false) (map me rs) t.me first (Contains-map me rs t j) in
    elim (Contains-cases x rs r c) [
      | inl p ↦ elim (Contains-cases x rs s d) [
        | inl u ↦ sym p ∙ u
        | inr j ↦ absurd (both_ways (nat_eq x.me s.me) (other s j) (eq-eqb x.me s.me (ap me p ∙ q)))
      ]
      | inr i ↦ elim (Contains-cases x rs s d) [
        | inl u ↦ absurd (both_ways (nat_eq x.me r.me) (other r i) (eq-eqb x.me r.me (ap me u ∙ sym q)))
        | inr j ↦ one_by_member rs r s rest i j q
      ]
    ]

pub same_members : {Op : Type 0} (xs ys : List (Thing Op)) (r s : Replica Op) → s.me ≡ r.me
    → map (λ r. r.me) (replicas (xs ++ replica s ∷ ys)) ≡ map (λ r. r.me) (replicas (xs ++ replica r ∷ ys))
same_members {Op} [] ys r s q = ap (λ (j : ℕ). j ∷ map (λ (r : Replica Op). r.me) (replicas ys)) q
same_members (replica x ∷ xs) ys r s q = ap (λ (l : List ℕ). x.me ∷ l) (same_members xs ys r s q)
same_members (batch b ∷ xs) ys r s q = same_members xs ys r s q

pub replicas-batch : {Op : Type 0} (xs ys : List (Thing Op)) (b : Batch Op) → replicas (xs ++ batch b ∷ ys) ≡ replicas (xs ++ ys)
replicas-batch [] ys b = refl
replicas-batch (replica x ∷ xs) ys b = ap (λ l. x ∷ l) (replicas-batch xs ys b)
replicas-batch (batch a ∷ xs) ys b = replicas-batch xs ys b

pub members_more : {Op : Type 0} (ts : List (Thing Op)) (r : Replica Op) → map (λ r. r.me) (replicas (ts ++ replica r ∷ [])) ≡ map (λ r. r.me) (replicas ts) ++ r.me ∷ []
members_more [] r = refl
members_more (replica x ∷ ts) r = ap (λ (l : List ℕ). x.me ∷ l) (members_more ts r)
members_more (batch b ∷ ts) r = members_more ts r

pub none_distinct : IsDistinct nat_eq []
unfolding IsDistinct
none_distinct = tt

pub distinct_push : (xs : List ℕ) (y : ℕ) → IsDistinct nat_eq xs → AllByRecursion (λ x. nat_eq x y ≡ false) xs → IsDistinct nat_eq (xs ++ y ∷ [])
distinct_push [] y h k = IsDistinct-cons nat_eq y [] tt none_distinct
distinct_push (x ∷ xs) y h k =
    IsDistinct-cons nat_eq x (xs ++ y ∷ []) (all-append (λ (z : ℕ). nat_eq x z ≡ false) xs (y ∷ []) (IsDistinct-head nat_eq x xs h) (k.0, tt))
    (distinct_push xs y (IsDistinct-tail nat_eq x xs h) k.1)
