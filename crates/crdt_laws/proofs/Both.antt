-- The union of two sets of operations.
use Rattle.std.proofs.Common.{◌≡◌, true, false, not, List, [], ◌∷◌, ◌++◌, cond, refl, arith, ◌⊎◌, ◌↔◌, inl, inr, subst, All, Contains}
use Rattle.std.specs.List.{AllByRecursion, filter}
use Rattle.std.proofs.lemmas.Bool.{false_from_ne_true}
use Rattle.std.proofs.lemmas.Bool.Decides.{nat_tests}
use Rattle.std.proofs.lemmas.List.Elements.{All-contains, All-from_recursion, Contains-append_left, Contains-append_right, Contains-append_cases}
use Rattle.vector_clock.specs.declared.stamp.Stamp.{Stamp}
use Rattle.vector_clock.specs.Stamp.{id_of, is_below, same_id}
use Rattle.vector_clock.proofs.Keys.{key_irreflexive}
use Rattle.crdt_laws.specs.declared.small.Entry.{Entry}
use Rattle.crdt_laws.specs.Sets.{AreApart, IsHonest, IsRising, canonical, has_id, union}
use Rattle.crdt_laws.proofs.Filters.{all-append, apart-filter}
use Rattle.crdt_laws.proofs.Members.{Contains-canonical, Contains-front, Contains-more, at_member, each, filter_has, filter_inside, rising_same}
use Rattle.crdt_laws.proofs.Place.{rising-canonical}
use Rattle.vector_clock.proofs.Ordered.{all_weaker}

-- a part of an honest set is honest
pub honest_part : {Op : Type 0} (xs ys : List (Entry Op)) → IsHonest xs → ((e : Entry Op) → Contains ys e → Contains xs e) → IsHonest ys
honest_part xs ys h part = record {
  same = λ a b i j. h.same a b (part a i) (part b j);
  known = λ a b i j. h.known a b (part a i) (part b j);
}

honest_swap : {Op : Type 0} (xs ys : List (Entry Op)) → IsHonest (xs ++ ys) → IsHonest (ys ++ xs)
honest_swap xs ys h = honest_part (xs ++ ys) (ys ++ xs) h (λ e c. elim (Contains-append_cases ys xs e c) [
  | inl i ↦ Contains-append_right xs ys e i
  | inr i ↦ Contains-append_left xs ys e i
])

-- ids

has_id-front : {Op : Type 0} (a : Entry Op) (xs : List (Entry Op)) (p : Stamp) → same_id a.stamp p ≡ true → has_id (a ∷ xs) (id_of p) ≡ true
unfolding same_id
has_id-front a xs p h = grind (arith, nat_tests)

has_id-behind : {Op : Type 0} (a : Entry Op) (xs : List (Entry Op)) (p : Stamp) → has_id xs (id_of p) ≡ true → has_id (a ∷ xs) (id_of p) ≡ true
has_id-behind a xs p h = grind (arith, nat_tests)

has_id-cases : {Op : Type 0} (a : Entry Op) (xs : List (Entry Op)) (p : Stamp) → has_id (a ∷ xs) (id_of p) ≡ true → (same_id a.stamp p ≡ true) ⊎ (has_id xs (id_of p) ≡ true)
unfolding same_id
has_id-cases a xs p h = grind (arith, nat_tests)

has_id-from : {Op : Type 0} (xs : List (Entry Op)) (a : Entry Op) (p : Stamp) → Contains xs a → same_id a.stamp p ≡ true → has_id xs (id_of p) ≡ true
has_id-from {Op} xs a p c h = at_member (λ (e : Entry Op). same_id e.stamp p ≡ true → has_id xs (id_of p) ≡ true) xs a (go xs) c h
  where
    go : (l : List (Entry Op)) → AllByRecursion (λ e. same_id e.stamp p ≡ true → has_id l (id_of p) ≡ true) l
    go [] = tt
    go (b ∷ l) = (has_id-front b l p, all_weaker _ (λ e. same_id e.stamp p ≡ true → has_id (b ∷ l) (id_of p) ≡ true) (λ e k h. has_id-behind b l p (k h)) l (go l))

-- which operation has the id
has_id-who : {Op : Type 0} (xs : List (Entry Op)) (p : Stamp) → has_id xs (id_of p) ≡ true → (a : Entry Op) × (Contains xs a × (same_id a.stamp p ≡ true))
has_id-who [] p h = (let f : false ≡ true = h in cc)
has_id-who (a ∷ xs) p h = elim (has_id-cases a xs p h) [
  | inl i ↦ (a, (Contains-front a xs, i))
  | inr i ↦ (let w = has_id-who xs p i in (w.0, (Contains-more a xs w.0 w.1.0, w.1.1)))
]

-- no entry of the second list has an id of the first
others_apart : {Op : Type 0} (xs ys : List (Entry Op)) (a : Entry Op) → Contains xs a → AllByRecursion (λ b. same_id a.stamp b.stamp ≡ false) (filter (λ e. not (has_id xs (id_of e.stamp))) ys)
others_apart xs [] a c = tt
others_apart xs (y ∷ ys) a c =
    (elim (has_id xs (id_of y.stamp)) as (λ t. has_id xs (id_of y.stamp) ≡ t → AllByRecursion (λ b. same_id a.stamp b.stamp ≡ false) (cond (not t) (y ∷ filter (λ e. not (has_id xs (id_of e.stamp))) ys) (filter (λ e. not (has_id xs (id_of e.stamp))) ys))) [
      | true ↦ λ e. others_apart xs ys a c
      | false ↦ λ e. (false_from_ne_true _ (λ q. let f : has_id xs (id_of y.stamp) ≡ true = has_id-from xs a y.stamp c q in cc), others_apart xs ys a c)
    ]) refl

apart-append : {Op : Type 0} (xs ys : List (Entry Op)) → AreApart xs → AreApart ys → ((a : Entry Op) → Contains xs a → AllByRecursion (λ b. same_id a.stamp b.stamp ≡ false) ys) → AreApart (xs ++ ys)
apart-append [] ys h k o = k
apart-append (a ∷ xs) ys h k o =
    (all-append (λ b. same_id a.stamp b.stamp ≡ false) xs ys h.0 (o a (Contains-front a xs)), apart-append xs ys h.1 k (λ e c. o e (Contains-more a xs e c)))

both_apart : {Op : Type 0} (xs ys : List (Entry Op)) → AreApart xs → AreApart ys → AreApart (xs ++ filter (λ e. not (has_id xs (id_of e.stamp))) ys)
both_apart xs ys h k = apart-append xs _ h (apart-filter _ ys k) (others_apart xs ys)

-- in an honest set, keys that rise are of different ids
pub rising_apart : {Op : Type 0} (xs : List (Entry Op)) → IsHonest xs → IsRising xs → AreApart xs
rising_apart [] h r = tt
rising_apart {Op} (a ∷ xs) h r = (
  all_weaker (Contains xs) (λ (b : Entry Op). same_id a.stamp b.stamp ≡ false) (λ b c.
      false_from_ne_true _ (λ q.
      let e : a ≡ b = h.same a b (Contains-front a xs) (Contains-more a xs b c) q in
      let f : is_below a.stamp b.stamp ≡ true = at_member (λ (z : Entry Op). is_below a.stamp z.stamp ≡ true) xs b r.0 c in
      key_irreflexive b.stamp (subst (λ (z : Entry Op). is_below z.stamp b.stamp ≡ true) e f))) xs (each xs),
  rising_apart xs (honest_part (a ∷ xs) xs h (λ e c. Contains-more a xs e c)) r.1,
)

-- the union

pub union_from : {Op : Type 0} (xs ys : List (Entry Op)) (e : Entry Op) → Contains (union xs ys) e → Contains xs e ⊎ Contains ys e
unfolding union
union_from xs ys e c =
    elim (Contains-append_cases xs (filter (λ e. not (has_id xs (id_of e.stamp))) ys) e ((Contains-canonical _ e).1 c)) [
      | inl i ↦ inl i
      | inr i ↦ inr (filter_inside _ ys e i)
    ]

pub union_first : {Op : Type 0} (xs ys : List (Entry Op)) (e : Entry Op) → Contains xs e → Contains (union xs ys) e
unfolding union
union_first xs ys e c = (Contains-canonical _ e).0 (Contains-append_left xs _ e c)

pub union_second : {Op : Type 0} (xs ys : List (Entry Op)) (e : Entry Op) → IsHonest (xs ++ ys) → Contains ys e → Contains (union xs ys) e
unfolding union
union_second xs ys e h c = (elim (has_id xs (id_of e.stamp)) as (λ t. has_id xs (id_of e.stamp) ≡ t → Contains (union xs ys) e) [
  | true ↦ λ q. (let w = has_id-who xs e.stamp q in
      let same : w.0 ≡ e = h.same w.0 e (Contains-append_left xs ys w.0 w.1.0) (Contains-append_right xs ys e c) w.1.1 in
      union_first xs ys e (subst (λ z. Contains xs z) same w.1.0))
  | false ↦ λ q. (Contains-canonical _ e).0 (Contains-append_right xs _ e (filter_has _ ys e c (let f : not (has_id xs (id_of e.stamp)) ≡ true = cc in f)))
]) refl

pub union_elements : {Op : Type 0} (xs ys : List (Entry Op)) → IsHonest (xs ++ ys) → (e : Entry Op) → Contains (union xs ys) e ↔ (Contains xs e ⊎ Contains ys e)
union_elements xs ys h e = (
  union_from xs ys e,
  λ c. elim c [ inl i ↦ union_first xs ys e i | inr i ↦ union_second xs ys e h i ],
)

pub union_rises : {Op : Type 0} (xs ys : List (Entry Op)) → AreApart xs → AreApart ys → IsRising (union xs ys)
unfolding union
union_rises xs ys h k = rising-canonical _ (both_apart xs ys h k)

turned : {A B : Type 0} → A ⊎ B → B ⊎ A
turned (inl a) = inr a
turned (inr b) = inl b

pub union_commutes : {Op : Type 0} (xs ys : List (Entry Op)) → IsHonest (xs ++ ys) → AreApart xs → AreApart ys → union xs ys ≡ union ys xs
union_commutes xs ys h a b =
    rising_same (union xs ys) (union ys xs) (union_rises xs ys a b) (union_rises ys xs b a) (λ e. (
      λ c. (union_elements ys xs (honest_swap xs ys h) e).1 (turned (union_from xs ys e c)),
      λ c. (union_elements xs ys h e).1 (turned (union_from ys xs e c)),
    ))

-- a part of what is in the other changes nothing
pub union_within : {Op : Type 0} (xs ys : List (Entry Op)) → AreApart xs → AreApart ys → ((e : Entry Op) → Contains ys e → Contains xs e) → union xs ys ≡ canonical xs
union_within xs ys a b sub =
    rising_same (union xs ys) (canonical xs) (union_rises xs ys a b) (rising-canonical xs a) (λ e. (
      λ c. (Contains-canonical xs e).0 (elim (union_from xs ys e c) [ inl i ↦ i | inr i ↦ sub e i ]),
      λ c. union_first xs ys e ((Contains-canonical xs e).1 c),
    ))

-- a list of parts of an honest set is an honest set's
honest_parts : {Op : Type 0} (all xs ys : List (Entry Op)) → IsHonest all → ((e : Entry Op) → Contains xs e → Contains all e) → ((e : Entry Op) → Contains ys e → Contains all e) → IsHonest (xs ++ ys)
honest_parts all xs ys h left right = honest_part all (xs ++ ys) h (λ e c. elim (Contains-append_cases xs ys e c) [ inl i ↦ left e i | inr i ↦ right e i ])

grouped : {A B C : Type 0} → (A ⊎ B) ⊎ C → A ⊎ (B ⊎ C)
grouped (inl (inl a)) = inl a
grouped (inl (inr b)) = inr (inl b)
grouped (inr c) = inr (inr c)

regrouped : {A B C : Type 0} → A ⊎ (B ⊎ C) → (A ⊎ B) ⊎ C
regrouped (inl a) = inl (inl a)
regrouped (inr (inl b)) = inl (inr b)
regrouped (inr (inr c)) = inr c

either : {A B C D : Type 0} → (A → C) → (B → D) → A ⊎ B → C ⊎ D
either f g (inl a) = inl (f a)
either f g (inr b) = inr (g b)

pub union_associates : {Op : Type 0} (xs ys zs : List (Entry Op)) → IsHonest ((xs ++ ys) ++ zs) → AreApart xs → AreApart ys → AreApart zs → union (union xs ys) zs ≡ union xs (union ys zs)
union_associates {Op} xs ys zs h a b c =
    let all : List (Entry Op) = (xs ++ ys) ++ zs in
    let x : (e : Entry Op) → Contains xs e → Contains all e = λ e i. Contains-append_left (xs ++ ys) zs e (Contains-append_left xs ys e i) in
    let y : (e : Entry Op) → Contains ys e → Contains all e = λ e i. Contains-append_left (xs ++ ys) zs e (Contains-append_right xs ys e i) in
    let z : (e : Entry Op) → Contains zs e → Contains all e = λ e i. Contains-append_right (xs ++ ys) zs e i in
    let xy : (e : Entry Op) → Contains (union xs ys) e → Contains all e = λ e i. elim (union_from xs ys e i) [ inl j ↦ x e j | inr j ↦ y e j ] in
    let yz : (e : Entry Op) → Contains (union ys zs) e → Contains all e = λ e i. elim (union_from ys zs e i) [ inl j ↦ y e j | inr j ↦ z e j ] in
    let p : IsHonest (union xs ys ++ zs) = honest_parts all (union xs ys) zs h xy z in
    let q : IsHonest (xs ++ union ys zs) = honest_parts all xs (union ys zs) h x yz in
    let first : IsHonest (xs ++ ys) = honest_parts all xs ys h x y in
    let last : IsHonest (ys ++ zs) = honest_parts all ys zs h y z in
    let d : AreApart (union xs ys) = rising_apart (union xs ys) (honest_part all (union xs ys) h xy) (union_rises xs ys a b) in
    let e : AreApart (union ys zs) = rising_apart (union ys zs) (honest_part all (union ys zs) h yz) (union_rises ys zs b c) in
    rising_same (union (union xs ys) zs) (union xs (union ys zs)) (union_rises (union xs ys) zs d c) (union_rises xs (union ys zs) a e) (λ f. (
      λ i. (union_elements xs (union ys zs) q f).1 (either (λ j. j) (union_elements ys zs last f).1 (grouped (either (union_from xs ys f) (λ j. j) (union_from (union xs ys) zs f i)))),
      λ i. (union_elements (union xs ys) zs p f).1 (either (union_elements xs ys first f).1 (λ j. j) (regrouped (either (λ j. j) (union_from ys zs f) (union_from xs (union ys zs) f i)))),
    ))

-- what all have of both lists, all have of a list that has no others
pub all_of_both : {X : Type 0} (P : X → Type 0) (xs ys r : List X) → ((e : X) → Contains r e → Contains xs e ⊎ Contains ys e) → All P xs → All P ys → All P r
all_of_both P xs ys r from h k =
    All-from_recursion P r (all_weaker (Contains r) P (λ e c. elim (from e c) [ inl i ↦ All-contains P xs e h i | inr i ↦ All-contains P ys e k i ]) r (each r))
