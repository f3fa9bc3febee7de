-- Two lists by rising key, interleaved, are the canonical list of both.
use Rattle.std.proofs.Common.{◌≡◌, ℕ, zero, suc, ◌-◌, ◌≤◌, take, Some, slice_get, true, false, List, [], ◌∷◌, ◌++◌, cond, refl, ap, sym, ◌∙◌, ◌⊎◌, inl, inr, subst, Contains, append_assoc, append-nil, ap₂, Result, OnOk, length, get_or, drop, ◌<◌, arith}
use Rattle.std.specs.List.{All, AllByRecursion}
use Rattle.std.proofs.lemmas.Result.{on_ok_weaker}
use Rattle.std.proofs.lemmas.Bool.{true_from_ne_false}
use Rattle.std.proofs.lemmas.List.Elements.{All-drop, Contains-append_left, Contains-append_right}
use Rattle.vector_clock.specs.Stamp.{IsStamp, is_below, same_id}
use Rattle.vector_clock.proofs.Keys.{key_either, key_level, key_trans, key_weak}
use Rattle.crdt_laws.specs.declared.small.Entry.{Entry}
use Rattle.crdt_laws.specs.Sets.{AreApart, IsHonest, IsRising, canonical, union}
use Rattle.crdt_laws.specs.Interleaved.{interleaved}
use Rattle.vector_clock.proofs.Keys.{same_id_sym}
use Rattle.std.proofs.lemmas.Bool.{both_ways}
use Rattle.std.proofs.lemmas.List.Elements.{Contains-append_cases}
use Rattle.crdt_laws.proofs.Place.{rising-canonical}
use Rattle.crdt_laws.proofs.Members.{Contains-canonical, Contains-cases, Contains-front, Contains-more, at_member, each, rising_same}
use Rattle.crdt_laws.proofs.Both.{honest_part, rising_apart, union_elements, union_rises}
use Rattle.vector_clock.proofs.Ordered.{all_weaker, rising_at}

pub interleaved-none : {Op : Type 0} (xs : List (Entry Op)) → interleaved xs [] ≡ xs
interleaved-none [] = refl
interleaved-none (x ∷ xs) = refl

pub all-interleaved : {Op : Type 0} (P : Entry Op → Type 0) (xs ys : List (Entry Op)) → AllByRecursion P xs → AllByRecursion P ys → AllByRecursion P (interleaved xs ys)
all-interleaved P [] ys h k = k
all-interleaved P (x ∷ xs) [] h k = h
all-interleaved P (x ∷ xs) (y ∷ ys) h k =
    elim (is_below x.stamp y.stamp) as (λ b. AllByRecursion P (cond b (x ∷ interleaved xs (y ∷ ys)) (cond (is_below y.stamp x.stamp) (y ∷ interleaved (x ∷ xs) ys) (x ∷ interleaved xs ys)))) [
      | true ↦ (h.0, all-interleaved P xs (y ∷ ys) h.1 k)
      | false ↦ elim (is_below y.stamp x.stamp) as (λ b. AllByRecursion P (cond b (y ∷ interleaved (x ∷ xs) ys) (x ∷ interleaved xs ys))) [
        | true ↦ (k.0, all-interleaved P (x ∷ xs) ys h k.1)
        | false ↦ (h.0, all-interleaved P xs ys h.1 k.1)
      ]
    ]

-- of two keys neither of which is less the ids are the same
level_names : {Op : Type 0} (x y : Entry Op) → is_below x.stamp y.stamp ≡ false → is_below y.stamp x.stamp ≡ false → same_id x.stamp y.stamp ≡ true
level_names x y h k = true_from_ne_false _ (λ e. elim (key_either x.stamp y.stamp e) [
  | inl f ↦ (let g : true ≡ false = sym f ∙ h in cc)
  | inr f ↦ (let g : true ≡ false = sym f ∙ k in cc)
])

same_below : {Op : Type 0} (x y z : Entry Op) → is_below x.stamp y.stamp ≡ false → is_below y.stamp x.stamp ≡ false → is_below y.stamp z.stamp ≡ true → is_below x.stamp z.stamp ≡ true
same_below x y z h k l = key_level x.stamp y.stamp z.stamp h k l

below_all : {Op : Type 0} (x y : Entry Op) (ys : List (Entry Op)) → is_below x.stamp y.stamp ≡ true → AllByRecursion (λ b. is_below y.stamp b.stamp ≡ true) ys → AllByRecursion (λ b. is_below x.stamp b.stamp ≡ true) ys
below_all {Op} x y ys h k = all_weaker (λ (b : Entry Op). is_below y.stamp b.stamp ≡ true) (λ b. is_below x.stamp b.stamp ≡ true) (λ b i. key_trans x.stamp y.stamp b.stamp h i) ys k

pub rising-interleaved : {Op : Type 0} (xs ys : List (Entry Op)) → IsRising xs → IsRising ys → IsRising (interleaved xs ys)
rising-interleaved [] ys h k = k
rising-interleaved (x ∷ xs) [] h k = h
rising-interleaved {Op} (x ∷ xs) (y ∷ ys) h k =
    (elim (is_below x.stamp y.stamp) as (λ b. is_below x.stamp y.stamp ≡ b → IsRising (cond b (x ∷ interleaved xs (y ∷ ys)) (cond (is_below y.stamp x.stamp) (y ∷ interleaved (x ∷ xs) ys) (x ∷ interleaved xs ys)))) [
      | true ↦ λ e. (all-interleaved (λ (b : Entry Op). is_below x.stamp b.stamp ≡ true) xs (y ∷ ys) h.0 (e, below_all x y ys e k.0), rising-interleaved xs (y ∷ ys) h.1 k)
      | false ↦ λ e. (elim (is_below y.stamp x.stamp) as (λ b. is_below y.stamp x.stamp ≡ b → IsRising (cond b (y ∷ interleaved (x ∷ xs) ys) (x ∷ interleaved xs ys))) [
        | true ↦ λ f. (all-interleaved (λ (b : Entry Op). is_below y.stamp b.stamp ≡ true) (x ∷ xs) ys (f, below_all y x xs f h.0) k.0, rising-interleaved (x ∷ xs) ys h k.1)
        | false ↦ λ f. (all-interleaved (λ (b : Entry Op). is_below x.stamp b.stamp ≡ true) xs ys h.0 (all_weaker (λ (b : Entry Op). is_below y.stamp b.stamp ≡ true) (λ b. is_below x.stamp b.stamp ≡ true) (λ b i. same_below x y b e f i) ys k.0), rising-interleaved xs ys h.1 k.1)
      ]) refl
    ]) refl

pub interleaved_from_both : {Op : Type 0} (xs ys : List (Entry Op)) (e : Entry Op) → Contains (interleaved xs ys) e → Contains xs e ⊎ Contains ys e
interleaved_from_both {Op} xs ys e c =
    let P : Entry Op → Type 0 = λ z. Contains xs z ⊎ Contains ys z in
    at_member P (interleaved xs ys) e (all-interleaved P xs ys (all_weaker (Contains xs) P (λ z i. inl i) xs (each xs)) (all_weaker (Contains ys) P (λ z i. inr i) ys (each ys))) c

-- an id that is in both is one entry
abbrev Meets : {Op : Type 0} → List (Entry Op) → List (Entry Op) → Type 0
Meets {Op} xs ys = (a b : Entry Op) → Contains xs a → Contains ys b → same_id a.stamp b.stamp ≡ true → a ≡ b

within : {Op : Type 0} (xs ys : List (Entry Op)) → Meets xs ys → AllByRecursion (Contains (interleaved xs ys)) xs × AllByRecursion (Contains (interleaved xs ys)) ys
within [] ys m = (tt, each ys)
within (x ∷ xs) [] m = (each (x ∷ xs), tt)
within {Op} (x ∷ xs) (y ∷ ys) m =
    (elim (is_below x.stamp y.stamp) as (λ b. is_below x.stamp y.stamp ≡ b → Both (cond b (x ∷ interleaved xs (y ∷ ys)) (cond (is_below y.stamp x.stamp) (y ∷ interleaved (x ∷ xs) ys) (x ∷ interleaved xs ys)))) [
      | true ↦ λ e. (let ih = within xs (y ∷ ys) (λ a b i. m a b (Contains-more x xs a i)) in
          let l = interleaved xs (y ∷ ys) in
          ((Contains-front x l, more x l xs ih.0), more x l (y ∷ ys) ih.1))
      | false ↦ λ e. (elim (is_below y.stamp x.stamp) as (λ b. is_below y.stamp x.stamp ≡ b → Both (cond b (y ∷ interleaved (x ∷ xs) ys) (x ∷ interleaved xs ys))) [
        | true ↦ λ f. (let ih = within (x ∷ xs) ys (λ a b i j. m a b i (Contains-more y ys b j)) in
            let l = interleaved (x ∷ xs) ys in
            (more y l (x ∷ xs) ih.0, (Contains-front y l, more y l ys ih.1)))
        | false ↦ λ f. (let ih = within xs ys (λ a b i j. m a b (Contains-more x xs a i) (Contains-more y ys b j)) in
            let l = interleaved xs ys in
            let same : x ≡ y = m x y (Contains-front x xs) (Contains-front y ys) (level_names x y e f) in
            ((Contains-front x l, more x l xs ih.0), (subst (Contains (x ∷ l)) same (Contains-front x l), more x l ys ih.1)))
      ]) refl
    ]) refl
  where
    Both : List (Entry Op) → Type 0
    Both l = AllByRecursion (Contains l) (x ∷ xs) × AllByRecursion (Contains l) (y ∷ ys)

    more : (a : Entry Op) (l zs : List (Entry Op)) → AllByRecursion (Contains l) zs → AllByRecursion (Contains (a ∷ l)) zs
    more a l zs h = all_weaker (Contains l) (Contains (a ∷ l)) (λ z c. Contains-more a l z c) zs h

-- on an honest union the interleaved list is the canonical list of both
pub interleaved_union : {Op : Type 0} (xs ys : List (Entry Op)) → IsRising xs → IsRising ys → IsHonest (xs ++ ys) → interleaved xs ys ≡ union xs ys
interleaved_union xs ys r s h =
    let left : AreApart xs = rising_apart xs (honest_part (xs ++ ys) xs h (Contains-append_left xs ys)) r in
    let right : AreApart ys = rising_apart ys (honest_part (xs ++ ys) ys h (Contains-append_right xs ys)) s in
    let all = within xs ys (λ a b i j. h.same a b (Contains-append_left xs ys a i) (Contains-append_right xs ys b j)) in
    rising_same (interleaved xs ys) (union xs ys) (rising-interleaved xs ys r s) (union_rises xs ys left right) (λ e. (
      λ c. (union_elements xs ys h e).1 (interleaved_from_both xs ys e c),
      λ c. elim ((union_elements xs ys h e).0 c) [
        | inl i ↦ at_member (Contains (interleaved xs ys)) xs e all.0 i
        | inr i ↦ at_member (Contains (interleaved xs ys)) ys e all.1 i
      ],
    ))

-- where no id stands twice, two of one id are one
pub apart_one : {Op : Type 0} (l : List (Entry Op)) (a b : Entry Op) → AreApart l → Contains l a → Contains l b → same_id a.stamp b.stamp ≡ true → a ≡ b
apart_one [] a b h c d q = let l : c.0 < 0 = c.1 in absurd (omega arith)
apart_one {Op} (x ∷ l) a b h c d q =
    elim (Contains-cases x l a c) [
      | inl i ↦ elim (Contains-cases x l b d) [
        | inl j ↦ sym i ∙ j
        | inr j ↦ absurd (both_ways (same_id x.stamp b.stamp) (at_member (λ (e : Entry Op). same_id x.stamp e.stamp ≡ false) l b h.0 j) (subst (λ (z : Entry Op). same_id z.stamp b.stamp ≡ true) (sym i) q))
      ]
      | inr i ↦ elim (Contains-cases x l b d) [
        | inl j ↦ absurd (both_ways (same_id x.stamp a.stamp) (at_member (λ (e : Entry Op). same_id x.stamp e.stamp ≡ false) l a h.0 i) (subst (λ (z : Entry Op). same_id z.stamp a.stamp ≡ true) (sym j) (same_id_sym a.stamp b.stamp q)))
        | inr j ↦ apart_one l a b h.1 i j q
      ]
    ]

-- where no id stands twice, whoever made the operations, the interleaved list is the canonical list of both
pub interleaved_canonical : {Op : Type 0} (xs ys : List (Entry Op)) → IsRising xs → IsRising ys → AreApart (xs ++ ys) → interleaved xs ys ≡ canonical (xs ++ ys)
interleaved_canonical xs ys r s h =
    let all = within xs ys (λ a b i j q. apart_one (xs ++ ys) a b h (Contains-append_left xs ys a i) (Contains-append_right xs ys b j) q) in
    rising_same (interleaved xs ys) (canonical (xs ++ ys)) (rising-interleaved xs ys r s) (rising-canonical (xs ++ ys) h) (λ e. (
      λ c. (Contains-canonical (xs ++ ys) e).0 (elim (interleaved_from_both xs ys e c) [
        | inl i ↦ Contains-append_left xs ys e i
        | inr i ↦ Contains-append_right xs ys e i
      ]),
      λ c. elim (Contains-append_cases xs ys e ((Contains-canonical (xs ++ ys) e).1 c)) [
        | inl i ↦ at_member (Contains (interleaved xs ys)) xs e all.0 i
        | inr i ↦ at_member (Contains (interleaved xs ys)) ys e all.1 i
      ],
    ))

-- the steps of the program that interleaves

first_and_rest : {X : Type 0} (l : List X) (x : X) → 0 < length l → x ≡ get_or l 0 x → l ≡ x ∷ drop 1 l
first_and_rest [] x h e = absurd (omega arith)
first_and_rest (a ∷ l) x h e = let f : x ≡ a = e in ap (λ z. z ∷ l) (sym f)

-- what two lists begin with
pub record Fronts {Op : Type 0} (xs ys : List (Entry Op)) (x y : Entry Op) : Type 0 where
  pub left : xs ≡ x ∷ drop 1 xs
  pub right : ys ≡ y ∷ drop 1 ys

pub fronts : {Op : Type 0} (xs ys : List (Entry Op)) (x y : Entry Op) → 0 < length xs → 0 < length ys → x ≡ get_or xs 0 x → y ≡ get_or ys 0 y → Fronts xs ys x y
fronts xs ys x y m n e f = record { left = first_and_rest xs x m e; right = first_and_rest ys y n f }

moved : {Op : Type 0} (j k l m n : List (Entry Op)) (x : Entry Op) → k ≡ j ++ x ∷ [] → l ≡ m → n ≡ x ∷ m → k ++ l ≡ j ++ n
moved j k l m n x e f h = ap (λ z. z ++ l) e ∙ append_assoc j (x ∷ []) l ∙ ap (λ z. j ++ z) (ap (λ z. x ∷ z) f ∙ sym h)

left_step : {Op : Type 0} (to to' : List (Entry Op)) (xs ys xs' : List (Entry Op)) (x y : Entry Op) → Fronts xs ys x y → is_below x.stamp y.stamp ≡ true → xs' ≡ drop 1 xs → to' ≡ to ++ x ∷ [] → to' ++ interleaved xs' ys ≡ to ++ interleaved xs ys
left_step to to' xs ys xs' x y f h e m =
    let next : interleaved (x ∷ drop 1 xs) (y ∷ drop 1 ys) ≡ x ∷ interleaved (drop 1 xs) (y ∷ drop 1 ys) = cc in
    moved to to' (interleaved xs' ys) (interleaved (drop 1 xs) ys) (interleaved xs ys) x m (ap (λ l. interleaved l ys) e)
    (ap₂ interleaved f.left f.right ∙ next ∙ ap (λ l. x ∷ interleaved (drop 1 xs) l) (sym f.right))

right_step : {Op : Type 0} (to to' : List (Entry Op)) (xs ys ys' : List (Entry Op)) (x y : Entry Op) → Fronts xs ys x y → is_below x.stamp y.stamp ≡ false → is_below y.stamp x.stamp ≡ true → ys' ≡ drop 1 ys → to' ≡ to ++ y ∷ [] → to' ++ interleaved xs ys' ≡ to ++ interleaved xs ys
right_step to to' xs ys ys' x y f h i e m =
    let next : interleaved (x ∷ drop 1 xs) (y ∷ drop 1 ys) ≡ y ∷ interleaved (x ∷ drop 1 xs) (drop 1 ys) = cc in
    moved to to' (interleaved xs ys') (interleaved xs (drop 1 ys)) (interleaved xs ys) y m (ap (interleaved xs) e)
    (ap₂ interleaved f.left f.right ∙ next ∙ ap (λ l. y ∷ interleaved l (drop 1 ys)) (sym f.left))

level_step : {Op : Type 0} (to to' : List (Entry Op)) (xs ys xs' ys' : List (Entry Op)) (x y : Entry Op) → Fronts xs ys x y → is_below x.stamp y.stamp ≡ false → is_below y.stamp x.stamp ≡ false → xs' ≡ drop 1 xs → ys' ≡ drop 1 ys → to' ≡ to ++ x ∷ [] → to' ++ interleaved xs' ys' ≡ to ++ interleaved xs ys
level_step to to' xs ys xs' ys' x y f h i d e m =
    let next : interleaved (x ∷ drop 1 xs) (y ∷ drop 1 ys) ≡ x ∷ interleaved (drop 1 xs) (drop 1 ys) = cc in
    moved to to' (interleaved xs' ys') (interleaved (drop 1 xs) (drop 1 ys)) (interleaved xs ys) x m (ap₂ interleaved d e)
    (ap₂ interleaved f.left f.right ∙ next)

-- when one of the lists is empty, the other is left
pub last_step : {Op : Type 0} (to xs ys : List (Entry Op)) → (xs ≡ []) ⊎ (ys ≡ []) → (to ++ xs) ++ ys ≡ to ++ interleaved xs ys
last_step to xs ys (inl e) = ap (λ l. (to ++ l) ++ ys) e ∙ ap (λ l. l ++ ys) (append-nil to) ∙ ap (λ l. to ++ interleaved l ys) (sym e)
last_step to xs ys (inr e) = ap (λ l. (to ++ xs) ++ l) e ∙ append-nil (to ++ xs) ∙ ap (λ l. to ++ l) (sym (interleaved-none xs)) ∙ ap (λ l. to ++ interleaved xs l) (sym e)

pub emptied : {X : Type 0} (l : List X) → length l ≡ 0 → l ≡ []
emptied [] h = refl
emptied (x ∷ l) h = absurd (omega arith)

pub left_ok : {T E Op : Type 0} (r : Result T E) (to to' xs ys xs' : List (Entry Op)) (x y : Entry Op) → Fronts xs ys x y → is_below x.stamp y.stamp ≡ true → xs' ≡ drop 1 xs → OnOk r (to' ≡ to ++ x ∷ []) → OnOk r (to' ++ interleaved xs' ys ≡ to ++ interleaved xs ys)
left_ok r to to' xs ys xs' x y f h e m = on_ok_weaker r (left_step to to' xs ys xs' x y f h e) m

pub right_ok : {T E Op : Type 0} (r : Result T E) (to to' xs ys ys' : List (Entry Op)) (x y : Entry Op) → Fronts xs ys x y → is_below x.stamp y.stamp ≡ false → is_below y.stamp x.stamp ≡ true → ys' ≡ drop 1 ys → OnOk r (to' ≡ to ++ y ∷ []) → OnOk r (to' ++ interleaved xs ys' ≡ to ++ interleaved xs ys)
right_ok r to to' xs ys ys' x y f h i e m = on_ok_weaker r (right_step to to' xs ys ys' x y f h i e) m

pub level_ok : {T E Op : Type 0} (r : Result T E) (to to' xs ys xs' ys' : List (Entry Op)) (x y : Entry Op) → Fronts xs ys x y → is_below x.stamp y.stamp ≡ false → is_below y.stamp x.stamp ≡ false → xs' ≡ drop 1 xs → ys' ≡ drop 1 ys → OnOk r (to' ≡ to ++ x ∷ []) → OnOk r (to' ++ interleaved xs' ys' ≡ to ++ interleaved xs ys)
level_ok r to to' xs ys xs' ys' x y f h i d e m = on_ok_weaker r (level_step to to' xs ys xs' ys' x y f h i d e) m

pub stamps_left : {Op : Type 0} (xs ys : List (Entry Op)) → ys ≡ drop 1 xs → All (λ e. IsStamp e.stamp) xs → All (λ e. IsStamp e.stamp) ys
stamps_left {Op} xs ys e h = subst (λ (l : List (Entry Op)). All (λ e. IsStamp e.stamp) l) (sym e) (All-drop (λ (e : Entry Op). IsStamp e.stamp) 1 xs h)

-- what stands before all of the second list stays in front
before_head : {Op : Type 0} (xs ys : List (Entry Op)) (y : Entry Op) (i : ℕ) → i ≤ length xs → ((k : ℕ) → k < i → is_below (get_or xs k y).stamp y.stamp ≡ true)
    → take i xs ++ interleaved (drop i xs) (y ∷ ys) ≡ interleaved xs (y ∷ ys)
before_head xs ys y zero m b = refl
before_head [] ys y (suc i) m b = absurd (omega arith)
before_head (x ∷ xs) ys y (suc i) m b =
    let first : is_below x.stamp y.stamp ≡ true = b 0 (omega arith) in
    let ih : take i xs ++ interleaved (drop i xs) (y ∷ ys) ≡ interleaved xs (y ∷ ys) = before_head xs ys y i (omega arith) (λ k l. b (suc k) (omega arith)) in
    rw first (ap (λ l. x ∷ l) ih)

-- So does what stands before an entry whose key is at most that of the head.
pub split_at : {Op : Type 0} (xs ys : List (Entry Op)) (y : Entry Op) (i : ℕ) → Some y ≡ slice_get ys 0 → IsRising xs → i ≤ length xs
    → ((k : ℕ) (d : Entry Op) → k < i → is_below y.stamp (get_or xs k d).stamp ≡ false) → take (i - 1) xs ++ interleaved (drop (i - 1) xs) ys ≡ interleaved xs ys
split_at xs [] y i h r m b = cc
split_at {Op} xs (z ∷ ys) y i h r m b =
    let same : y ≡ z = cc in
    before_head xs ys z (i - 1) (omega arith) (λ k l. key_weak (get_or xs k z).stamp (get_or xs (i - 1) z).stamp z.stamp
    (rising_at (λ (e : Entry Op). e.stamp) xs z r k (i - 1) (omega arith) (omega arith))
    (subst (λ (e : Entry Op). is_below e.stamp (get_or xs (i - 1) z).stamp ≡ false) same (b (i - 1) z (omega arith))))
