-- Sets as lists: what they contain, and what a new operation meets in them.
use Rattle.std.proofs.Common.{◌≡◌, ℕ, zero, suc, ◌<◌, Bool, true, false, List, [], ◌∷◌, cond, refl, ap, ap₂, sym, ◌∙◌, arith, ◌⊎◌, ◌↔◌, inl, inr, subst, get_or, length, Contains}
use Rattle.std.specs.List.{AllByRecursion, filter}
use Rattle.std.proofs.lemmas.Bool.{cond_both, both_ways}
use Rattle.std.proofs.lemmas.List.Elements.{All-filter, All-from_recursion, recursion_from_All, All-contains_itself, All-contains, filter_passes}
use Rattle.vector_clock.specs.Stamp.{is_below}
use Rattle.vector_clock.proofs.Keys.{key_asym, key_irreflexive}
use Rattle.crdt_laws.specs.declared.small.Entry.{Entry}
use Rattle.crdt_laws.specs.Sets.{place, canonical, AreApart, IsRising}
use Rattle.crdt_laws.proofs.Place.{rising-canonical, all-canonical}
use Rattle.vector_clock.proofs.Ordered.{all_weaker}

pub each : {X : Type 0} (xs : List X) → AllByRecursion (Contains xs) xs
each xs = recursion_from_All (Contains xs) xs (All-contains_itself xs)

pub at_member : {X : Type 0} (P : X → Type 0) (xs : List X) (x : X) → AllByRecursion P xs → Contains xs x → P x
at_member P xs x h c = All-contains P xs x (All-from_recursion P xs h) c

pub Contains-front : {X : Type 0} (x : X) (xs : List X) → Contains (x ∷ xs) x
Contains-front x xs = (0, omega arith, refl)

pub Contains-more : {X : Type 0} (a : X) (xs : List X) (x : X) → Contains xs x → Contains (a ∷ xs) x
Contains-more a xs x c = (suc c.0, (let h : c.0 < length xs = c.1 in omega arith), c.2)

pub Contains-cases : {X : Type 0} (a : X) (xs : List X) (x : X) → Contains (a ∷ xs) x → (a ≡ x) ⊎ Contains xs x
Contains-cases a xs x c = go c.0 c.1 c.2
  where
    go : (k : ℕ) → k < length (a ∷ xs) → get_or (a ∷ xs) k x ≡ x → (a ≡ x) ⊎ Contains xs x
    go zero l e = inl e
    go (suc k) l e = inr (k, (let h : suc k < suc (length xs) = l in omega arith), e)

-- what a filter leaves

pub filter_inside : {X : Type 0} (p : X → Bool) (xs : List X) (x : X) → Contains (filter p xs) x → Contains xs x
filter_inside p xs x c = All-contains (Contains xs) (filter p xs) x (All-filter p (Contains xs) xs (All-contains_itself xs)) c

pub filter_passed : {X : Type 0} (p : X → Bool) (xs : List X) (x : X) → Contains (filter p xs) x → p x ≡ true
filter_passed p xs x c = All-contains (λ y. p y ≡ true) (filter p xs) x (filter_passes p xs) c

pub filter_has : {X : Type 0} (p : X → Bool) (xs : List X) (x : X) → Contains xs x → p x ≡ true → Contains (filter p xs) x
filter_has p [] x c h = let l : c.0 < 0 = c.1 in absurd (omega arith)
filter_has p (y ∷ xs) x c h =
    let cases = Contains-cases y xs x c in
    cond_both (p y) (y ∷ filter p xs) (filter p xs) (λ l. Contains l x)
    (λ _. elim cases [
      | inl q ↦ subst (λ z. Contains (y ∷ filter p xs) z) q (Contains-front y (filter p xs))
      | inr j ↦ Contains-more y (filter p xs) x (filter_has p xs x j h)
    ])
    (λ f. elim cases [
      | inl q ↦ absurd (both_ways (p y) f (ap p q ∙ h))
      | inr j ↦ filter_has p xs x j h
    ])

-- lists by key

above : {Op : Type 0} (a : Entry Op) (c : List (Entry Op)) → IsRising (a ∷ c) → (e : Entry Op) → Contains c e → is_below a.stamp e.stamp ≡ true
above {Op} a c r e k = at_member (λ (b : Entry Op). is_below a.stamp b.stamp ≡ true) c e r.0 k

same_first : {Op : Type 0} (a b : Entry Op) (c d : List (Entry Op)) → IsRising (a ∷ c) → IsRising (b ∷ d) → Contains (b ∷ d) a → Contains (a ∷ c) b → a ≡ b
same_first a b c d r s h k =
    elim (Contains-cases b d a h) [
      | inl e ↦ sym e
      | inr i ↦ elim (Contains-cases a c b k) [
        | inl e ↦ e
        | inr j ↦
            (let f : is_below b.stamp a.stamp ≡ true = above b d s a i in
            let g : is_below b.stamp a.stamp ≡ false = key_asym a.stamp b.stamp (above a c r b j) in
            cc)
      ]
    ]

-- what stands behind equal first ones
rest : {Op : Type 0} (a b : Entry Op) (c d : List (Entry Op)) → a ≡ b → IsRising (a ∷ c) → ((e : Entry Op) → Contains (a ∷ c) e → Contains (b ∷ d) e) → (e : Entry Op) → Contains c e → Contains d e
rest a b c d q r h e k =
    elim (Contains-cases b d e (h e (Contains-more a c e k))) [
      | inl f ↦ (let g : is_below a.stamp e.stamp ≡ true = above a c r e k in let i : a ≡ e = q ∙ f in absurd (key_irreflexive e.stamp (subst (λ z. is_below z.stamp e.stamp ≡ true) i g)))
      | inr j ↦ j
    ]

pub rising_same : {Op : Type 0} (c d : List (Entry Op)) → IsRising c → IsRising d → ((e : Entry Op) → Contains c e ↔ Contains d e) → c ≡ d
rising_same [] [] r s h = refl
rising_same [] (b ∷ d) r s h = (let k = (h b).1 (Contains-front b d) in let l : k.0 < 0 = k.1 in absurd (omega arith))
rising_same (a ∷ c) [] r s h = (let k = (h a).0 (Contains-front a c) in let l : k.0 < 0 = k.1 in absurd (omega arith))
rising_same (a ∷ c) (b ∷ d) r s h =
    let e : a ≡ b = same_first a b c d r s ((h a).0 (Contains-front a c)) ((h b).1 (Contains-front b d)) in
    ap₂ (λ (x : Entry _) l. x ∷ l) e
    (rising_same c d r.1 s.1 (λ f. (rest a b c d e r (λ g. (h g).0) f, rest b a d c (sym e) s (λ g. (h g).1) f)))

pub Contains-place : {Op : Type 0} (x : Entry Op) (l : List (Entry Op)) (e : Entry Op) → Contains (x ∷ l) e → Contains (place x l) e
Contains-place {Op} x l e c = at_member (Contains (place x l)) (x ∷ l) e (within x l) c
  where
    within : (y : Entry Op) (m : List (Entry Op)) → AllByRecursion (Contains (place y m)) (y ∷ m)
    within y [] = (Contains-front y [], tt)
    within y (a ∷ m) =
        elim (is_below y.stamp a.stamp) as (λ b. AllByRecursion (Contains (cond b (y ∷ a ∷ m) (a ∷ place y m))) (y ∷ a ∷ m)) [
          | true ↦ each (y ∷ a ∷ m)
          | false ↦
              (let ih = within y m in
              (Contains-more a (place y m) y ih.0, (Contains-front a (place y m), all_weaker (Contains (place y m)) (Contains (a ∷ place y m)) (λ z k. Contains-more a (place y m) z k) m ih.1)))
        ]

pub Contains-canonical : {Op : Type 0} (xs : List (Entry Op)) (e : Entry Op) → Contains xs e ↔ Contains (canonical xs) e
Contains-canonical {Op} xs e = (
  λ c. at_member (Contains (canonical xs)) xs e (within xs) c,
  λ c. at_member (Contains xs) (canonical xs) e (all-canonical (Contains xs) xs (each xs)) c,
)
  where
    within : (ys : List (Entry Op)) → AllByRecursion (Contains (canonical ys)) ys
    within [] = tt
    within (y ∷ ys) = (
      Contains-place y (canonical ys) y (Contains-front y (canonical ys)),
      all_weaker (Contains (canonical ys)) (Contains (place y (canonical ys))) (λ z k. Contains-place y (canonical ys) z (Contains-more y (canonical ys) z k)) ys (within ys),
    )

-- the canonical list depends on the set alone
pub canonical_same : {Op : Type 0} (xs ys : List (Entry Op)) → AreApart xs → AreApart ys → ((e : Entry Op) → Contains xs e ↔ Contains ys e) → canonical xs ≡ canonical ys
canonical_same xs ys a b h =
    rising_same (canonical xs) (canonical ys) (rising-canonical xs a) (rising-canonical ys b)
    (λ e. (λ c. (Contains-canonical ys e).0 ((h e).0 ((Contains-canonical xs e).1 c)), λ c. (Contains-canonical xs e).0 ((h e).1 ((Contains-canonical ys e).1 c))))
