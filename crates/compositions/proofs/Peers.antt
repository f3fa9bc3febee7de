-- Peers may be applied in any order.
use Rattle.std.proofs.Common.{◌≡◌, ◌≢◌, ℕ, zero, suc, ◌<◌, true, false, List, [], ◌∷◌, length, get_or, cond, refl, ap, sym, ◌∙◌, arith, inl, inr}
use Rattle.std.specs.Prelude.{IsPermutation, swap}
use Rattle.std.specs.List.{AllByRecursion}
use Rattle.std.proofs.lemmas.Bool.{cases_eq, cases_lt}
use Rattle.std.proofs.lemmas.List.Elements.{recursion_from_All}
use Rattle.std.proofs.lemmas.List.Edits.{Swapped, length-swap, swapped_from_swap}
use Rattle.std.proofs.lemmas.List.Sorted.{All-permutation, Contains-permutation, IsPermutation-keeps, IsPermutation-sym}
use Rattle.vector_clock.specs.Stamp.{are_concurrent, id_of, is_below, same_id}
use Rattle.vector_clock.proofs.Keys.{concurrent_other, concurrent_sym}
use Rattle.crdt_laws.specs.declared.small.Entry.{Entry}
use Rattle.crdt_laws.specs.Present.{apply_all}
use Rattle.crdt_laws.specs.Sets.{AreApart, canonical, place}
use Rattle.crdt_laws.specs.Tower.{Meaning, IsLawful, IsIssued, Lacks}
use Rattle.crdt_laws.proofs.Acts.{lacks-apply}
use Rattle.crdt_laws.proofs.Filters.{all-place}
use Rattle.crdt_laws.proofs.Members.{canonical_same}
use Rattle.crdt_laws.proofs.Place.{all-canonical}
use Rattle.compositions.specs.Peers.{ArePeers}
use Rattle.vector_clock.proofs.Ordered.{all_weaker}

-- any two elements, at different places
module _ {X : Type 0} (R : X → X → Type 0) where
  abbrev AreSpread : List X → Type 0
  AreSpread xs = (i j : ℕ) (d : X) → i ≢ j → i < length xs → j < length xs → R (get_or xs i d) (get_or xs j d)

  -- k is where the element at i was before those at a and at b changed places
  record CameFrom (a b i k : ℕ) : Type 0 where
    first : i ≡ a → k ≡ b
    second : i ≡ b → k ≡ a
    other : i ≢ a → i ≢ b → k ≡ i

  record IsAt (xs ys : List X) (a b i : ℕ) (d : X) : Type 0 where
    place : ℕ
    from : CameFrom a b i place
    within : place < length xs
    read : get_or ys i d ≡ get_or xs place d

  came_from : (xs : List X) (a b i : ℕ) (d : X) → a < length xs → b < length xs → i < length xs → IsAt xs (swap xs a b) a b i d
  came_from xs a b i d p q r =
      let s : Swapped (λ k. get_or xs k d) (λ k. get_or (swap xs a b) k d) a b = swapped_from_swap xs (swap xs a b) a b d p q refl in
      elim (cases_eq i a) [
        | inl e ↦ record { place = b; from = record { first = λ _. refl; second = λ f. sym f ∙ e; other = λ n _. absurd (n e) }; within = q; read = ap (λ k. get_or (swap xs a b) k d) e ∙ s.0 }
        | inr n ↦ elim (cases_eq i b) [
          | inl f ↦ record { place = a; from = record { first = λ e. absurd (n e); second = λ _. refl; other = λ _ m. absurd (m f) }; within = p; read = ap (λ k. get_or (swap xs a b) k d) f ∙ s.1 }
          | inr m ↦ record { place = i; from = record { first = λ e. absurd (n e); second = λ f. absurd (m f); other = λ _ _. refl }; within = r; read = s.2 i n m }
        ]
      ]

  apart_before : (a b i j k l : ℕ) → i ≢ j → CameFrom a b i k → CameFrom a b j l → k ≢ l
  apart_before a b i j k l n f g same =
      elim (cases_eq i a) [
        | inl ia ↦ elim (cases_eq j a) [
          | inl ja ↦ n (ia ∙ sym ja)
          | inr ja ↦ elim (cases_eq j b) [
            | inl jb ↦ ja (jb ∙ sym (f.first ia) ∙ same ∙ g.second jb)
            | inr jb ↦ jb (sym (g.other ja jb) ∙ sym same ∙ f.first ia)
          ]
        ]
        | inr ia ↦ elim (cases_eq i b) [
          | inl ib ↦ elim (cases_eq j a) [
            | inl ja ↦ ia (ib ∙ sym (g.first ja) ∙ sym same ∙ f.second ib)
            | inr ja ↦ elim (cases_eq j b) [
              | inl jb ↦ n (ib ∙ sym jb)
              | inr jb ↦ ja (sym (g.other ja jb) ∙ sym same ∙ f.second ib)
            ]
          ]
          | inr ib ↦ elim (cases_eq j a) [
            | inl ja ↦ ib (sym (f.other ia ib) ∙ same ∙ g.first ja)
            | inr ja ↦ elim (cases_eq j b) [
              | inl jb ↦ ia (sym (f.other ia ib) ∙ same ∙ g.second jb)
              | inr jb ↦ n (sym (f.other ia ib) ∙ same ∙ g.other ja jb)
            ]
          ]
        ]
      ]

  spread-swap : (xs : List X) (a b : ℕ) → a < length xs → b < length xs → AreSpread xs → AreSpread (swap xs a b)
  spread-swap xs a b p q h i j d n r s =
      let e : length (swap xs a b) ≡ length xs = length-swap xs a b in
      let f = came_from xs a b i d p q (omega arith) in
      let g = came_from xs a b j d p q (omega arith) in
      rw (f.read, g.read) (h f.place g.place d (apart_before a b i j f.place g.place n f.from g.from) f.within g.within)

  spread-permutation : (xs ys : List X) → IsPermutation xs ys → AreSpread xs → AreSpread ys
  spread-permutation xs ys s h = IsPermutation-keeps xs AreSpread h (λ l i j p q k. spread-swap l i j p q k) ys s

-- none of the operations knew of another
abbrev AreConcurrent : {Op : Type 0} → List (Entry Op) → Type 0
AreConcurrent [] = Unit {0}
AreConcurrent (a ∷ xs) = AllByRecursion (λ b. are_concurrent a.stamp b.stamp ≡ true) xs × AreConcurrent xs

spread_concurrent : {Op : Type 0} (xs : List (Entry Op)) → AreSpread (λ x y. are_concurrent x.stamp y.stamp ≡ true) xs → AreConcurrent xs
spread_concurrent [] h = tt
spread_concurrent (a ∷ xs) h = (
  recursion_from_All (λ b. are_concurrent a.stamp b.stamp ≡ true) xs (λ k d r. h zero (suc k) d (omega arith) (omega arith) (omega arith)),
  spread_concurrent xs (λ i j d n r s. h (suc i) (suc j) d (omega (arith, n)) (omega arith) (omega arith)),
)

concurrent-place : {Op : Type 0} (x : Entry Op) (c : List (Entry Op)) → AllByRecursion (λ b. are_concurrent x.stamp b.stamp ≡ true) c → AreConcurrent c → AreConcurrent (place x c)
concurrent-place x [] h k = (tt, tt)
concurrent-place x (a ∷ c) h k =
    elim (is_below x.stamp a.stamp) as (λ b. AreConcurrent (cond b (x ∷ a ∷ c) (a ∷ place x c))) [
      | true ↦ (h, k)
      | false ↦ (all-place (λ b. are_concurrent a.stamp b.stamp ≡ true) x (concurrent_sym x.stamp a.stamp h.0) c k.0, concurrent-place x c h.1 k.1)
    ]

concurrent-canonical : {Op : Type 0} (xs : List (Entry Op)) → AreConcurrent xs → AreConcurrent (canonical xs)
concurrent-canonical [] h = tt
concurrent-canonical (x ∷ xs) h = concurrent-place x (canonical xs) (all-canonical (λ b. are_concurrent x.stamp b.stamp ≡ true) xs h.0) (concurrent-canonical xs h.1)

concurrent_apart : {Op : Type 0} (xs : List (Entry Op)) → AreConcurrent xs → AreApart xs
concurrent_apart [] h = tt
concurrent_apart (x ∷ xs) h = (all_weaker (λ b. are_concurrent x.stamp b.stamp ≡ true) (λ b. same_id x.stamp b.stamp ≡ false) (λ b c. concurrent_other x.stamp b.stamp c) xs h.0, concurrent_apart xs h.1)

module _ {State Op : Type 0} (m : Meaning State Op) (law : IsLawful m) (n l : ℕ) where
  record IsPeer (s : State) (x : Entry Op) : Type 0 where
    issued : IsIssued m n x.stamp x.op
    level : m.level x.op ≡ l
    fresh : Lacks m s (id_of x.stamp)

  -- a peer may still come next once another one has been applied
  kept : (s : State) (x e : Entry Op) → IsPeer s e → are_concurrent x.stamp e.stamp ≡ true → IsPeer (m.apply s x.stamp x.op) e
  kept s x e h c = record { issued = h.issued; level = h.level; fresh = lacks-apply m law s x.stamp e.stamp x.op h.fresh (concurrent_other x.stamp e.stamp c) }

  all_kept : (s : State) (x : Entry Op) (xs : List (Entry Op)) → AllByRecursion (IsPeer s) xs → AllByRecursion (λ e. are_concurrent x.stamp e.stamp ≡ true) xs → AllByRecursion (IsPeer (m.apply s x.stamp x.op)) xs
  all_kept s x [] h c = tt
  all_kept s x (e ∷ xs) h c = (kept s x e h.0 c.0, all_kept s x xs h.1 c.1)

  good : (s : State) (x : Entry Op) → m.good n s → IsPeer s x → m.good n (m.apply s x.stamp x.op)
  good s x g h = law.good-apply n s x.stamp x.op g h.issued h.fresh

  swapped : (s : State) (x y : Entry Op) → m.good n s → IsPeer s x → IsPeer s y → are_concurrent x.stamp y.stamp ≡ true
      → m.apply (m.apply s x.stamp x.op) y.stamp y.op ≡ m.apply (m.apply s y.stamp y.op) x.stamp x.op
  swapped s x y g h k c =
      law.commute n s x.stamp y.stamp x.op y.op (record { concurrent = c; good = g; first_fresh = h.fresh; second_fresh = k.fresh }) h.issued k.issued (h.level ∙ sym k.level)

  -- a peer may come first, or in its place by key
  placed : (s : State) (x : Entry Op) (xs : List (Entry Op)) → m.good n s → IsPeer s x → AllByRecursion (IsPeer s) xs
      → AllByRecursion (λ e. are_concurrent x.stamp e.stamp ≡ true) xs → AreConcurrent xs → apply_all m s (place x xs) ≡ apply_all m s (x ∷ xs)
  placed s x [] g h k c d = refl
  placed s x (a ∷ xs) g h k c d =
      elim (is_below x.stamp a.stamp) as (λ b. apply_all m s (cond b (x ∷ a ∷ xs) (a ∷ place x xs)) ≡ apply_all m s (x ∷ a ∷ xs)) [
        | true ↦ refl
        | false ↦
            (let f : are_concurrent a.stamp x.stamp ≡ true = concurrent_sym x.stamp a.stamp c.0 in
            placed (m.apply s a.stamp a.op) x xs (good s a g k.0) (kept s a x h f) (all_kept s a xs k.1 d.0) c.1 d.1
            ∙ ap (λ z. apply_all m z xs) (swapped s a x g k.0 h f))
      ]

  -- peers may be applied by key
  by_key : (s : State) (xs : List (Entry Op)) → m.good n s → AllByRecursion (IsPeer s) xs → AreConcurrent xs → apply_all m s (canonical xs) ≡ apply_all m s xs
  by_key s [] g h c = refl
  by_key s (x ∷ xs) g h c =
      placed s x (canonical xs) g h.0 (all-canonical (IsPeer s) xs h.1) (all-canonical (λ e. are_concurrent x.stamp e.stamp ≡ true) xs c.0) (concurrent-canonical xs c.1)
      ∙ by_key (m.apply s x.stamp x.op) xs (good s x g h.0) (all_kept s x xs h.1 c.0) c.1

  spread : (s : State) (xs : List (Entry Op)) → ArePeers m n l s xs → AreSpread (λ x y. are_concurrent x.stamp y.stamp ≡ true) xs
  spread s xs h i j d k r t = elim (cases_lt i j) [
    | inl less ↦ h.concurrent i j d less t
    | inr more ↦ concurrent_sym (get_or xs j d).stamp (get_or xs i d).stamp (h.concurrent j i d (omega (arith, k, more)) r)
  ]

  pub any_order : (s : State) (xs ys : List (Entry Op)) → ArePeers m n l s xs → IsPermutation xs ys → apply_all m s xs ≡ apply_all m s ys
  any_order s xs ys h p =
      let all : (k : ℕ) (d : Entry Op) → k < length xs → IsPeer s (get_or xs k d) = λ k d r. record { issued = h.issued k d r; level = h.level k d r; fresh = h.fresh k d r } in
      let c : AreConcurrent xs = spread_concurrent xs (spread s xs h) in
      let e : AreConcurrent ys = spread_concurrent ys (spread-permutation (λ x y. are_concurrent x.stamp y.stamp ≡ true) xs ys p (spread s xs h)) in
      let same = canonical_same xs ys (concurrent_apart xs c) (concurrent_apart ys e) (λ x. (Contains-permutation xs ys x p, Contains-permutation ys xs x (IsPermutation-sym xs ys p))) in
      sym (by_key s xs h.good (recursion_from_All (IsPeer s) xs all) c)
      ∙ ap (apply_all m s) same
      ∙ by_key s ys h.good (recursion_from_All (IsPeer s) ys (All-permutation (IsPeer s) xs ys p all)) e
