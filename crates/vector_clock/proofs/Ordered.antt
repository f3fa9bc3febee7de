-- Lists of things that carry a stamp: what filters, parts and places keep, and the place of a stamp by its key.
use Rattle.std.proofs.Common.{◌≡◌, ℕ, zero, suc, ◌+◌, ◌≤◌, ◌<◌, Bool, true, false, List, [], ◌∷◌, ◌++◌, cond, refl, ap, sym, ◌∙◌, inl, inr, subst, arith, length, get_or}
use Rattle.std.specs.List.{AllByRecursion, filter, insert}
use Rattle.std.proofs.lemmas.Bool.{cases_lt, false_from_ne_true}
use Rattle.std.proofs.lemmas.List.Elements.{All-from_recursion}
use Rattle.vector_clock.specs.declared.stamp.Stamp.{Stamp}
use Rattle.vector_clock.specs.Stamp.{is_below, same_id}
use Rattle.vector_clock.specs.Sets.{AreApart, IsRising, place}
use Rattle.vector_clock.proofs.Keys.{key_asym, key_total, key_trans, same_id_other}

-- facts of all elements

pub all-filter : {X : Type 0} (P : X → Type 0) (p : X → Bool) (l : List X) → AllByRecursion P l → AllByRecursion P (filter p l)
all-filter P p [] h = tt
all-filter P p (a ∷ l) h =
    let rest : AllByRecursion P (filter p l) = all-filter P p l h.1 in
    elim (p a) as (λ b. AllByRecursion P (cond b (a ∷ filter p l) (filter p l))) [ true ↦ (h.0, rest) | false ↦ rest ]

pub all_weaker : {X : Type 0} (P Q : X → Type 0) → ((x : X) → P x → Q x) → (l : List X) → AllByRecursion P l → AllByRecursion Q l
all_weaker P Q g [] h = tt
all_weaker P Q g (a ∷ l) h = (g a h.0, all_weaker P Q g l h.1)

module _ {X : Type 0} (at : X → Stamp) where
  pub all-place : (P : X → Type 0) (x : X) → P x → (l : List X) → AllByRecursion P l → AllByRecursion P (place at x l)
  all-place P x h [] k = (h, tt)
  all-place P x h (a ∷ l) k = grind (arith, all-place P x h l k.1)

  place_comm : (x y : X) → is_below (at x) (at y) ≡ true → (l : List X) → place at x (place at y l) ≡ place at y (place at x l)
  place_comm x y h [] = let g : is_below (at y) (at x) ≡ false = key_asym (at x) (at y) h in cc
  place_comm x y h (a ∷ l) =
      let g : is_below (at y) (at x) ≡ false = key_asym (at x) (at y) h in
      let t : (is_below (at y) (at a) ≡ true → is_below (at x) (at a) ≡ true) = key_trans (at x) (at y) (at a) h in
      let ih : place at x (place at y l) ≡ place at y (place at x l) = place_comm x y h l in
      grind (arith, ih)

  -- two things of different ids may be put in their places in either order
  pub place_swap : (x y : X) → same_id (at x) (at y) ≡ false → (l : List X) → place at x (place at y l) ≡ place at y (place at x l)
  place_swap x y d l =
      (elim (is_below (at x) (at y)) as (λ b. is_below (at x) (at y) ≡ b → place at x (place at y l) ≡ place at y (place at x l)) [
        | true ↦ λ e. place_comm x y e l
        | false ↦ λ e. sym (place_comm y x (key_total (at x) (at y) d e) l)
      ]) refl

  pub place_last : (x : X) (l : List X) → AllByRecursion (λ e. is_below (at x) (at e) ≡ false) l → place at x l ≡ l ++ x ∷ []
  place_last x [] h = refl
  place_last x (a ∷ l) h = let ih : place at x l ≡ l ++ x ∷ [] = place_last x l h.1 in let e : is_below (at x) (at a) ≡ false = h.0 in grind (arith, ih)

  pub place_first : (x : X) (l : List X) → AllByRecursion (λ e. is_below (at x) (at e) ≡ true) l → place at x l ≡ x ∷ l
  place_first x [] h = refl
  place_first x (a ∷ l) h = let e : is_below (at x) (at a) ≡ true = h.0 in cc

  pub rising-place : (x : X) (c : List X) → AllByRecursion (λ e. same_id (at x) (at e) ≡ false) c → IsRising at c → IsRising at (place at x c)
  rising-place x [] d r = (tt, tt)
  rising-place x (a ∷ c) d r =
      (elim (is_below (at x) (at a)) as (λ b. is_below (at x) (at a) ≡ b → IsRising at (cond b (x ∷ a ∷ c) (a ∷ place at x c))) [
        | true ↦ λ h. ((h, all_weaker (λ e. is_below (at a) (at e) ≡ true) (λ e. is_below (at x) (at e) ≡ true) (λ e k. key_trans (at x) (at a) (at e) h k) c r.0), r)
        | false ↦ λ h. (all-place (λ e. is_below (at a) (at e) ≡ true) x (key_total (at x) (at a) d.0 h) c r.0, rising-place x c d.1 r.1)
      ]) refl

  pub apart-place : (x : X) (l : List X) → AllByRecursion (λ e. same_id (at x) (at e) ≡ false) l → AreApart at l → AreApart at (place at x l)
  apart-place x [] d r = (tt, tt)
  apart-place x (a ∷ l) d r =
      elim (is_below (at x) (at a)) as (λ b. AreApart at (cond b (x ∷ a ∷ l) (a ∷ place at x l))) [
        | true ↦ (d, r)
        | false ↦ (all-place (λ e. same_id (at a) (at e) ≡ false) x (same_id_other (at x) (at a) d.0) l r.0, apart-place x l d.1 r.1)
      ]

  -- a filter keeps the order of keys, and ids apart

  pub rising-filter : (p : X → Bool) (l : List X) → IsRising at l → IsRising at (filter p l)
  rising-filter p [] r = tt
  rising-filter p (a ∷ l) r =
      let rest : IsRising at (filter p l) = rising-filter p l r.1 in
      elim (p a) as (λ b. IsRising at (cond b (a ∷ filter p l) (filter p l))) [ true ↦ (all-filter (λ e. is_below (at a) (at e) ≡ true) p l r.0, rest) | false ↦ rest ]

  pub apart-filter : (p : X → Bool) (l : List X) → AreApart at l → AreApart at (filter p l)
  apart-filter p [] h = tt
  apart-filter p (a ∷ l) h =
      let rest : AreApart at (filter p l) = apart-filter p l h.1 in
      elim (p a) as (λ b. AreApart at (cond b (a ∷ filter p l) (filter p l))) [ true ↦ (all-filter (λ e. same_id (at a) (at e) ≡ false) p l h.0, rest) | false ↦ rest ]

  -- a thing that the filter drops may be put in its place before or not at all

  pub filter-place : (p : X → Bool) (x : X) → p x ≡ false → (l : List X) → filter p (place at x l) ≡ filter p l
  filter-place p x h [] = cc
  filter-place p x h (a ∷ l) = let ih : filter p (place at x l) ≡ filter p l = filter-place p x h l in grind (arith, ih)

  -- and one that it keeps, before or after others are dropped
  pub filter-place_in : (p : X → Bool) (x : X) → p x ≡ true → (l : List X) → IsRising at l → filter p (place at x l) ≡ place at x (filter p l)
  filter-place_in p x h [] r = cc
  filter-place_in p x h (a ∷ l) r =
      let ih : filter p (place at x l) ≡ place at x (filter p l) = filter-place_in p x h l r.1 in
      (elim (is_below (at x) (at a)) as (λ b. is_below (at x) (at a) ≡ b → filter p (cond b (x ∷ a ∷ l) (a ∷ place at x l)) ≡ place at x (filter p (a ∷ l))) [
        | true ↦ λ e.
            let all : AllByRecursion (λ d. is_below (at x) (at d) ≡ true) (a ∷ l) = (e, all_weaker (λ d. is_below (at a) (at d) ≡ true) (λ d. is_below (at x) (at d) ≡ true) (λ d k. key_trans (at x) (at a) (at d) e k) l r.0) in
            let front : place at x (filter p (a ∷ l)) ≡ x ∷ filter p (a ∷ l) = place_first x (filter p (a ∷ l)) (all-filter (λ d. is_below (at x) (at d) ≡ true) p (a ∷ l) all) in
            let now : filter p (x ∷ a ∷ l) ≡ x ∷ filter p (a ∷ l) = ap (λ b. cond b (x ∷ filter p (a ∷ l)) (filter p (a ∷ l))) h in
            now ∙ sym front
        | false ↦ λ e. grind (arith, ih)
      ]) refl

  -- x inserted at the first element whose key is greater
  pub place-insert : (x : X) (l : List X) (i : ℕ) → i ≤ length l → ((k : ℕ) (d : X) → k < i → is_below (at x) (at (get_or l k d)) ≡ false) → ((d : X) → i < length l → is_below (at x) (at (get_or l i d)) ≡ true) → insert l i x ≡ place at x l
  place-insert x [] zero m b f = refl
  place-insert x [] (suc i) m b f = absurd (omega arith)
  place-insert x (a ∷ l) zero m b f = (let t : is_below (at x) (at a) ≡ true = f x (omega arith) in cc)
  place-insert x (a ∷ l) (suc i) m b f =
      let n : is_below (at x) (at a) ≡ false = b 0 x (omega arith) in
      let ih : insert l i x ≡ place at x l =
      place-insert x l i (let q : suc i ≤ suc (length l) = m in omega arith) (λ k d h. b (suc k) d (omega arith)) (λ d h. f d (omega arith)) in
      cc

  -- an earlier element has a lesser key
  pub rising_at : (l : List X) (d : X) → IsRising at l → (i j : ℕ) → i < j → j < length l → is_below (at (get_or l i d)) (at (get_or l j d)) ≡ true
  rising_at [] d r i j h m = absurd (omega arith)
  rising_at (a ∷ l) d r i zero h m = absurd (omega arith)
  rising_at (a ∷ l) d r zero (suc j) h m = All-from_recursion (λ e. is_below (at a) (at e) ≡ true) l r.0 j d (let q : suc j < suc (length l) = m in omega arith)
  rising_at (a ∷ l) d r (suc i) (suc j) h m = rising_at l d r.1 i j (omega arith) (let q : suc j < suc (length l) = m in omega arith)

-- the loop invariant of the search: the place of the stamp is not before low, and not behind high
pub record IsBetween {X : Type 0} (at : X → Stamp) (s : Stamp) (l : List X) (low high : ℕ) : Type 0 where
  pub order : low ≤ high
  pub within : high ≤ length l
  pub before : (k : ℕ) (d : X) → k < low → is_below s (at (get_or l k d)) ≡ false
  pub behind : (k : ℕ) (d : X) → high ≤ k → k < length l → is_below s (at (get_or l k d)) ≡ true

module _ {X : Type 0} (at : X → Stamp) (s : Stamp) (l : List X) (r : IsRising at l) (low high middle : ℕ) (e : X) (b : IsBetween at s l low high) (from : low ≤ middle) (to : middle < high) (is : e ≡ get_or l middle e) where
  element_at : (d : X) → get_or l middle d ≡ e
  element_at d = same_at l middle d e (let a : high ≤ length l = b.within in omega arith) ∙ sym is
    where
      same_at : (m : List X) (i : ℕ) (c d : X) → i < length m → get_or m i c ≡ get_or m i d
      same_at [] i c d h = absurd (omega arith)
      same_at (a ∷ m) zero c d h = refl
      same_at (a ∷ m) (suc i) c d h = same_at m i c d (let q : suc i < suc (length m) = h in omega arith)

  pub lower_half : is_below s (at e) ≡ true → IsBetween at s l low middle
  lower_half h = record {
    order = from;
    within = (let a : high ≤ length l = b.within in omega arith);
    before = b.before;
    behind = λ k d g m. elim (cases_lt middle k) [
      | inl i ↦
          key_trans s (at e) (at (get_or l k d)) h
          (subst (λ z. is_below (at z) (at (get_or l k d)) ≡ true) (element_at d) (rising_at at l d r middle k i m))
      | inr i ↦
          (let same : middle ≡ k = omega arith in
          subst (λ j. is_below s (at (get_or l j d)) ≡ true) same (subst (λ z. is_below s (at z) ≡ true) (sym (element_at d)) h))
    ];
  }

  pub upper_half : is_below s (at e) ≡ false → IsBetween at s l (middle + 1) high
  upper_half h = record {
    order = omega arith;
    within = b.within;
    before = λ k d g. false_from_ne_true _ (λ q. elim (cases_lt k middle) [
      | inl i ↦
          (let below : is_below (at (get_or l k d)) (at e) ≡ true =
          subst (λ z. is_below (at (get_or l k d)) (at z) ≡ true) (element_at d) (rising_at at l d r k middle i (let a : high ≤ length l = b.within in omega arith)) in
          let all : is_below s (at e) ≡ true = key_trans s (at (get_or l k d)) (at e) q below in
          cc)
      | inr i ↦
          (let same : k ≡ middle = omega arith in
          let all : is_below s (at e) ≡ true = subst (λ z. is_below s (at z) ≡ true) (element_at d) (subst (λ j. is_below s (at (get_or l j d)) ≡ true) same q) in
          cc)
    ]);
    behind = b.behind;
  }
