-- Lists by key: what parts of them keep, and two filters.
use Rattle.std.proofs.Common.{◌≡◌, ℕ, zero, suc, Bool, true, false, List, [], ◌∷◌, refl, arith, take, drop}
use Rattle.std.specs.List.{AllByRecursion, filter}
use Rattle.vector_clock.specs.Stamp.{is_below, same_id}
use Rattle.crdt_laws.specs.declared.small.Entry.{Entry}
use Rattle.crdt_laws.specs.Sets.{AreApart, IsRising}

pub filter_swap : {X : Type 0} (p q : X → Bool) (l : List X) → filter p (filter q l) ≡ filter q (filter p l)
filter_swap p q [] = refl
filter_swap p q (a ∷ l) = let ih : filter p (filter q l) ≡ filter q (filter p l) = filter_swap p q l in grind (arith, ih)

pub filter_none : {X : Type 0} (p : X → Bool) (l : List X) → AllByRecursion (λ x. p x ≡ false) l → filter p l ≡ []
filter_none p [] h = refl
filter_none p (a ∷ l) h = let ih : filter p l ≡ [] = filter_none p l h.1 in let e : p a ≡ false = h.0 in grind (arith, ih)

-- the first ones, and the rest

pub all_take : {X : Type 0} (P : X → Type 0) (n : ℕ) (l : List X) → AllByRecursion P l → AllByRecursion P (take n l)
all_take P zero l h = tt
all_take P (suc n) [] h = tt
all_take P (suc n) (a ∷ l) h = (h.0, all_take P n l h.1)

pub all_drop : {X : Type 0} (P : X → Type 0) (n : ℕ) (l : List X) → AllByRecursion P l → AllByRecursion P (drop n l)
all_drop P zero l h = h
all_drop P (suc n) [] h = tt
all_drop P (suc n) (a ∷ l) h = all_drop P n l h.1

pub rising-take : {Op : Type 0} (n : ℕ) (l : List (Entry Op)) → IsRising l → IsRising (take n l)
rising-take zero l h = tt
rising-take (suc n) [] h = tt
rising-take {Op} (suc n) (a ∷ l) h = (all_take (λ (e : Entry Op). is_below a.stamp e.stamp ≡ true) n l h.0, rising-take n l h.1)

pub rising-drop : {Op : Type 0} (n : ℕ) (l : List (Entry Op)) → IsRising l → IsRising (drop n l)
rising-drop zero l h = h
rising-drop (suc n) [] h = tt
rising-drop (suc n) (a ∷ l) h = rising-drop n l h.1

pub apart-take : {Op : Type 0} (n : ℕ) (l : List (Entry Op)) → AreApart l → AreApart (take n l)
apart-take zero l h = tt
apart-take (suc n) [] h = tt
apart-take {Op} (suc n) (a ∷ l) h = (all_take (λ (e : Entry Op). same_id a.stamp e.stamp ≡ false) n l h.0, apart-take n l h.1)

pub apart-drop : {Op : Type 0} (n : ℕ) (l : List (Entry Op)) → AreApart l → AreApart (drop n l)
apart-drop zero l h = h
apart-drop (suc n) [] h = tt
apart-drop (suc n) (a ∷ l) h = apart-drop n l h.1
