-- What stands before an element of a list.
use Rattle.std.proofs.Common.{◌≡◌, false, suc, ◌+◌, ◌<◌, List, [], ◌∷◌, ◌++◌, refl, subst, arith, get_or, length, length-append}
use Rattle.std.specs.List.{AllByRecursion, AllPairs}
use Rattle.vector_clock.specs.Stamp.{same_id}
use Rattle.crdt_laws.specs.declared.small.Entry.{Entry}
use Rattle.crdt_laws.specs.Sets.{AreApart}

at_seam : {X : Type 0} (ds xs : List X) (x d : X) → get_or (ds ++ x ∷ xs) (length ds) d ≡ x
at_seam [] xs x d = refl
at_seam (a ∷ ds) xs x d = at_seam ds xs x d

pub pairs_before : {X : Type 0} (R : X → X → Type 0) (ds xs : List X) (x : X) → AllPairs R (ds ++ x ∷ xs) → AllByRecursion (λ r. R r x) ds
pairs_before R [] xs x h = tt
pairs_before {X} R (r ∷ ds) xs x h = (
  subst (R r) (at_seam ds xs x x) (h 0 (suc (length ds)) x (omega arith) (let e : length (ds ++ x ∷ xs) ≡ length ds + suc (length xs) = length-append ds (x ∷ xs) in omega arith)),
  pairs_before R ds xs x (λ i j d l m. h (suc i) (suc j) d (omega arith) (let q : j < length (ds ++ x ∷ xs) = m in omega arith)),
)

pub apart_before : {Op : Type 0} (ds xs : List (Entry Op)) (x : Entry Op) → AreApart (ds ++ x ∷ xs) → AllByRecursion (λ r. same_id r.stamp x.stamp ≡ false) ds
apart_before [] xs x h = tt
apart_before {Op} (r ∷ ds) xs x h = (seam ds h.0, apart_before ds xs x h.1)
  where
    seam : (l : List (Entry Op)) → AllByRecursion (λ y. same_id r.stamp y.stamp ≡ false) (l ++ x ∷ xs) → same_id r.stamp x.stamp ≡ false
    seam [] k = k.0
    seam (a ∷ l) k = seam l k.1
