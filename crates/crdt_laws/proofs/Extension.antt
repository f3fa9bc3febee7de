-- The canonical list of an honest set is a causal extension.
use Rattle.std.proofs.Common.{◌≡◌, true, false, List, [], ◌∷◌, cond, refl, sym, ◌∙◌, Contains, arith}
use Rattle.std.specs.List.{AllByRecursion}
use Rattle.std.proofs.lemmas.Bool.{false_from_ne_true}
use Rattle.std.proofs.lemmas.List.Elements.{All-from_recursion}
use Rattle.std.proofs.lemmas.List.Kept.{AllPairs-cons}
use Rattle.vector_clock.specs.Stamp.{is_before, is_below}
use Rattle.vector_clock.proofs.Causal.{honest_below}
use Rattle.vector_clock.proofs.Keys.{key_asym, key_behind}
use Rattle.crdt_laws.specs.declared.small.Entry.{Entry}
use Rattle.crdt_laws.specs.Sets.{IsCausal, IsHonest, canonical, place}
use Rattle.crdt_laws.proofs.Filters.{all-place}
use Rattle.crdt_laws.proofs.Members.{each}
use Rattle.crdt_laws.proofs.Place.{all-canonical}
use Rattle.vector_clock.proofs.Ordered.{all_weaker}

-- no later key is less
abbrev IsOrdered : {Op : Type 0} → List (Entry Op) → Type 0
IsOrdered [] = Unit {0}
IsOrdered (a ∷ xs) = AllByRecursion (λ b. is_below b.stamp a.stamp ≡ false) xs × IsOrdered xs

ordered-place : {Op : Type 0} (x : Entry Op) (l : List (Entry Op)) → IsOrdered l → IsOrdered (place x l)
ordered-place x [] h = (tt, tt)
ordered-place {Op} x (a ∷ l) h =
    (elim (is_below x.stamp a.stamp) as (λ b. is_below x.stamp a.stamp ≡ b → IsOrdered (cond b (x ∷ a ∷ l) (a ∷ place x l))) [
      | true ↦ λ e. ((key_asym x.stamp a.stamp e, all_weaker (λ (b : Entry Op). is_below b.stamp a.stamp ≡ false) (λ b. is_below b.stamp x.stamp ≡ false) (λ b i. key_behind x.stamp a.stamp b.stamp e i) l h.0), h)
      | false ↦ λ e. (all-place (λ (b : Entry Op). is_below b.stamp a.stamp ≡ false) x e l h.0, ordered-place x l h.1)
    ]) refl

ordered-canonical : {Op : Type 0} (xs : List (Entry Op)) → IsOrdered (canonical xs)
ordered-canonical [] = tt
ordered-canonical (x ∷ xs) = ordered-place x (canonical xs) (ordered-canonical xs)

-- an ordered list of operations of an honest set is causal
ordered_causal : {Op : Type 0} (xs l : List (Entry Op)) → IsHonest xs → AllByRecursion (Contains xs) l → IsOrdered l → IsCausal l
ordered_causal xs [] h c o = λ i j d m n. absurd (omega arith)
ordered_causal {Op} xs (a ∷ l) h c o =
    let R : Entry Op → Entry Op → Type 0 = λ x y. is_before y.stamp x.stamp ≡ false in
    AllPairs-cons R a l (All-from_recursion (R a) l (later l c.1 o.0)) (ordered_causal xs l h c.1 o.1)
  where
    later : (m : List (Entry Op)) → AllByRecursion (Contains xs) m → AllByRecursion (λ b. is_below b.stamp a.stamp ≡ false) m → AllByRecursion (λ b. is_before b.stamp a.stamp ≡ false) m
    later [] d k = tt
    later (b ∷ m) d k = (false_from_ne_true _ (λ q. let f : is_below b.stamp a.stamp ≡ true = honest_below (λ (e : Entry Op). e.stamp) xs h b a d.0 c.0 q in let g : false ≡ true = sym k.0 ∙ f in cc), later m d.1 k.1)

pub canonical_causal : {Op : Type 0} (xs : List (Entry Op)) → IsHonest xs → IsCausal (canonical xs)
canonical_causal {Op} xs h = ordered_causal xs (canonical xs) h (all-canonical (Contains xs) xs (each xs)) (ordered-canonical xs)
