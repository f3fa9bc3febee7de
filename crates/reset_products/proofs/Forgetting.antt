-- The log has what no reset knew of, in whatever causal order operations and resets came.
use Rattle.std.proofs.Common.{◌≡◌, Bool, true, false, not, ◌&&◌, ◌||◌, List, [], ◌∷◌, ◌++◌, cond, refl, ap, sym, ◌∙◌, subst, arith, append_assoc}
use Rattle.std.specs.List.{AllByRecursion, filter, list_any}
use Rattle.std.proofs.lemmas.List.{append-nil}
use Rattle.std.proofs.lemmas.List.Elements.{filter-append, filter_agree}
use Rattle.std.proofs.lemmas.List.Folds.{list_any-append}
use Rattle.vector_clock.specs.declared.stamp.Stamp.{Stamp}
use Rattle.vector_clock.specs.Clock.{covers}
use Rattle.vector_clock.specs.Stamp.{id_of, is_before, same_id}
use Rattle.vector_clock.proofs.Keys.{same_id_other}
use Rattle.crdt_laws.specs.declared.small.Entry.{Entry}
use Rattle.crdt_laws.specs.Entry.{entry}
use Rattle.crdt_laws.specs.Present.{apply_all}
use Rattle.crdt_laws.specs.Sets.{AreApart, IsCausal, canonical, place, is_beyond}
use Rattle.crdt_laws.specs.Tower.{Meaning}
use Rattle.crdt_laws.proofs.Filters.{apart-filter}
use Rattle.crdt_laws.proofs.Place.{place_swap, rising-canonical}
use Rattle.crdt_laws.proofs.Seams.{apart_before, pairs_before}
use Rattle.vector_clock.proofs.Ordered.{filter-place, filter-place_in}
use Rattle.reset_products.specs.declared.observed.ObservedOp.{ObservedOp}
use Rattle.reset_products.specs.declared.observed.ObservedOp.TheVariants.{Do, Reset}
use Rattle.reset_products.specs.Observed.{Logged, observed_apply, observed_meaning}
use Rattle.reset_products.specs.Forgotten.{forgets, operation_and, operations_of, unforgotten}
use Rattle.vector_clock.proofs.Ordered.{all-filter}

-- canonical lists

canonical-append : {Op : Type 0} (l : List (Entry Op)) (x : Entry Op) → AllByRecursion (λ y. same_id y.stamp x.stamp ≡ false) l → canonical (l ++ x ∷ []) ≡ place x (canonical l)
canonical-append [] x d = refl
canonical-append (y ∷ l) x d = ap (place y) (canonical-append l x d.1) ∙ place_swap y x d.0 (canonical l)

canonical-filter : {Op : Type 0} (p : Entry Op → Bool) (l : List (Entry Op)) → AreApart l → canonical (filter p l) ≡ filter p (canonical l)
canonical-filter p [] d = refl
canonical-filter {Op} p (y ∷ l) d =
    (elim (p y) as (λ b. p y ≡ b → canonical (cond b (y ∷ filter p l) (filter p l)) ≡ filter p (place y (canonical l))) [
      | true ↦ λ e. ap (place y) (canonical-filter p l d.1) ∙ sym (filter-place_in (λ e. e.stamp) p y e (canonical l) (rising-canonical l d.1))
      | false ↦ λ e. canonical-filter p l d.1 ∙ sym (filter-place (λ e. e.stamp) p y e (canonical l))
    ]) refl

-- what a stamp is not before, and which is another, does not know of it
unknown : (a c : Stamp) → same_id a c ≡ false → is_before a c ≡ false → covers c.clock (id_of a) ≡ false
unfolding is_before
unknown a c h k = grind arith

-- the operations of the tower

module _ {O : Type 0} where
  operations-append : (xs ys : List (Entry (ObservedOp O))) → operations_of (xs ++ ys) ≡ operations_of xs ++ operations_of ys
  operations-append [] ys = refl
  operations-append (x ∷ xs) ys = ap (operation_and x.stamp x.op) (operations-append xs ys) ∙ and-append x.op
    where
      and-append : (o : ObservedOp O) → operation_and x.stamp o (operations_of xs ++ operations_of ys) ≡ operation_and x.stamp o (operations_of xs) ++ operations_of ys
      and-append (Do y) = refl
      and-append Reset = refl

  operations-filter : (q : Stamp → Bool) (xs : List (Entry (ObservedOp O))) → operations_of (filter (λ x. q x.stamp) xs) ≡ filter (λ x. q x.stamp) (operations_of xs)
  operations-filter q [] = refl
  operations-filter q (x ∷ xs) =
      (elim (q x.stamp) as (λ b. q x.stamp ≡ b → operations_of (cond b (x ∷ filter (λ y. q y.stamp) xs) (filter (λ y. q y.stamp) xs)) ≡ filter (λ y. q y.stamp) (operation_and x.stamp x.op (operations_of xs))) [
        | true ↦ λ e. ap (operation_and x.stamp x.op) (operations-filter q xs) ∙ taken x.op e
        | false ↦ λ e. operations-filter q xs ∙ left x.op e
      ]) refl
    where
      taken : (o : ObservedOp O) → q x.stamp ≡ true → operation_and x.stamp o (filter (λ y. q y.stamp) (operations_of xs)) ≡ filter (λ y. q y.stamp) (operation_and x.stamp o (operations_of xs))
      taken (Do y) e = ap (λ b. cond b (entry x.stamp y ∷ filter (λ z. q z.stamp) (operations_of xs)) (filter (λ z. q z.stamp) (operations_of xs))) (sym e)
      taken Reset e = refl

      left : (o : ObservedOp O) → q x.stamp ≡ false → filter (λ y. q y.stamp) (operations_of xs) ≡ filter (λ y. q y.stamp) (operation_and x.stamp o (operations_of xs))
      left (Do y) e = ap (λ b. cond b (entry x.stamp y ∷ filter (λ z. q z.stamp) (operations_of xs)) (filter (λ z. q z.stamp) (operations_of xs))) (sym e)
      left Reset e = refl

  all-operations : (P : Stamp → Type 0) (xs : List (Entry (ObservedOp O))) → AllByRecursion (λ x. P x.stamp) xs → AllByRecursion (λ x. P x.stamp) (operations_of xs)
  all-operations P [] h = tt
  all-operations P (x ∷ xs) h = one x.op (all-operations P xs h.1)
    where
      one : (o : ObservedOp O) → AllByRecursion (λ y. P y.stamp) (operations_of xs) → AllByRecursion (λ y. P y.stamp) (operation_and x.stamp o (operations_of xs))
      one (Do y) rest = (h.0, rest)
      one Reset rest = rest

  apart-operations : (xs : List (Entry (ObservedOp O))) → AreApart xs → AreApart (operations_of xs)
  apart-operations [] d = tt
  apart-operations (x ∷ xs) d = one x.op (apart-operations xs d.1)
    where
      one : (o : ObservedOp O) → AreApart (operations_of xs) → AreApart (operation_and x.stamp o (operations_of xs))
      one (Do y) rest = (all-operations (λ p. same_id x.stamp p ≡ false) xs d.0, rest)
      one Reset rest = rest

  -- whether no reset of the list knew of the operation
  abbrev is_left : List (Entry (ObservedOp O)) → Stamp → Bool
  is_left ds p = not (list_any (forgets p) ds)

  unforgotten_apart : (ds : List (Entry (ObservedOp O))) → AreApart ds → AreApart (unforgotten ds)
  unforgotten_apart ds d = apart-operations (filter (λ x. is_left ds x.stamp) ds) (apart-filter (λ x. is_left ds x.stamp) ds d)

  is_left-append : (ds : List (Entry (ObservedOp O))) (r : Entry (ObservedOp O)) (p : Stamp) → is_left (ds ++ r ∷ []) p ≡ (is_left ds p && not (forgets p r))
  is_left-append ds r p = ap not (list_any-append (forgets p) ds (r ∷ [])) ∙ both (list_any (forgets p) ds) (forgets p r)
    where
      both : (a b : Bool) → not (a || (b || false)) ≡ (not a && not b)
      both true b = refl
      both false true = refl
      both false false = refl

  -- an operation that none of the resets before it knew of is left
  do_left : (ds : List (Entry (ObservedOp O))) (p : Stamp) → AllByRecursion (λ r. same_id r.stamp p ≡ false) ds → AllByRecursion (λ r. is_before p r.stamp ≡ false) ds → is_left ds p ≡ true
  do_left ds p d b = ap not (none ds d b)
    where
      none : (l : List (Entry (ObservedOp O))) → AllByRecursion (λ r. same_id r.stamp p ≡ false) l → AllByRecursion (λ r. is_before p r.stamp ≡ false) l → list_any (forgets p) l ≡ false
      none [] d b = refl
      none (r ∷ l) d b =
          let ih : list_any (forgets p) l ≡ false = none l d.1 b.1 in
          let c : covers r.stamp.clock (id_of p) ≡ false = unknown p r.stamp (same_id_other r.stamp p d.0) b.0 in
          grind (arith, ih)

  unforgotten-do : (ds : List (Entry (ObservedOp O))) (p : Stamp) (x : O) → is_left ds p ≡ true → unforgotten (ds ++ entry p (Do x) ∷ []) ≡ unforgotten ds ++ entry p x ∷ []
  unforgotten-do ds p x h =
      let e : Entry (ObservedOp O) = entry p (Do x) in
      let new : Entry (ObservedOp O) → Bool = λ y. is_left (ds ++ e ∷ []) y.stamp in
      let old : Entry (ObservedOp O) → Bool = λ y. is_left ds y.stamp in
      ap operations_of
      (filter_agree new old (λ y. is_left-append ds e y.stamp ∙ and_true (is_left ds y.stamp)) (ds ++ e ∷ [])
      ∙ filter-append old ds (e ∷ [])
      ∙ ap (λ b. filter old ds ++ cond b (e ∷ []) []) h)
      ∙ operations-append (filter old ds) (e ∷ [])
    where
      and_true : (b : Bool) → (b && true) ≡ b
      and_true true = refl
      and_true false = refl

  unforgotten-reset : (ds : List (Entry (ObservedOp O))) (p : Stamp) → unforgotten (ds ++ entry p Reset ∷ []) ≡ filter (is_beyond p.clock) (unforgotten ds)
  unforgotten-reset ds p =
      let e : Entry (ObservedOp O) = entry p Reset in
      let new : Entry (ObservedOp O) → Bool = λ y. is_left (ds ++ e ∷ []) y.stamp in
      let old : Entry (ObservedOp O) → Bool = λ y. is_left ds y.stamp in
      let out : Stamp → Bool = λ q. not (covers p.clock (id_of q)) in
      ap operations_of (filter-append new ds (e ∷ []))
      ∙ operations-append (filter new ds) (filter new (e ∷ []))
      ∙ ap (λ l. operations_of (filter new ds) ++ l) (none (new e))
      ∙ append-nil (operations_of (filter new ds))
      ∙ ap operations_of (filter_agree new (λ y. out y.stamp && old y) (λ y. is_left-append ds e y.stamp ∙ swapped (is_left ds y.stamp) (out y.stamp)) ds ∙ sym (filter_both (λ y. out y.stamp) old ds))
      ∙ operations-filter out (filter old ds)
    where
      none : (b : Bool) → operations_of {O = O} (cond b (entry p Reset ∷ []) []) ≡ []
      none true = refl
      none false = refl

      swapped : (a b : Bool) → (a && b) ≡ (b && a)
      swapped true true = refl
      swapped true false = refl
      swapped false true = refl
      swapped false false = refl

      filter_both : (q r : Entry (ObservedOp O) → Bool) (l : List (Entry (ObservedOp O))) → filter q (filter r l) ≡ filter (λ y. q y && r y) l
      filter_both q r [] = refl
      filter_both q r (a ∷ l) = let ih : filter q (filter r l) ≡ filter (λ y. q y && r y) l = filter_both q r l in grind (arith, ih)

-- what stands before x in a list

apart_front : {Op : Type 0} (ds xs : List (Entry Op)) → AreApart (ds ++ xs) → AreApart ds
apart_front [] xs h = tt
apart_front {Op} (r ∷ ds) xs h = (front ds h.0, apart_front ds xs h.1)
  where
    front : (l : List (Entry Op)) → AllByRecursion (λ y. same_id r.stamp y.stamp ≡ false) (l ++ xs) → AllByRecursion (λ y. same_id r.stamp y.stamp ≡ false) l
    front [] k = tt
    front (a ∷ l) k = (k.0, front l k.1)

module _ {S O : Type 0} (m : Meaning S O) where
  -- the state of the operations that are left
  abbrev left_state : List (Entry (ObservedOp O)) → Logged S O
  left_state ds = record { base = m.init; log = canonical (unforgotten ds) }

  one_more : (ds : List (Entry (ObservedOp O))) (p : Stamp) (o : ObservedOp O) → AreApart ds → AllByRecursion (λ r. same_id r.stamp p ≡ false) ds → AllByRecursion (λ r. is_before p r.stamp ≡ false) ds
      → observed_apply m (left_state ds) p o ≡ left_state (ds ++ entry p o ∷ [])
  one_more ds p (Do x) a d b =
      ap (λ l. record { base = m.init; log = l })
      (sym (ap canonical (unforgotten-do ds p x (do_left ds p d b))
      ∙ canonical-append (unforgotten ds) (entry p x)
      (all-operations (λ q. same_id q p ≡ false) (filter (λ y. is_left ds y.stamp) ds) (all-filter (λ (y : Entry (ObservedOp O)). same_id y.stamp p ≡ false) (λ y. is_left ds y.stamp) ds d))))
  one_more ds p Reset a d b =
      ap (λ l. record { base = m.init; log = l })
      (sym (ap canonical (unforgotten-reset ds p) ∙ canonical-filter (is_beyond p.clock) (unforgotten ds) (unforgotten_apart ds a)))

  left_after : (ds xs : List (Entry (ObservedOp O))) → AreApart (ds ++ xs) → IsCausal (ds ++ xs) → apply_all (observed_meaning m) (left_state ds) xs ≡ left_state (ds ++ xs)
  left_after ds [] a c = ap left_state (sym (append-nil ds))
  left_after ds (x ∷ xs) a c =
      let e : (ds ++ x ∷ []) ++ xs ≡ ds ++ x ∷ xs = append_assoc ds (x ∷ []) xs in
      ap (λ s. apply_all (observed_meaning m) s xs)
      (one_more ds x.stamp x.op (apart_front ds (x ∷ xs) a) (apart_before ds xs x a) (pairs_before (λ (r y : Entry (ObservedOp O)). is_before y.stamp r.stamp ≡ false) ds xs x c))
      ∙ left_after (ds ++ x ∷ []) xs (subst AreApart (sym e) a) (subst IsCausal (sym e) c)
      ∙ ap left_state e

  pub left_of : (xs : List (Entry (ObservedOp O))) → AreApart xs → IsCausal xs → apply_all (observed_meaning m) (record { base = m.init; log = [] }) xs ≡ left_state xs
  left_of xs a c = left_after [] xs a c
