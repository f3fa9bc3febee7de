-- Operations whose ids differ, read one after the other.
use Rattle.std.specs.Prelude.{◌≡◌, Bool, true, false, ◌&&◌, ◌||◌, ◌==◌, IsFalse, List, [], ◌∷◌, ◌++◌}
use Rattle.std.proofs.Common.{refl, sym, ap, ◌∙◌}
use Rattle.std.specs.List.{AllByRecursion}
use Rattle.std.specs.Ordering.{nat_cmp, ordering_then}
use Rattle.std.specs.BTreeSet.{BTreeSet, contains}
use Rattle.std.proofs.lemmas.List.Folds.{list_any-append}
use Rattle.vector_clock.specs.declared.clock.Id.{Id}
use Rattle.vector_clock.specs.Stamp.{id_of, same_id}
use Rattle.crdt_laws.specs.declared.small.Entry.{Entry}
use Rattle.crdt_laws.specs.Sets.{AreApart, has_id}
use Rattle.wire_core.specs.Reading.{Grammar, Rules, allows_each}
use Rattle.wire_core.specs.Rising.{EachBehind}
use Rattle.std.specs.declared.cmp.Ordering.{Ordering}

-- the order of ids: by member, then by sequence number
abbrev pub id_order : Id → Id → Ordering
id_order a b = ordering_then (nat_cmp a.member b.member) (nat_cmp a.seq b.seq)

-- whether the id is in the set
abbrev pub has : BTreeSet Id → Id → Bool
has s i = contains id_order s i

-- whether the two are one
abbrev pub is_id : Id → Id → Bool
is_id i j = (i.member == j.member) && (i.seq == j.seq)

either : (a b : Bool) → (a || b) ≡ false → (a ≡ false) × (b ≡ false)
either true b h = absurd cc
either false b h = (refl, h)

or_false : (b : Bool) → (b || false) ≡ b
or_false true = refl
or_false false = refl

module _ {O : Type 0} where
  -- the operation is none of those before
  abbrev IsNew : List (Entry O) → Entry O → Type 0
  IsNew before e = has_id before (id_of e.stamp) ≡ false

  last_id : (a e : Entry O) → has_id (a ∷ []) (id_of e.stamp) ≡ same_id a.stamp e.stamp
  unfolding same_id
  last_id a e = or_false (is_id (id_of a.stamp) (id_of e.stamp))

  split : (before : List (Entry O)) (a : Entry O) (es : List (Entry O)) → AllByRecursion (IsNew (before ++ a ∷ [])) es
      → AllByRecursion (IsNew before) es × AllByRecursion (λ e. IsFalse (same_id a.stamp e.stamp)) es
  split before a [] h = (tt, tt)
  split before a (e ∷ es) h =
      let parts = either (has_id before (id_of e.stamp)) (has_id (a ∷ []) (id_of e.stamp)) (sym (list_any-append (λ x. is_id (id_of x.stamp) (id_of e.stamp)) before (a ∷ [])) ∙ h.0) in
      let rest = split before a es h.1 in
      ((parts.0, rest.0), (sym (last_id a e) ∙ parts.1, rest.1))

  join : (before : List (Entry O)) (a : Entry O) (es : List (Entry O)) → AllByRecursion (IsNew before) es → AllByRecursion (λ e. IsFalse (same_id a.stamp e.stamp)) es
      → AllByRecursion (IsNew (before ++ a ∷ [])) es
  join before a [] h k = tt
  join before a (e ∷ es) h k = (
    list_any-append (λ x. is_id (id_of x.stamp) (id_of e.stamp)) before (a ∷ [])
        ∙ ap (λ (b : Bool). b || has_id (a ∷ []) (id_of e.stamp)) h.0 ∙ (last_id a e ∙ k.0),
    join before a es h.1 k.1,
  )

  module _ (g : List (Entry O) → Grammar (Entry O)) (r : Rules) (h : (before : List (Entry O)) (e : Entry O) → (g before).allows r e → IsNew before e) where
    apart_all : (before es : List (Entry O)) → allows_each g r before es → AreApart es × AllByRecursion (IsNew before) es
    apart_all before [] a = (tt, tt)
    apart_all before (e ∷ es) a =
        let rest = apart_all (before ++ e ∷ []) es a.1 in
        let parts = split before e es rest.1 in
        ((parts.1, rest.0), (h before e a.0, parts.0))

    -- where each operation that is allowed is none of those before it, no id stands twice
    pub apart_taken : (es : List (Entry O)) → allows_each g r [] es → AreApart es
    apart_taken es a = (apart_all [] es a).0

  behind_all : (before es : List (Entry O)) → AreApart es → AllByRecursion (IsNew before) es → EachBehind IsNew before es
  behind_all before [] a n = tt
  behind_all before (e ∷ es) a n = (n.0, behind_all (before ++ e ∷ []) es a.1 (join before e es n.1 a.0))

  new_at_first : (es : List (Entry O)) → AllByRecursion (IsNew []) es
  new_at_first [] = tt
  new_at_first (e ∷ es) = (refl, new_at_first es)

  -- and of operations of which no id stands twice each is none of those before it
  pub apart_behind : (es : List (Entry O)) → AreApart es → EachBehind (λ b e. has_id b (id_of e.stamp) ≡ false) [] es
  apart_behind es a = behind_all [] es a (new_at_first es)

  -- the ids of some operations, and of one more
  pub has_more : (es : List (Entry O)) (e : Entry O) (i : Id) → has_id (es ++ e ∷ []) i ≡ (has_id es i || is_id (id_of e.stamp) i)
  has_more es e i = list_any-append (λ x. is_id (id_of x.stamp) i) es (e ∷ []) ∙ ap (λ (b : Bool). has_id es i || b) (or_false (is_id (id_of e.stamp) i))
