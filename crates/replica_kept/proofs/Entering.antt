-- Operations that come in one after another have ids of their own, and stand by key once they are in.
use Rattle.std.proofs.Common.{◌≡◌, ℕ, suc, ◌+◌, ◌<◌, ◌≤◌, refl, length-append, Bool, true, false, not, List, [], ◌∷◌, ◌++◌, ap, sym, ◌∙◌, subst, arith, length, cond, Contains, inl, inr, ◌⊎◌, ◌↔◌}
use Rattle.std.specs.Prelude.{filter}
use Rattle.std.specs.List.{AllByRecursion}
use Rattle.std.proofs.lemmas.Bool.{both_ways, false_from_ne_true, not_from_false}
use Rattle.std.proofs.lemmas.List.Elements.{Contains-append_cases, Contains-append_left, Contains-append_right, filter-append}
use Rattle.std.proofs.lemmas.List.Filters.{length-filter_both}
use Rattle.vector_clock.specs.declared.clock.Clock.{Clock}
use Rattle.vector_clock.specs.declared.clock.Id.{Id}
use Rattle.vector_clock.specs.Clock.{covers, join}
use Rattle.vector_clock.specs.Stamp.{id_of, is_below, same_id}
use Rattle.vector_clock.proofs.Bounds.{join_left, join_right}
use Rattle.vector_clock.proofs.Keys.{covers_more, ids_other}
use Rattle.vector_clock.proofs.Ordered.{all_weaker}
use Rattle.crdt_laws.specs.declared.small.Entry.{Entry}
use Rattle.crdt_laws.specs.Interleaved.{interleaved}
use Rattle.crdt_laws.specs.Sets.{AreApart, IsRising, beyond, canonical, has_id, place, union}
use Rattle.crdt_laws.proofs.Filters.{all-append, all-place, apart-filter, rising-filter}
use Rattle.crdt_laws.proofs.Interleave.{interleaved_canonical, rising-interleaved}
use Rattle.crdt_laws.proofs.Place.{rising-canonical, rising-place}
use Rattle.crdt_laws.proofs.Members.{Contains-canonical, Contains-cases, Contains-front, Contains-more, Contains-place, at_member, canonical_same, each, filter_has, filter_inside, filter_passed, rising_same}
use Rattle.weave_core.proofs.Theorems.{apart-canonical}
use Rattle.replica_model.proofs.Names.{named_in, same_id_from_ids}
use Rattle.replica_model.proofs.Pools.{each_from}
use Rattle.replica_model.proofs.Ready.{covers_on}
use Rattle.forgetting_model.specs.Made.{placed}
use Rattle.forgetting_model.specs.Truth.{IsClockOf}
use Rattle.forgetting_model.specs.Turns.{AreNext}
use Rattle.forgetting_model.proofs.Rows.{AreStamped, clock_of-join, stamp_clock}
use Rattle.forgetting_model.proofs.Tells.{covers_itself}
use Rattle.replica_kept.specs.Sound.{CoversNone}
use Rattle.replica_kept.proofs.Holding.{next_new}

pub apart_append : {Op : Type 0} (xs ys : List (Entry Op)) → AreApart xs → AreApart ys → ((a b : Entry Op) → Contains xs a → Contains ys b → id_of b.stamp ≡ id_of a.stamp → ⊥) → AreApart (xs ++ ys)
apart_append [] ys h k o = k
apart_append {Op} (a ∷ xs) ys h k o = (
  all-append (λ (b : Entry Op). same_id a.stamp b.stamp ≡ false) xs ys h.0 (each_from (λ (b : Entry Op). same_id a.stamp b.stamp ≡ false) ys (λ b c. ids_other a.stamp b.stamp (o a b (Contains-front a xs) c))),
  apart_append xs ys h.1 k (λ e f c d. o e f (Contains-more a xs e c) d),
)

-- where the clock covers all of the one list and none of the other
pub covered_apart : {Op : Type 0} (d : Clock) (xs ys : List (Entry Op)) → AreApart xs → AreApart ys → ((e : Entry Op) → Contains xs e → covers d (id_of e.stamp) ≡ true)
    → ((e : Entry Op) → Contains ys e → covers d (id_of e.stamp) ≡ false) → AreApart (xs ++ ys)
covered_apart d xs ys h k old new =
    apart_append xs ys h k (λ a b c e same. both_ways (covers d (id_of a.stamp)) (subst (λ (i : Id). covers d i ≡ false) same (new b e)) (old a c))

module _ {Op : Type 0} (n : ℕ) where
  pub next_outside : (d : Clock) (xs : List (Entry Op)) → IsClockOf n d → AreStamped n xs → AreNext d xs → (e : Entry Op) → Contains xs e → covers d (id_of e.stamp) ≡ false
  next_outside d [] h s next e c = let l : c.0 < 0 = c.1 in absurd (omega arith)
  next_outside d (x ∷ xs) h s next e c =
      let k = join d x.stamp.clock in
      let clock : IsClockOf n (join d x.stamp.clock) = clock_of-join n d x.stamp.clock h (stamp_clock n x (s x (Contains-front x xs))) in
      elim (Contains-cases x xs e c) [
        | inl q ↦ subst (λ (z : Entry Op). covers d (id_of z.stamp) ≡ false) q (next_new d x next.0)
        | inr j ↦ covers_more d (join d x.stamp.clock) e.stamp (join_left d x.stamp.clock h.clock) (next_outside (join d x.stamp.clock) xs clock (λ f g. s f (Contains-more x xs f g)) next.1 e j)
      ]

  pub next_apart : (d : Clock) (xs : List (Entry Op)) → IsClockOf n d → AreStamped n xs → AreNext d xs → AreApart xs
  next_apart d [] h s next = tt
  next_apart d (x ∷ xs) h s next =
      let first = s x (Contains-front x xs) in
      let rest : AreStamped n xs = λ f g. s f (Contains-more x xs f g) in
      let clock : IsClockOf n (join d x.stamp.clock) = clock_of-join n d x.stamp.clock h (stamp_clock n x first) in
      let own : covers (join d x.stamp.clock) (id_of x.stamp) ≡ true = covers_on x.stamp.clock (join d x.stamp.clock) (id_of x.stamp) (join_right d x.stamp.clock first.stamp.clock) (covers_itself x) in (
        each_from (λ (e : Entry Op). same_id x.stamp e.stamp ≡ false) xs (λ e c. ids_other x.stamp e.stamp (λ same.
            both_ways (covers (join d x.stamp.clock) (id_of e.stamp)) (next_outside (join d x.stamp.clock) xs clock rest next.1 e c)
            (subst (λ (i : Id). covers (join d x.stamp.clock) i ≡ true) (sym same) own))),
        next_apart (join d x.stamp.clock) xs clock rest next.1,
      )

pub filter_fewer : {X : Type 0} (p : X → Bool) (xs : List X) → length (filter p xs) ≤ length xs
filter_fewer {X} p xs = let split = length-filter_both p (λ (x : X). not (p x)) (λ x. refl) xs in omega (arith, split)

-- a filter that all pass
filter_all : {X : Type 0} (p : X → Bool) (xs : List X) → AllByRecursion (λ x. p x ≡ true) xs → filter p xs ≡ xs
filter_all p [] h = refl
filter_all p (x ∷ xs) h = ap (λ (b : Bool). cond b (x ∷ filter p xs) (filter p xs)) h.0 ∙ ap (λ l. x ∷ l) (filter_all p xs h.1)

-- operations put into their places

in_place : {Op : Type 0} (x : Entry Op) (l : List (Entry Op)) (e : Entry Op) → Contains (place x l) e → Contains (x ∷ l) e
in_place {Op} x l e c = at_member (Contains (x ∷ l)) (place x l) e (all-place (Contains (x ∷ l)) x (Contains-front x l) l (all_weaker (Contains l) (Contains (x ∷ l)) (λ z k. Contains-more x l z k) l (each l))) c

in_placed : {Op : Type 0} (xs log : List (Entry Op)) (e : Entry Op) → Contains (placed log xs) e ↔ Contains (log ++ xs) e
in_placed [] log e = (λ c. Contains-append_left log [] e c, λ c. elim (Contains-append_cases log [] e c) [ inl i ↦ i | inr j ↦ (let l : j.0 < 0 = j.1 in absurd (omega arith)) ])
in_placed {Op} (x ∷ xs) log e = (
  λ c. elim (Contains-append_cases (place x log) xs e ((in_placed xs (place x log) e).0 c)) [
    | inl i ↦ elim (Contains-cases x log e (in_place x log e i)) [
      | inl q ↦ Contains-append_right log (x ∷ xs) e (subst (Contains (x ∷ xs)) q (Contains-front x xs))
      | inr j ↦ Contains-append_left log (x ∷ xs) e j
    ]
    | inr j ↦ Contains-append_right log (x ∷ xs) e (Contains-more x xs e j)
  ],
  λ c. (in_placed xs (place x log) e).1 (elim (Contains-append_cases log (x ∷ xs) e c) [
    | inl i ↦ Contains-append_left (place x log) xs e (Contains-place x log e (Contains-more x log e i))
    | inr j ↦ elim (Contains-cases x xs e j) [
      | inl q ↦ Contains-append_left (place x log) xs e (subst (Contains (place x log)) q (Contains-place x log x (Contains-front x log)))
      | inr k ↦ Contains-append_right (place x log) xs e k
    ]
  ]),
)

placed_rises : {Op : Type 0} (log xs : List (Entry Op)) → IsRising log → AreApart xs → ((e f : Entry Op) → Contains log e → Contains xs f → id_of e.stamp ≡ id_of f.stamp → ⊥) → IsRising (placed log xs)
placed_rises log [] r a other = r
placed_rises {Op} log (x ∷ xs) r a other =
    placed_rises (place x log) xs
    (rising-place x log (each_from (λ (e : Entry Op). same_id x.stamp e.stamp ≡ false) log (λ e c. ids_other x.stamp e.stamp (λ same. other e x c (Contains-front x xs) same))) r)
    a.1
    (λ e f c d same. elim (Contains-cases x log e (in_place x log e c)) [
      | inl q ↦ both_ways (same_id x.stamp f.stamp) (at_member (λ (z : Entry Op). same_id x.stamp z.stamp ≡ false) xs f a.0 d) (same_id_from_ids x.stamp f.stamp (ap (λ (z : Entry Op). id_of z.stamp) q ∙ same))
      | inr j ↦ other e f j (Contains-more x xs f d) same
    ])

-- how many there are
place_more : {Op : Type 0} (x : Entry Op) (l : List (Entry Op)) → length (place x l) ≡ suc (length l)
place_more x [] = refl
place_more x (y ∷ l) = elim (is_below x.stamp y.stamp) as (λ b. length (cond b (x ∷ y ∷ l) (y ∷ place x l)) ≡ suc (suc (length l))) [
  | true ↦ refl
  | false ↦ ap (λ (i : ℕ). suc i) (place_more x l)
]

pub canonical_many : {Op : Type 0} (xs : List (Entry Op)) → length (canonical xs) ≡ length xs
canonical_many [] = refl
canonical_many (x ∷ xs) = place_more x (canonical xs) ∙ ap (λ (i : ℕ). suc i) (canonical_many xs)

-- what a clock covers none of stays whole
pub beyond_whole : {Op : Type 0} (k : Clock) (xs : List (Entry Op)) → CoversNone k xs → beyond k xs ≡ xs
beyond_whole {Op} k xs none = filter_all (λ (e : Entry Op). not (covers k (id_of e.stamp))) xs (each_from (λ (e : Entry Op). not (covers k (id_of e.stamp)) ≡ true) xs (λ e c. not_from_false (covers k (id_of e.stamp)) (none e c)))

-- Of operations that are in, and two further lists, those that the clock covers are those that come in.
pub record IsEntering {Op : Type 0} (own later : Clock) (log ws ns new : List (Entry Op)) : Type 0 where
  pub log_rises : IsRising log
  pub ws_rises : IsRising ws
  pub ns_rises : IsRising ns
  pub log_apart : AreApart log
  pub both_apart : AreApart (ws ++ ns)
  pub new_apart : AreApart new
  pub old : (e : Entry Op) → Contains log e → covers own (id_of e.stamp) ≡ true
  pub outside : (e : Entry Op) → Contains (ws ++ ns) e → covers own (id_of e.stamp) ≡ false
  pub inside : (e : Entry Op) → Contains new e → Contains (ws ++ ns) e
  pub covered : (e : Entry Op) → Contains new e → covers later (id_of e.stamp) ≡ true
  pub all : (e : Entry Op) → Contains (ws ++ ns) e → covers later (id_of e.stamp) ≡ true → Contains new e

module _ {Op : Type 0} (own later : Clock) (log ws ns new : List (Entry Op)) (h : IsEntering own later log ws ns new) where
  abbrev in_later : Entry Op → Bool
  in_later e = covers later (id_of e.stamp)

  abbrev come : List (Entry Op)
  come = filter in_later ws ++ filter in_later ns

  abbrev came : List (Entry Op)
  came = interleaved (filter in_later ws) (filter in_later ns)

  come_inside : (e : Entry Op) → Contains come e → Contains (ws ++ ns) e × (covers later (id_of e.stamp) ≡ true)
  come_inside e c = elim (Contains-append_cases (filter in_later ws) (filter in_later ns) e c) [
    | inl i ↦ (Contains-append_left ws ns e (filter_inside in_later ws e i), filter_passed in_later ws e i)
    | inr j ↦ (Contains-append_right ws ns e (filter_inside in_later ns e j), filter_passed in_later ns e j)
  ]

  come_has : (e : Entry Op) → Contains (ws ++ ns) e → covers later (id_of e.stamp) ≡ true → Contains come e
  come_has e c t = elim (Contains-append_cases ws ns e c) [
    | inl i ↦ Contains-append_left (filter in_later ws) (filter in_later ns) e (filter_has in_later ws e i t)
    | inr j ↦ Contains-append_right (filter in_later ws) (filter in_later ns) e (filter_has in_later ns e j t)
  ]

  come_apart : AreApart come
  come_apart = apart_filters ws ns h.both_apart
    where
      apart_filters : (xs ys : List (Entry Op)) → AreApart (xs ++ ys) → AreApart (filter in_later xs ++ filter in_later ys)
      apart_filters xs ys a = subst AreApart (filter-append in_later xs ys) (apart-filter in_later (xs ++ ys) a)

  came_is : came ≡ canonical come
  came_is = interleaved_canonical (filter in_later ws) (filter in_later ns) (rising-filter in_later ws h.ws_rises) (rising-filter in_later ns h.ns_rises) come_apart

  came_same : (e : Entry Op) → Contains came e ↔ Contains new e
  came_same e = (
    λ c. (let f = come_inside e ((Contains-canonical come e).1 (subst (λ (l : List (Entry Op)). Contains l e) came_is c)) in h.all e f.0 f.1),
    λ c. subst (λ (l : List (Entry Op)). Contains l e) (sym came_is) ((Contains-canonical come e).0 (come_has e (h.inside e c) (h.covered e c))),
  )

  came_apart : AreApart came
  came_apart = subst AreApart (sym came_is) (apart-canonical come come_apart)

  new_outside : (e : Entry Op) → Contains new e → covers own (id_of e.stamp) ≡ false
  new_outside e c = h.outside e (h.inside e c)

  with_came : AreApart (log ++ came)
  with_came = covered_apart own log came h.log_apart came_apart h.old (λ e c. new_outside e ((came_same e).0 c))

  with_new : AreApart (log ++ new)
  with_new = covered_apart own log new h.log_apart h.new_apart h.old new_outside

  -- none of those that come in has an id in the log
  unnamed : (e : Entry Op) → Contains new e → not (has_id log (id_of e.stamp)) ≡ true
  unnamed e c = not_from_false (has_id log (id_of e.stamp)) (false_from_ne_true (has_id log (id_of e.stamp)) (λ t.
      let f = named_in log (id_of e.stamp) t in
      both_ways (covers own (id_of e.stamp)) (new_outside e c) (subst (λ (i : Id). covers own i ≡ true) f.2 (h.old f.0 f.1))))

  pub union_is : union log new ≡ canonical (log ++ new)
  unfolding union
  union_is =
      ap (λ (l : List (Entry Op)). canonical (log ++ l)) (filter_all (λ (e : Entry Op). not (has_id log (id_of e.stamp))) new (each_from (λ (e : Entry Op). not (has_id log (id_of e.stamp)) ≡ true) new unnamed))

  both_same : (e : Entry Op) → Contains (log ++ came) e ↔ Contains (log ++ new) e
  both_same e = (
    λ c. elim (Contains-append_cases log came e c) [
      | inl i ↦ Contains-append_left log new e i
      | inr j ↦ Contains-append_right log new e ((came_same e).0 j)
    ],
    λ c. elim (Contains-append_cases log new e c) [
      | inl i ↦ Contains-append_left log came e i
      | inr j ↦ Contains-append_right log came e ((came_same e).1 j)
    ],
  )

  pub entered_is : interleaved log (interleaved (filter (λ e. covers later (id_of e.stamp)) ws) (filter (λ e. covers later (id_of e.stamp)) ns)) ≡ union log new
  entered_is =
      interleaved_canonical log came h.log_rises (rising-interleaved (filter in_later ws) (filter in_later ns) (rising-filter in_later ws h.ws_rises) (rising-filter in_later ns h.ns_rises)) with_came
      ∙ canonical_same (log ++ came) (log ++ new) with_came with_new both_same ∙ sym union_is

  pub entered_apart : AreApart (union log new)
  entered_apart = subst AreApart (sym union_is) (apart-canonical (log ++ new) with_new)

  pub entered_rises : IsRising (union log new)
  entered_rises = subst IsRising (sym union_is) (rising-canonical (log ++ new) with_new)

  pub entered_from : (e : Entry Op) → Contains (union log new) e → Contains log e ⊎ Contains new e
  entered_from e c = Contains-append_cases log new e ((Contains-canonical (log ++ new) e).1 (subst (λ (l : List (Entry Op)). Contains l e) union_is c))

  -- one after another they come to the same places
  pub placed_is : placed log new ≡ union log new
  placed_is =
      rising_same (placed log new) (canonical (log ++ new))
      (placed_rises log new h.log_rises h.new_apart (λ e f c d same. both_ways (covers own (id_of f.stamp)) (new_outside f d) (subst (λ (i : Id). covers own i ≡ true) same (h.old e c))))
      (rising-canonical (log ++ new) with_new) (λ e. (λ c. (Contains-canonical (log ++ new) e).0 ((in_placed new log e).0 c), λ c. (in_placed new log e).1 ((Contains-canonical (log ++ new) e).1 c)))
      ∙ sym union_is

  -- how many of them there are
  pub entered_many : length (union log new) ≡ length log + length new
  entered_many = ap length union_is ∙ canonical_many (log ++ new) ∙ length-append log new

  -- how many of them pass a test
  pub entered_count : (p : Entry Op → Bool) → length (filter p (union log new)) ≡ length (filter p log) + length (filter p new)
  entered_count p =
      ap (λ (l : List (Entry Op)). length (filter p l)) union_is ∙ counted (log ++ new) ∙ ap length (filter-append p log new) ∙ length-append (filter p log) (filter p new)
    where
      placed : (x : Entry Op) (l : List (Entry Op)) → length (filter p (place x l)) ≡ length (filter p (x ∷ l))
      placed x [] = refl
      placed x (y ∷ l) = elim (is_below x.stamp y.stamp) as (λ b. length (filter p (cond b (x ∷ y ∷ l) (y ∷ place x l))) ≡ length (filter p (x ∷ y ∷ l))) [
        | true ↦ refl
        | false ↦ (let h = placed x l in grind (arith, h))
      ]

      counted : (l : List (Entry Op)) → length (filter p (canonical l)) ≡ length (filter p l)
      counted [] = refl
      counted (x ∷ l) = placed x (canonical l) ∙ (let h = counted l in grind (arith, h))
