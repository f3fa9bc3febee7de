-- What the register of several texts keeps after sets in a causal order.
use Rattle.std.proofs.Common.{◌≡◌, ℕ, suc, ◌<◌, true, false, not, List, [], ◌∷◌, Bool, cond, map, Contains, length, refl, ap, sym, subst, ◌∙◌, ◌⊎◌, ◌↔◌, inl, inr, arith}
use Rattle.std.specs.List.{AllByRecursion, filter, list_all}
use Rattle.std.proofs.lemmas.Bool.{and_from, cases_Bool, not_from_false, not-true}
use Rattle.std.proofs.lemmas.Bool.Decides.{nat_tests}
use Rattle.serde_json.specs.Data.{Data, array, string}
use Rattle.serde_json.specs.View.{items_of}
use Rattle.vector_clock.specs.declared.clock.Clock.{Clock}
use Rattle.vector_clock.specs.declared.stamp.Stamp.{Stamp}
use Rattle.vector_clock.specs.Sets as stamped
use Rattle.vector_clock.specs.Stamp.{is_before, is_below, same_id}
use Rattle.crdt_laws.specs.declared.small.Entry.{Entry}
use Rattle.crdt_laws.specs.Entry.{entry}
use Rattle.crdt_laws.specs.Present.{apply_all}
use Rattle.crdt_laws.specs.Sets.{AreApart, IsCausal, IsHonest, IsRising, beyond, canonical, is_beyond, place}
use Rattle.crdt_laws.proofs.Filters.{all-place, all_true, rising-filter}
use Rattle.crdt_laws.proofs.Members.{Contains-canonical, Contains-cases, Contains-front, Contains-more, Contains-place, at_member, each, filter_has, filter_inside, filter_passed, rising_same}
use Rattle.crdt_laws.proofs.Place.{rising-canonical}
use Rattle.register_crdts.specs.declared.several.Held.{Held}
use Rattle.register_crdts.specs.Several.{held, is_unseen, several_apply, several_meaning, several_show, texts_of}
use Rattle.register_crdts.specs.SeveralLaws.{rising-apply}
use Rattle.vector_clock.proofs.Ordered.{all_weaker}

abbrev E : Type 0
E = Entry (List ℕ)

-- lists

contains-filter : {X : Type 0} (p : X → Bool) (l : List X) (x : X) → Contains (filter p l) x ↔ (Contains l x × (p x ≡ true))
contains-filter p l x = (
  λ c. (filter_inside p l x c, filter_passed p l x c),
  λ h. filter_has p l x h.0 h.1,
)

all_pass : {X : Type 0} (p : X → Bool) (l : List X) → ((x : X) → Contains l x → p x ≡ true) → list_all p l ≡ true
all_pass p [] h = refl
all_pass p (a ∷ l) h = and_from (p a) (list_all p l) (h a (Contains-front a l)) (all_pass p l (λ x c. h x (Contains-more a l x c)))

from-place : (x : E) (l : List E) (e : E) → Contains (place x l) e → Contains (x ∷ l) e
from-place x l e c =
    at_member (Contains (x ∷ l)) (place x l) e (all-place (Contains (x ∷ l)) x (Contains-front x l) l (all_weaker (Contains l) (Contains (x ∷ l)) (λ z k. Contains-more x l z k) l (each l))) c

-- the sets that are held, as operations

abbrev entries : List Held → List E
entries s = map (λ h. entry h.stamp h.text) s

abbrev at : Held → Stamp
at h = h.stamp

abbrev after : List E → E → List E
after s x = place x (beyond x.stamp.clock s)

entries-place : (h : Held) (l : List Held) → entries (stamped.place at h l) ≡ place (entry h.stamp h.text) (entries l)
entries-place h [] = refl
entries-place h (g ∷ l) =
    let ih : entries (stamped.place at h l) ≡ place (entry h.stamp h.text) (entries l) = entries-place h l in
    elim (is_below h.stamp g.stamp) as (λ b. entries (cond b (h ∷ g ∷ l) (g ∷ stamped.place at h l)) ≡ cond b (entry h.stamp h.text ∷ entry g.stamp g.text ∷ entries l) (entry g.stamp g.text ∷ place (entry h.stamp h.text) (entries l))) [
      | true ↦ refl
      | false ↦ ap (λ (z : List E). entry g.stamp g.text ∷ z) ih
    ]

entries-beyond : (k : Clock) (l : List Held) → entries (stamped.beyond at k l) ≡ beyond k (entries l)
entries-beyond k [] = refl
entries-beyond k (g ∷ l) =
    let ih : entries (stamped.beyond at k l) ≡ beyond k (entries l) = entries-beyond k l in
    elim (stamped.is_beyond at k g) as (λ b. entries (cond b (g ∷ stamped.beyond at k l) (stamped.beyond at k l)) ≡ cond b (entry g.stamp g.text ∷ beyond k (entries l)) (beyond k (entries l))) [
      | true ↦ ap (λ (z : List E). entry g.stamp g.text ∷ z) ih
      | false ↦ ih
    ]

entries-apply : (s : List Held) (x : E) → entries (several_apply s x.stamp x.op) ≡ after (entries s) x
entries-apply s x = entries-place (held x.stamp x.op) (stamped.beyond at x.stamp.clock s) ∙ ap (place x) (entries-beyond x.stamp.clock s)

above-entries : (p : Stamp) (l : List Held) → AllByRecursion (λ h. is_below p h.stamp ≡ true) l → AllByRecursion (λ e. is_below p e.stamp ≡ true) (entries l)
above-entries p [] h = tt
above-entries p (a ∷ l) h = (h.0, above-entries p l h.1)

rising-entries : (l : List Held) → stamped.IsRising at l → IsRising (entries l)
rising-entries [] r = tt
rising-entries (a ∷ l) r = (above-entries a.stamp l r.0, rising-entries l r.1)

rising_all : (xs : List E) (s : List Held) → stamped.IsRising at s → stamped.IsRising at (apply_all several_meaning s xs)
rising_all [] s r = r
rising_all (x ∷ xs) s r = rising_all xs (several_apply s x.stamp x.op) (rising-apply s x.stamp x.op r)

-- s has exactly those of the operations of which no other knew
record StandsFor (A : E → Type 0) (s : List E) : Type 0 where
  each : (e : E) → Contains s e ↔ (A e × ((f : E) → A f → is_before e.stamp f.stamp ≡ false))

same_sets : (A B : E → Type 0) (s : List E) → ((e : E) → A e ↔ B e) → StandsFor A s → StandsFor B s
same_sets A B s h k = record {
  each = λ e. (
    λ c. let r = (k.each e).0 c in ((h e).0 r.0, λ f b. r.1 f ((h f).1 b)),
    λ r. (k.each e).1 ((h e).1 r.0, λ f a. r.1 f ((h f).0 a)),
  );
}

not_before_itself : (p : Stamp) → is_before p p ≡ false
unfolding is_before same_id
not_before_itself p = grind (arith, nat_tests)

not_before : (e x : E) → is_beyond x.stamp.clock e ≡ true → is_before e.stamp x.stamp ≡ false
unfolding is_before
not_before e x h = grind arith

beyond_from : (e x : E) → is_before e.stamp x.stamp ≡ false → same_id e.stamp x.stamp ≡ false → is_beyond x.stamp.clock e ≡ true
unfolding is_before
beyond_from e x h k = grind arith

module _ (A : E → Type 0) (s : List E) (x : E) (stands : StandsFor A s) where
  after_from : ((f : E) → A f → is_before x.stamp f.stamp ≡ false) → (e : E) → Contains (after s x) e
      → ((x ≡ e) ⊎ A e) × ((f : E) → (x ≡ f) ⊎ A f → is_before e.stamp f.stamp ≡ false)
  after_from cross e c = elim (Contains-cases x (beyond x.stamp.clock s) e (from-place x (beyond x.stamp.clock s) e c)) [
    | inl q ↦ (
      inl q,
      subst (λ z. (f : E) → (x ≡ f) ⊎ A f → is_before z.stamp f.stamp ≡ false) q (λ f h. elim h [
        | inl g ↦ subst (λ z. is_before x.stamp z.stamp ≡ false) g (not_before_itself x.stamp)
        | inr a ↦ cross f a
      ]),
    )
    | inr k ↦
        (let w = (contains-filter (is_beyond x.stamp.clock) s e).0 k in
        let r = (stands.each e).0 w.0 in (
          inr r.0,
          λ f h. elim h [
            | inl g ↦ subst (λ z. is_before e.stamp z.stamp ≡ false) g (not_before e x w.1)
            | inr a ↦ r.1 f a
          ],
        ))
  ]

  after_to : ((e : E) → A e → same_id e.stamp x.stamp ≡ true → e ≡ x) → (e : E) → (x ≡ e) ⊎ A e
      → ((f : E) → (x ≡ f) ⊎ A f → is_before e.stamp f.stamp ≡ false) → Contains (after s x) e
  after_to same e h unseen = Contains-place x (beyond x.stamp.clock s) e (elim h [
    | inl q ↦ subst (λ z. Contains (x ∷ beyond x.stamp.clock s) z) q (Contains-front x (beyond x.stamp.clock s))
    | inr a ↦ elim (cases_Bool (same_id e.stamp x.stamp)) [
      | inl t ↦ subst (λ z. Contains (x ∷ beyond x.stamp.clock s) z) (sym (same e a t)) (Contains-front x (beyond x.stamp.clock s))
      | inr d ↦ Contains-more x (beyond x.stamp.clock s) e ((contains-filter (is_beyond x.stamp.clock) s e).1
          ((stands.each e).1 (a, λ f b. unseen f (inr b)), beyond_from e x (unseen x (inl refl)) d))
    ]
  ])

  stands_after : ((f : E) → A f → is_before x.stamp f.stamp ≡ false) → ((e : E) → A e → same_id e.stamp x.stamp ≡ true → e ≡ x)
      → StandsFor (λ e. (x ≡ e) ⊎ A e) (after s x)
  stands_after cross same = record { each = λ e. (after_from cross e, λ h. after_to same e h.0 h.1) }

-- what is before the head or in the list, as what is before the list or in it
regroup : (A : E → Type 0) (x : E) (xs : List E) (e : E) → (((x ≡ e) ⊎ A e) ⊎ Contains xs e) ↔ (A e ⊎ Contains (x ∷ xs) e)
regroup A x xs e = (
  λ h. elim h [
    | inl k ↦ elim k [ inl q ↦ inr (subst (Contains (x ∷ xs)) q (Contains-front x xs)) | inr a ↦ inl a ]
    | inr c ↦ inr (Contains-more x xs e c)
  ],
  λ h. elim h [
    | inl a ↦ inl (inr a)
    | inr c ↦ elim (Contains-cases x xs e c) [ inl q ↦ inl (inl q) | inr k ↦ inr k ]
  ],
)

later_first : (x : E) (xs : List E) → IsCausal (x ∷ xs) → (e : E) → Contains xs e → is_before e.stamp x.stamp ≡ false
later_first x xs h e c = subst (λ (z : E). is_before z.stamp x.stamp ≡ false) c.2 (h 0 (suc c.0) e (omega arith) (let l : c.0 < length xs = c.1 in omega arith))

later_rest : (x : E) (xs : List E) → IsCausal (x ∷ xs) → IsCausal xs
later_rest x xs h i j d m n = h (suc i) (suc j) d (omega arith) (omega arith)

run : (xs : List E) (A : E → Type 0) (s : List Held) → IsCausal xs
    → ((e f : E) → Contains xs e → A f → is_before e.stamp f.stamp ≡ false)
    → ((e f : E) → A e ⊎ Contains xs e → A f ⊎ Contains xs f → same_id e.stamp f.stamp ≡ true → e ≡ f)
    → StandsFor A (entries s) → StandsFor (λ e. A e ⊎ Contains xs e) (entries (apply_all several_meaning s xs))
run [] A s causal cross same stands =
    same_sets A (λ e. A e ⊎ Contains [] e) (entries s) (λ e. (λ a. inl a, λ h. elim h [ inl a ↦ a | inr c ↦ (let l : c.0 < 0 = c.1 in absurd (omega arith)) ])) stands
run (x ∷ xs) A s causal cross same stands =
    let B : E → Type 0 = λ e. (x ≡ e) ⊎ A e in
    let x_in : A x ⊎ Contains (x ∷ xs) x = inr (Contains-front x xs) in
    let one : StandsFor B (entries (several_apply s x.stamp x.op)) =
    subst (StandsFor B) (sym (entries-apply s x)) (stands_after A (entries s) x stands (λ f a. cross x f (Contains-front x xs) a) (λ e a t. same e x (inl a) x_in t)) in
    same_sets (λ e. B e ⊎ Contains xs e) (λ e. A e ⊎ Contains (x ∷ xs) e) (entries (apply_all several_meaning (several_apply s x.stamp x.op) xs)) (regroup A x xs)
    (run xs B (several_apply s x.stamp x.op) (later_rest x xs causal)
    (λ e f c b. elim b [
      | inl q ↦ subst (λ (z : E). is_before e.stamp z.stamp ≡ false) q (later_first x xs causal e c)
      | inr a ↦ cross e f (Contains-more x xs e c) a
    ])
    (λ e f i j t. same e f ((regroup A x xs e).0 i) ((regroup A x xs f).0 j) t)
    one)

-- as a list

kept : (xs : List E) → IsHonest xs → IsCausal xs → StandsFor (λ e. ⊥ ⊎ Contains xs e) (entries (apply_all several_meaning [] xs))
kept xs honest causal =
    run xs (λ _. ⊥) [] causal (λ e f c a. absurd a) (λ e f i j t. honest.same e f (only e i) (only f j) t)
    (record { each = λ e. (λ c. (let l : c.0 < 0 = c.1 in absurd (omega arith)), λ h. absurd h.0) })
  where
    only : (e : E) → ⊥ ⊎ Contains xs e → Contains xs e
    only e h = elim h [ inl a ↦ absurd a | inr c ↦ c ]

unseen_each : (xs : List E) (e : E) → is_unseen xs e ≡ true → (f : E) → Contains xs f → is_before e.stamp f.stamp ≡ false
unseen_each xs e h f c = not-true (is_before e.stamp f.stamp) (at_member (λ (g : E). not (is_before e.stamp g.stamp) ≡ true) xs f (all_true (λ (g : E). not (is_before e.stamp g.stamp)) xs h) c)

unseen_from : (xs : List E) (e : E) → ((f : E) → Contains xs f → is_before e.stamp f.stamp ≡ false) → is_unseen xs e ≡ true
unseen_from xs e h = all_pass (λ (g : E). not (is_before e.stamp g.stamp)) xs (λ f c. not_from_false (is_before e.stamp f.stamp) (h f c))

same_members : (xs : List E) → IsHonest xs → IsCausal xs → (e : E)
    → Contains (entries (apply_all several_meaning [] xs)) e ↔ Contains (filter (is_unseen xs) (canonical xs)) e
same_members xs honest causal e =
    let k = (kept xs honest causal).each e in (
      λ c. let r = k.0 c in
          let here : Contains xs e = elim r.0 [ inl a ↦ absurd a | inr i ↦ i ] in
          (contains-filter (is_unseen xs) (canonical xs) e).1 ((Contains-canonical xs e).0 here, unseen_from xs e (λ f i. r.1 f (inr i))),
      λ c. let r = (contains-filter (is_unseen xs) (canonical xs) e).0 c in
          k.1 (inr ((Contains-canonical xs e).1 r.0), λ f h. elim h [ inl a ↦ absurd a | inr i ↦ unseen_each xs e r.1 f i ]),
    )

texts_shown : (s : List Held) → map (λ (h : Held). string h.text) s ≡ map (λ (e : E). string e.op) (entries s)
texts_shown [] = refl
texts_shown (h ∷ s) = ap (λ (z : List Data). string h.text ∷ z) (texts_shown s)

pub unseen_shown : (xs : List E) → IsHonest xs → AreApart xs → IsCausal xs
    → several_show (apply_all several_meaning [] xs) ≡ texts_of (filter (is_unseen xs) (canonical xs))
unseen_shown xs honest apart causal =
    let s = apply_all several_meaning [] xs in
    let same : entries s ≡ filter (is_unseen xs) (canonical xs) =
    rising_same (entries s) (filter (is_unseen xs) (canonical xs)) (rising-entries s (rising_all xs [] tt))
    (rising-filter (is_unseen xs) (canonical xs) (rising-canonical xs apart)) (same_members xs honest causal) in
    ap (λ ds. array (items_of ds)) (texts_shown s) ∙ ap texts_of same
