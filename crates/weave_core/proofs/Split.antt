-- Operations that come after all of some others do not change with these.
use Rattle.std.proofs.Common.{◌≡◌, ℕ, zero, suc, true, false, List, [], ◌∷◌, ◌++◌, refl, ap, ap₂, sym, ◌∙◌, subst, arith, map, fold, append_assoc}
use Rattle.std.proofs.lemmas.List.{append-nil, map-append}
use Rattle.std.specs.List.{AllByRecursion, filter}
use Rattle.vector_clock.specs.declared.stamp.Stamp.{Stamp}
use Rattle.vector_clock.specs.Stamp.{are_concurrent, is_before}
use Rattle.crdt_laws.specs.declared.small.Entry.{Entry}
use Rattle.crdt_laws.specs.Present.{acted, acted_by, acting, acts_at, apply_all, document_from, forms, own_forms, present, with_next}
use Rattle.crdt_laws.specs.Tower.{Meaning}
use Rattle.crdt_laws.proofs.Filters.{all-append, all-map}
use Rattle.crdt_laws.proofs.Forms.{present-stamp}
use Rattle.vector_clock.proofs.Ordered.{all_weaker}

pub before_not_concurrent : (a b : Stamp) → is_before a b ≡ true → are_concurrent a b ≡ false
unfolding are_concurrent
before_not_concurrent a b h = grind arith

acts_at-concurrent : {State Op : Type 0} (t : Meaning State Op) (l : ℕ) (x e : Entry Op) → are_concurrent e.stamp x.stamp ≡ false → acts_at t l x e ≡ false
unfolding acts_at
acts_at-concurrent t l x e h = grind arith

-- none of the forms is concurrent to the operation
abbrev pub AreKnown : {Op : Type 0} → List (Entry Op) → Entry Op → Type 0
AreKnown es y = AllByRecursion (λ e. are_concurrent e.stamp y.stamp ≡ false) es

module _ {State Op : Type 0} (t : Meaning State Op) where
  filter_known : (l : ℕ) (y : Entry Op) (es fs : List (Entry Op)) → AreKnown es y → filter (acts_at t l y) (es ++ fs) ≡ filter (acts_at t l y) fs
  filter_known l y [] fs h = refl
  filter_known l y (e ∷ es) fs h =
      let ih : filter (acts_at t l y) (es ++ fs) ≡ filter (acts_at t l y) fs = filter_known l y es fs h.1 in
      let no : acts_at t l y e ≡ false = acts_at-concurrent t l y e h.0 in
      grind (arith, ih)

  acting_known : (y : Entry Op) (es fs : List (Entry Op)) → AreKnown es y → (l : ℕ) → acting t l (es ++ fs) y ≡ acting t l fs y
  acting_known y es fs h zero = refl
  acting_known y es fs h (suc l) = ap₂ (λ (a b : List (Entry Op)). a ++ b) (filter_known (suc l) y es fs h) (acting_known y es fs h l)

  present_known : (y : Entry Op) (es fs : List (Entry Op)) → AreKnown es y → present t (es ++ fs) y ≡ present t fs y
  unfolding present
  present_known y es fs h = ap (λ l. acted_by t l y) (acting_known y es fs h t.top)

  with_next_known : (y : Entry Op) (es fs : List (Entry Op)) → AreKnown es y → with_next t (es ++ fs) y ≡ map (acted t (present t fs y)) es ++ with_next t fs y
  unfolding with_next
  with_next_known y es fs h =
      let z = present t fs y in
      ap (λ x. map (acted t x) (es ++ fs) ++ x ∷ []) (present_known y es fs h)
      ∙ ap (λ l. l ++ z ∷ []) (map-append (acted t z) es fs)
      ∙ append_assoc (map (acted t z) es) (map (acted t z) fs) (z ∷ [])

  known_acted : (x y : Entry Op) (es : List (Entry Op)) → AreKnown es y → AreKnown (map (acted t x) es) y
  known_acted x y es h = all-map (λ e. are_concurrent e.stamp y.stamp ≡ false) (λ e. are_concurrent e.stamp y.stamp ≡ false) (acted t x) (λ e q. q) es h

  each_known : (x : Entry Op) (es ys : List (Entry Op)) → AllByRecursion (AreKnown es) ys → AllByRecursion (AreKnown (map (acted t x) es)) ys
  each_known x es ys h = all_weaker (AreKnown es) (AreKnown (map (acted t x) es)) (λ y k. known_acted x y es k) ys h

  own_forms_known : (ys es fs : List (Entry Op)) → AllByRecursion (AreKnown es) ys → own_forms t (es ++ fs) ys ≡ own_forms t fs ys
  own_forms_known [] es fs h = refl
  own_forms_known (y ∷ ys) es fs h =
      let z = present t fs y in
      ap₂ (λ (x : Entry Op) (l : List (Entry Op)). x ∷ l)
      (present_known y es fs h.0)
      (ap (λ l. own_forms t l ys) (with_next_known y es fs h.0)
      ∙ own_forms_known ys (map (acted t z) es) (with_next t fs y) (each_known z es ys h.1))

  pub own_forms-append : (xs ys fs : List (Entry Op)) → own_forms t fs (xs ++ ys) ≡ own_forms t fs xs ++ own_forms t (fold (with_next t) fs xs) ys
  own_forms-append [] ys fs = refl
  own_forms-append (x ∷ xs) ys fs = ap (λ (l : List (Entry Op)). present t fs x ∷ l) (own_forms-append xs ys (with_next t fs x))

  pub apply_all-append : (s : State) (xs ys : List (Entry Op)) → apply_all t s (xs ++ ys) ≡ apply_all t (apply_all t s xs) ys
  apply_all-append s [] ys = refl
  apply_all-append s (x ∷ xs) ys = apply_all-append (t.apply s x.stamp x.op) xs ys

  -- the forms of operations keep what their stamps do
  all_with_next : (P : Stamp → Type 0) (fs : List (Entry Op)) (x : Entry Op) → AllByRecursion (λ e. P e.stamp) fs → P x.stamp → AllByRecursion (λ e. P e.stamp) (with_next t fs x)
  unfolding with_next
  all_with_next P fs x h p =
      let z = present t fs x in
      all-append (λ (e : Entry Op). P e.stamp) (map (acted t z) fs) (z ∷ [])
      (all-map (λ (e : Entry Op). P e.stamp) (λ (e : Entry Op). P e.stamp) (acted t z) (λ e q. q) fs h)
      (subst P (sym (present-stamp t fs x)) p, tt)

  all_forms : (P : Stamp → Type 0) (xs fs : List (Entry Op)) → AllByRecursion (λ e. P e.stamp) fs → AllByRecursion (λ e. P e.stamp) xs → AllByRecursion (λ e. P e.stamp) (fold (with_next t) fs xs)
  all_forms P [] fs h k = h
  all_forms P (x ∷ xs) fs h k = all_forms P xs (with_next t fs x) (all_with_next P fs x h k.0) k.1

  forms_known : (xs ys : List (Entry Op)) → AllByRecursion (AreKnown xs) ys → AllByRecursion (AreKnown (forms t xs)) ys
  forms_known xs ys h = all_weaker (AreKnown xs) (AreKnown (forms t xs)) (λ y k. all_forms (λ p. are_concurrent p y.stamp ≡ false) xs [] tt k) ys h

  document_known : (s : State) (xs ys : List (Entry Op)) → AllByRecursion (AreKnown xs) ys → document_from t s (xs ++ ys) ≡ document_from t (document_from t s xs) ys
  document_known s xs ys h =
      ap (apply_all t s) (own_forms-append xs ys [])
      ∙ apply_all-append s (own_forms t [] xs) (own_forms t (forms t xs) ys)
      ∙ ap (apply_all t (document_from t s xs))
      (ap (λ l. own_forms t l ys) (sym (append-nil (forms t xs))) ∙ own_forms_known ys (forms t xs) [] (forms_known xs ys h))

-- each of xs is before each of ys
abbrev pub AreBefore : {Op : Type 0} → List (Entry Op) → List (Entry Op) → Type 0
AreBefore xs ys = AllByRecursion (λ x. AllByRecursion (λ y. is_before x.stamp y.stamp ≡ true) ys) xs

before_known : {Op : Type 0} (xs ys : List (Entry Op)) → AreBefore xs ys → AllByRecursion (AreKnown xs) ys
before_known xs [] h = tt
before_known {Op} xs (y ∷ ys) h = (
  all_weaker (λ (x : Entry Op). AllByRecursion (λ (z : Entry Op). is_before x.stamp z.stamp ≡ true) (y ∷ ys)) (λ x. are_concurrent x.stamp y.stamp ≡ false) (λ x k. before_not_concurrent x.stamp y.stamp k.0) xs h,
  before_known xs ys (all_weaker (λ (x : Entry Op). AllByRecursion (λ (z : Entry Op). is_before x.stamp z.stamp ≡ true) (y ∷ ys)) (λ x. AllByRecursion (λ (z : Entry Op). is_before x.stamp z.stamp ≡ true) ys) (λ x k. k.1) xs h),
)

-- Where all of xs are before all of ys, the document of both is that of ys from that of xs.
pub document_from-append : {State Op : Type 0} (t : Meaning State Op) (s : State) (xs ys : List (Entry Op)) → AreBefore xs ys → document_from t s (xs ++ ys) ≡ document_from t (document_from t s xs) ys
document_from-append t s xs ys h = document_known t s xs ys (before_known xs ys h)
