-- What holds while the operations of a document are applied in their order.
use Rattle.std.proofs.Common.{◌≡◌, ℕ, ◌+◌, ◌<◌, false, List, [], ◌∷◌, ◌++◌, ◌⊎◌, inl, inr, IsTrue, ap, ap₂, sym, ◌∙◌, subst, length, get_or, drop, drop-cons, add-one, map}
use Rattle.std.specs.List.{AllByRecursion}
use Rattle.std.proofs.lemmas.List.Elements.{recursion_from_All, All-from_recursion}
use Rattle.vector_clock.specs.Stamp.{same_id, id_of}
use Rattle.crdt_laws.specs.declared.small.Entry.{Entry}
use Rattle.crdt_laws.specs.Document.{MakesDocument, MayFollow}
use Rattle.crdt_laws.specs.Entry.{entry}
use Rattle.crdt_laws.specs.Present.{acted, apply_all, document, own_forms, present, with_next}
use Rattle.crdt_laws.specs.Sets.{AreApart, AreIssued}
use Rattle.crdt_laws.specs.Tower.{Meaning, IsIssued, IsLawful, Lacks}
use Rattle.crdt_laws.proofs.Acts
use Rattle.crdt_laws.proofs.Acts.{lacks-apply}
use Rattle.crdt_laws.proofs.Filters.{all-append, all-map}
use Rattle.crdt_laws.proofs.Forms
use Rattle.crdt_laws.proofs.Forms.{present-stamp}

-- the state lacks the operations to come, and their ids differ
abbrev pub AreFresh : {State Op : Type 0} → Meaning State Op → State → List (Entry Op) → Type 0
AreFresh m s xs = AllByRecursion (λ e. Lacks m s (id_of e.stamp)) xs × AreApart xs

-- the loop invariant: the operations xs may be applied one after another to s, where es are the forms so far
pub record IsReady {State Op : Type 0} (m : Meaning State Op) (s : State) (es xs : List (Entry Op)) : Type 0 where
  pub members : ℕ
  pub good : m.good members s
  pub forms : AllByRecursion (λ e. IsIssued m members e.stamp e.op) es
  pub issued : AllByRecursion (λ e. IsIssued m members e.stamp e.op) xs
  pub fresh : IsTrue m.plain ⊎ AreFresh m s xs

module _ {State Op : Type 0} (t : Meaning State Op) (law : IsLawful t) where
  plain_lacks : IsTrue t.plain → (s : State) (x : Entry Op) → Lacks t s (id_of x.stamp)
  plain_lacks h s x = record { none = λ p k _. law.plain_holds s p h k }

  first_lacks : (s : State) (x : Entry Op) (xs : List (Entry Op)) → IsTrue t.plain ⊎ AreFresh t s (x ∷ xs) → Lacks t s (id_of x.stamp)
  first_lacks s x xs (inl h) = plain_lacks h s x
  first_lacks s x xs (inr f) = f.0.0

  lacking_after : (s : State) (x : Entry Op) (o : Op) (xs : List (Entry Op)) → AllByRecursion (λ e. Lacks t s (id_of e.stamp)) xs → AllByRecursion (λ e. same_id x.stamp e.stamp ≡ false) xs → AllByRecursion (λ e. Lacks t (t.apply s x.stamp o) (id_of e.stamp)) xs
  lacking_after s x o [] f d = tt
  lacking_after s x o (e ∷ xs) f d = (lacks-apply t law s x.stamp e.stamp o f.0 d.0, lacking_after s x o xs f.1 d.1)

  fresh_after : (s : State) (x : Entry Op) (o : Op) (xs : List (Entry Op)) → IsTrue t.plain ⊎ AreFresh t s (x ∷ xs) → IsTrue t.plain ⊎ AreFresh t (t.apply s x.stamp o) xs
  fresh_after s x o xs (inl h) = inl h
  fresh_after s x o xs (inr f) = inr (lacking_after s x o xs f.0.1 f.1.0, f.1.1)

  pub may_follow : (s : State) (es xs : List (Entry Op)) (x : Entry Op) → IsReady t s es (x ∷ xs) → MayFollow t s es x
  may_follow s es xs x r =
      let n : r.members ≡ x.stamp.clock.n = sym r.issued.0.stamp.members in
      record {
        good = subst (λ k. t.good k s) n r.good;
        forms = subst (λ k. AreIssued t k es) n (All-from_recursion (λ (e : Entry Op). IsIssued t r.members e.stamp e.op) es r.forms);
        issued = subst (λ k. IsIssued t k x.stamp x.op) n r.issued.0;
        fresh = first_lacks s x xs r.fresh;
      }

  form_is : (es : List (Entry Op)) (x : Entry Op) → present t es x ≡ entry x.stamp (present t es x).op
  form_is es x = ap (λ p. entry p (present t es x).op) (present-stamp t es x)

  pub next_issued : (n : ℕ) (es : List (Entry Op)) (x : Entry Op) → AllByRecursion (λ e. IsIssued t n e.stamp e.op) es → IsIssued t n x.stamp x.op → AllByRecursion (λ e. IsIssued t n e.stamp e.op) (with_next t es x)
  unfolding with_next
  next_issued n es x h v =
      let w = Forms.present-issued t n law es x h v in
      all-append (λ e. IsIssued t n e.stamp e.op) (map (acted t (present t es x)) es) (present t es x ∷ [])
      (all-map (λ e. IsIssued t n e.stamp e.op) (λ e. IsIssued t n e.stamp e.op) (acted t (present t es x)) (λ e i. Acts.acted-issued t n law (present t es x) e w i) es h)
      (w, tt)

  pub ready_next : (s : State) (es xs : List (Entry Op)) (x : Entry Op) → IsReady t s es (x ∷ xs) → IsReady t (t.apply s x.stamp (present t es x).op) (with_next t es x) xs
  ready_next s es xs x r =
      let o = (present t es x).op in
      let v : IsIssued t r.members x.stamp o = subst (λ p. IsIssued t r.members p o) (present-stamp t es x) (Forms.present-issued t r.members law es x r.forms r.issued.0) in
      record {
        members = r.members;
        good = law.good-apply r.members s x.stamp o r.good v (first_lacks s x xs r.fresh);
        forms = next_issued r.members es x r.forms r.issued.0;
        issued = r.issued.1;
        fresh = fresh_after s x o xs r.fresh;
      }

  none_held : (xs : List (Entry Op)) → AllByRecursion (λ e. Lacks t t.init (id_of e.stamp)) xs
  none_held [] = tt
  none_held (x ∷ xs) = (record { none = λ p h _. law.holds-init p h }, none_held xs)

  pub ready_first : (xs : List (Entry Op)) → MakesDocument t xs → IsReady t t.init [] xs
  ready_first xs m = record {
    members = m.members;
    good = law.good-init m.members;
    forms = tt;
    issued = recursion_from_All (λ (e : Entry Op). IsIssued t m.members e.stamp e.op) xs m.issued;
    fresh = elim m.apart [ inl h ↦ inl h | inr d ↦ inr (none_held xs, d) ];
  }

  -- the first of what is left is applied next
  pub left_next : (s s' : State) (es es' xs : List (Entry Op)) (x : Entry Op) (d : State) → s' ≡ t.apply s x.stamp (present t es x).op → es' ≡ with_next t es x → apply_all t s (own_forms t es (x ∷ xs)) ≡ d → apply_all t s' (own_forms t es' xs) ≡ d
  left_next s s' es es' xs x d e f h =
      ap₂ (λ z l. apply_all t z (own_forms t l xs)) e f
      ∙ ap (λ p. apply_all t (t.apply s p (present t es x).op) (own_forms t (with_next t es x) xs)) (sym (present-stamp t es x))
      ∙ h

-- the forms once x is in, as the program makes them
pub forms_are : {State Op : Type 0} (t : Meaning State Op) (es old now : List (Entry Op)) (x : Entry Op) (op form : Op) (kept new : List (Entry Op)) → op ≡ x.op → old ≡ es → now ≡ es → entry x.stamp form ≡ present t old (entry x.stamp op) → kept ≡ map (acted t (entry x.stamp form)) now → new ≡ kept ++ entry x.stamp form ∷ [] → new ≡ with_next t es x
unfolding with_next
forms_are {Op = Op} t es old now x op form kept new a b c p k n =
    let f : entry x.stamp form ≡ present t es x = p ∙ ap₂ (λ (l : List (Entry Op)) o. present t l (entry x.stamp o)) b a in
    n ∙ ap (λ l. l ++ entry x.stamp form ∷ []) (k ∙ ap (map (acted t (entry x.stamp form))) c)
    ∙ ap (λ y. map (acted t y) es ++ y ∷ []) f

-- the operations that are left begin with the one at hand
pub drop_item : {X : Type 0} (l : List X) (i : ℕ) (x : X) → i < length l → x ≡ get_or l i x → drop i l ≡ x ∷ drop (i + 1) l
drop_item l i x m is = drop-cons l i x m ∙ ap₂ (λ y k. y ∷ drop k l) (sym is) (sym (add-one i))

-- the loop over the operations

module _ {State Op : Type 0} (t : Meaning State Op) (law : IsLawful t) where
  pub loop_first : (s : State) (es xs ops : List (Entry Op)) → s ≡ t.init → es ≡ [] → xs ≡ ops → MakesDocument t ops → (apply_all t s (own_forms t es xs) ≡ document t ops) × IsReady t s es xs
  loop_first s es xs ops a b c m = (
    ap₂ (apply_all t) a (ap₂ (own_forms t) b c),
    subst (λ z. IsReady t z es xs) (sym a) (subst (λ l. IsReady t t.init l xs) (sym b) (subst (IsReady t t.init []) (sym c) (ready_first t law ops m))),
  )

  pub loop_item : (s : State) (es l : List (Entry Op)) (i : ℕ) (x : Entry Op) → i < length l → x ≡ get_or l i x → IsReady t s es (drop i l) → MayFollow t s es x
  loop_item s es l i x m is r = may_follow t law s es (drop (i + 1) l) x (subst (IsReady t s es) (drop_item l i x m is) r)

  pub loop_next : (s s' : State) (es es' l : List (Entry Op)) (i : ℕ) (x : Entry Op) (d : State) → i < length l → x ≡ get_or l i x → s' ≡ t.apply s x.stamp (present t es x).op → es' ≡ with_next t es x
      → apply_all t s (own_forms t es (drop i l)) ≡ d → IsReady t s es (drop i l) → (apply_all t s' (own_forms t es' (drop (i + 1) l)) ≡ d) × IsReady t s' es' (drop (i + 1) l)
  loop_next s s' es es' l i x d m is a b left r =
      let e : drop i l ≡ x ∷ drop (i + 1) l = drop_item l i x m is in (
        left_next t law s s' es es' (drop (i + 1) l) x d a b (subst (λ k. apply_all t s (own_forms t es k) ≡ d) e left),
        subst (λ z. IsReady t z es' (drop (i + 1) l)) (sym a)
            (subst (λ k. IsReady t (t.apply s x.stamp (present t es x).op) k (drop (i + 1) l)) (sym b)
            (ready_next t law s es (drop (i + 1) l) x (subst (IsReady t s es) e r))),
      )
