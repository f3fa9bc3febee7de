-- What holds while operations in canonical order are applied to a good state.
use Rattle.std.proofs.Common.{◌≡◌, ℕ, ◌+◌, ◌≤◌, ◌<◌, List, [], ◌∷◌, ◌++◌, Bool, false, cond, refl, inr, ap, ap₂, sym, ◌∙◌, subst, length, get_or, drop, map}
use Rattle.std.specs.List.{All, AllByRecursion, filter}
use Rattle.std.proofs.lemmas.List.{drop_all}
use Rattle.std.proofs.lemmas.List.Elements.{recursion_from_All, All-from_recursion}
use Rattle.vector_clock.specs.declared.stamp.Stamp.{Stamp}
use Rattle.vector_clock.specs.Stamp.{id_of, same_id}
use Rattle.crdt_laws.specs.Sets.{AreApart, AreIssued}
use Rattle.crdt_laws.proofs.Acts.{lacks-apply}
use Rattle.crdt_laws.proofs.Forms
use Rattle.crdt_laws.proofs.Forms.{present-stamp}
use Rattle.crdt_laws.proofs.Ready.{next_issued}
use Rattle.crdt_laws.specs.declared.small.Entry.{Entry}
use Rattle.crdt_laws.specs.Document.{MayFollow}
use Rattle.crdt_laws.specs.Entry.{entry}
use Rattle.crdt_laws.specs.Present.{acted, apply_all, document_from, own_forms, present, with_next}
use Rattle.crdt_laws.specs.Tower.{Meaning, IsIssued, IsLawful, Lacks}
use Rattle.crdt_laws.proofs.Ready.{IsReady, drop_item, left_next, may_follow, ready_next}
use Rattle.weave_core.specs.Deliver.{IsRun, is_high}
use Rattle.weave_core.specs.Deliver.{kept_with}
use Rattle.weave_core.proofs.KeptForms
use Rattle.weave_core.proofs.Kept.{present_kept}
use Rattle.vector_clock.proofs.Ordered.{all-filter}

-- The operations xs are left, h are the kept forms of those before them, and the state s with xs gives d.
pub record IsOnTheWay {State Op : Type 0} (m : Meaning State Op) (s : State) (h xs : List (Entry Op)) (d : State) : Type 0 where
  pub forms : List (Entry Op)
  pub left : apply_all m s (own_forms m forms xs) ≡ d
  pub ready : IsReady m s forms xs
  pub kept : h ≡ filter (is_high m) forms

module _ {State Op : Type 0} (t : Meaning State Op) (law : IsLawful t) where
  run_ready : (s : State) (xs : List (Entry Op)) → IsRun t s xs → IsReady t s [] xs
  run_ready s xs r = record {
    members = r.members;
    good = r.good;
    forms = tt;
    issued = recursion_from_All (λ (e : Entry Op). IsIssued t r.members e.stamp e.op) xs r.issued;
    fresh = inr (recursion_from_All (λ (e : Entry Op). Lacks t s (id_of e.stamp)) xs r.fresh, r.apart);
  }

  pub way_first : (s : State) (h xs ops : List (Entry Op)) → h ≡ [] → xs ≡ ops → IsRun t s ops → IsOnTheWay t s h xs (document_from t s ops)
  way_first s h xs ops a b r = record {
    forms = [];
    left = ap (λ l. apply_all t s (own_forms t [] l)) b;
    ready = subst (IsReady t s []) (sym b) (run_ready s ops r);
    kept = a;
  }

  -- the form of the next one by the kept forms is that by all
  next_form : (s : State) (es xs : List (Entry Op)) (x : Entry Op) → IsReady t s es (x ∷ xs) → present t (filter (is_high t) es) x ≡ present t es x
  next_form s es xs x r = present_kept t r.members law x r.issued.0 es

  follows_kept : (s : State) (h es : List (Entry Op)) (x : Entry Op) → h ≡ filter (is_high t) es → MayFollow t s es x → MayFollow t s h x
  follows_kept s h es x e f =
      let P : Entry Op → Type 0 = λ y. IsIssued t x.stamp.clock.n y.stamp y.op in
      record {
        good = f.good;
        forms = subst (λ l. All P l) (sym e) (All-from_recursion P (filter (is_high t) es) (all-filter P (is_high t) es (recursion_from_All P es f.forms)));
        issued = f.issued;
        fresh = f.fresh;
      }

  pub way_item : (s : State) (h l : List (Entry Op)) (i : ℕ) (x : Entry Op) (d : State) → i < length l → x ≡ get_or l i x → IsOnTheWay t s h (drop i l) d → MayFollow t s h x
  way_item s h l i x d m is w =
      follows_kept s h w.forms x w.kept
      (may_follow t law s w.forms (drop (i + 1) l) x (subst (IsReady t s w.forms) (drop_item l i x m is) w.ready))

  step_way : (s s' : State) (h h' xs : List (Entry Op)) (x : Entry Op) (d : State) → s' ≡ t.apply s x.stamp (present t h x).op → h' ≡ kept_with t h x
      → IsOnTheWay t s h (x ∷ xs) d → IsOnTheWay t s' h' xs d
  step_way s s' h h' xs x d a b w =
      let es = w.forms in
      let n = w.ready.members in
      let e : present t h x ≡ present t es x = ap (λ l. present t l x) w.kept ∙ next_form s es xs x w.ready in
      let c : s' ≡ t.apply s x.stamp (present t es x).op = a ∙ ap (λ (y : Entry Op). t.apply s x.stamp y.op) e in
      record {
        forms = with_next t es x;
        left = left_next t law s s' es (with_next t es x) xs x d c refl w.left;
        ready = subst (λ z. IsReady t z (with_next t es x) xs) (sym c) (ready_next t law s es xs x w.ready);
        kept = b ∙ ap (λ l. kept_with t l x) w.kept ∙ KeptForms.kept_is t n law es x w.ready.forms w.ready.issued.0;
      }

  pub way_next : (s s' : State) (h h' l : List (Entry Op)) (i : ℕ) (x : Entry Op) (d : State) → i < length l → x ≡ get_or l i x
      → s' ≡ t.apply s x.stamp (present t h x).op → h' ≡ kept_with t h x → IsOnTheWay t s h (drop i l) d → IsOnTheWay t s' h' (drop (i + 1) l) d
  way_next s s' h h' l i x d m is a b w =
      step_way s s' h h' (drop (i + 1) l) x d a b (subst (λ k. IsOnTheWay t s h k d) (drop_item l i x m is) w)

-- nothing is left
pub way_last : {State Op : Type 0} (t : Meaning State Op) (s : State) (h l : List (Entry Op)) (i : ℕ) (d : State) → length l ≤ i → IsOnTheWay t s h (drop i l) d → s ≡ d
way_last t s h l i d m w = ap (λ xs. apply_all t s (own_forms t w.forms xs)) (sym (drop_all i l m)) ∙ w.left

-- operations that may be applied one after another leave a good state
module _ {State Op : Type 0} (t : Meaning State Op) (law : IsLawful t) (n : ℕ) where
  abbrev AllIssued : List (Entry Op) → Type 0
  AllIssued xs = AllByRecursion (λ e. IsIssued t n e.stamp e.op) xs

  lacking_after : (s : State) (p : Stamp) (o : Op) (xs : List (Entry Op)) → AllByRecursion (λ e. Lacks t s (id_of e.stamp)) xs → AllByRecursion (λ e. same_id p e.stamp ≡ false) xs → AllByRecursion (λ e. Lacks t (t.apply s p o) (id_of e.stamp)) xs
  lacking_after s p o [] f d = tt
  lacking_after s p o (e ∷ xs) f d = (lacks-apply t law s p e.stamp o f.0 d.0, lacking_after s p o xs f.1 d.1)

  good_after : (xs es : List (Entry Op)) (s : State) → t.good n s → AllIssued es → AllIssued xs → AllByRecursion (λ e. Lacks t s (id_of e.stamp)) xs → AreApart xs → t.good n (apply_all t s (own_forms t es xs))
  good_after [] es s g h v f a = g
  good_after (x ∷ xs) es s g h v f a =
      let y = present t es x in
      let e : x.stamp ≡ y.stamp = sym (present-stamp t es x) in
      let w : IsIssued t n y.stamp y.op = Forms.present-issued t n law es x h v.0 in
      good_after xs (with_next t es x) (t.apply s y.stamp y.op)
      (law.good-apply n s y.stamp y.op g w (subst (λ p. Lacks t s (id_of p)) e f.0)) (next_issued t law n es x h v.0) v.1
      (lacking_after s y.stamp y.op xs f.1 (subst (λ p. AllByRecursion (λ (z : Entry Op). same_id p z.stamp ≡ false) xs) e a.0)) a.1

  pub run_good : (s d : State) (xs : List (Entry Op)) → d ≡ document_from t s xs → IsRun t s xs → t.good n s → AreIssued t n xs → t.good n d
  run_good s d xs e r g v =
      subst (t.good n) (sym e)
      (good_after xs [] s g tt (recursion_from_All (λ (x : Entry Op). IsIssued t n x.stamp x.op) xs v)
      (recursion_from_All (λ (x : Entry Op). Lacks t s (id_of x.stamp)) xs r.fresh) r.apart)

-- the kept forms once x is in, as the program makes them
pub kept_are : {State Op : Type 0} (t : Meaning State Op) (es old now : List (Entry Op)) (x : Entry Op) (op form : Op) (kept new : List (Entry Op)) (b : Bool) → op ≡ x.op → old ≡ es → now ≡ es
    → entry x.stamp form ≡ present t old (entry x.stamp op) → kept ≡ map (acted t (entry x.stamp form)) now → is_high t (entry x.stamp form) ≡ b
    → new ≡ kept ++ cond b (entry x.stamp form ∷ []) [] → new ≡ kept_with t es x
unfolding kept_with
kept_are {Op = Op} t es old now x op form kept new b a c d p k hi n =
    let y = entry x.stamp form in
    let f : y ≡ present t es x = p ∙ ap₂ (λ (l : List (Entry Op)) o. present t l (entry x.stamp o)) c a in
    n ∙ ap (λ l. l ++ cond b (y ∷ []) []) (k ∙ ap (map (acted t y)) d)
    ∙ ap (λ (z : Bool). map (acted t y) es ++ cond z (y ∷ []) []) (sym hi)
    ∙ ap (λ (z : Entry Op). map (acted t z) es ++ cond (is_high t z) (z ∷ []) []) f
