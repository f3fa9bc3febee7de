-- In an arbitrated order nothing that arrives is acted on.
use Rattle.std.proofs.Common.{◌≡◌, ℕ, zero, suc, ◌≤◌, ◌<◌, Bool, true, false, List, [], ◌∷◌, ◌++◌, cond, refl, ap, ap₂, sym, ◌∙◌, arith, map, fold}
use Rattle.std.specs.List.{AllByRecursion, filter}
use Rattle.std.proofs.lemmas.Bool.{false_from_ne_true}
use Rattle.vector_clock.specs.Stamp.{are_concurrent}
use Rattle.vector_clock.proofs.Ordered.{all_weaker}
use Rattle.crdt_laws.specs.declared.small.Entry.{Entry}
use Rattle.crdt_laws.specs.Tower.{Meaning, IsLawful, IsIssued}
use Rattle.crdt_laws.specs.Present.{IsArbitrated, acted, acted_by, acts_at, acting, present, apply_all, document}
use Rattle.crdt_laws.specs.Sets.{AreApart, IsHonest, canonical, place}
use Rattle.crdt_laws.proofs.Acts as Laws
use Rattle.crdt_laws.proofs.Acts.{acts_at-above}
use Rattle.crdt_laws.proofs.Filters.{all-place, all-map}
use Rattle.weave_core.specs.Deliver.{Weave, deliver, is_high, nothing, weave_all, woven_with}
use Rattle.weave_core.proofs.Acts
use Rattle.weave_core.proofs.Acts.{acts_at-level, acts_at-concurrent}
use Rattle.weave_core.proofs.Theorems
use Rattle.weave_core.proofs.Theorems.{Pairs, pairs_from}

filter_none : {X : Type 0} (p : X → Bool) (l : List X) → AllByRecursion (λ e. p e ≡ false) l → filter p l ≡ []
filter_none p [] h = refl
filter_none p (a ∷ l) h = let ih : filter p l ≡ [] = filter_none p l h.1 in let e : p a ≡ false = h.0 in grind (arith, ih)

-- e came before y, and does not act on it
abbrev pub Spares : {State Op : Type 0} → Meaning State Op → Entry Op → Entry Op → Type 0
Spares t y e = are_concurrent e.stamp y.stamp ≡ true → t.level e.op ≤ t.level y.op

acting_none : {State Op : Type 0} (t : Meaning State Op) (x : Entry Op) (h : List (Entry Op)) → AllByRecursion (Spares t x) h → (l : ℕ) → acting t l h x ≡ []
acting_none t x h s zero = refl
acting_none {Op = Op} t x h s (suc l) =
    ap₂ (λ (a b : List (Entry Op)). a ++ b)
    (filter_none (acts_at t (suc l) x) h
    (all_weaker (Spares t x) (λ e. acts_at t (suc l) x e ≡ false)
    (λ e q. false_from_ne_true _ (λ a.
    let b : t.level e.op ≡ suc l = acts_at-level t (suc l) x e a in
    let c : t.level x.op < suc l = acts_at-above t (suc l) x e a in
    let d : t.level e.op ≤ t.level x.op = q (acts_at-concurrent t (suc l) x e a) in
    omega arith)) h s))
    (acting_none t x h s l)

present_none : {State Op : Type 0} (t : Meaning State Op) (x : Entry Op) (h : List (Entry Op)) → AllByRecursion (Spares t x) h → present t h x ≡ x
unfolding present
present_none t x h s = ap (λ l. acted_by t l x) (acting_none t x h s t.top)

module _ {State Op : Type 0} (t : Meaning State Op) (members : ℕ) (law : IsLawful t) where
  abbrev pub Issued : Entry Op → Type 0
  Issued e = IsIssued t members e.stamp e.op

  pub kept_history : (P : Entry Op → Type 0) (w : Weave State Op) (x : Entry Op) → P x → AllByRecursion P (map (acted t x) w.history) → AllByRecursion P (woven_with t w x).history
  unfolding woven_with
  kept_history P w x p h =
      elim (is_high t x) as (λ b. AllByRecursion P (cond b (place x (map (acted t x) w.history)) (map (acted t x) w.history))) [
        | true ↦ all-place P x p (map (acted t x) w.history) h
        | false ↦ h
      ]

  spare_map : (x y : Entry Op) → Issued x → (h : List (Entry Op)) → AllByRecursion Issued h → AllByRecursion (Spares t y) h → AllByRecursion (Spares t y) (map (acted t x) h)
  spare_map x y v [] vs s = tt
  spare_map x y v (a ∷ h) vs s = (
    (λ c. let l : t.level (t.act x.op a.op) ≡ t.level a.op = Acts.acted-level t members law x a v vs.0 in let m : t.level a.op ≤ t.level y.op = s.0 c in omega arith),
    spare_map x y v h vs.1 s.1,
  )

  spare_all : (w : Weave State Op) (x : Entry Op) → Issued x → AllByRecursion Issued w.history → (xs : List (Entry Op)) → AllByRecursion (λ y. AllByRecursion (Spares t y) w.history) xs → AllByRecursion (λ y. Spares t y x) xs → AllByRecursion (λ y. AllByRecursion (Spares t y) (woven_with t w x).history) xs
  spare_all w x v vs [] h k = tt
  spare_all w x v vs (y ∷ xs) h k = (kept_history (Spares t y) w x k.0 (spare_map x y v w.history vs h.0), spare_all w x v vs xs h.1 k.1)

  plain : (xs : List (Entry Op)) (w : Weave State Op) → AllByRecursion Issued w.history → AllByRecursion Issued xs → AllByRecursion (λ y. AllByRecursion (Spares t y) w.history) xs → Pairs (λ a b. Spares t b a) xs → (fold (deliver t) w xs).state ≡ apply_all t w.state xs
  unfolding woven_with
  plain [] w vs v h k = refl
  plain (x ∷ xs) w vs v h k =
      let w' = woven_with t w x in
      ap (λ a. (fold (deliver t) (woven_with t w a) xs).state) (present_none t x w.history h.0)
      ∙ plain xs w' (kept_history Issued w x v.0 (all-map Issued Issued (acted t x) (λ e q. Laws.acted-issued t members law x e v.0 q) w.history vs)) v.1 (spare_all w x v.0 vs xs h.1 k.0) k.1

  -- on an arbitrated list the state is the plain fold
  pub plain_all : (xs : List (Entry Op)) → AllByRecursion Issued xs → IsArbitrated t xs → (weave_all t xs).state ≡ apply_all t t.init xs
  plain_all xs v a = plain xs (nothing t) tt v (all_none xs) (pairs_from (λ (b c : Entry Op). Spares t c b) xs a.lower_first)
    where
      all_none : (c : List (Entry Op)) → AllByRecursion (λ y. AllByRecursion (Spares t y) []) c
      all_none [] = tt
      all_none (b ∷ c) = (tt, all_none c)

  pub plain_document : (xs : List (Entry Op)) → AllByRecursion Issued xs → AreApart xs → IsHonest xs → IsArbitrated t xs → document t (canonical xs) ≡ apply_all t t.init xs
  plain_document xs v d h a = ap (λ (w : Weave State Op). w.state) (sym (Theorems.woven_all t members law xs v d h a.causal)) ∙ plain_all xs v a
