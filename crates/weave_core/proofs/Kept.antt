-- Operations of level 1 act on nothing, so a history without them serves as well.
use Rattle.std.proofs.Common.{◌≡◌, ℕ, zero, suc, ◌≤◌, ◌<◌, Bool, true, false, List, [], ◌∷◌, ◌++◌, cond, refl, ap, ap₂, sym, ◌∙◌, arith, map, fold}
use Rattle.std.specs.List.{filter, AllByRecursion}
use Rattle.std.proofs.lemmas.Bool.Decides.{nat_tests}
use Rattle.vector_clock.specs.Stamp.{is_below, same_id, are_concurrent}
use Rattle.crdt_laws.specs.declared.small.Entry.{Entry}
use Rattle.crdt_laws.specs.Tower.{Meaning, IsLawful, IsIssued}
use Rattle.crdt_laws.specs.Present.{acted, acted_by, acts_at, acting, present}
use Rattle.weave_core.proofs.Swap.{pair}
use Rattle.weave_core.specs.Deliver.{Weave}
use Rattle.crdt_laws.specs.Sets.{place, AreApart, IsRising}
use Rattle.weave_core.specs.Deliver.{is_high, woven_with, deliver, nothing}
use Rattle.weave_core.proofs.Swap.{woven, step, with_form}
use Rattle.vector_clock.proofs.Keys.{key_asym, key_weak}
use Rattle.weave_core.proofs.Filters.{filter-map_out, filter_twice}
use Rattle.weave_core.proofs.Acts.{acts_at-level}
use Rattle.weave_core.proofs.Acts
use Rattle.weave_core.proofs.Run.{along}
use Rattle.weave_core.proofs.Run
use Rattle.vector_clock.specs.declared.clock.Id.{Id}
use Rattle.crdt_laws.specs.Tower.{Lacks}
use Rattle.crdt_laws.proofs.Acts.{acts_at-above}
use Rattle.vector_clock.proofs.Ordered.{all-filter, all_weaker, filter-place, place_first}
use Rattle.crdt_laws.proofs.Filters.{all-place, all-map}
use Rattle.crdt_laws.proofs.Forms.{present-issued}
use Rattle.crdt_laws.proofs.Place.{rising-place}

-- rising keys, equal ones allowed
abbrev pub IsOrdered : {Op : Type 0} → List (Entry Op) → Type 0
IsOrdered [] = Unit {0}
IsOrdered (a ∷ c) = AllByRecursion (λ e. is_below e.stamp a.stamp ≡ false) c × IsOrdered c

pub ordered_from : {Op : Type 0} (c : List (Entry Op)) → IsRising c → IsOrdered c
ordered_from [] r = tt
ordered_from (a ∷ c) r = (all_weaker _ (λ e. is_below e.stamp a.stamp ≡ false) (λ e k. key_asym a.stamp e.stamp k) c r.0, ordered_from c r.1)

pub ordered-place : {Op : Type 0} (x : Entry Op) (c : List (Entry Op)) → IsOrdered c → IsOrdered (place x c)
ordered-place x [] r = (tt, tt)
ordered-place x (a ∷ c) r =
    (elim (is_below x.stamp a.stamp) as (λ b. is_below x.stamp a.stamp ≡ b → IsOrdered (cond b (x ∷ a ∷ c) (a ∷ place x c))) [
      | true ↦ λ h. ((key_asym x.stamp a.stamp h, all_weaker _ (λ e. is_below e.stamp x.stamp ≡ false) (λ e k. key_asym x.stamp e.stamp (key_weak x.stamp a.stamp e.stamp h k)) c r.0), r)
      | false ↦ λ h. (all-place (λ e. is_below e.stamp a.stamp ≡ false) x h c r.0, ordered-place x c r.1)
    ]) refl

pub ordered-map : {State Op : Type 0} (t : Meaning State Op) (y : Entry Op) (c : List (Entry Op)) → IsOrdered c → IsOrdered (map (acted t y) c)
ordered-map t y [] r = tt
ordered-map t y (a ∷ c) r = (all-map (λ e. is_below e.stamp a.stamp ≡ false) (λ e. is_below e.stamp a.stamp ≡ false) (acted t y) (λ e q. q) c r.0, ordered-map t y c r.1)

pub filter-place_in : {Op : Type 0} (p : Entry Op → Bool) (x : Entry Op) → p x ≡ true → (l : List (Entry Op)) → IsOrdered l → filter p (place x l) ≡ place x (filter p l)
filter-place_in p x h [] o = cc
filter-place_in p x h (a ∷ l) o =
    let ih : filter p (place x l) ≡ place x (filter p l) = filter-place_in p x h l o.1 in
    (elim (is_below x.stamp a.stamp) as (λ b. is_below x.stamp a.stamp ≡ b → filter p (cond b (x ∷ a ∷ l) (a ∷ place x l)) ≡ place x (filter p (a ∷ l))) [
      | true ↦ λ e.
          let all : AllByRecursion (λ d. is_below x.stamp d.stamp ≡ true) (a ∷ l) = (e, all_weaker _ (λ d. is_below x.stamp d.stamp ≡ true) (λ d k. key_weak x.stamp a.stamp d.stamp e k) l o.0) in
          let front : place x (filter p (a ∷ l)) ≡ x ∷ filter p (a ∷ l) = place_first (λ e. e.stamp) x (filter p (a ∷ l)) (all-filter (λ d. is_below x.stamp d.stamp ≡ true) p (a ∷ l) all) in
          let now : filter p (x ∷ a ∷ l) ≡ x ∷ filter p (a ∷ l) = ap (λ b. cond b (x ∷ filter p (a ∷ l)) (filter p (a ∷ l))) h in
          now ∙ sym front
      | false ↦ λ e. grind (arith, ih)
    ]) refl

-- without the entries of level 1
abbrev pub kept : {State Op : Type 0} → Meaning State Op → Weave State Op → Weave State Op
kept t w = record { state = w.state; history = filter (is_high t) w.history }

pub all_none : {X Y : Type 0} (P : X → Y → Type 0) (c : List X) → AllByRecursion (λ e. AllByRecursion (P e) []) c
all_none P [] = tt
all_none P (a ∷ c) = (tt, all_none P c)

-- what stands for a set is the run of its canonical list
pub woven_is : {State Op : Type 0} (t : Meaning State Op) (c : List (Entry Op)) → IsRising c → woven t c ≡ kept t (fold (step t) (nothing t) c)
woven_is {Op = Op} t c r = ap (kept t) (sym (along t c t.init [] r (all_none (λ (e f : Entry Op). is_below f.stamp e.stamp ≡ true) c)))

module _ {State Op : Type 0} (t : Meaning State Op) (members : ℕ) (law : IsLawful t) where
  abbrev pub Issued : Entry Op → Type 0
  Issued e = IsIssued t members e.stamp e.op

  pub none_held : {i : Id} → Lacks t t.init i
  none_held = record { none = λ b h _. law.holds-init b h }

  acting_kept : (x : Entry Op) → Issued x → (h : List (Entry Op)) (l : ℕ) → acting t l (filter (is_high t) h) x ≡ acting t l h x
  acting_kept x v h zero = refl
  acting_kept x v h (suc l) =
      ap₂ (λ (a b : List (Entry Op)). a ++ b)
      (filter_twice (acts_at t (suc l) x) (is_high t)
      (λ e q.
      let a : t.level e.op ≡ suc l = acts_at-level t (suc l) x e q in
      let b : t.level x.op < suc l = acts_at-above t (suc l) x e q in
      let c : 1 ≤ t.level x.op = Acts.level_low t members law x v in
      high e (omega arith)) h)
      (acting_kept x v h l)
    where
      high : (e : Entry Op) → 2 ≤ t.level e.op → is_high t e ≡ true
      high e q = grind (arith, nat_tests)

  pub present_kept : (x : Entry Op) → Issued x → (h : List (Entry Op)) → present t (filter (is_high t) h) x ≡ present t h x
  unfolding present
  present_kept x v h = ap (λ l. acted_by t l x) (acting_kept x v h t.top)

  form_kept : (w : Weave State Op) (x : Entry Op) → AllByRecursion Issued w.history → IsOrdered w.history → Issued x → woven_with t (kept t w) x ≡ kept t (with_form t w x)
  unfolding woven_with
  form_kept w x v o p =
      let f = acted t x in
      let m = map f w.history in
      let out : filter (is_high t) m ≡ map f (filter (is_high t) w.history) =
      filter-map_out (is_high t) f w.history
      (all_weaker Issued (λ e. is_high t (f e) ≡ is_high t e) (λ e q. level_same e (f e) (Acts.acted-level t members law x e p q)) w.history v) in
      let s = t.apply w.state x.stamp x.op in
      ap (pair s)
      ((elim (is_high t x) as (λ b. is_high t x ≡ b → cond b (place x (map f (filter (is_high t) w.history))) (map f (filter (is_high t) w.history)) ≡ filter (is_high t) (place x m)) [
        | true ↦ λ e. ap (place x) (sym out) ∙ sym (filter-place_in (is_high t) x e m (ordered-map t x w.history o))
        | false ↦ λ e. sym out ∙ sym (filter-place (λ (e : Entry Op). e.stamp) (is_high t) x e m)
      ]) refl)
    where
      level_same : (e d : Entry Op) → t.level d.op ≡ t.level e.op → is_high t d ≡ is_high t e
      level_same e d q = cc

  -- a delivery is the step, without the entries of level 1
  pub deliver_kept : (w : Weave State Op) (x : Entry Op) → AllByRecursion Issued w.history → IsOrdered w.history → Issued x → deliver t (kept t w) x ≡ kept t (step t w x)
  unfolding step
  deliver_kept w x g o v =
      ap (woven_with t (kept t w)) (present_kept x v w.history)
      ∙ form_kept w (present t w.history x) g o (present-issued t members law w.history x g v)

  pub step-ordered : (w : Weave State Op) (x : Entry Op) → IsOrdered w.history → IsOrdered (step t w x).history
  unfolding step
  step-ordered w x o = let x' = present t w.history x in ordered-place x' (map (acted t x') w.history) (ordered-map t x' w.history o)

  pub run-sound : (c : List (Entry Op)) (w : Weave State Op) → Run.IsSound t members law w → IsOrdered w.history → AllByRecursion (Run.Fits t members law w) c → AreApart c → Run.IsSound t members law (fold (step t) w c) × IsOrdered (fold (step t) w c).history
  run-sound [] w g o h d = (g, o)
  run-sound (a ∷ c) w g o h d = run-sound c (step t w a) (Run.step-sound t members law w a g h.0) (step-ordered w a o) (Run.step-all t members law w a g h.0 c h.1 d.0) d.1

  -- a new operation that is concurrent to all above it in a canonical list
  pub joins : (x : Entry Op) (c : List (Entry Op)) → Issued x → AllByRecursion Issued c → AllByRecursion (λ e. same_id x.stamp e.stamp ≡ false) c → AreApart c → IsRising c → AllByRecursion (λ e. is_below x.stamp e.stamp ≡ true → are_concurrent x.stamp e.stamp ≡ true) c → deliver t (woven t c) x ≡ woven t (place x c)
  joins x c v vs o d r k =
      let start : Run.IsSound t members law (nothing t) = (law.good-init members, tt) in
      let fits : AllByRecursion (Run.Fits t members law (nothing t)) c = all_weaker Issued (Run.Fits t members law (nothing t)) (λ e q. (q, none_held)) c vs in
      let end = run-sound c (nothing t) start tt fits d in
      ap (λ w. deliver t w x) (woven_is t c r)
      ∙ deliver_kept (fold (step t) (nothing t) c) x end.0.1 end.1 v
      ∙ ap (kept t) (sym (Run.join t members law x c (nothing t) start (v, none_held) fits o d r k))
      ∙ sym (woven_is t (place x c) (rising-place x c o r))
