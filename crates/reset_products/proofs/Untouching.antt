-- The document of operations and winning resets is that of the operations that come after each reset.
use Rattle.std.proofs.Common.{◌≡◌, ℕ, zero, suc, ◌+◌, ◌≤◌, Bool, true, false, not, ◌&&◌, ◌||◌, List, [], ◌∷◌, ◌++◌, cond, refl, ap, ap₂, sym, ◌∙◌, subst, arith, append_assoc, add-one, map, fold}
use Rattle.std.specs.List.{AllByRecursion, filter, list_any}
use Rattle.std.proofs.lemmas.Bool.Decides.{nat_tests}
use Rattle.std.proofs.lemmas.List.{append-nil}
use Rattle.std.proofs.lemmas.List.Elements.{filter-append, filter_agree}
use Rattle.std.proofs.lemmas.List.Folds.{list_any-append}
use Rattle.std.proofs.lemmas.List.Sums.{fold-append}
use Rattle.vector_clock.specs.declared.stamp.Stamp.{Stamp}
use Rattle.vector_clock.specs.Stamp.{are_concurrent, is_before, same_id}
use Rattle.crdt_laws.specs.declared.small.Entry.{Entry}
use Rattle.crdt_laws.specs.Entry.{entry}
use Rattle.crdt_laws.specs.Present.{acted, acted_by, acting, acts_at, apply_all, document, forms, own_forms, present, with_next}
use Rattle.crdt_laws.specs.Sets.{AreApart, IsCausal}
use Rattle.crdt_laws.specs.Tower.{Meaning, IsIssued, IsLawful}
use Rattle.crdt_laws.proofs.Forms.{present-stamp}
use Rattle.crdt_laws.proofs.Loops.{acting_low}
use Rattle.crdt_laws.proofs.Ready.{next_issued}
use Rattle.semidirect_product.specs.declared.maybe.MaybeOp.{MaybeOp}
use Rattle.semidirect_product.specs.declared.maybe.MaybeOp.TheVariants.{Nothing, Real}
use Rattle.semidirect_product.specs.declared.stack.StackOp.TheVariants.{High, Low}
use Rattle.semidirect_product.specs.Maybe.{maybe_act, maybe_level}
use Rattle.weave_core.proofs.Placed.{filter_none}
use Rattle.weave_core.proofs.Split.{apply_all-append, own_forms-append}
use Rattle.reset_products.specs.Untouched.{WinningOp, is_win, real_and, reals_of, touches, untouched, winning_meaning}
use Rattle.crdt_laws.proofs.Seams.{apart_before, pairs_before}
use Rattle.vector_clock.proofs.Ordered.{all-filter}

-- the operations of the tower

module _ {O : Type 0} where
  reals-append : (xs ys : List (Entry (WinningOp O))) → reals_of (xs ++ ys) ≡ reals_of xs ++ reals_of ys
  reals-append [] ys = refl
  reals-append (x ∷ xs) ys = ap (real_and x.stamp x.op) (reals-append xs ys) ∙ and-append x.op
    where
      and-append : (o : WinningOp O) → real_and x.stamp o (reals_of xs ++ reals_of ys) ≡ real_and x.stamp o (reals_of xs) ++ reals_of ys
      and-append (Low (Real y)) = refl
      and-append (Low (Nothing l)) = refl
      and-append (High u) = refl

  -- whether it is a reset that is concurrent to the operation at p
  abbrev hits : Stamp → Entry (WinningOp O) → Bool
  hits p r = is_win r.op && are_concurrent r.stamp p

-- one more at the end
forms_last : {State Op : Type 0} (t : Meaning State Op) (ds : List (Entry Op)) (x : Entry Op) → forms t (ds ++ x ∷ []) ≡ with_next t (forms t ds) x
forms_last t ds x = fold-append (with_next t) [] ds (x ∷ [])

document_last : {State Op : Type 0} (t : Meaning State Op) (ds : List (Entry Op)) (x y : Entry Op) → present t (forms t ds) x ≡ y → document t (ds ++ x ∷ []) ≡ t.apply (document t ds) y.stamp y.op
document_last {Op = Op} t ds x y e =
    ap (apply_all t t.init) (own_forms-append t ds (x ∷ []) [])
    ∙ apply_all-append t t.init (own_forms t [] ds) (own_forms t (forms t ds) (x ∷ []))
    ∙ ap (λ (z : Entry Op). t.apply (document t ds) z.stamp z.op) e

next_by : {State Op : Type 0} (t : Meaning State Op) (es : List (Entry Op)) (x y : Entry Op) → present t es x ≡ y → with_next t es x ≡ map (acted t y) es ++ y ∷ []
unfolding with_next
next_by t es x y e = ap (λ z. map (acted t z) es ++ z ∷ []) e

forms_issued : {State Op : Type 0} (t : Meaning State Op) (n : ℕ) → IsLawful t → (xs es : List (Entry Op)) → AllByRecursion (λ e. IsIssued t n e.stamp e.op) es → AllByRecursion (λ e. IsIssued t n e.stamp e.op) xs → AllByRecursion (λ e. IsIssued t n e.stamp e.op) (fold (with_next t) es xs)
forms_issued t n law [] es h v = h
forms_issued t n law (x ∷ xs) es h v = forms_issued t n law xs (with_next t es x) (next_issued t law n es x h v.0) v.1

either_none : (a b : Bool) → (a || b) ≡ false → (a ≡ false) × (b ≡ false)
either_none true b h = absurd cc
either_none false b h = (refl, h)

or_none : (b : Bool) → (b || false) ≡ b
or_none true = refl
or_none false = refl

any_none : (a b : Bool) → a ≡ false → (a || b) ≡ b
any_none a b h = cc

module _ {S O : Type 0} (m : Meaning S O) where
  abbrev W : Meaning S (WinningOp O)
  W = winning_meaning m

  act_nothing : (y : WinningOp O) (k : ℕ) → W.act y (Low (Nothing k)) ≡ Low (Nothing k)
  act_nothing (Low (Real v)) k = refl
  act_nothing (Low (Nothing j)) k = refl
  act_nothing (High u) k = refl

  acted_by_nothing : (l : List (Entry (WinningOp O))) (p : Stamp) (k : ℕ) → acted_by W l (entry p (Low (Nothing k))) ≡ entry p (Low (Nothing k))
  acted_by_nothing [] p k = refl
  acted_by_nothing (e ∷ l) p k = ap (λ o. acted_by W l (entry p o)) (act_nothing e.op k) ∙ acted_by_nothing l p k

  -- where a reset acts, nothing is left
  hit_step : (y : WinningOp O) (l : List (Entry (WinningOp O))) (p : Stamp) (o : MaybeOp O) → (is_win y || list_any (λ e. is_win e.op) l) ≡ true
      → ((v : MaybeOp O) → list_any (λ e. is_win e.op) l ≡ true → (k : ℕ) × (acted_by W l (entry p (Low v)) ≡ entry p (Low (Nothing k))))
      → (k : ℕ) × (acted_by W l (entry p (W.act y (Low o))) ≡ entry p (Low (Nothing k)))
  hit_step (Low v) l p o h ih = ih (maybe_act m v o) h
  hit_step (High u) l p o h ih = (maybe_level m o, acted_by_nothing l p (maybe_level m o))

  acted_by_hit : (l : List (Entry (WinningOp O))) (p : Stamp) (o : MaybeOp O) → list_any (λ e. is_win e.op) l ≡ true → (k : ℕ) × (acted_by W l (entry p (Low o)) ≡ entry p (Low (Nothing k)))
  acted_by_hit [] p o h = absurd cc
  acted_by_hit (e ∷ l) p o h = hit_step e.op l p o h (λ v q. acted_by_hit l p v q)

  -- where none does, the operation is what the operations of the tower make of it
  miss_step : (y : WinningOp O) (q : Stamp) (l : List (Entry (WinningOp O))) (p : Stamp) (o : O) → (is_win y || list_any (λ e. is_win e.op) l) ≡ false
      → ((v : O) → list_any (λ e. is_win e.op) l ≡ false → acted_by W l (entry p (Low (Real v))) ≡ entry p (Low (Real (acted_by m (reals_of l) (entry p v)).op)))
      → acted_by W l (entry p (W.act y (Low (Real o)))) ≡ entry p (Low (Real (acted_by m (real_and q y (reals_of l)) (entry p o)).op))
  miss_step (Low (Real v)) q l p o h ih = ih (m.act v o) h
  miss_step (Low (Nothing j)) q l p o h ih = ih o h
  miss_step (High u) q l p o h ih = absurd cc

  acted_by_missed : (l : List (Entry (WinningOp O))) (p : Stamp) (o : O) → list_any (λ e. is_win e.op) l ≡ false → acted_by W l (entry p (Low (Real o))) ≡ entry p (Low (Real (acted_by m (reals_of l) (entry p o)).op))
  acted_by_missed [] p o h = refl
  acted_by_missed (e ∷ l) p o h = miss_step e.op e.stamp l p o h (λ v q. acted_by_missed l p v q)

  -- what acts on an operation of the tower
  filter_step : (l : ℕ) (p : Stamp) (o : O) (y : WinningOp O) (q : Stamp) (ws : List (Entry (WinningOp O))) (fs : List (Entry O)) → reals_of ws ≡ filter (acts_at m l (entry p o)) fs
      → reals_of (cond (acts_at W l (entry p (Low (Real o))) (entry q y)) (entry q y ∷ ws) ws) ≡ filter (acts_at m l (entry p o)) (real_and q y fs)
  unfolding acts_at
  filter_step l p o (Low (Real v)) q ws fs h =
      elim (acts_at m l (entry p o) (entry q v)) as (λ b. reals_of (cond b (entry q (Low (Real v)) ∷ ws) ws) ≡ cond b (entry q v ∷ filter (acts_at m l (entry p o)) fs) (filter (acts_at m l (entry p o)) fs)) [
        | true ↦ ap (λ (k : List (Entry O)). entry q v ∷ k) h
        | false ↦ h
      ]
  filter_step l p o (Low (Nothing j)) q ws fs h = either (acts_at W l (entry p (Low (Real o))) (entry q (Low (Nothing j)))) ∙ h
    where
      either : (b : Bool) → reals_of {O = O} (cond b (entry q (Low (Nothing j)) ∷ ws) ws) ≡ reals_of ws
      either true = refl
      either false = refl
  filter_step l p o (High u) q ws fs h = either (acts_at W l (entry p (Low (Real o))) (entry q (High u))) ∙ h
    where
      either : (b : Bool) → reals_of {O = O} (cond b (entry q (High u) ∷ ws) ws) ≡ reals_of ws
      either true = refl
      either false = refl

  filter_reals : (l : ℕ) (p : Stamp) (o : O) (es : List (Entry (WinningOp O))) → reals_of (filter (acts_at W l (entry p (Low (Real o)))) es) ≡ filter (acts_at m l (entry p o)) (reals_of es)
  filter_reals l p o [] = refl
  filter_reals l p o (e ∷ es) = filter_step l p o e.op e.stamp (filter (acts_at W l (entry p (Low (Real o)))) es) (reals_of es) (filter_reals l p o es)

  acting_reals : (p : Stamp) (o : O) (es : List (Entry (WinningOp O))) (l : ℕ) → reals_of (acting W l es (entry p (Low (Real o)))) ≡ acting m l (reals_of es) (entry p o)
  acting_reals p o es zero = refl
  acting_reals p o es (suc l) =
      reals-append (filter (acts_at W (suc l) (entry p (Low (Real o)))) es) (acting W l es (entry p (Low (Real o))))
      ∙ ap₂ (λ (a b : List (Entry O)). a ++ b) (filter_reals (suc l) p o es) (acting_reals p o es l)

  -- no reset acts where none is concurrent
  miss_one : (x e : Entry (WinningOp O)) (l : ℕ) → hits x.stamp e ≡ false → acts_at W l x e ≡ true → is_win e.op ≡ false
  unfolding acts_at
  miss_one x e l h a = grind arith

  filter_missed : (x : Entry (WinningOp O)) (l : ℕ) (es : List (Entry (WinningOp O))) → list_any (hits x.stamp) es ≡ false → list_any (λ e. is_win e.op) (filter (acts_at W l x) es) ≡ false
  filter_missed x l [] h = refl
  filter_missed x l (e ∷ es) h =
      let two = either_none (hits x.stamp e) (list_any (hits x.stamp) es) h in
      (elim (acts_at W l x e) as (λ b. acts_at W l x e ≡ b → list_any (λ (y : Entry (WinningOp O)). is_win y.op) (cond b (e ∷ filter (acts_at W l x) es) (filter (acts_at W l x) es)) ≡ false) [
        | true ↦ λ a. neither (is_win e.op) (list_any (λ (y : Entry (WinningOp O)). is_win y.op) (filter (acts_at W l x) es)) (miss_one x e l two.0 a) (filter_missed x l es two.1)
        | false ↦ λ _. filter_missed x l es two.1
      ]) refl
    where
      neither : (a b : Bool) → a ≡ false → b ≡ false → (a || b) ≡ false
      neither a b i k = cc

  acting_missed : (x : Entry (WinningOp O)) (es : List (Entry (WinningOp O))) → list_any (hits x.stamp) es ≡ false → (l : ℕ) → list_any (λ e. is_win e.op) (acting W l es x) ≡ false
  acting_missed x es h zero = refl
  acting_missed x es h (suc l) =
      list_any-append (λ (e : Entry (WinningOp O)). is_win e.op) (filter (acts_at W (suc l) x) es) (acting W l es x)
      ∙ any_none (list_any (λ (e : Entry (WinningOp O)). is_win e.op) (filter (acts_at W (suc l) x) es)) (list_any (λ (e : Entry (WinningOp O)). is_win e.op) (acting W l es x)) (filter_missed x (suc l) es h)
      ∙ acting_missed x es h l

  -- and a concurrent one does
  win_acts : (p q : Stamp) (o : O) (u : Unit {0}) → m.level o ≤ m.top → are_concurrent q p ≡ true → acts_at W (suc m.top) (entry p (Low (Real o))) (entry q (High u)) ≡ true
  unfolding acts_at
  win_acts p q o u low c = grind (arith, nat_tests)

  hit_one : (p : Stamp) (o : O) (y : WinningOp O) (q : Stamp) (ws : List (Entry (WinningOp O))) (rest : Bool) → m.level o ≤ m.top → ((is_win y && are_concurrent q p) || rest) ≡ true → (rest ≡ true → list_any (λ e. is_win e.op) ws ≡ true)
      → list_any (λ e. is_win e.op) (cond (acts_at W (suc m.top) (entry p (Low (Real o))) (entry q y)) (entry q y ∷ ws) ws) ≡ true
  hit_one p o (Low v) q ws rest low h ih = either (acts_at W (suc m.top) (entry p (Low (Real o))) (entry q (Low v))) (ih h)
    where
      either : (b : Bool) → list_any (λ e. is_win e.op) ws ≡ true → list_any (λ (e : Entry (WinningOp O)). is_win e.op) (cond b (entry q (Low v) ∷ ws) ws) ≡ true
      either true k = k
      either false k = k
  hit_one p o (High u) q ws rest low h ih =
      (elim (are_concurrent q p) as (λ c. are_concurrent q p ≡ c → (c || rest) ≡ true → list_any (λ (e : Entry (WinningOp O)). is_win e.op) (cond (acts_at W (suc m.top) (entry p (Low (Real o))) (entry q (High u))) (entry q (High u) ∷ ws) ws) ≡ true) [
        | true ↦ λ c _. ap (λ b. list_any (λ (e : Entry (WinningOp O)). is_win e.op) (cond b (entry q (High u) ∷ ws) ws)) (win_acts p q o u low c)
        | false ↦ λ _ k. either (acts_at W (suc m.top) (entry p (Low (Real o))) (entry q (High u))) (ih k)
      ]) refl h
    where
      either : (b : Bool) → list_any (λ e. is_win e.op) ws ≡ true → list_any (λ (e : Entry (WinningOp O)). is_win e.op) (cond b (entry q (High u) ∷ ws) ws) ≡ true
      either true k = refl
      either false k = k

  filter_hit : (p : Stamp) (o : O) (es : List (Entry (WinningOp O))) → m.level o ≤ m.top → list_any (hits p) es ≡ true → list_any (λ e. is_win e.op) (filter (acts_at W (suc m.top) (entry p (Low (Real o)))) es) ≡ true
  filter_hit p o [] low h = h
  filter_hit p o (e ∷ es) low h =
      hit_one p o e.op e.stamp (filter (acts_at W (suc m.top) (entry p (Low (Real o)))) es) (list_any (hits p) es) low h (λ k. filter_hit p o es low k)

  acting_hit : (p : Stamp) (o : O) (es : List (Entry (WinningOp O))) → m.level o ≤ m.top → list_any (hits p) es ≡ true → list_any (λ e. is_win e.op) (acting W (suc m.top) es (entry p (Low (Real o)))) ≡ true
  acting_hit p o es low h =
      let x : Entry (WinningOp O) = entry p (Low (Real o)) in
      list_any-append (λ (e : Entry (WinningOp O)). is_win e.op) (filter (acts_at W (suc m.top) x) es) (acting W m.top es x)
      ∙ ap (λ b. b || list_any (λ (e : Entry (WinningOp O)). is_win e.op) (acting W m.top es x)) (filter_hit p o es low h)

  -- the present forms

  present_top : (es : List (Entry (WinningOp O))) (x : Entry (WinningOp O)) → present W es x ≡ acted_by W (acting W (suc m.top) es x) x
  unfolding present
  present_top es x = ap (λ l. acted_by W (acting W l es x) x) (add-one m.top)

  present_high : (es : List (Entry (WinningOp O))) (p : Stamp) (u : Unit {0}) → present W es (entry p (High u)) ≡ entry p (High u)
  present_high es p u =
      let x : Entry (WinningOp O) = entry p (High u) in
      present_top es x ∙ ap (λ l. acted_by W l x) (acting_low W x es (suc m.top) (let a : suc m.top ≤ m.top + 1 = omega arith in a))

  present_nothing : (es : List (Entry (WinningOp O))) (p : Stamp) (k : ℕ) → present W es (entry p (Low (Nothing k))) ≡ entry p (Low (Nothing k))
  present_nothing es p k = present_top es (entry p (Low (Nothing k))) ∙ acted_by_nothing (acting W (suc m.top) es (entry p (Low (Nothing k)))) p k

  present_hit : (es : List (Entry (WinningOp O))) (p : Stamp) (o : O) → m.level o ≤ m.top → list_any (hits p) es ≡ true → (k : ℕ) × (present W es (entry p (Low (Real o))) ≡ entry p (Low (Nothing k)))
  present_hit es p o low h =
      let x : Entry (WinningOp O) = entry p (Low (Real o)) in
      let r = acted_by_hit (acting W (suc m.top) es x) p (Real o) (acting_hit p o es low h) in
      (r.0, present_top es x ∙ r.1)

  above_acts : (x e : Entry O) → m.level e.op ≤ m.top → acts_at m (suc m.top) x e ≡ false
  unfolding acts_at
  above_acts x e l = grind (arith, nat_tests)

  above_none : (x : Entry O) (fs : List (Entry O)) → AllByRecursion (λ e. m.level e.op ≤ m.top) fs → filter (acts_at m (suc m.top) x) fs ≡ []
  above_none x fs h = filter_none (acts_at m (suc m.top) x) fs (each_low fs h)
    where
      not_acting : (e : Entry O) → m.level e.op ≤ m.top → acts_at m (suc m.top) x e ≡ false
      not_acting e l = above_acts x e l

      each_low : (l : List (Entry O)) → AllByRecursion (λ e. m.level e.op ≤ m.top) l → AllByRecursion (λ e. acts_at m (suc m.top) x e ≡ false) l
      each_low [] k = tt
      each_low (e ∷ l) k = (not_acting e k.0, each_low l k.1)

  present_missed : (es : List (Entry (WinningOp O))) (p : Stamp) (o : O) → AllByRecursion (λ e. m.level e.op ≤ m.top) (reals_of es) → list_any (hits p) es ≡ false
      → present W es (entry p (Low (Real o))) ≡ entry p (Low (Real (present m (reals_of es) (entry p o)).op))
  unfolding present
  present_missed es p o low h =
      let x : Entry (WinningOp O) = entry p (Low (Real o)) in
      let y : Entry O = entry p o in
      present_top es x
      ∙ acted_by_missed (acting W (suc m.top) es x) p o (acting_missed x es h (suc m.top))
      ∙ ap (λ l. entry p (Low (Real (acted_by m l y).op)))
      (acting_reals p o es (suc m.top) ∙ ap (λ (l : List (Entry O)). l ++ acting m m.top (reals_of es) y) (above_none y (reals_of es) low))

  -- what the forms become with one more

  act_win : (y x : WinningOp O) → is_win (W.act y x) ≡ is_win x
  act_win (Low y) (Low x) = refl
  act_win (High y) (Low x) = refl
  act_win (Low y) (High x) = refl
  act_win (High y) (High x) = refl

  hits-map : (z : Entry (WinningOp O)) (q : Stamp) (es : List (Entry (WinningOp O))) → list_any (hits q) (map (acted W z) es) ≡ list_any (hits q) es
  hits-map z q [] = refl
  hits-map z q (e ∷ es) = ap₂ (λ (a b : Bool). (a && are_concurrent e.stamp q) || b) (act_win z.op e.op) (hits-map z q es)

  hits_last : (q : Stamp) (ds : List (Entry (WinningOp O))) (x : Entry (WinningOp O)) → list_any (hits q) (ds ++ x ∷ []) ≡ (list_any (hits q) ds || hits q x)
  hits_last q ds x = list_any-append (hits q) ds (x ∷ []) ∙ ap (λ b. list_any (hits q) ds || b) (or_none (hits q x))

  hits_next : (es : List (Entry (WinningOp O))) (x z : Entry (WinningOp O)) → present W es x ≡ z → is_win z.op ≡ is_win x.op → (q : Stamp) → list_any (hits q) (with_next W es x) ≡ (list_any (hits q) es || hits q x)
  hits_next es x z e w q =
      ap (list_any (hits q)) (next_by W es x z e)
      ∙ hits_last q (map (acted W z) es) z
      ∙ ap₂ (λ (a b : Bool). a || b) (hits-map z q es)
      (ap₂ (λ (a : Bool) (p : Stamp). a && are_concurrent p q) w (ap (λ (y : Entry (WinningOp O)). y.stamp) (sym e) ∙ present-stamp W es x))

  reals-map_real : (p : Stamp) (a : O) (es : List (Entry (WinningOp O))) → reals_of (map (acted W (entry p (Low (Real a)))) es) ≡ map (acted m (entry p a)) (reals_of es)
  reals-map_real p a [] = refl
  reals-map_real p a (e ∷ es) = one e.op e.stamp (reals-map_real p a es)
    where
      one : (y : WinningOp O) (q : Stamp) → reals_of (map (acted W (entry p (Low (Real a)))) es) ≡ map (acted m (entry p a)) (reals_of es)
          → real_and q (W.act (Low (Real a)) y) (reals_of (map (acted W (entry p (Low (Real a)))) es)) ≡ map (acted m (entry p a)) (real_and q y (reals_of es))
      one (Low (Real v)) q ih = ap (λ (l : List (Entry O)). entry q (m.act a v) ∷ l) ih
      one (Low (Nothing j)) q ih = ih
      one (High u) q ih = ih

  reals-map_nothing : (p : Stamp) (k : ℕ) (es : List (Entry (WinningOp O))) → reals_of (map (acted W (entry p (Low (Nothing k)))) es) ≡ reals_of es
  reals-map_nothing p k [] = refl
  reals-map_nothing p k (e ∷ es) = one e.op e.stamp (reals-map_nothing p k es)
    where
      one : (y : WinningOp O) (q : Stamp) → reals_of (map (acted W (entry p (Low (Nothing k)))) es) ≡ reals_of es
          → real_and q (W.act (Low (Nothing k)) y) (reals_of (map (acted W (entry p (Low (Nothing k)))) es)) ≡ real_and q y (reals_of es)
      one (Low (Real v)) q ih = ap (λ (l : List (Entry O)). entry q v ∷ l) ih
      one (Low (Nothing j)) q ih = ih
      one (High u) q ih = ih

  reals-map_high : (p : Stamp) (u : Unit {0}) (es : List (Entry (WinningOp O))) → reals_of (map (acted W (entry p (High u))) es) ≡ []
  reals-map_high p u [] = refl
  reals-map_high p u (e ∷ es) = one e.op e.stamp (reals-map_high p u es)
    where
      one : (y : WinningOp O) (q : Stamp) → reals_of (map (acted W (entry p (High u))) es) ≡ [] → real_and q (W.act (High u) y) (reals_of (map (acted W (entry p (High u))) es)) ≡ []
      one (Low v) q ih = ih
      one (High v) q ih = ih

-- which operations are left with one more

not_hit : (w : Bool) (r p : Stamp) → same_id r p ≡ false → is_before p r ≡ false → (w && are_concurrent r p) ≡ false → (w && not (is_before r p)) ≡ false
unfolding are_concurrent
not_hit w r p h k l = grind arith

hit_touches : (w : Bool) (r p : Stamp) → (w && are_concurrent r p) ≡ true → (w && not (is_before r p)) ≡ true
unfolding are_concurrent
hit_touches w r p h = grind arith

module _ {O : Type 0} where
  touches_last : (q : Stamp) (ds : List (Entry (WinningOp O))) (x : Entry (WinningOp O)) → list_any (touches q) (ds ++ x ∷ []) ≡ (list_any (touches q) ds || touches q x)
  touches_last q ds x = list_any-append (touches q) ds (x ∷ []) ∙ ap (λ b. list_any (touches q) ds || b) (or_none (touches q x))

  -- whether all resets of the list are before the operation
  abbrev is_clear : List (Entry (WinningOp O)) → Entry (WinningOp O) → Bool
  is_clear ds y = not (list_any (touches y.stamp) ds)

  untouched_low : (ds : List (Entry (WinningOp O))) (p : Stamp) (a : MaybeOp O) → untouched (ds ++ entry p (Low a) ∷ []) ≡ untouched ds ++ reals_of (cond (not (list_any (touches p) ds)) (entry p (Low a) ∷ []) [])
  untouched_low ds p a =
      let x : Entry (WinningOp O) = entry p (Low a) in
      ap reals_of
      (filter_agree (is_clear (ds ++ x ∷ [])) (is_clear ds) (λ y. ap not (touches_last y.stamp ds x ∙ or_none (list_any (touches y.stamp) ds))) (ds ++ x ∷ [])
      ∙ filter-append (is_clear ds) ds (x ∷ []))
      ∙ reals-append (filter (is_clear ds) ds) (filter (is_clear ds) (x ∷ []))

  untouched_high : (ds : List (Entry (WinningOp O))) (p : Stamp) (u : Unit {0}) → AllByRecursion (λ y. is_before p y.stamp ≡ false) ds → untouched (ds ++ entry p (High u) ∷ []) ≡ []
  untouched_high ds p u h =
      let x : Entry (WinningOp O) = entry p (High u) in
      let test = is_clear (ds ++ x ∷ []) in
      ap reals_of (filter-append test ds (x ∷ []) ∙ ap (λ (l : List (Entry (WinningOp O))). l ++ filter test (x ∷ [])) (filter_none test ds (each_touched ds h)))
      ∙ none (test x)
    where
      none : (b : Bool) → reals_of {O = O} (cond b (entry p (High u) ∷ []) []) ≡ []
      none true = refl
      none false = refl

      or_true : (a b : Bool) → b ≡ false → (a || (true && not b)) ≡ true
      or_true true b e = refl
      or_true false b e = ap not e

      touched : (y : Entry (WinningOp O)) → is_before p y.stamp ≡ false → is_clear (ds ++ entry p (High u) ∷ []) y ≡ false
      touched y e = ap not (touches_last y.stamp ds (entry p (High u)) ∙ or_true (list_any (touches y.stamp) ds) (is_before p y.stamp) e)

      each_touched : (l : List (Entry (WinningOp O))) → AllByRecursion (λ y. is_before p y.stamp ≡ false) l → AllByRecursion (λ y. is_clear (ds ++ entry p (High u) ∷ []) y ≡ false) l
      each_touched [] k = tt
      each_touched (y ∷ l) k = (touched y k.0, each_touched l k.1)

  not_touched : (p : Stamp) (ds : List (Entry (WinningOp O))) → AllByRecursion (λ r. same_id r.stamp p ≡ false) ds → AllByRecursion (λ r. is_before p r.stamp ≡ false) ds → list_any (hits p) ds ≡ false → list_any (touches p) ds ≡ false
  not_touched p [] d b h = refl
  not_touched p (r ∷ ds) d b h =
      let two = either_none (hits p r) (list_any (hits p) ds) h in
      any_none (touches p r) (list_any (touches p) ds) (not_hit (is_win r.op) r.stamp p d.0 b.0 two.0) ∙ not_touched p ds d.1 b.1 two.1

  hit_touched : (p : Stamp) (ds : List (Entry (WinningOp O))) → list_any (hits p) ds ≡ true → list_any (touches p) ds ≡ true
  hit_touched p [] h = h
  hit_touched p (r ∷ ds) h =
      (elim (hits p r) as (λ b. hits p r ≡ b → (b || list_any (hits p) ds) ≡ true → (touches p r || list_any (touches p) ds) ≡ true) [
        | true ↦ λ e _. ap (λ b. b || list_any (touches p) ds) (hit_touches (is_win r.op) r.stamp p e)
        | false ↦ λ _ k. or_right (touches p r) (list_any (touches p) ds) (hit_touched p ds k)
      ]) refl h
    where
      or_right : (a b : Bool) → b ≡ true → (a || b) ≡ true
      or_right true b e = refl
      or_right false b e = e

module _ {S O : Type 0} (m : Meaning S O) (law : IsLawful m) (n : ℕ) where
  abbrev V : Meaning S (WinningOp O)
  V = winning_meaning m

  abbrev AreWinning : List (Entry (WinningOp O)) → Type 0
  AreWinning xs = AllByRecursion (λ x. IsIssued (winning_meaning m) n x.stamp x.op) xs

  reals_issued : (xs : List (Entry (WinningOp O))) → AreWinning xs → AllByRecursion (λ x. IsIssued m n x.stamp x.op) (reals_of xs)
  reals_issued [] v = tt
  reals_issued (x ∷ xs) v = one x.op v.0 (reals_issued xs v.1)
    where
      one : (o : WinningOp O) → IsIssued (winning_meaning m) n x.stamp o → AllByRecursion (λ y. IsIssued m n y.stamp y.op) (reals_of xs) → AllByRecursion (λ y. IsIssued m n y.stamp y.op) (real_and x.stamp o (reals_of xs))
      one (Low (Real y)) i rest = (record { stamp = i.stamp; valid = i.valid }, rest)
      one (Low (Nothing l)) i rest = rest
      one (High u) i rest = rest

  each_low : (xs : List (Entry O)) → AllByRecursion (λ x. IsIssued m n x.stamp x.op) xs → AllByRecursion (λ x. m.level x.op ≤ m.top) xs
  each_low [] v = tt
  each_low (x ∷ xs) v = (law.level_top x.op (law.valid_well_formed x.stamp x.op v.0.valid), each_low xs v.1)

  -- what the operations with resets leave is what those that come after each reset leave
  pub record Follows (ds : List (Entry (WinningOp O))) : Type 0 where
    pub forms_are : reals_of (forms V ds) ≡ forms m (untouched ds)
    pub state_is : document V ds ≡ document m (untouched ds)
    pub hits_are : (q : Stamp) → list_any (hits q) (forms V ds) ≡ list_any (hits q) ds

  hits_follow : (ds : List (Entry (WinningOp O))) (x z : Entry (WinningOp O)) → present V (forms V ds) x ≡ z → is_win z.op ≡ is_win x.op → Follows ds → (q : Stamp) → list_any (hits q) (forms V (ds ++ x ∷ [])) ≡ list_any (hits q) (ds ++ x ∷ [])
  hits_follow ds x z e w f q =
      ap (list_any (hits q)) (forms_last V ds x)
      ∙ hits_next m (forms V ds) x z e w q
      ∙ ap (λ b. b || hits q x) (f.hits_are q)
      ∙ sym (hits_last m q ds x)

  reals_follow : (ds : List (Entry (WinningOp O))) (x z : Entry (WinningOp O)) → present V (forms V ds) x ≡ z → reals_of (forms V (ds ++ x ∷ [])) ≡ reals_of (map (acted V z) (forms V ds)) ++ reals_of (z ∷ [])
  reals_follow ds x z e =
      ap reals_of (forms_last V ds x ∙ next_by V (forms V ds) x z e)
      ∙ reals-append (map (acted V z) (forms V ds)) (z ∷ [])

  follow_high : (ds : List (Entry (WinningOp O))) (p : Stamp) (u : Unit {0}) → AllByRecursion (λ y. is_before p y.stamp ≡ false) ds → Follows ds → Follows (ds ++ entry p (High u) ∷ [])
  follow_high ds p u b f =
      let x : Entry (WinningOp O) = entry p (High u) in
      let e = present_high m (forms V ds) p u in
      let left = untouched_high ds p u b in
      record {
        forms_are = reals_follow ds x x e ∙ ap (λ (l : List (Entry O)). l ++ []) (reals-map_high m p u (forms V ds)) ∙ sym (ap (forms m) left);
        state_is = document_last V ds x x e ∙ sym (ap (document m) left);
        hits_are = hits_follow ds x x e refl f;
      }

  follow_nothing : (ds : List (Entry (WinningOp O))) (p : Stamp) (a : MaybeOp O) (k : ℕ) → present V (forms V ds) (entry p (Low a)) ≡ entry p (Low (Nothing k)) → untouched (ds ++ entry p (Low a) ∷ []) ≡ untouched ds → Follows ds → Follows (ds ++ entry p (Low a) ∷ [])
  follow_nothing ds p a k e left f =
      let x : Entry (WinningOp O) = entry p (Low a) in
      let z : Entry (WinningOp O) = entry p (Low (Nothing k)) in
      record {
        forms_are = reals_follow ds x z e ∙ append-nil (reals_of (map (acted V z) (forms V ds))) ∙ reals-map_nothing m p k (forms V ds) ∙ f.forms_are ∙ sym (ap (forms m) left);
        state_is = document_last V ds x z e ∙ f.state_is ∙ sym (ap (document m) left);
        hits_are = hits_follow ds x z e refl f;
      }

  follow_real : (ds : List (Entry (WinningOp O))) (p : Stamp) (o : O) → AllByRecursion (λ y. m.level y.op ≤ m.top) (reals_of (forms V ds)) → list_any (hits p) ds ≡ false → list_any (touches p) ds ≡ false → Follows ds → Follows (ds ++ entry p (Low (Real o)) ∷ [])
  follow_real ds p o low h t f =
      let x : Entry (WinningOp O) = entry p (Low (Real o)) in
      let y : Entry O = entry p o in
      let es = forms V ds in
      let fs = forms m (untouched ds) in
      let a = (present m (reals_of es) y).op in
      let z : Entry (WinningOp O) = entry p (Low (Real a)) in
      let e : present V es x ≡ z = present_missed m es p o low (f.hits_are p ∙ h) in
      let left : untouched (ds ++ x ∷ []) ≡ untouched ds ++ y ∷ [] = untouched_low ds p (Real o) ∙ ap (λ b. untouched ds ++ reals_of (cond (not b) (x ∷ []) [])) t in
      let same : entry p a ≡ present m fs y = ap (λ q. entry q a) (sym (present-stamp m (reals_of es) y)) ∙ ap (λ l. present m l y) f.forms_are in
      record {
        forms_are =
            reals_follow ds x z e
            ∙ ap (λ (l : List (Entry O)). l ++ entry p a ∷ []) (reals-map_real m p a es ∙ ap (map (acted m (entry p a))) f.forms_are)
            ∙ sym (ap (forms m) left ∙ forms_last m (untouched ds) y ∙ next_by m fs y (entry p a) (sym same));
        state_is =
            document_last V ds x z e
            ∙ ap (λ s. m.apply s p a) f.state_is
            ∙ sym (ap (document m) left ∙ document_last m (untouched ds) y (entry p a) (sym same));
        hits_are = hits_follow ds x z e refl f;
      }

  follow_next : (ds : List (Entry (WinningOp O))) (p : Stamp) (o : WinningOp O) → AreWinning ds → IsIssued (winning_meaning m) n p o → AllByRecursion (λ r. same_id r.stamp p ≡ false) ds → AllByRecursion (λ r. is_before p r.stamp ≡ false) ds
      → Follows ds → Follows (ds ++ entry p o ∷ [])
  follow_next ds p (High u) v i d b f = follow_high ds p u b f
  follow_next ds p (Low (Nothing k)) v i d b f =
      follow_nothing ds p (Nothing k) k (present_nothing m (forms V ds) p k)
      (untouched_low ds p (Nothing k) ∙ ap (λ l. untouched ds ++ l) (none (not (list_any (touches p) ds))) ∙ append-nil (untouched ds)) f
    where
      none : (c : Bool) → reals_of {O = O} (cond c (entry p (Low (Nothing k)) ∷ []) []) ≡ []
      none true = refl
      none false = refl
  follow_next ds p (Low (Real o)) v i d b f =
      let level : m.level o ≤ m.top = law.level_top o (law.valid_well_formed p o i.valid) in
      let issued = forms_issued m n law (untouched ds) [] tt (reals_issued (filter (is_clear ds) ds) (all-filter (λ (x : Entry (WinningOp O)). IsIssued (winning_meaning m) n x.stamp x.op) (is_clear ds) ds v)) in
      let low : AllByRecursion (λ (y : Entry O). m.level y.op ≤ m.top) (reals_of (forms V ds)) = subst (AllByRecursion (λ (y : Entry O). m.level y.op ≤ m.top)) (sym f.forms_are) (each_low (forms m (untouched ds)) issued) in
      (elim (list_any (hits p) ds) as (λ c. list_any (hits p) ds ≡ c → Follows (ds ++ entry p (Low (Real o)) ∷ [])) [
        | true ↦ λ e.
            let r = present_hit m (forms V ds) p o level (f.hits_are p ∙ e) in
            follow_nothing ds p (Real o) r.0 r.1
            (untouched_low ds p (Real o) ∙ ap (λ c. untouched ds ++ reals_of (cond (not c) (entry p (Low (Real o)) ∷ []) [])) (hit_touched p ds e) ∙ append-nil (untouched ds)) f
        | false ↦ λ e. follow_real ds p o low e (not_touched p ds d b e) f
      ]) refl

  follow_all : (ds xs : List (Entry (WinningOp O))) → AreWinning (ds ++ xs) → AreApart (ds ++ xs) → IsCausal (ds ++ xs) → Follows ds → Follows (ds ++ xs)
  follow_all ds [] v a c f = subst Follows (sym (append-nil ds)) f
  follow_all ds (x ∷ xs) v a c f =
      let e : (ds ++ x ∷ []) ++ xs ≡ ds ++ x ∷ xs = append_assoc ds (x ∷ []) xs in
      let here = at_seam ds v in
      subst Follows e
      (follow_all (ds ++ x ∷ []) xs (subst AreWinning (sym e) v) (subst AreApart (sym e) a) (subst IsCausal (sym e) c)
      (follow_next ds x.stamp x.op here.0 here.1 (apart_before ds xs x a) (pairs_before (λ (r y : Entry (WinningOp O)). is_before y.stamp r.stamp ≡ false) ds xs x c) f))
    where
      at_seam : (l : List (Entry (WinningOp O))) → AreWinning (l ++ x ∷ xs) → AreWinning l × IsIssued (winning_meaning m) n x.stamp x.op
      at_seam [] k = (tt, k.0)
      at_seam (y ∷ l) k = (let r = at_seam l k.1 in ((k.0, r.0), r.1))

  pub document_untouched : (xs : List (Entry (WinningOp O))) → AreWinning xs → AreApart xs → IsCausal xs → document V xs ≡ document m (untouched xs)
  document_untouched xs v a c = (follow_all [] xs v a c (record { forms_are = refl; state_is = refl; hits_are = λ q. refl })).state_is
