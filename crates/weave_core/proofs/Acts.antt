-- What the laws say of entries, and of lists of entries that act.
use Rattle.std.proofs.Common.{◌≡◌, ℕ, ◌≤◌, ◌<◌, Bool, true, false, List, [], ◌∷◌, cond, refl, ap, sym, ◌∙◌, arith, map, subst}
use Rattle.std.specs.List.{filter, AllByRecursion}
use Rattle.std.proofs.lemmas.Bool.Decides.{nat_tests}
use Rattle.vector_clock.specs.Stamp.{is_below, are_concurrent}
use Rattle.crdt_laws.specs.declared.small.Entry.{Entry}
use Rattle.crdt_laws.specs.Tower.{Meaning, IsLawful, IsIssued}
use Rattle.crdt_laws.specs.Present.{acted, acted_by, acts_at}
use Rattle.crdt_laws.specs.Sets.{place}
use Rattle.vector_clock.proofs.Ordered.{all-filter}
use Rattle.crdt_laws.proofs.Acts.{formed, acted-issued}

pub acts_at-level : {State Op : Type 0} (t : Meaning State Op) (l : ℕ) (x e : Entry Op) → acts_at t l x e ≡ true → t.level e.op ≡ l
unfolding acts_at
acts_at-level t l x e h = grind (arith, nat_tests)

pub acts_at-concurrent : {State Op : Type 0} (t : Meaning State Op) (l : ℕ) (x e : Entry Op) → acts_at t l x e ≡ true → are_concurrent e.stamp x.stamp ≡ true
unfolding acts_at
acts_at-concurrent t l x e h = grind (arith, nat_tests)

pub acts_at-true : {State Op : Type 0} (t : Meaning State Op) (x e : Entry Op) → t.level x.op < t.level e.op → are_concurrent e.stamp x.stamp ≡ true → acts_at t (t.level e.op) x e ≡ true
unfolding acts_at
acts_at-true t x e h c = grind (arith, nat_tests)

pub acts_at-other : {State Op : Type 0} (t : Meaning State Op) (l : ℕ) (x e : Entry Op) → (t.level e.op ≡ l → ⊥) → acts_at t l x e ≡ false
unfolding acts_at
acts_at-other t l x e h = grind (arith, nat_tests)

-- an entry of the same level and stamp is asked the same
pub acts_at-same : {State Op : Type 0} (t : Meaning State Op) (l : ℕ) (x e f : Entry Op) → t.level f.op ≡ t.level e.op → f.stamp ≡ e.stamp → acts_at t l x f ≡ acts_at t l x e
unfolding acts_at
acts_at-same t l x e f h k = cc

module _ {State Op : Type 0} (t : Meaning State Op) (members : ℕ) (law : IsLawful t) where
  abbrev pub Issued : Entry Op → Type 0
  Issued e = IsIssued t members e.stamp e.op

  abbrev pub AllIssued : List (Entry Op) → Type 0
  AllIssued es = AllByRecursion (λ e. IsIssued t members e.stamp e.op) es

  abbrev pub level_of : Entry Op → ℕ
  level_of e = t.level e.op

  pub level_low : (x : Entry Op) → Issued x → 1 ≤ level_of x
  level_low x v = law.level_low x.op (formed t members law x v)

  pub level_top : (x : Entry Op) → Issued x → level_of x ≤ t.top
  level_top x v = law.level_top x.op (formed t members law x v)

  pub acted-level : (y x : Entry Op) → Issued y → Issued x → level_of (acted t y x) ≡ level_of x
  acted-level y x v w = law.level-act y.op x.op (formed t members law y v) (formed t members law x w)

  pub acted-above : (y x : Entry Op) → Issued y → Issued x → level_of y ≤ level_of x → acted t y x ≡ x
  acted-above y x v w h = ap {B = Entry Op} (λ o. record { stamp = x.stamp; op = o }) (law.act_below y.op x.op (formed t members law y v) (formed t members law x w) h)

  pub acted_commute : (y v x : Entry Op) → Issued y → Issued v → Issued x → level_of y ≡ level_of v → acted t y (acted t v x) ≡ acted t v (acted t y x)
  acted_commute y v x p q r h =
      ap {B = Entry Op} (λ o. record { stamp = x.stamp; op = o }) (law.act-act y.op v.op x.op (formed t members law y p) (formed t members law v q) (formed t members law x r) h)

  pub acted_distribute : (z y x : Entry Op) → Issued z → Issued y → Issued x → level_of x < level_of y → level_of y < level_of z → acted t z (acted t y x) ≡ acted t (acted t z y) (acted t z x)
  acted_distribute z y x p q r h k =
      ap {B = Entry Op} (λ o. record { stamp = x.stamp; op = o }) (law.distribute z.op y.op x.op (formed t members law z p) (formed t members law y q) (formed t members law x r) h k)

  pub acted_by-level : (es : List (Entry Op)) (x : Entry Op) → AllIssued es → Issued x → level_of (acted_by t es x) ≡ level_of x
  acted_by-level [] x v w = refl
  acted_by-level (e ∷ es) x v w = acted_by-level es (acted t e x) v.1 (acted-issued t members law e x v.0 w) ∙ acted-level e x v.0 w

  -- entries of the level of y: the action of y can be moved to the end
  pub level_commute : (y : Entry Op) → Issued y → (es : List (Entry Op)) → AllIssued es → AllByRecursion (λ e. level_of e ≡ level_of y) es → (z : Entry Op) → Issued z → acted_by t es (acted t y z) ≡ acted t y (acted_by t es z)
  level_commute y p [] v l z q = refl
  level_commute y p (e ∷ es) v l z q =
      ap (acted_by t es) (acted_commute e y z v.0 p q l.0) ∙ level_commute y p es v.1 l.1 (acted t e z) (acted-issued t members law e z v.0 q)

  pub level_filter : (q : Entry Op → Bool) (k : ℕ) → ((e : Entry Op) → q e ≡ true → level_of e ≡ k) → (es : List (Entry Op)) → AllByRecursion (λ e. level_of e ≡ k) (filter q es)
  level_filter q k h [] = tt
  level_filter q k h (e ∷ es) = grind (arith, h e, level_filter q k h es)

  -- the level of y, where y has joined its entries
  pub level_joined : (q : Entry Op → Bool) (y : Entry Op) → Issued y → q y ≡ true → ((e : Entry Op) → q e ≡ true → level_of e ≡ level_of y) → (es : List (Entry Op)) → AllIssued es → (z : Entry Op) → Issued z → acted_by t (filter q (place y es)) z ≡ acted t y (acted_by t (filter q es) z)
  level_joined q y p qy h [] v z w = let e : filter q (y ∷ []) ≡ y ∷ [] = cc in ap (λ l. acted_by t l z) e
  level_joined q y p qy h (a ∷ es) v z w =
      elim (is_below y.stamp a.stamp) as (λ b. acted_by t (filter q (cond b (y ∷ a ∷ es) (a ∷ place y es))) z ≡ acted t y (acted_by t (filter q (a ∷ es)) z)) [
        | true ↦
            (let e : filter q (y ∷ a ∷ es) ≡ y ∷ filter q (a ∷ es) = cc in
            ap (λ l. acted_by t l z) e
            ∙ level_commute y p (filter q (a ∷ es)) (all-filter Issued q (a ∷ es) v) (level_filter q (level_of y) h (a ∷ es)) z w)
        | false ↦
            elim (q a) as (λ b. acted_by t (cond b (a ∷ filter q (place y es)) (filter q (place y es))) z ≡ acted t y (acted_by t (cond b (a ∷ filter q es) (filter q es)) z)) [
              | true ↦ level_joined q y p qy h es v.1 (acted t a z) (acted-issued t members law a z v.0 w)
              | false ↦ level_joined q y p qy h es v.1 z w
            ]
      ]

  -- a level below y and above z: the action of y on the entries and on z can be moved to the end
  pub between_levels : (q : Entry Op → Bool) (y : Entry Op) → Issued y → (k : ℕ) → ((e : Entry Op) → q e ≡ true → (k < level_of e) × (level_of e < level_of y)) → ((e : Entry Op) → Issued e → q (acted t y e) ≡ q e) → (es : List (Entry Op)) → AllIssued es → (z : Entry Op) → Issued z → level_of z ≡ k → acted_by t (filter q (map (acted t y) es)) (acted t y z) ≡ acted t y (acted_by t (filter q es) z)
  between_levels q y p k h same [] v z w l = refl
  between_levels q y p k h same (a ∷ es) v z w l =
      let s : q (acted t y a) ≡ q a = same a v.0 in
      subst (λ b. acted_by t (cond b (acted t y a ∷ filter q (map (acted t y) es)) (filter q (map (acted t y) es))) (acted t y z) ≡ acted t y (acted_by t (cond (q a) (a ∷ filter q es) (filter q es)) z)) (sym s)
      ((elim (q a) as (λ b. q a ≡ b → acted_by t (cond b (acted t y a ∷ filter q (map (acted t y) es)) (filter q (map (acted t y) es))) (acted t y z) ≡ acted t y (acted_by t (cond b (a ∷ filter q es) (filter q es)) z)) [
        | true ↦ λ e.
            let lt : level_of z < level_of a = (let f : k < level_of a = (h a e).0 in omega arith) in
            ap (acted_by t (filter q (map (acted t y) es))) (sym (acted_distribute y a z p v.0 w lt (h a e).1))
            ∙ between_levels q y p k h same es v.1 (acted t a z) (acted-issued t members law a z v.0 w) (acted-level a z v.0 w ∙ l)
        | false ↦ λ e. between_levels q y p k h same es v.1 z w l
      ]) refl)
