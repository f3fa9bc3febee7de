-- Steps of the loops that make a document.
use Rattle.std.proofs.Common.{subst, ◌≡◌, ℕ, zero, suc, ◌+◌, ◌-◌, ◌≤◌, ◌<◌, Bool, true, false, List, [], ◌∷◌, ◌++◌, cond, refl, ap, ap₂, sym, ◌∙◌, arith, length, get_or, take}
use Rattle.std.specs.List.{All, filter}
use Rattle.std.proofs.lemmas.List.Elements.{filter_more, filter_agree}
use Rattle.std.proofs.lemmas.Bool.{false_from_ne_true}
use Rattle.std.proofs.lemmas.Bool.Decides.{nat_tests}
use Rattle.vector_clock.specs.declared.stamp.Stamp.{Stamp}
use Rattle.crdt_laws.specs.declared.small.Entry.{Entry}
use Rattle.crdt_laws.specs.Document.{is_at}
use Rattle.crdt_laws.specs.Entry.{entry}
use Rattle.crdt_laws.specs.Present.{acted, acted_by, acts_at, acting, present}
use Rattle.crdt_laws.specs.Tower.{Meaning}
use Rattle.crdt_laws.proofs.Acts.{acted_by-append, acts_at-above}

-- an item of a loop has what all have
pub item_of : {X : Type 0} (P : X → Type 0) (xs : List X) (i : ℕ) (x : X) → All P xs → i < length xs → x ≡ get_or xs i x → P x
item_of P xs i x h l is = subst P (sym is) (h i x l)

pub one_hit : {State Op : Type 0} (t : Meaning State Op) (l : ℕ) (s : Stamp) (h : List (Entry Op)) (i : ℕ) (e : Entry Op) (old new start : Op) → i < length h → e ≡ get_or h i e → is_at t l s e ≡ true → new ≡ t.act e.op old → entry s old ≡ acted_by t (filter (is_at t l s) (take i h)) (entry s start) → entry s new ≡ acted_by t (filter (is_at t l s) (take (i + 1) h)) (entry s start)
one_hit {Op = Op} t l s h i e old new start m is p n inv =
    let q = is_at t l s in
    let more : filter q (take (i + 1) h) ≡ filter q (take i h) ++ e ∷ [] =
    filter_more q h i e m ∙ ap (λ (x : Entry Op). filter q (take i h) ++ cond (q x) (x ∷ []) []) (sym is) ∙ ap (λ (b : Bool). filter q (take i h) ++ cond b (e ∷ []) []) p in
    ap (entry s) n ∙ ap (acted t e) inv ∙ sym (ap (λ z. acted_by t z (entry s start)) more ∙ acted_by-append t (filter q (take i h)) (e ∷ []) (entry s start))

pub one_miss : {State Op : Type 0} (t : Meaning State Op) (l : ℕ) (s : Stamp) (h : List (Entry Op)) (i : ℕ) (e : Entry Op) (old start : Op) → i < length h → e ≡ get_or h i e → is_at t l s e ≡ false → entry s old ≡ acted_by t (filter (is_at t l s) (take i h)) (entry s start) → entry s old ≡ acted_by t (filter (is_at t l s) (take (i + 1) h)) (entry s start)
one_miss {Op = Op} t l s h i e old start m is p inv =
    let q = is_at t l s in
    let more : filter q (take (i + 1) h) ≡ filter q (take i h) ++ [] =
    filter_more q h i e m ∙ ap (λ (x : Entry Op). filter q (take i h) ++ cond (q x) (x ∷ []) []) (sym is) ∙ ap (λ (b : Bool). filter q (take i h) ++ cond b (e ∷ []) []) p in
    inv ∙ sym (ap (λ z. acted_by t z (entry s start)) more ∙ acted_by-append t (filter q (take i h)) [] (entry s start))

is_at_acts : {State Op : Type 0} (t : Meaning State Op) (l : ℕ) (x : Entry Op) → t.level x.op < l → (e : Entry Op) → acts_at t l x e ≡ is_at t l x.stamp e
unfolding acts_at
is_at_acts t l x h e = grind (arith, nat_tests)

pub acting_low : {State Op : Type 0} (t : Meaning State Op) (x : Entry Op) (h : List (Entry Op)) (l : ℕ) → l ≤ t.level x.op → acting t l h x ≡ []
acting_low t x h zero m = refl
acting_low {Op = Op} t x h (suc l) m =
    ap₂ (λ (a b : List (Entry Op)). a ++ b) (none h) (acting_low t x h l (omega arith))
  where
    none : (k : List (Entry Op)) → filter (acts_at t (suc l) x) k ≡ []
    none [] = refl
    none (e ∷ k) =
        let ih : filter (acts_at t (suc l) x) k ≡ [] = none k in
        let f : acts_at t (suc l) x e ≡ false = false_from_ne_true _ (λ q. let a : t.level x.op < suc l = acts_at-above t (suc l) x e q in omega arith) in
        grind (arith, ih)

-- the loop over the levels: what is left to do gives the present form
pub first_level : {State Op : Type 0} (t : Meaning State Op) (h : List (Entry Op)) (x : Entry Op) (l : ℕ) → l ≡ t.top → acted_by t (acting t l h x) x ≡ present t h x
unfolding present
first_level t h x l e = ap (λ k. acted_by t (acting t k h x) x) e

pub next_level : {State Op : Type 0} (t : Meaning State Op) (h : List (Entry Op)) (x : Entry Op) (l : ℕ) (old new : Entry Op) → t.level x.op < l → new ≡ acted_by t (filter (is_at t l x.stamp) h) old → acted_by t (acting t l h x) old ≡ present t h x → acted_by t (acting t (l - 1) h x) new ≡ present t h x
next_level t h x zero old new m n inv = absurd (omega arith)
next_level t h x (suc l) old new m n inv =
    let one : suc l - 1 ≡ l = omega arith in
    let same : filter (acts_at t (suc l) x) h ≡ filter (is_at t (suc l) x.stamp) h = filter_agree (acts_at t (suc l) x) (is_at t (suc l) x.stamp) (is_at_acts t (suc l) x m) h in
    ap (λ k. acted_by t (acting t k h x) new) one
    ∙ ap (acted_by t (acting t l h x)) (n ∙ ap (λ k. acted_by t k old) (sym same))
    ∙ sym (acted_by-append t (filter (acts_at t (suc l) x) h) (acting t l h x) old)
    ∙ inv

pub last_level : {State Op : Type 0} (t : Meaning State Op) (h : List (Entry Op)) (x : Entry Op) (l : ℕ) (form : Entry Op) → l ≤ t.level x.op → acted_by t (acting t l h x) form ≡ present t h x → form ≡ present t h x
last_level t h x l form m inv = ap (λ k. acted_by t k form) (sym (acting_low t x h l m)) ∙ inv
