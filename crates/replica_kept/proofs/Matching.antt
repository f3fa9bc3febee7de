-- The forms that are kept are those of the kept operations that can act on others, one for each.
use Rattle.std.proofs.Common.{◌≡◌, ℕ, Bool, true, false, List, [], ◌∷◌, cond, map, nat_le, fold, ap, ap₂, sym, ◌∙◌, subst, refl}
use Rattle.std.specs.Prelude.{filter, not}
use Rattle.std.specs.List.{AllByRecursion}
use Rattle.std.proofs.lemmas.List.Elements.{recursion_from_All}
use Rattle.vector_clock.specs.declared.clock.Clock.{Clock}
use Rattle.vector_clock.specs.declared.stamp.Stamp.{Stamp}
use Rattle.vector_clock.specs.Clock.{covers}
use Rattle.vector_clock.specs.Stamp.{id_of, is_below}
use Rattle.vector_clock.proofs.Ordered.{filter-place}
use Rattle.crdt_laws.specs.declared.small.Entry.{Entry}
use Rattle.crdt_laws.specs.Present.{acted, present}
use Rattle.crdt_laws.specs.Sets.{AreIssued, IsRising, beyond, is_beyond, place}
use Rattle.crdt_laws.specs.Tower.{Meaning, IsIssued, IsLawful}
use Rattle.crdt_laws.proofs.Forms.{present-issued, present-stamp}
use Rattle.weave_core.specs.Deliver.{Weave, deliver, is_high, trim, woven_with}
use Rattle.weave_core.proofs.Forms
use Rattle.weave_core.proofs.Kept.{IsOrdered, filter-place_in, ordered-place, ordered_from}
use Rattle.weave_core.proofs.Again
use Rattle.forgetting_model.specs.Made.{placed}
use Rattle.forgetting_model.proofs.Allowed
use Rattle.forgetting_model.proofs.Allowed.{filters_swap}
use Rattle.replica_kept.specs.Sound.{AreForms}

-- lists with the same stamps
pub stamps_all : {Op : Type 0} (P : Stamp → Type 0) (xs ys : List (Entry Op)) → map (λ e. e.stamp) xs ≡ map (λ e. e.stamp) ys → AllByRecursion (λ e. P e.stamp) ys → AllByRecursion (λ e. P e.stamp) xs
stamps_all P [] ys is h = tt
stamps_all P (x ∷ xs) [] is h = absurd (let g : x.stamp ∷ map (λ e. e.stamp) xs ≡ [] = is in cc)
stamps_all P (x ∷ xs) (y ∷ ys) is h =
    let head : x.stamp ≡ y.stamp = (let g : x.stamp ∷ map (λ e. e.stamp) xs ≡ y.stamp ∷ map (λ e. e.stamp) ys = is in cc) in
    let tail : map (λ e. e.stamp) xs ≡ map (λ e. e.stamp) ys = (let g : x.stamp ∷ map (λ e. e.stamp) xs ≡ y.stamp ∷ map (λ e. e.stamp) ys = is in cc) in
    (subst P (sym head) h.0, stamps_all P xs ys tail h.1)

module _ {State Op : Type 0} (m : Meaning State Op) (law : IsLawful m) (n : ℕ) where
  abbrev Match : List (Entry Op) → List (Entry Op) → Type 0
  Match es ys = Allowed.Match m law n es ys

  abbrev Issued : Entry Op → Type 0
  Issued e = IsIssued m n e.stamp e.op

  matched : (es ys : List (Entry Op)) → map (λ e. e.stamp) es ≡ map (λ e. e.stamp) ys → map (λ e. m.level e.op) es ≡ map (λ e. m.level e.op) ys → Match es ys
  matched [] [] p q = tt
  matched [] (y ∷ ys) p q = absurd (let g : [] ≡ y.stamp ∷ map (λ e. e.stamp) ys = p in cc)
  matched (e ∷ es) [] p q = absurd (let g : e.stamp ∷ map (λ e. e.stamp) es ≡ [] = p in cc)
  matched (e ∷ es) (y ∷ ys) p q =
      let stamp : e.stamp ≡ y.stamp = (let g : e.stamp ∷ map (λ e. e.stamp) es ≡ y.stamp ∷ map (λ e. e.stamp) ys = p in cc) in
      let stamps : map (λ e. e.stamp) es ≡ map (λ e. e.stamp) ys = (let g : e.stamp ∷ map (λ e. e.stamp) es ≡ y.stamp ∷ map (λ e. e.stamp) ys = p in cc) in
      let level : m.level e.op ≡ m.level y.op = (let g : m.level e.op ∷ map (λ e. m.level e.op) es ≡ m.level y.op ∷ map (λ e. m.level e.op) ys = q in cc) in
      let levels : map (λ e. m.level e.op) es ≡ map (λ e. m.level e.op) ys = (let g : m.level e.op ∷ map (λ e. m.level e.op) es ≡ m.level y.op ∷ map (λ e. m.level e.op) ys = q in cc) in
      (stamp, level, matched es ys stamps levels)

  match-place : (e y : Entry Op) → e.stamp ≡ y.stamp → m.level e.op ≡ m.level y.op → (es ys : List (Entry Op)) → Match es ys → Match (place e es) (place y ys)
  match-place e y p q [] [] k = (p, q, tt)
  match-place e y p q [] (z ∷ ys) k = absurd k
  match-place e y p q (f ∷ es) [] k = absurd k
  match-place e y p q (f ∷ es) (z ∷ ys) k =
      let rest = match-place e y p q es ys k.2 in
      subst (λ (b : Bool). Match (cond b (e ∷ f ∷ es) (f ∷ place e es)) (cond (is_below y.stamp z.stamp) (y ∷ z ∷ ys) (z ∷ place y ys))) (sym (ap₂ is_below p k.0))
      (elim (is_below y.stamp z.stamp) as (λ b. Match (cond b (e ∷ f ∷ es) (f ∷ place e es)) (cond b (y ∷ z ∷ ys) (z ∷ place y ys))) [ true ↦ (p, q, k) | false ↦ (k.0, k.1, rest) ])

  -- once the form x' of x is in
  match_woven : (w : Weave State Op) (x' x : Entry Op) (log : List (Entry Op)) → AllByRecursion Issued w.history → IsOrdered log → Issued x' → x'.stamp ≡ x.stamp → m.level x'.op ≡ m.level x.op
      → Match w.history (filter (is_high m) log) → Match (woven_with m w x').history (filter (is_high m) (place x log))
  unfolding woven_with
  match_woven w x' x log vs o v p q k =
      let moved = Allowed.match-acted m law n x' v w.history (filter (is_high m) log) vs k in
      let es = map (acted m x') w.history in
      subst (λ (b : Bool). Match (cond b (place x' es) es) (filter (is_high m) (place x log))) (sym (ap (nat_le 2) q))
      ((elim (is_high m x) as (λ b. is_high m x ≡ b → Match (cond b (place x' es) es) (filter (is_high m) (place x log))) [
        | true ↦ λ e. subst (Match (place x' es)) (sym (filter-place_in (is_high m) x e log o)) (match-place x' x p q es (filter (is_high m) log) moved)
        | false ↦ λ e. subst (Match es) (sym (filter-place (λ (e : Entry Op). e.stamp) (is_high m) x e log)) moved
      ]) refl)

  match_delivered : (w : Weave State Op) (x : Entry Op) (log : List (Entry Op)) → AllByRecursion Issued w.history → IsOrdered log → Issued x
      → Match w.history (filter (is_high m) log) → Match (deliver m w x).history (filter (is_high m) (place x log))
  match_delivered w x log vs o v k =
      match_woven w (present m w.history x) x log vs o (present-issued m n law w.history x vs v) (present-stamp m w.history x) (Forms.present-level m n law w.history x vs v) k

  match_all : (xs : List (Entry Op)) (w : Weave State Op) (log : List (Entry Op)) → AllByRecursion Issued w.history → IsOrdered log → AllByRecursion Issued xs
      → Match w.history (filter (is_high m) log) → Match (fold (deliver m) w xs).history (filter (is_high m) (placed log xs))
  match_all [] w log vs o h k = k
  match_all (x ∷ xs) w log vs o h k =
      match_all xs (deliver m w x) (place x log) (Again.issued_again m n law w x vs h.0) (ordered-place x log o) h.1 (match_delivered w x log vs o h.0 k)

  -- once operations are in, and what the clock covers is forgotten
  pub forms_kept : (w : Weave State Op) (log xs : List (Entry Op)) (f : Clock) → AreIssued m n w.history → IsRising log → AreIssued m n xs → AreForms m w.history (filter (is_high m) log)
      → AreForms m (trim m (fold (deliver m) w xs) f).history (filter (is_high m) (beyond f (placed log xs)))
  forms_kept w log xs f vs rising h k =
      let es = (fold (deliver m) w xs).history in
      let ys = filter (is_high m) (placed log xs) in
      let all : Match es ys = match_all xs w log (recursion_from_All Issued w.history vs) (ordered_from log rising) (recursion_from_All Issued xs h) (matched w.history (filter (is_high m) log) k.stamped k.levels) in
      let out = Allowed.match-filter m law n (is_beyond f) (λ e y p q. ap (λ (s : Stamp). not (covers f (id_of s))) p) es ys all in
      let swap = filters_swap (is_beyond f) (is_high m) (placed log xs) in
      let left = filter (is_beyond f) es in
      record {
        stamped = Allowed.match-stamps m law n left (filter (is_beyond f) ys) out ∙ ap (map (λ (e : Entry Op). e.stamp)) swap;
        levels = Allowed.match-levels m law n left (filter (is_beyond f) ys) out ∙ ap (map (λ (e : Entry Op). m.level e.op)) swap;
      }
