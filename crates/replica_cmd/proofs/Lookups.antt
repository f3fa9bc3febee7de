-- What stands under a name in a lab, by the place of the name.
use Rattle.std.proofs.Common.{◌≡◌, ℕ, zero, suc, ◌+◌, ◌<◌, ◌≤◌, true, false, List, [], ◌∷◌, ◌++◌, None, Some, refl, ap, sym, arith, get_or, length, set}
use Rattle.std.specs.Prelude.{Bool, cond, nat_lt}
use Rattle.std.specs.List.{insert, remove, position, position_or_len}
use Rattle.std.proofs.lemmas.Bool.Decides.{nat_tests}
use Rattle.std.specs.Str.{bytes_eq}
use Rattle.std.proofs.lemmas.List.Quantifiers.{position-Some}
use Rattle.replica_model.specs.Family.{Thing}
use Rattle.lab_model.specs.Lab.{thing_at, with_thing}
use Rattle.replica_cmd.specs.declared.things.Named.{Named}
use Rattle.replica_cmd.specs.Things.{lab_of, pair_of, thing_of}
use Rattle.number_crdts.specs.Number.{NumberOp}

-- the name stands at this place, and at none before it
pub record IsAt (name : List ℕ) (items : List Named) (i : ℕ) (d : Named) : Type 0 where
  pub within : i < length items
  pub here : bytes_eq name (get_or items i d).name ≡ true
  pub before : (k : ℕ) → k < i → bytes_eq name (get_or items k d).name ≡ false

pub at_position : (name : List ℕ) (items : List Named) (i : ℕ) (d : Named) → position (λ n. bytes_eq name n.name) items ≡ Some i → IsAt name items i d
at_position name items i d e =
    let found = position-Some (λ (n : Named). bytes_eq name n.name) items i d e in
    record { within = found.0; here = found.1; before = found.2 }

at_rest : (name : List ℕ) (n : Named) (items : List Named) (i : ℕ) (d : Named) → IsAt name (n ∷ items) (suc i) d → IsAt name items i d
at_rest name n items i d h = record {
  within = (let w : suc i < suc (length items) = h.within in omega arith);
  here = h.here;
  before = λ k l. h.before (suc k) (omega arith);
}

pub lookup_at : (name : List ℕ) (items : List Named) (i : ℕ) (d : Named) → IsAt name items i d → thing_at (lab_of items) name ≡ Some (thing_of (get_or items i d).thing)
lookup_at name [] i d h = (let w : i < 0 = h.within in absurd (omega arith))
lookup_at name (n ∷ items) zero d h = (let e : bytes_eq name n.name ≡ true = h.here in grind arith)
lookup_at name (n ∷ items) (suc i) d h =
    let e : bytes_eq name n.name ≡ false = h.before 0 (omega arith) in
    let rest : thing_at (lab_of items) name ≡ Some (thing_of (get_or items i d).thing) = lookup_at name items i d (at_rest name n items i d h) in
    grind (arith, rest)

pub with_at : (name : List ℕ) (items : List Named) (i : ℕ) (d new : Named) → new.name ≡ name → IsAt name items i d → with_thing (lab_of items) name (thing_of new.thing) ≡ lab_of (set items i new)
with_at name [] i d new s h = (let w : i < 0 = h.within in absurd (omega arith))
with_at name (n ∷ items) zero d new s h = (let e : bytes_eq name n.name ≡ true = h.here in rw e (ap (λ m. (m, thing_of new.thing) ∷ lab_of items) (sym s)))
with_at name (n ∷ items) (suc i) d new s h =
    let e : bytes_eq name n.name ≡ false = h.before 0 (omega arith) in
    rw e (ap (λ l. pair_of n ∷ l) (with_at name items i d new s (at_rest name n items i d h)))

pub gap_at : (name : List ℕ) (items : List Named) (i : ℕ) (d : Named) (t : Thing NumberOp) → IsAt name items i d → insert (lab_of (remove items i)) i (name, t) ≡ with_thing (lab_of items) name t
gap_at name [] i d t h = (let w : i < 0 = h.within in absurd (omega arith))
gap_at name (n ∷ items) zero d t h = (let e : bytes_eq name n.name ≡ true = h.here in rw e refl)
gap_at name (n ∷ items) (suc i) d t h =
    let e : bytes_eq name n.name ≡ false = h.before 0 (omega arith) in
    rw e (ap (λ l. pair_of n ∷ l) (gap_at name items i d t (at_rest name n items i d h)))

-- the name stands nowhere
pub record IsAbsent (name : List ℕ) (items : List Named) : Type 0 where
  pub none : (k : ℕ) (d : Named) → k < length items → bytes_eq name (get_or items k d).name ≡ false

absent_rest : (name : List ℕ) (n : Named) (items : List Named) → IsAbsent name (n ∷ items) → IsAbsent name items
absent_rest name n items h = record { none = λ k d l. h.none (suc k) d (omega arith) }

pub lookup_absent : (name : List ℕ) (items : List Named) → IsAbsent name items → thing_at (lab_of items) name ≡ None
lookup_absent name [] h = refl
lookup_absent name (n ∷ items) h =
    let e : bytes_eq name n.name ≡ false = h.none 0 n (omega arith) in
    rw e (lookup_absent name items (absent_rest name n items h))

pub with_absent : (name : List ℕ) (items : List Named) (new : Named) → new.name ≡ name → IsAbsent name items → with_thing (lab_of items) name (thing_of new.thing) ≡ lab_of (items ++ new ∷ [])
with_absent name [] new s h = ap (λ m. (m, thing_of new.thing) ∷ []) (sym s)
with_absent name (n ∷ items) new s h =
    let e : bytes_eq name n.name ≡ false = h.none 0 n (omega arith) in
    rw e (ap (λ l. pair_of n ∷ l) (with_absent name items new s (absent_rest name n items h)))

past_all : (name : List ℕ) (items : List Named) → length items ≤ position_or_len (λ n. bytes_eq name n.name) items → IsAbsent name items
past_all name [] h = record { none = λ k d l. absurd (omega arith) }
past_all name (n ∷ items) h =
    (elim (bytes_eq name n.name) as (λ b. bytes_eq name n.name ≡ b → IsAbsent name (n ∷ items)) [
      | true ↦ λ e. (let z : position_or_len (λ (m : Named). bytes_eq name m.name) (n ∷ items) ≡ 0 = rw e refl in absurd (omega arith))
      | false ↦ λ e.
          (let z : position_or_len (λ (m : Named). bytes_eq name m.name) (n ∷ items) ≡ 1 + position_or_len (λ (m : Named). bytes_eq name m.name) items = rw e refl in
          let rest : IsAbsent name items = past_all name items (omega arith) in
          record { none = after e rest })
    ]) refl
  where
    after : bytes_eq name n.name ≡ false → IsAbsent name items → (k : ℕ) (d : Named) → k < length (n ∷ items) → bytes_eq name (get_or (n ∷ items) k d).name ≡ false
    after e rest zero d l = e
    after e rest (suc k) d l = rest.none k d (let w : suc k < suc (length items) = l in omega arith)

none_cases : (b : Bool) (i : ℕ) → cond b (Some i) None ≡ None → b ≡ false
none_cases true i h = cc
none_cases false i h = refl

pub absent_position : (name : List ℕ) (items : List Named) → position (λ n. bytes_eq name n.name) items ≡ None → IsAbsent name items
absent_position name items e =
    let stop : nat_lt (position_or_len (λ (n : Named). bytes_eq name n.name) items) (length items) ≡ false = none_cases _ _ e in
    past_all name items (grind (arith, nat_tests))

pub lab_insert : (items : List Named) (i : ℕ) (n : Named) → lab_of (insert items i n) ≡ insert (lab_of items) i (pair_of n)
lab_insert [] zero n = refl
lab_insert [] (suc i) n = refl
lab_insert (a ∷ items) zero n = refl
lab_insert (a ∷ items) (suc i) n = ap (λ l. pair_of a ∷ l) (lab_insert items i n)
