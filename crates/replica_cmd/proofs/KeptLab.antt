-- What every thing of a lab keeps is kept by the lab in which one is put.
use Rattle.std.proofs.Common.{◌≡◌, ℕ, zero, suc, ◌+◌, ◌<◌, ◌≤◌, true, false, List, [], ◌∷◌, Option, None, Some, refl, ap, sym, ◌∙◌, arith, subst, get_or}
use Rattle.std.specs.List.{All, AllByRecursion, insert}
use Rattle.std.specs.Prelude.{Ok, String}
use Rattle.std.specs.declared.alloc.Global.{Global}
use Rattle.std.proofs.Common.{inl, inr, set}
use Rattle.std.proofs.lemmas.Bool.{cases_eq}
use Rattle.std.proofs.lemmas.List.{get_or-set_other}
use Rattle.std.proofs.lemmas.List.{length-replicate}
use Rattle.vector_clock.specs.Clock.{count, with_entry, zero_clock, max_seq}
use Rattle.std.specs.Str.{bytes_eq}
use Rattle.std.proofs.lemmas.List.Elements.{All-from_recursion, recursion_from_All}
use Rattle.std.proofs.Math.ListN.{length-set}
use Rattle.crdt_laws.specs.declared.small.Entry.{Entry}
use Rattle.crdt_laws.specs.Tower.{IsWithin}
use Rattle.replica_model.specs.Replica.{Replica, Batch, edited, members, new_replica, next_stamp, version}
use Rattle.replica_model.specs.Family as family
use Rattle.replica_model.specs.Family.{Thing}
use Rattle.replica_core.specs.Kept.{IsKept, IsUpTo, IsReplicaUpTo}
use Rattle.lab_model.specs.Lab.{Lab, thing_at, with_thing}
use Rattle.crdt_laws.specs.Sets.{IsHonest}
use Rattle.std.proofs.Common.{◌++◌}
use Rattle.lab_model.proofs.Runs.{meets_at}
use Rattle.lab_model.specs.Honest.{IsHonestLab, things}
use Rattle.replica_cmd.specs.Things.{IsKeptLab, IsKeptThing, IsLabUpTo, IsPlaceOf, IsThingUpTo, Keeps, replica_or}
use Rattle.number_crdts.specs.Number.{number_meaning, NumberOp}

module _ (P : Thing NumberOp → Type 0) where
  Each : Lab NumberOp → Type 0
  Each lab = AllByRecursion P (things lab)

  each_at : (lab : Lab NumberOp) (name : List ℕ) (t : Thing NumberOp) → AllByRecursion P (things lab) → thing_at lab name ≡ Some t → P t
  each_at [] name t h e = cc
  each_at (pair ∷ lab) name t h e =
      (elim (bytes_eq name pair.0) as (λ b. bytes_eq name pair.0 ≡ b → P t) [
        | true ↦ λ q. (let s : pair.1 ≡ t = (let f : Some pair.1 ≡ Some t = rw q at e in cc) in subst P s h.0)
        | false ↦ λ q. each_at lab name t h.1 (rw q at e)
      ]) refl

  each_with : (lab : Lab NumberOp) (name : List ℕ) (t : Thing NumberOp) → AllByRecursion P (things lab) → P t → AllByRecursion P (things (with_thing lab name t))
  each_with [] name t h p = (p, tt)
  each_with (pair ∷ lab) name t h p =
      (elim (bytes_eq name pair.0) as (λ b. bytes_eq name pair.0 ≡ b → AllByRecursion P (things (with_thing (pair ∷ lab) name t))) [
        | true ↦ λ q. rw q (p, h.1)
        | false ↦ λ q. rw q (h.0, each_with lab name t h.1 p)
      ]) refl

  pub all_at : (lab : Lab NumberOp) (name : List ℕ) (t : Thing NumberOp) → All P (things lab) → thing_at lab name ≡ Some t → P t
  all_at lab name t h e = each_at lab name t (recursion_from_All P (things lab) h) e

  pub all_with : (lab : Lab NumberOp) (name : List ℕ) (t : Thing NumberOp) → All P (things lab) → P t → All P (things (with_thing lab name t))
  all_with lab name t h p = All-from_recursion P (things (with_thing lab name t)) (each_with lab name t (recursion_from_All P (things lab) h) p)

all_more : {X : Type 0} (P Q : X → Type 0) → ((x : X) → P x → Q x) → (xs : List X) → All P xs → All Q xs
all_more P Q f xs h k d l = f (get_or xs k d) (h k d l)

up_to_more : (j k : ℕ) → j ≤ k → (c : _) → IsUpTo j c → IsUpTo k c
up_to_more j k l c h = record { each = λ i. (let e = h.each i in omega arith) }

pub thing_up_to_more : (j k : ℕ) → j ≤ k → (t : Thing NumberOp) → IsThingUpTo j t → IsThingUpTo k t
thing_up_to_more j k l (family.replica r) h = record {
  rows = all_more (IsUpTo j) (IsUpTo k) (up_to_more j k l) r.known h.rows;
  delivered = all_more _ _ (λ (e : Entry NumberOp) u. up_to_more j k l e.stamp.clock u) r.delivered h.delivered;
  waiting = all_more _ _ (λ (e : Entry NumberOp) u. up_to_more j k l e.stamp.clock u) r.waiting h.waiting;
}
thing_up_to_more j k l (family.batch b) h = record {
  header = up_to_more j k l b.header h.header;
  ops = all_more _ _ (λ (e : Entry NumberOp) u. up_to_more j k l e.stamp.clock u) b.ops h.ops;
}

pub lab_up_to_more : (j k : ℕ) → j ≤ k → (lab : Lab NumberOp) → IsLabUpTo j lab → IsLabUpTo k lab
lab_up_to_more j k l lab h = all_more (IsThingUpTo j) (IsThingUpTo k) (thing_up_to_more j k l) (things lab) h

pub members-edited : {Op : Type 0} (r : Replica Op) (op : Op) → members (edited r op) ≡ members r
unfolding edited
members-edited r op = length-set r.known _ _

-- what is put keeps a lab

pub keeps_put : (lab after : Lab NumberOp) (name : List ℕ) (t : Thing NumberOp) (text : String Global) → after ≡ with_thing lab name t → IsKeptLab lab → IsKeptThing t → ((k : ℕ) → IsLabUpTo k lab → IsThingUpTo (k + 1) t) → Keeps lab after (Ok text)
keeps_put lab after name t text e kept here up = record {
  refused = λ cause h. cc;
  kept = subst IsKeptLab (sym e) (all_with IsKeptThing lab name t kept here);
  up_to = λ k h. subst (IsLabUpTo (k + 1)) (sym e) (all_with (IsThingUpTo (k + 1)) lab name t (lab_up_to_more k (k + 1) (omega arith) lab h) (up k h));
}

pub kept_at : (lab : Lab NumberOp) (name : List ℕ) (t : Thing NumberOp) → IsKeptLab lab → thing_at lab name ≡ Some t → IsKeptThing t
kept_at lab name t kept e = all_at IsKeptThing lab name t kept e

pub up_to_at : (lab : Lab NumberOp) (name : List ℕ) (t : Thing NumberOp) (k : ℕ) → IsLabUpTo k lab → thing_at lab name ≡ Some t → IsThingUpTo k t
up_to_at lab name t k h e = all_at (IsThingUpTo k) lab name t h e

-- the replica that was found

found_cases : (file : List ℕ) (found : Option (Thing NumberOp)) (r : Replica NumberOp) → replica_or file found ≡ Ok r → found ≡ Some (family.replica r)
found_cases file None r h = cc
found_cases file (Some (family.replica s)) r h = cc
found_cases file (Some (family.batch b)) r h = cc

pub found_replica : (lab : Lab NumberOp) (file : List ℕ) (r : Replica NumberOp) → replica_or file (thing_at lab file) ≡ Ok r → thing_at lab file ≡ Some (family.replica r)
found_replica lab file r h = found_cases file (thing_at lab file) r h

pub members-new : (doc : List ℕ) (me n : ℕ) → members (new_replica {Op = NumberOp} doc me n) ≡ n
unfolding new_replica
members-new doc me n = length-replicate n _

-- the next stamp is within the limit while there is room for one operation more
pub next_within : (r : Replica NumberOp) (k : ℕ) → IsKept (number_meaning 0) r → IsReplicaUpTo k r → k < max_seq → IsWithin (next_stamp r)
next_within r k kept up room =
    let v = version (members r) r.delivered in
    let own : IsUpTo k v = subst (IsUpTo k) kept.own (up.rows r.me (zero_clock 1) kept.member) in
    record {
      each = λ i. elim (cases_eq i r.me) [
        | inl e ↦
            (let here : count (with_entry v r.me (count v r.me + 1)) r.me ≤ count v r.me + 1 = get_or-set-le v.at r.me (count v r.me + 1) in
            let bound = own.each r.me in
            subst (λ j. count (with_entry v r.me (count v r.me + 1)) j ≤ max_seq) (sym e) (omega arith))
        | inr e ↦
            (let there : count (with_entry v r.me (count v r.me + 1)) i ≡ count v i = get_or-set_other v.at r.me i (count v r.me + 1) 0 e in
            let bound = own.each i in
            omega arith)
      ];
    }
  where
    get_or-set-le : (xs : List ℕ) (j x : ℕ) → get_or (set xs j x) j 0 ≤ x
    get_or-set-le [] j x = omega arith
    get_or-set-le (y ∷ xs) zero x = omega arith
    get_or-set-le (y ∷ xs) (suc j) x = get_or-set-le xs j x

-- a replica that is put back stands under its name
pub back_in_place : (before mid after : Lab NumberOp) (place : ℕ) (name file : List ℕ) (t : Thing NumberOp) → name ≡ file → IsPlaceOf before mid place file → after ≡ insert mid place (name, t) → after ≡ with_thing before file t
back_in_place before mid after place name file t e gap is = is ∙ ap (λ n. insert mid place (n, t)) e ∙ gap.back t

-- what a replica and a batch of an honest lab have is an honest set
pub honest_pool : (lab : Lab NumberOp) (file name : List ℕ) (r : Replica NumberOp) (b : Batch NumberOp) → IsHonestLab (number_meaning 0) lab → thing_at lab file ≡ Some (family.replica r) → thing_at lab name ≡ Some (family.batch b) → IsHonest ((r.delivered ++ r.waiting) ++ b.ops)
honest_pool lab file name r b honest here there = (meets_at (number_meaning 0) lab honest file name r b here there).honest
