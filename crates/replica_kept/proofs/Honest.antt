-- What honest members made gives no cause to refuse it.
use Rattle.std.proofs.Common.{◌≡◌, ℕ, ◌≤◌, ◌++◌, Bool, refl, true, false, List, [], ◌∷◌, sym, ◌∙◌, arith, Contains, eqb, cond, fold, ap}
use Rattle.std.specs.Prelude.{max}
use Rattle.std.proofs.lemmas.Bool.{eqb-true, leb-true}
use Rattle.vector_clock.specs.Clock.{count, covers}
use Rattle.vector_clock.specs.Stamp.{id_of}
use Rattle.crdt_laws.specs.declared.small.Entry.{Entry}
use Rattle.crdt_laws.specs.Tower.{Meaning, IsLawful}
use Rattle.crdt_laws.proofs.Members.{Contains-front, Contains-more}
use Rattle.replica_model.specs.Family.{Thing, batch, replica}
use Rattle.replica_model.specs.Replica.{Replica, Batch}
use Rattle.replica_model.proofs.Names.{all_from_contains}
use Rattle.forgetting_model.specs.Ledger.{ledger, own_row}
use Rattle.forgetting_model.specs.Truth.{IsTrueFamily}
use Rattle.forgetting_model.proofs.Allowed.{no_bad_operation, no_fork, no_rollback}
use Rattle.replica_kept.specs.Merging.{HasNoOther, IsFaultless, last_of, own_seq}

abbrev step : {Op : Type 0} → ℕ → ℕ → Entry Op → ℕ
step j k e = cond (eqb e.stamp.member j) (max k (count e.stamp.clock e.stamp.member)) k

below_from : {Op : Type 0} (j b : ℕ) (xs : List (Entry Op)) (k : ℕ) → k ≤ b → ((e : Entry Op) → Contains xs e → e.stamp.member ≡ j → count e.stamp.clock e.stamp.member ≤ b) → fold (step j) k xs ≤ b
below_from j b [] k low each = low
below_from {Op} j b (x ∷ xs) k low each = below_from j b xs (step j k x) (here (eqb x.stamp.member j) (λ t. each x (Contains-front x xs) (eqb-true x.stamp.member j t))) (λ e c. each e (Contains-more x xs e c))
  where
    here : (t : Bool) → (t ≡ true → count x.stamp.clock x.stamp.member ≤ b) → cond t (max k (count x.stamp.clock x.stamp.member)) k ≤ b
    here true h = let l = h refl in omega (arith, l, low)
    here false h = low

-- the greatest number is no greater than a bound of all
pub last_below : {Op : Type 0} (j b : ℕ) (xs : List (Entry Op)) → ((e : Entry Op) → Contains xs e → e.stamp.member ≡ j → count e.stamp.clock e.stamp.member ≤ b) → last_of j xs ≤ b
last_below j b xs each = below_from j b xs 0 (omega arith) each

module _ {State Op : Type 0} (m : Meaning State Op) (law : IsLawful m) (n : ℕ) (ts : List (Thing Op)) (family : IsTrueFamily m n ts) (r : Replica Op) (there : Contains ts (replica r)) (b : Batch Op) (sent : Contains ts (batch b)) where
  me_is : (ledger r).me ≡ r.me
  unfolding ledger
  me_is = refl

  pub faultless : IsFaultless m (ledger r) b
  faultless = record {
    valid = λ k d l. (no_bad_operation m law n ts family r there b sent k d l).valid;
    own = last_below (ledger r).me (own_seq (ledger r)) b.ops (λ e c same.
        let t : covers (own_row (ledger r)) (id_of e.stamp) ≡ true = no_rollback m law n ts family r there b sent e c (same ∙ me_is) in
        let l : count e.stamp.clock e.stamp.member ≤ count (own_row (ledger r)) e.stamp.member = leb-true (count e.stamp.clock e.stamp.member) (count (own_row (ledger r)) e.stamp.member) t in
        let q : count (own_row (ledger r)) e.stamp.member ≡ own_seq (ledger r) = ap (count (own_row (ledger r))) same in
        omega (arith, l, q));
    same = all_from_contains (HasNoOther ((ledger r).log ++ (ledger r).waiting)) b.ops (λ e c.
        all_from_contains (λ (f : Entry Op). id_of f.stamp ≡ id_of e.stamp → f ≡ e) ((ledger r).log ++ (ledger r).waiting) (λ f d same. sym (no_fork m law n ts family r there b sent e f c d (sym same))));
  }
