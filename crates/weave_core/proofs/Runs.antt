-- What each issued operation keeps, the document keeps.
use Rattle.std.proofs.Common.{ℕ, List, [], ◌∷◌, sym, subst}
use Rattle.std.specs.List.{AllByRecursion}
use Rattle.vector_clock.specs.declared.stamp.Stamp.{Stamp}
use Rattle.crdt_laws.specs.declared.small.Entry.{Entry}
use Rattle.crdt_laws.specs.Present.{apply_all, document_from, own_forms, present, with_next}
use Rattle.crdt_laws.specs.Tower.{Meaning, IsIssued, IsLawful}
use Rattle.crdt_laws.proofs.Forms
use Rattle.crdt_laws.proofs.Forms.{present-stamp}
use Rattle.crdt_laws.proofs.Ready.{next_issued}

module _ {State Op : Type 0} (t : Meaning State Op) (members : ℕ) (law : IsLawful t) where
  abbrev pub Issued : Entry Op → Type 0
  Issued e = IsIssued t members e.stamp e.op

  -- Q is what the stamps of the operations are, and P what their applications keep of the state.
  module _ (P : State → Type 0) (Q : Stamp → Type 0) (keeps : (s : State) (p : Stamp) (x : Op) → P s → IsIssued t members p x → Q p → P (t.apply s p x)) where
    run_keeps : (xs es : List (Entry Op)) (s : State) → AllByRecursion Issued es → AllByRecursion Issued xs → AllByRecursion (λ e. Q e.stamp) xs → P s → P (apply_all t s (own_forms t es xs))
    run_keeps [] es s h v q p = p
    run_keeps (x ∷ xs) es s h v q p =
        let y = present t es x in
        let w : Issued y = Forms.present-issued t members law es x h v.0 in
        run_keeps xs (with_next t es x) (t.apply s y.stamp y.op) (next_issued t law members es x h v.0) v.1 q.1
        (keeps s y.stamp y.op p w (subst Q (sym (present-stamp t es x)) q.0))

    pub document_keeps : (s : State) (xs : List (Entry Op)) → AllByRecursion Issued xs → AllByRecursion (λ e. Q e.stamp) xs → P s → P (document_from t s xs)
    document_keeps s xs v q p = run_keeps xs [] s tt v q p
