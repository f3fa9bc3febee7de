-- What users are promised.
use Rattle.std.proofs.Common.{◌≡◌, ℕ, List, [], Option, Contains, subst}
use Rattle.crdt_laws.specs.Tower.{Meaning}
use Rattle.replica_model.specs.Family.{Thing, batch, replica}
use Rattle.replica_model.specs.Replica.{Replica, Batch, exported, merged}
use Rattle.forgetting_model.specs.Truth.{IsTrueFamily}
use Rattle.file_model.specs.Document.{Documents, Format}
use Rattle.file_model.specs.Honest.{IsHonestLab, all_things, of_document}
use Rattle.file_model.specs.Lab.{Lab}
use Rattle.file_model.specs.Promises.{IsMeantFor}
use Rattle.file_model.specs.Sound.{AreSound}
use Rattle.file_model.proofs.Allowed.{family_of, inside_of}
use Rattle.file_model.proofs.Exchanged.{exchanged_alike, merged_again, split_at}
use Rattle.file_model.proofs.Folders.{of_has}

module _ {State Op : Type 0} (docs : Documents State Op) (sound : AreSound docs) (form : Format State Op) (lab : Lab Op) (honest : IsHonestLab docs form lab) (r : Replica Op) (there : Contains (all_things lab) (replica r)) where
  abbrev m : Meaning State Op
  m = (docs.document r.doc).meaning

  abbrev n : ℕ
  n = (docs.document r.doc).members

  abbrev fs : List (Thing Op)
  fs = of_document r.doc (all_things lab)

  family : IsTrueFamily (docs.document r.doc).meaning (docs.document r.doc).members (of_document r.doc (all_things lab))
  family = family_of docs sound (all_things lab) honest.honest r there

  inside : Contains (of_document r.doc (all_things lab)) (replica r)
  inside = inside_of docs sound (all_things lab) honest.honest r there

  pub exchanged_in : (s : Replica Op) → Contains (all_things lab) (replica s) → s.doc ≡ r.doc → (to from : Option ℕ) → r.waiting ≡ [] → s.waiting ≡ [] → IsMeantFor r.me to → IsMeantFor s.me from
      → (merged r (exported s to)).delivered ≡ (merged s (exported r from)).delivered
  exchanged_in s c same to from none_r none_s meant_to meant_from =
      exchanged_alike m n fs family r s inside (of_has (all_things lab) (replica s) r.doc same c) to from meant_to meant_from none_r none_s

  pub merged_again_in : (b : Batch Op) → Contains (all_things lab) (batch b) → b.doc ≡ r.doc → merged (merged r b) b ≡ merged r b
  merged_again_in b c same =
      let p = split_at fs (replica r) inside in
      merged_again m n p.0 p.1 r (subst (IsTrueFamily m n) p.2 family) b (subst (λ (l : List (Thing Op)). Contains l (batch b)) p.2 (of_has (all_things lab) (batch b) r.doc same c))
