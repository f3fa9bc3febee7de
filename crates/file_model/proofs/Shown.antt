-- What `show` prints from the files of an honest lab.
use Rattle.std.proofs.Common.{◌≡◌, ◌↔◌, ℕ, Bool, false, List, Some, Result, Ok, Contains, refl, ap, sym, ◌∙◌}
use Rattle.std.specs.List.Sorted.{IsPermutation}
use Rattle.std.proofs.lemmas.List.Sorted.{Contains-permutation, IsPermutation-sym}
use Rattle.serde_json.specs.Data.{Data}
use Rattle.crdt_laws.specs.declared.small.Entry.{Entry}
use Rattle.crdt_laws.specs.Present.{document}
use Rattle.replica_model.specs.Family.{replica}
use Rattle.replica_model.specs.Replica.{Replica}
use Rattle.forgetting_model.specs.Kept.{Kept, kept}
use Rattle.forgetting_model.specs.Ledger.{ledger}
use Rattle.forgetting_model.proofs.Keeps.{kept-shows}
use Rattle.file_model.specs.declared.command.Command.TheVariants.{Show}
use Rattle.file_model.specs.declared.refusal.Refusal.{Refusal}
use Rattle.file_model.specs.Document.{Documents, Format}
use Rattle.file_model.specs.Honest.{IsHonestLab, all_things, of_document}
use Rattle.file_model.specs.Lab.{Lab, files_of, meaning_for, thing}
use Rattle.file_model.specs.Line.{command_of}
use Rattle.file_model.specs.Named.{Files, at, if_ok}
use Rattle.file_model.specs.Sound.{AreSound, IsFormat}
use Rattle.file_model.specs.Step.{Effect, answer, effect, file_step, meaning_of}
use Rattle.file_model.specs.Text.{document_text}
use Rattle.file_model.proofs.Allowed.{family_of, inside_of, sound_doc}
use Rattle.file_model.proofs.Corollaries.{shown_alike}
use Rattle.file_model.proofs.Obeyed.{does}
use Rattle.file_model.proofs.Spelled.{found_in, read_back}

module _ {State Op : Type 0} (docs : Documents State Op) (form : Format State Op) (sound : AreSound docs) (format : IsFormat docs form) where
  abbrev text_of : Replica Op → List ℕ
  text_of r = document_text ((meaning_for docs form r).show (document (meaning_for docs form r) r.delivered))

  module _ (lab : Lab Op) (honest : IsHonestLab docs form lab) where
    abbrev F : Files
    F = files_of docs form lab

    show_answer : (file : List ℕ) (r : Replica Op) → at lab.here file ≡ Some (thing (replica r)) → answer docs form (files_of docs form lab) (Show file) ≡ Ok (effect (files_of docs form lab) (text_of r))
    unfolding kept ledger
    show_answer file r found =
        let m = meaning_for docs form r in
        let there = found_in lab file (replica r) found in
        let then' : (Kept State Op → Result Effect Refusal) = λ k. Ok (effect F (document_text ((meaning_of docs form k).show k.woven.state))) in
        ap (λ (x : Result (Kept State Op) Refusal). if_ok x then') (read_back docs form sound format lab honest file r found)
        ∙ ap (λ (d : Data). Ok (effect F (document_text d)))
        (kept-shows m (sound_doc docs sound (all_things lab) honest.honest r there).lawful (docs.document r.doc).members (of_document r.doc (all_things lab))
        (family_of docs sound (all_things lab) honest.honest r there) r (inside_of docs sound (all_things lab) honest.honest r there))

    pub show_line : (in_script : Bool) (line file : List ℕ) (r : Replica Op) → command_of line ≡ Some (Show file) → at lab.here file ≡ Some (thing (replica r))
        → file_step docs form (files_of docs form lab) in_script line
        ≡ record { files = files_of docs form lab; text = document_text ((meaning_for docs form r).show (document (meaning_for docs form r) r.delivered)); refused = false }
    show_line in_script line file r is found = does docs form F in_script line (Show file) is (effect F (text_of r)) refl (show_answer file r found)

    pub show_text : (in_script : Bool) (line file : List ℕ) (r : Replica Op) → command_of line ≡ Some (Show file) → at lab.here file ≡ Some (thing (replica r))
        → (file_step docs form (files_of docs form lab) in_script line).text ≡ text_of r
    show_text in_script line file r is found = ap (λ o. o.text) (show_line in_script line file r is found)

  pub texts_alike : (lab : Lab Op) → IsHonestLab docs form lab → (r s : Replica Op) → Contains (all_things lab) (replica r) → Contains (all_things lab) (replica s) → s.doc ≡ r.doc
      → ((e : Entry Op) → Contains r.delivered e ↔ Contains s.delivered e) → text_of r ≡ text_of s
  texts_alike lab honest r s there here same both = ap document_text (shown_alike docs sound (all_things lab) honest.honest r there s here same both)

  -- in two folders
  pub show_alike : (lab other : Lab Op) → IsHonestLab docs form lab → IsHonestLab docs form other → IsPermutation (all_things lab) (all_things other) → (in_script : Bool) (line line' a b : List ℕ) (r s : Replica Op)
      → command_of line ≡ Some (Show a) → command_of line' ≡ Some (Show b) → at lab.here a ≡ Some (thing (replica r)) → at other.here b ≡ Some (thing (replica s)) → s.doc ≡ r.doc
      → ((e : Entry Op) → Contains r.delivered e ↔ Contains s.delivered e)
      → (file_step docs form (files_of docs form lab) in_script line).text ≡ (file_step docs form (files_of docs form other) in_script line').text
  show_alike lab other honest honest' moved in_script line line' a b r s is is' found found' same both =
      show_text lab honest in_script line a r is found
      ∙ texts_alike lab honest r s (found_in lab a (replica r) found) (Contains-permutation (all_things other) (all_things lab) (replica s) (IsPermutation-sym (all_things lab) (all_things other) moved) (found_in other b (replica s) found')) same both
      ∙ sym (show_text other honest' in_script line' b s is' found')
