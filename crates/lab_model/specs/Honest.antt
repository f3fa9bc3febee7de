-- Honest labs, and the lines that keep them so.
use Rattle.std.specs.Prelude.{◌≡◌, ℕ, ◌^◌, ◌<◌, ◌≤◌, ◌≢◌, List, [], ◌∷◌, Option, Some, Ok, map}
use Rattle.std.specs.List.{All, IsDistinct}
use Rattle.std.specs.Str.{bytes_eq}
use Rattle.vector_clock.specs.Clock.{count}
use Rattle.vector_clock.specs.declared.stamp.Stamp.{Stamp}
use Rattle.crdt_laws.specs.Tower.{IsStampOf, IsWithin, Meaning}
use Rattle.replica_model.specs.Family.{Thing, replica, batch, replicas, operations}
use Rattle.forgetting_model.specs.Truth.{IsTrueFamily}
use Rattle.lab_model.specs.declared.command.Command.{Command}
use Rattle.lab_model.specs.declared.command.Command.TheVariants.{New}
use Rattle.lab_model.specs.declared.command.Verb.{Verb}
use Rattle.lab_model.specs.Line.{command_of}
use Rattle.lab_model.specs.Lab.{Lab, act, lab_step, pair_members, pair_text}

abbrev pub things : {Op : Type 0} → Lab Op → List (Thing Op)
things lab = map (λ pair. pair.1) lab

abbrev pub doc_of : {Op : Type 0} → Thing Op → List ℕ
doc_of (replica r) = r.doc
doc_of (batch b) = b.doc

-- no operation that is anywhere has a clock that counts more than k of a member
abbrev pub CountAtMost : {Op : Type 0} → ℕ → Lab Op → Type 0
CountAtMost k lab = All (λ e. (i : ℕ) → count e.stamp.clock i ≤ k) (operations (things lab))

-- what edits make of numbers of 64 bits may stand at each stamp of the document that is within the limit
pub record MakesValid {State Op : Type 0} (m : Meaning State Op) (made : Verb → ℕ → Op) : Type 0 where
  pub each : (verb : Verb) (amount : ℕ) (p : Stamp) → amount < 2 ^ 64 → IsStampOf pair_members p → IsWithin p → m.valid p (made verb amount)

-- all is of the one document, its replicas and batches are as honest members make them, and what they say of members is true
pub record IsHonestLab {State Op : Type 0} (m : Meaning State Op) (lab : Lab Op) : Type 0 where
  pub names : IsDistinct bytes_eq (map (λ pair. pair.0) lab)
  pub document : All (λ t. doc_of t ≡ pair_text) (things lab)
  pub family : IsTrueFamily m pair_members (things lab)

module _ {State Op : Type 0} (m : Meaning State Op) (made : Verb → ℕ → Op) where
  -- a command that is accepted makes no second replica of a member
  abbrev pub IsFairCommand : Lab Op → Option Command → Type 0
  IsFairCommand lab (Some (New file member)) = (e : _) → act m made lab (New file member) ≡ Ok e → All (λ r. r.me ≢ member) (replicas (things lab))
  IsFairCommand lab _ = Unit {0}

  -- followed through a run, no line does
  abbrev pub AreFair : Lab Op → List (List ℕ) → Type 0
  AreFair lab [] = Unit {0}
  AreFair lab (line ∷ lines) = IsFairCommand lab (command_of line) × AreFair (lab_step m made lab line).lab lines
