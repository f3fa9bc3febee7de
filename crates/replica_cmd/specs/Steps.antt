-- What one line does, as the loop over the lines of a script sees it.
use Rattle.std.specs.Prelude.{◌≡◌, ℕ, ◌+◌, ◌<◌, List, Bool, Option}
use Rattle.lab_store.specs.Stream.{Appends}
use Rattle.lab_model.specs.declared.command.Command.{Command}
use Rattle.lab_model.specs.declared.command.Command.TheVariants.{New, Edit, Show, Export, Merge, Play, Check}
use Rattle.lab_model.specs.Honest.{IsHonestLab}
use Rattle.lab_model.specs.Lab.{Lab, Outcome, lab_step, pair_members}
use Rattle.replica_cmd.specs.Number.{number_op}
use Rattle.replica_cmd.specs.Run.{is_bad, IsEnded}
use Rattle.replica_cmd.specs.Things.{IsKeptLab, IsLabUpTo}
use Rattle.number_crdts.specs.Number.{number_meaning, NumberOp}

-- the member of a command is one of the document
abbrev pub HasMember : Command → Type 0
HasMember (New file member) = member < pair_members
HasMember (Edit file verb amount) = Unit {0}
HasMember (Show file) = Unit {0}
HasMember (Export file batch) = Unit {0}
HasMember (Merge file batch) = Unit {0}
HasMember Play = Unit {0}
HasMember (Check table) = Unit {0}

abbrev pub outcome : Lab NumberOp → List ℕ → Bool → Outcome (number_meaning 0) number_op
outcome lab text refused = record { lab = lab; text = text; refused = refused }

-- A line took a lab to another one and printed a text. From an honest lab it is the step of the definition.
pub record Steps (before after : Lab NumberOp) (line text : List ℕ) (refused : Bool) : Type 0 where
  pub exact : IsHonestLab (number_meaning 0) before → outcome after text refused ≡ lab_step (number_meaning 0) number_op before line
  pub ended : IsEnded text
  pub bad : is_bad text ≡ refused
  pub kept : IsKeptLab after
  pub up_to : (k : ℕ) → IsLabUpTo k before → IsLabUpTo (k + 1) after

-- a line did its step, and its text was put
pub record StepsAndPuts (before after : Lab NumberOp) (line : List ℕ) (told told' : Option (List ℕ)) (refused : Bool) : Type 0 where
  pub text : List ℕ
  pub steps : Steps before after line text refused
  pub put : Appends told told' text
