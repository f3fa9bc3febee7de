-- What lines say, and that what they do is the step of the definition.
use Rattle.std.proofs.Common.{◌≡◌, ℕ, ◌+◌, true, false, List, ◌++◌, Some, refl, ap, ap₂, sym, ◌∙◌, arith, subst}
use Rattle.lab_model.specs.Honest.{IsHonestLab}
use Rattle.std.specs.Prelude.{codes, OnOk, Result, Ok, Err, String}
use Rattle.std.specs.declared.alloc.Global.{Global}
use Rattle.lab_model.specs.declared.command.Command.{Command}
use Rattle.lab_model.specs.declared.command.Command.TheVariants.{New, Edit, Show, Export, Merge, Play, Check}
use Rattle.lab_model.specs.declared.refusal.Refusal.{Refusal}
use Rattle.lab_model.specs.Lab.{Lab, act_on, effect, lab_step, outcome_of}
use Rattle.lab_model.specs.Line.{command_of}
use Rattle.lab_model.specs.Text.{ended, refusal_text, refused_text}
use Rattle.lab_model.proofs.Commands.{IsReadable, command_readable}
use Rattle.replica_cmd.specs.Number.{number_op}
use Rattle.replica_cmd.specs.declared.things.Hindrance.{Hindrance}
use Rattle.replica_cmd.specs.Run.{is_bad, IsAccepted}
use Rattle.replica_cmd.specs.Steps.{outcome, HasMember, Steps}
use Rattle.replica_cmd.specs.Things.{IsKeptLab, IsLabUpTo, Keeps}
use Rattle.replica_cmd.proofs.KeptLab.{lab_up_to_more}
use Rattle.number_crdts.specs.Number.{number_meaning, NumberOp}

pub accepted_from : (text front : List ℕ) → text ≡ ended front → is_bad (ended front) ≡ false → IsAccepted text
accepted_from text front e h = record { ended = (front, e); accepted = ap is_bad e ∙ h }

pub refused_is : (cause : Refusal) → is_bad (refused_text cause) ≡ true
refused_is cause = refl

on_ok : {T E : Type 0} (r : Result T E) (P : Type 0) → P → OnOk r P
on_ok (Ok x) P p = p
on_ok (Err e) P p = tt

pub keeps_same : (lab : Lab NumberOp) (result : Result (String Global) Hindrance) → IsKeptLab lab → Keeps lab lab result
keeps_same lab result kept = record {
  refused = λ cause e. refl;
  kept = on_ok result (IsKeptLab lab) kept;
  up_to = λ k h. on_ok result (IsLabUpTo (k + 1) lab) (lab_up_to_more k (k + 1) (omega arith) lab h);
}

has_member : (command : Command) → IsReadable (Some command) → HasMember command
has_member (New file member) h = h
has_member (Edit file verb amount) h = tt
has_member (Show file) h = tt
has_member (Export file batch) h = tt
has_member (Merge file batch) h = tt
has_member Play h = tt
has_member (Check table) h = tt

pub member_of_line : (line : List ℕ) (command : Command) → command_of line ≡ Some command → HasMember command
member_of_line line command e = has_member command (subst IsReadable e (command_readable line))

pub step_ok : (before after : Lab NumberOp) (line text : List ℕ) → act_on (number_meaning 0) number_op before (command_of line) ≡ Ok (effect after text)
    → outcome after text false ≡ lab_step (number_meaning 0) number_op before line
unfolding lab_step
step_ok before after line text e = sym (ap (outcome_of (number_meaning 0) number_op before) e)

pub step_refused : (before : Lab NumberOp) (line : List ℕ) (cause : Refusal) → act_on (number_meaning 0) number_op before (command_of line) ≡ Err cause
    → outcome before (refused_text cause) true ≡ lab_step (number_meaning 0) number_op before line
unfolding lab_step
step_refused before line cause e = sym (ap (outcome_of (number_meaning 0) number_op before) e)

-- a refused line changes nothing
pub refused_step : (before after : Lab NumberOp) (line text : List ℕ) (cause : Refusal) → text ≡ refused_text cause → after ≡ before
    → (IsHonestLab (number_meaning 0) before → act_on (number_meaning 0) number_op before (command_of line) ≡ Err cause) → IsKeptLab before
    → Steps before after line text true
refused_step before after line text cause told same done kept = record {
  exact = λ honest. ap₂ (λ l t. outcome l t true) same told ∙ step_refused before line cause (done honest);
  ended = (codes "refused " ++ refusal_text cause, told);
  bad = ap is_bad told ∙ refused_is cause;
  kept = subst IsKeptLab (sym same) kept;
  up_to = λ k h. subst (IsLabUpTo (k + 1)) (sym same) (lab_up_to_more k (k + 1) (omega arith) before h);
}
