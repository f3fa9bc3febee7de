-- What a line does whose command is accepted.
use Rattle.std.proofs.Common.{◌≡◌, ℕ, Bool, true, false, List, Option, Some, Result, Ok, Err, refl, ap, sym, ◌∙◌}
use Rattle.std.specs.Prelude.{◌&&◌, ◌||◌}
use Rattle.std.proofs.lemmas.Bool.{false≢true}
use Rattle.file_model.specs.declared.command.Command.{Command}
use Rattle.file_model.specs.declared.refusal.Refusal.{Refusal}
use Rattle.file_model.specs.declared.refusal.Refusal.TheVariants.{Usage}
use Rattle.file_model.specs.Document.{Documents, Format}
use Rattle.file_model.specs.Lab.{Deed, Lab, act, act_on, files_of, lab_outcome, lab_step}
use Rattle.file_model.specs.Line.{command_of}
use Rattle.file_model.specs.Named.{Files, unless}
use Rattle.file_model.specs.Step.{Effect, answer, answer_to, file_step, outcome_of, stands_alone}
use Rattle.file_model.proofs.Given.{unless_is}

module _ {State Op : Type 0} (docs : Documents State Op) (form : Format State Op) where
  -- an answer that is no refusal
  not_refused : (files : Files) (x : Result Effect Refusal) → (outcome_of docs form files x).refused ≡ false → (e : Effect) × (x ≡ Ok e)
  not_refused files (Ok e) h = (e, refl)
  not_refused files (Err cause) h = absurd (false≢true (sym h))

  module _ (files : Files) (in_script : Bool) (line : List ℕ) (command : Command) (is : command_of line ≡ Some command) where
    -- what a line does that is not refused
    pub answered : (file_step docs form files in_script line).refused ≡ false → (e : Effect) × (answer_to docs form files in_script (Some command) ≡ Ok e) × (answer docs form files command ≡ Ok e)
    unfolding file_step
    answered h =
        let x = not_refused files (answer_to docs form files in_script (command_of line)) h in
        let y : answer_to docs form files in_script (Some command) ≡ Ok x.0 = ap (answer_to docs form files in_script) (sym is) ∙ x.1 in
        (x.0, y, (unless_is (in_script && stands_alone docs form command) Usage (answer docs form files command) x.0 y).1)

    -- and what it does where its command is accepted
    pub does : (e : Effect) → stands_alone docs form command ≡ false → answer docs form files command ≡ Ok e → file_step docs form files in_script line ≡ record { files = e.files; text = e.text; refused = false }
    unfolding file_step
    does e alone h =
        ap (λ (o : Option Command). outcome_of docs form files (answer_to docs form files in_script o)) is
        ∙ ap (λ (b : Bool). outcome_of docs form files (unless (in_script && b) Usage (answer docs form files command))) alone
        ∙ plain_test in_script
        ∙ ap (outcome_of docs form files) h
      where
        plain_test : (b : Bool) → outcome_of docs form files (unless (b && false) Usage (answer docs form files command)) ≡ outcome_of docs form files (answer docs form files command)
        plain_test true = refl
        plain_test false = refl

  module _ (lab : Lab Op) (in_script : Bool) (line : List ℕ) (command : Command) (is : command_of line ≡ Some command) where
    abbrev F : Files
    F = files_of docs form lab

    lab_of : (x : Result Effect Refusal) (d : Deed Op) → (lab_outcome docs form lab x d).refused ≡ false → ((lab_outcome docs form lab x d).lab ≡ d.lab) × ((e : Effect) × (x ≡ Ok e))
    lab_of (Ok e) d h = (refl, (e, refl))
    lab_of (Err cause) d h = absurd (false≢true (sym h))

    -- a line of a lab that is not refused leaves what its command does
    pub acted : (lab_step docs form lab in_script line).refused ≡ false → ((lab_step docs form lab in_script line).lab ≡ (act docs form lab command).lab) × ((e : Effect) × (answer docs form (files_of docs form lab) command ≡ Ok e))
    unfolding lab_step
    acted h =
        let x = lab_of (answer_to docs form F in_script (command_of line)) (act_on docs form lab (command_of line)) h in
        let y : answer_to docs form F in_script (Some command) ≡ Ok x.1.0 = ap (answer_to docs form F in_script) (sym is) ∙ x.1.1 in
        (x.0 ∙ ap (λ (o : Option Command). (act_on docs form lab o).lab) is, (x.1.0, (unless_is (in_script && stands_alone docs form command) Usage (answer docs form F command) x.1.0 y).1))

pub either_false : (a b : Bool) → (a || b) ≡ false → (a ≡ false) × (b ≡ false)
either_false false b h = (refl, h)
either_false true b h = absurd (false≢true (sym h))
