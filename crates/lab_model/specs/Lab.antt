-- What a line does to named replicas and batches, and what it prints.
use Rattle.std.specs.Prelude.{ℕ, ◌-◌, List, [], ◌∷◌, ◌++◌, Bool, true, false, ◌||◌, Option, None, Some, Result, Ok, Err, codes, length, if◌then◌else◌}
use Rattle.std.specs.Str.{bytes_eq}
use Rattle.std.specs.Map.{lookup}
use Rattle.crdt_laws.specs.Tower.{Meaning}
use Rattle.crdt_laws.specs.Present.{document}
use Rattle.replica_model.specs.Replica.{edited, exported, merged, new_replica}
use Rattle.replica_model.specs.Family.{Thing, replica, batch}
use Rattle.lab_model.specs.declared.command.Command.{Command}
use Rattle.lab_model.specs.declared.command.Command.TheVariants.{New, Edit, Show, Export, Merge, Play, Check}
use Rattle.lab_model.specs.declared.command.Verb.{Verb}
use Rattle.lab_model.specs.declared.refusal.Refusal.{Refusal}
use Rattle.lab_model.specs.declared.refusal.Refusal.TheVariants.{Unbuilt, Exists, Missing}
use Rattle.lab_model.specs.Line.{command_of}
use Rattle.lab_model.specs.Text.{delivered_text, document_text, made_text, ok_text, refused_text, wrote_text}

-- things by their names, none of which stands twice
abbrev pub Lab : Type 0 → Type 0
Lab Op = List (List ℕ × Thing Op)

abbrev pub thing_at : {Op : Type 0} → Lab Op → List ℕ → Option (Thing Op)
thing_at lab name = lookup (bytes_eq name) lab

-- the thing under the name, in the place of the one that was there, or else last
abbrev pub with_thing : {Op : Type 0} → Lab Op → List ℕ → Thing Op → Lab Op
with_thing [] name thing = (name, thing) ∷ []
with_thing (pair ∷ lab) name thing = if bytes_eq name pair.0 then (name, thing) ∷ lab else pair ∷ with_thing lab name thing

-- the schema @pair: its text, and the number of its members
abbrev pub pair_text : List ℕ
pair_text = codes "{\"doc\":\"pair\",\"fields\":[{\"kind\":\"number\",\"name\":\"n\"}],\"members\":2}"

abbrev pub pair_members : ℕ
pair_members = 2

-- what an accepted command leaves and prints
pub record Effect (Op : Type 0) : Type 0 where
  pub lab : Lab Op
  pub text : List ℕ

abbrev pub effect : {Op : Type 0} → Lab Op → List ℕ → Effect Op
effect lab text = record { lab = lab; text = text }

module _ {State Op : Type 0} (m : Meaning State Op) (made : Verb → ℕ → Op) where
  -- each command, by what stands under the names that it has

  abbrev pub new_under : Lab Op → List ℕ → ℕ → Option (Thing Op) → Result (Effect Op) Refusal
  new_under lab file member None = Ok (effect (with_thing lab file (replica (new_replica pair_text member pair_members))) ok_text)
  new_under lab file member (Some (replica r)) = Err (Exists file)
  new_under lab file member (Some (batch b)) = Err Unbuilt

  abbrev pub edit_under : Lab Op → List ℕ → Op → Option (Thing Op) → Result (Effect Op) Refusal
  edit_under lab file op (Some (replica r)) = Ok (effect (with_thing lab file (replica (edited r op))) (made_text 1))
  edit_under lab file op (Some (batch b)) = Err Unbuilt
  edit_under lab file op None = Err (Missing file)

  abbrev pub show_under : Lab Op → List ℕ → Option (Thing Op) → Result (Effect Op) Refusal
  show_under lab file (Some (replica r)) = Ok (effect lab (document_text (m.show (document m r.delivered))))
  show_under lab file (Some (batch b)) = Err Unbuilt
  show_under lab file None = Err (Missing file)

  abbrev pub export_under : Lab Op → List ℕ → List ℕ → Option (Thing Op) → Option (Thing Op) → Result (Effect Op) Refusal
  export_under lab file name (Some (batch b)) there = Err Unbuilt
  export_under lab file name found (Some (replica r)) = Err Unbuilt
  export_under lab file name None there = Err (Missing file)
  export_under lab file name (Some (replica r)) there =
      Ok (effect (with_thing lab name (batch (exported r None))) (wrote_text (length (exported r None).ops)))

  abbrev pub merge_under : Lab Op → List ℕ → List ℕ → Option (Thing Op) → Option (Thing Op) → Result (Effect Op) Refusal
  merge_under lab file name (Some (batch b)) there = Err Unbuilt
  merge_under lab file name found (Some (replica r)) = Err Unbuilt
  merge_under lab file name None there = Err (Missing file)
  merge_under lab file name (Some (replica r)) None = Err (Missing name)
  merge_under lab file name (Some (replica r)) (Some (batch b)) =
      Ok (effect (with_thing lab file (replica (merged r b)))
      (delivered_text (length (merged r b).delivered - length r.delivered) (length (merged r b).waiting)))

  -- the effect of a command, or the cause for which it is refused
  abbrev pub act : Lab Op → Command → Result (Effect Op) Refusal
  act lab (New file member) = new_under lab file member (thing_at lab file)
  act lab (Edit file verb amount) = edit_under lab file (made verb amount) (thing_at lab file)
  act lab (Show file) = show_under lab file (thing_at lab file)
  act lab (Export file name) = export_under lab file name (thing_at lab file) (thing_at lab name)
  act lab (Merge file name) = merge_under lab file name (thing_at lab file) (thing_at lab name)
  act lab Play = Err Unbuilt
  act lab (Check table) = Err Unbuilt

  -- a line that is no command is refused too
  abbrev pub act_on : Lab Op → Option Command → Result (Effect Op) Refusal
  act_on lab None = Err Unbuilt
  act_on lab (Some command) = act lab command

  -- what a line leaves and prints, and whether it was refused
  pub record Outcome : Type 0 where
    pub lab : Lab Op
    pub text : List ℕ
    pub refused : Bool

  abbrev pub outcome_of : Lab Op → Result (Effect Op) Refusal → Outcome
  outcome_of lab (Ok e) = record { lab = e.lab; text = e.text; refused = false }
  outcome_of lab (Err cause) = record { lab = lab; text = refused_text cause; refused = true }

  unfoldable pub lab_step : Lab Op → List ℕ → Outcome
  lab_step lab line = outcome_of lab (act_on lab (command_of line))

  -- the lines of a script, one after another
  abbrev pub lab_run : Lab Op → List (List ℕ) → Outcome
  lab_run lab [] = record { lab = lab; text = []; refused = false }
  lab_run lab (line ∷ lines) =
      let first = lab_step lab line in
      let rest = lab_run first.lab lines in
      record { lab = rest.lab; text = first.text ++ rest.text; refused = first.refused || rest.refused }
