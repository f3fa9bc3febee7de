-- The program's lab, seen as the lab of the definitions, and what its calls do to it.
use Rattle.std.specs.Prelude.{◌≡◌, ℕ, ◌+◌, List, OnOk, Option, None, Some, Result, Ok, Err, insert, map, String, string_bytes}
use Rattle.std.specs.declared.alloc.Global.{Global}
use Rattle.std.specs.List.{All}
use Rattle.replica_model.specs.Replica.{Replica, members}
use Rattle.replica_model.specs.Family as family
use Rattle.replica_model.specs.Family.{Thing}
use Rattle.replica_core.specs.Kept.{IsKept, IsKeptBatch, IsReplicaUpTo, IsBatchUpTo}
use Rattle.lab_model.specs.declared.refusal.Refusal.{Refusal}
use Rattle.lab_model.specs.declared.refusal.Refusal.TheVariants.{Unbuilt, Missing}
use Rattle.lab_model.specs.Lab.{Lab, Effect, effect, pair_members, with_thing}
use Rattle.lab_model.specs.Honest.{things}
use Rattle.replica_cmd.specs.declared.lab.Lab as lab
use Rattle.replica_cmd.specs.declared.things.Named as named
use Rattle.replica_cmd.specs.declared.things.Thing as thing
use Rattle.replica_cmd.specs.declared.things.Hindrance.{Hindrance}
use Rattle.replica_cmd.specs.declared.things.Hindrance.TheVariants.{Refused, NoMemory}
use Rattle.number_crdts.specs.Number.{number_meaning, NumberOp}

abbrev pub thing_of : thing.Thing → Thing NumberOp
thing_of (thing.TheVariants.Replica r) = family.replica r
thing_of (thing.TheVariants.Batch b) = family.batch b

abbrev pub pair_of : named.Named → List ℕ × Thing NumberOp
pair_of n = (n.name, thing_of n.thing)

-- the things by name
abbrev pub lab_of : List named.Named → Lab NumberOp
lab_of items = map pair_of items

abbrev pub contents : lab.Lab → Lab NumberOp
contents l = lab_of l.things.items

-- the replica under a name, or the cause for which a line that needs one is refused
abbrev pub replica_or : List ℕ → Option (Thing NumberOp) → Result (Replica NumberOp) Refusal
replica_or file (Some (family.replica r)) = Ok r
replica_or file (Some (family.batch b)) = Err Unbuilt
replica_or file None = Err (Missing file)

-- what is put at the place goes under the name
pub record IsPlaceOf (before after : Lab NumberOp) (place : ℕ) (name : List ℕ) : Type 0 where
  pub back : (t : Thing NumberOp) → insert after place (name, t) ≡ with_thing before name t

-- an answer is the effect that the lab then shows, or the cause of a refusal, or that it ran out of memory
abbrev pub Answers : Result (String Global) Hindrance → Lab NumberOp → Result (Effect NumberOp) Refusal → Type 0
Answers (Ok text) after done = done ≡ Ok (effect after (string_bytes text))
Answers (Err (Refused cause)) after done = done ≡ Err cause
Answers (Err NoMemory) after done = Unit {0}

-- what every thing keeps, whoever made its operations
abbrev pub IsKeptThing : Thing NumberOp → Type 0
IsKeptThing (family.replica r) = IsKept (number_meaning 0) r × (members r ≡ pair_members)
IsKeptThing (family.batch b) = IsKeptBatch (number_meaning 0) pair_members b

abbrev pub IsKeptLab : Lab NumberOp → Type 0
IsKeptLab lab = All IsKeptThing (things lab)

-- no clock of the lab counts more than k operations of a member
abbrev pub IsThingUpTo : ℕ → Thing NumberOp → Type 0
IsThingUpTo k (family.replica r) = IsReplicaUpTo k r
IsThingUpTo k (family.batch b) = IsBatchUpTo k b

abbrev pub IsLabUpTo : ℕ → Lab NumberOp → Type 0
IsLabUpTo k lab = All (IsThingUpTo k) (things lab)

-- as many operations of a member as leave room for one more
abbrev pub most_made : ℕ
most_made = 999999

-- what a handler leaves, whatever is honest: a refusal changes nothing, all that is there is kept well, and no clock
-- counts more than one operation more
pub record Keeps (before after : Lab NumberOp) (result : Result (String Global) Hindrance) : Type 0 where
  pub refused : (cause : Refusal) → result ≡ Err (Refused cause) → after ≡ before
  pub kept : OnOk result (IsKeptLab after)
  pub up_to : (k : ℕ) → IsLabUpTo k before → OnOk result (IsLabUpTo (k + 1) after)
