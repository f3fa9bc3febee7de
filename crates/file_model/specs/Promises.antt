-- Words in which users are told what they may rely on.
use Rattle.std.specs.Prelude.{◌≡◌, ℕ, List, [], ◌∷◌, Bool, true, false, Option, None, Some, map}
use Rattle.std.specs.List.{Contains, IsDistinct}
use Rattle.std.specs.Str.{bytes_eq}
use Rattle.crdt_laws.specs.declared.small.Entry.{Entry}
use Rattle.replica_model.specs.Replica.{Replica}
use Rattle.kind_edits.specs.declared.fault.EditError.TheVariants as edits
use Rattle.doc_schema.specs.declared.fault.SchemaError.TheVariants as schemas
use Rattle.action_tables.specs.declared.named.TableFault.TheVariants as tables
use Rattle.file_model.specs.declared.command.Command.TheVariants.{Export, Merge}
use Rattle.file_model.specs.declared.refusal.Refusal.{Refusal}
use Rattle.file_model.specs.declared.refusal.Refusal.TheVariants.{BadOp, Rollback, Fork, Edit, Schema, Table}
use Rattle.file_model.specs.Line.{command_of}

-- a later state of a replica: it is of the same document and member, and has all that was delivered
pub record IsLater {Op : Type 0} (r s : Replica Op) : Type 0 where
  pub doc : s.doc ≡ r.doc
  pub me : s.me ≡ r.me
  pub delivered : (e : Entry Op) → Contains r.delivered e → Contains s.delivered e

-- an export that leaves out nothing which the member may lack: it is for all members, or for this one
abbrev pub IsMeantFor : ℕ → Option ℕ → Type 0
IsMeantFor me None = Unit {0}
IsMeantFor me (Some j) = j ≡ me

-- the lines by which the replicas in two files send each other all that they have, in two batches
pub record AreExchange (a b sent back : List ℕ) (lines : List (List ℕ)) : Type 0 where
  pub names : IsDistinct bytes_eq (a ∷ b ∷ sent ∷ back ∷ [])
  pub commands : map command_of lines ≡ Some (Export a sent None) ∷ Some (Export b back None) ∷ Some (Merge b sent) ∷ Some (Merge a back) ∷ []

-- causes that only a forged batch gives, or a file that was put back
abbrev pub is_forgery : Refusal → Bool
is_forgery (BadOp member seq) = true
is_forgery (Rollback mine got) = true
is_forgery (Fork member seq) = true
is_forgery cause = false

-- running out of memory, which is no cause of a refusal
abbrev pub is_memory : Refusal → Bool
is_memory (Edit edits.NoMemory) = true
is_memory (Schema schemas.NoMemory) = true
is_memory (Table tables.NoMemory) = true
is_memory cause = false
