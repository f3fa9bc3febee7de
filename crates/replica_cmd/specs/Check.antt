-- What a check of a table finds, and says.
use Rattle.std.specs.Prelude.{◌≡◌, ◌≢◌, ◌⊎◌, ℕ, List, Bool, true, false, Option, None, Some}
use Rattle.action_tables.specs.Table.{ActionTable}
use Rattle.action_tables.specs.TableText.{HasTextFault, Spells}
use Rattle.action_tables.specs.Verdict.{IsVerdict}
use Rattle.action_tables.specs.declared.named.TableFault.{TableFault}
use Rattle.action_tables.specs.declared.named.TableFault.TheVariants.{NoMemory}
use Rattle.action_tables.specs.declared.table.Verdict.{Verdict}
use Rattle.action_tables.specs.declared.table.Verdict.TheVariants.{Lawful, Broken}
use Rattle.lab_store.specs.Stream.{Appends, AppendsPart}
use Rattle.lab_model.specs.Text.{refused_text, verdict_text}
use Rattle.lab_model.specs.declared.refusal.Refusal.TheVariants.{Missing, Table}

abbrev pub is_broken : Verdict → Bool
is_broken Lawful = false
is_broken (Broken law a b c) = true

-- the bytes are no table, for this cause
pub record SaysFault (bytes text : List ℕ) (bad : Bool) : Type 0 where
  pub fault : TableFault
  pub found : HasTextFault bytes fault
  pub of_text : fault ≢ NoMemory
  pub said : text ≡ refused_text (Table fault)
  pub told : bad ≡ true

-- the bytes spell a table with this verdict
pub record SaysVerdict (bytes text : List ℕ) (bad : Bool) : Type 0 where
  pub table : ActionTable
  pub states : List (List ℕ)
  pub ops : List (List ℕ)
  pub spelled : Spells bytes table states ops
  pub verdict : Verdict
  pub found : IsVerdict table verdict
  pub said : text ≡ verdict_text verdict
  pub told : bad ≡ is_broken verdict

-- what is found of the bytes, and whether it is bad
abbrev pub IsFinding : List ℕ → List ℕ → Bool → Type 0
IsFinding bytes text bad = SaysFault bytes text bad ⊎ SaysVerdict bytes text bad

-- what is found of the file of this name, if there is one
abbrev pub Says : Option (List ℕ) → List ℕ → List ℕ → Bool → Type 0
Says None name text bad = (text ≡ refused_text (Missing name)) × (bad ≡ true)
Says (Some bytes) name text bad = IsFinding bytes text bad

-- that was put
pub record PutsFinding (file : Option (List ℕ)) (name : List ℕ) (before after : Option (List ℕ)) (bad : Bool) : Type 0 where
  pub text : List ℕ
  pub says : Says file name text bad
  pub put : Appends before after text

-- or part of it
pub record PutsPart (file : Option (List ℕ)) (name : List ℕ) (before after : Option (List ℕ)) : Type 0 where
  pub text : List ℕ
  pub bad : Bool
  pub says : Says file name text bad
  pub put : AppendsPart before after text
