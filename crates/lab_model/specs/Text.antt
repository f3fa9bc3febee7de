-- What a line prints.
use Rattle.std.specs.Prelude.{ℕ, List, [], ◌∷◌, ◌++◌, codes}
use Rattle.std.specs.Fmt.{decimal}
use Rattle.serde_json.specs.Data.{Data, member, no_members, object}
use Rattle.serde_json.specs.Written.{compact_text}
use Rattle.action_tables.specs.FaultText.{fault_text}
use Rattle.action_tables.specs.declared.table.Verdict.{Verdict}
use Rattle.action_tables.specs.declared.table.Verdict.TheVariants.{Lawful, Broken}
use Rattle.lab_model.specs.declared.refusal.Refusal.{Refusal}
use Rattle.lab_model.specs.declared.refusal.Refusal.TheVariants.{Unbuilt, Exists, Missing, Table}

-- every text ends with one line feed
abbrev pub ended : List ℕ → List ℕ
ended text = text ++ 10 ∷ []

abbrev pub ok_text : List ℕ
ok_text = ended (codes "ok")

abbrev pub made_text : ℕ → List ℕ
made_text count = ended (codes "made " ++ decimal count)

abbrev pub wrote_text : ℕ → List ℕ
wrote_text count = ended (codes "wrote " ++ decimal count)

abbrev pub delivered_text : ℕ → ℕ → List ℕ
delivered_text delivered waiting = ended (codes "delivered " ++ decimal delivered ++ codes " waiting " ++ decimal waiting)

-- the document, an object with its one field n
abbrev pub document_text : Data → List ℕ
document_text n = ended (compact_text (object (member (codes "n") n no_members)))

-- what a check of a table finds
abbrev pub verdict_text : Verdict → List ℕ
verdict_text Lawful = ended (codes "lawful")
verdict_text (Broken law a b c) =
    ended (codes "broken " ++ decimal law ++ codes " " ++ decimal a ++ codes " " ++ decimal b ++ codes " " ++ decimal c)

abbrev pub refusal_text : Refusal → List ℕ
refusal_text Unbuilt = codes "unbuilt"
refusal_text (Exists name) = codes "exists " ++ name
refusal_text (Missing name) = codes "missing " ++ name
refusal_text (Table fault) = codes "table " ++ fault_text fault

abbrev pub refused_text : Refusal → List ℕ
refused_text refusal = ended (codes "refused " ++ refusal_text refusal)
