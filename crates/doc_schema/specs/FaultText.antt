-- What is printed of a fault of a schema.
use Rattle.std.specs.Prelude.{ℕ, List, ◌++◌, codes}
use Rattle.std.specs.Fmt.{decimal}
use Rattle.action_tables.specs.FaultText.{shape_text, verdict_text}
use Rattle.doc_schema.specs.declared.fault.TableRefusal.{TableRefusal}
use Rattle.doc_schema.specs.declared.fault.TableRefusal.TheVariants as refusal
use Rattle.doc_schema.specs.declared.fault.SchemaError.{SchemaError}
use Rattle.doc_schema.specs.declared.fault.SchemaError.TheVariants.{Long, NotJson, Shape, Members, Modulus, Name, Twice, Table, NoMemory}

abbrev pub refusal_text : TableRefusal → List ℕ
refusal_text (refusal.Shape shape) = shape_text shape
refusal_text (refusal.Broken verdict) = verdict_text verdict

abbrev pub fault_text : SchemaError → List ℕ
fault_text (Long bytes) = codes "long " ++ decimal bytes
fault_text NotJson = codes "not-json"
fault_text (Shape field) = codes "shape " ++ decimal field
fault_text (Members n) = codes "members " ++ decimal n
fault_text (Modulus field got) = codes "modulus " ++ decimal field ++ codes " " ++ decimal got
fault_text (Name field) = codes "name " ++ decimal field
fault_text (Twice field) = codes "twice " ++ decimal field
fault_text (Table field fault) = codes "table " ++ decimal field ++ codes " " ++ refusal_text fault
fault_text NoMemory = codes "no-memory"
