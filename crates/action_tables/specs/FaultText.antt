-- What is printed of a fault of a table, and of a verdict.
use Rattle.std.specs.Prelude.{ℕ, List, ◌++◌, codes}
use Rattle.std.specs.Fmt.{decimal}
use Rattle.action_tables.specs.declared.table.Shape.{Shape}
use Rattle.action_tables.specs.declared.table.Shape.TheVariants.{Size, Level, Entry}
use Rattle.action_tables.specs.declared.table.Verdict.{Verdict}
use Rattle.action_tables.specs.declared.table.Verdict.TheVariants.{Lawful, Broken}
use Rattle.action_tables.specs.declared.named.TableFault.{TableFault}
use Rattle.action_tables.specs.declared.named.TableFault.TheVariants.{NotJson, Form, Name, Twice, NoMemory, Shape as ShapeFault}

abbrev pub shape_text : Shape → List ℕ
shape_text Size = codes "size"
shape_text Level = codes "level"
shape_text (Entry at) = codes "entry " ++ decimal at

abbrev pub fault_text : TableFault → List ℕ
fault_text NotJson = codes "not-json"
fault_text Form = codes "form"
fault_text Name = codes "name"
fault_text Twice = codes "twice"
fault_text (ShapeFault shape) = shape_text shape
fault_text NoMemory = codes "no-memory"

abbrev pub verdict_text : Verdict → List ℕ
verdict_text Lawful = codes "lawful"
verdict_text (Broken law a b c) =
    codes "broken " ++ decimal law ++ codes " " ++ decimal a ++ codes " " ++ decimal b ++ codes " " ++ decimal c
