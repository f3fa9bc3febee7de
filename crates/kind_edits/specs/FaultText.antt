-- What is printed of an edit that is refused, and how a position that is refused refuses an edit.
use Rattle.std.specs.Prelude.{ℕ, List, ◌++◌, codes}
use Rattle.std.specs.Fmt.{decimal}
use Rattle.list_crdt.specs.declared.gap.ListError.{ListError}
use Rattle.list_crdt.specs.declared.gap.ListError.TheVariants as list
use Rattle.kind_edits.specs.declared.fault.EditError.{EditError}
use Rattle.kind_edits.specs.declared.fault.EditError.TheVariants.{NoField, NoVerb, KeyLong, BadNumber, TextLong, IndexOut, PositionFull, NoMemory}

abbrev pub fault_text : EditError → List ℕ
fault_text NoField = codes "no-field"
fault_text NoVerb = codes "no-verb"
fault_text (KeyLong bytes) = codes "key-long " ++ decimal bytes
fault_text BadNumber = codes "bad-number"
fault_text (TextLong bytes) = codes "text-long " ++ decimal bytes
fault_text (IndexOut len) = codes "index-out " ++ decimal len
fault_text (PositionFull steps) = codes "position-full " ++ decimal steps
fault_text NoMemory = codes "no-memory"

abbrev pub list_fault : ListError → EditError
list_fault (list.PositionFull steps) = PositionFull steps
list_fault list.NoMemory = NoMemory
