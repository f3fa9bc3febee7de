-- Which of the operations that a grammar allows may stand at a stamp.
use Rattle.std.specs.Prelude.{◌↔◌, Bool, IsTrue}
use Rattle.vector_clock.specs.declared.stamp.Stamp.{Stamp}
use Rattle.crdt_laws.specs.Actor.{Action}
use Rattle.crdt_laws.specs.Tower.{Meaning, IsStampOf, IsWithin}
use Rattle.wire_core.specs.Reading.{Grammar, Rules}

-- an operation that is allowed in a document is valid at a stamp of it exactly where the test says so
pub record Tells {S O : Type 0} (m : Meaning S O) (g : Grammar O) (may_stand : Stamp → O → Bool) : Type 0 where
  pub each : (r : Rules) (p : Stamp) (x : O) → IsStampOf r.members p → IsWithin p → g.allows r x → IsTrue (may_stand p x) ↔ m.valid p x

-- an operation of the actor that is allowed in a document is valid at a stamp of it exactly where the test says so
pub record TellsActing {S L H : Type 0} (a : Action S L H) (g : Grammar H) (may_stand : Stamp → H → Bool) : Type 0 where
  pub each : (r : Rules) (p : Stamp) (y : H) → IsStampOf r.members p → IsWithin p → g.allows r y → IsTrue (may_stand p y) ↔ a.valid p y
