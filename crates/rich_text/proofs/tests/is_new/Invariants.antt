use Rattle.std.proofs.Common.{◌≡◌, false, take}
use Rattle.std.specs.List.{All}
use Rattle.vector_clock.specs.Stamp.{same_id}
use Rattle.crdt_laws.specs.declared.small.Entry.{Entry}
use Rattle.rich_text.proofs.tests.is_new.Given as goal

abbrev pub invariant-loop-e : goal.invariant-loop-e
invariant-loop-e g l = All (λ (e : Entry _). same_id l.stamp e.stamp ≡ false) (take l.e-index l.entries)
