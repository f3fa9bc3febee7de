use Rattle.std.proofs.Common.{◌≡◌, true, false, take}
use Rattle.std.specs.List.{All}
use Rattle.vector_clock.specs.Stamp.{is_below, same_id}
use Rattle.crdt_laws.specs.declared.small.Entry.{Entry}
use Rattle.rich_text.proofs.tests.comes_last.Given as goal

abbrev pub invariant-loop-e : goal.invariant-loop-e
invariant-loop-e g l = All (λ (e : Entry _). (is_below e.stamp l.stamp ≡ true) × (same_id e.stamp l.stamp ≡ false)) (take l.e-index l.entries)
