use Rattle.std.proofs.Common.{◌≡◌, [], take}
use Rattle.wire_core.specs.Reading.{spell_each}
use Rattle.wire_core.specs.Calls.{rules_of, wrote}
use Rattle.kind_codec.specs.Marks.{entry_grammar}
use Rattle.kind_codec.proofs.marks.put_entries.Given as goal

abbrev pub invariant-loop-entry : goal.invariant-loop-entry
invariant-loop-entry l = l.out ≡ wrote l.fn.out (spell_each (entry_grammar l.marks) (rules_of l.fn.out) [] (take l.entry-index l.entries))
