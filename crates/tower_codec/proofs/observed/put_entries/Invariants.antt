use Rattle.std.proofs.Common.{◌≡◌, [], take}
use Rattle.vector_clock.specs.declared.clock.Clock.{Clock}
use Rattle.wire_core.specs.Reading.{spell_each}
use Rattle.wire_core.specs.Calls.{rules_of, wrote}
use Rattle.tower_codec.specs.Observed.{logged_grammar}
use Rattle.tower_codec.proofs.observed.put_entries.Given as goal

abbrev pub invariant-loop-entry : goal.invariant-loop-entry
invariant-loop-entry g l = record {
  rules : rules_of l.out ≡ rules_of l.fn.out;
  written : (d : Clock) → l.out ≡ wrote l.fn.out
      (spell_each (logged_grammar (g.C.Coder.op_grammar l.coder l.tower) (g.C.Coder.may_stand l.coder l.tower) d) (rules_of l.fn.out) [] (take l.entry-index l.entries));
}
