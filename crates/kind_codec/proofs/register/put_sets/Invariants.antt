use Rattle.std.proofs.Common.{◌≡◌, [], take}
use Rattle.vector_clock.specs.declared.clock.Clock.{Clock}
use Rattle.wire_core.specs.Reading.{spell_each}
use Rattle.wire_core.specs.Calls.{rules_of, wrote}
use Rattle.kind_codec.specs.Registers.{held_grammar}
use Rattle.kind_codec.proofs.register.put_sets.Given as goal

abbrev pub invariant-loop-held : goal.invariant-loop-held
invariant-loop-held l = record {
  rules : rules_of l.out ≡ rules_of l.fn.out;
  written : (d : Clock) → l.out ≡ wrote l.fn.out (spell_each (held_grammar d) (rules_of l.fn.out) [] (take l.held-index l.sets));
}
