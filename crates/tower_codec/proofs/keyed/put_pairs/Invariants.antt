use Rattle.std.proofs.Common.{◌≡◌, [], take}
use Rattle.vector_clock.specs.declared.clock.Clock.{Clock}
use Rattle.wire_core.specs.Reading.{spell_each}
use Rattle.wire_core.specs.Calls.{rules_of, wrote}
use Rattle.tower_codec.specs.Keyed.{pair_grammar}
use Rattle.tower_codec.proofs.keyed.put_pairs.Given as goal

abbrev pub invariant-loop-pair : goal.invariant-loop-pair
invariant-loop-pair g l = record {
  rules : rules_of l.out ≡ rules_of l.fn.out;
  written : (d : Clock) → l.out ≡ wrote l.fn.out (spell_each (pair_grammar (g.C.Coder.state_grammar l.coder l.tower d)) (rules_of l.fn.out) [] (take l.pair-index l.pairs));
}
