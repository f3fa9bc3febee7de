use Rattle.std.proofs.Common.{◌≡◌, [], ◌++◌, length, take}
use Rattle.wire_core.specs.Reading.{number, spell_each}
use Rattle.wire_core.specs.Calls.{rules_of, wrote}
use Rattle.wire_core.specs.Clocks.{last_ops, op_grammar}
use Rattle.wire_core.proofs.clock.put_ops.Given as goal

abbrev pub invariant-loop-member : goal.invariant-loop-member
invariant-loop-member l = l.out ≡ wrote l.fn.out ((number 1).spell (rules_of l.fn.out) (length (last_ops 0 l.entries)) ++ spell_each (λ _. op_grammar) (rules_of l.fn.out) [] (last_ops 0 (take l.member l.entries)))
