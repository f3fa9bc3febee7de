use Rattle.std.proofs.Common.{◌≡◌, [], length, take}
use Rattle.wire_core.specs.Reading.{spell_each}
use Rattle.wire_core.specs.Calls.{rules_of, wrote}
use Rattle.kind_codec.specs.Position.{step_at}
use Rattle.kind_codec.proofs.position.put_steps.Given as goal

abbrev pub invariant-loop-step : goal.invariant-loop-step
invariant-loop-step l = l.out ≡ wrote l.fn.out (spell_each (step_at (length l.steps)) (rules_of l.fn.out) [] (take l.step-index l.steps))
