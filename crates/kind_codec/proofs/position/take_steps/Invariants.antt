use Rattle.std.proofs.Common.{◌≡◌, ◌-◌, [], length}
use Rattle.wire_core.specs.Reading.{read_each}
use Rattle.wire_core.specs.Calls.{IsInside, input_of}
use Rattle.wire_core.specs.Loop.{with_front}
use Rattle.kind_codec.specs.Position.{step_at}
use Rattle.kind_codec.proofs.position.take_steps.Given as goal

abbrev pub invariant-loop-i : goal.invariant-loop-i
invariant-loop-i l = record {
  inside : IsInside l.from;
  count : length l.steps.items ≡ l.i;
  so_far : with_front (step_at l.count) l.steps.items (read_each (step_at l.count) (l.count - l.i) l.steps.items (input_of l.from)) ≡ read_each (step_at l.count) l.count [] (input_of l.fn.from);
}
