use Rattle.std.proofs.Common.{◌≡◌, ◌-◌, [], List}
use Rattle.vector_clock.specs.declared.clock.Id.{Id}
use Rattle.wire_core.specs.Reading.{read_each}
use Rattle.wire_core.specs.Calls.{IsInside, input_of}
use Rattle.wire_core.specs.Loop.{with_front}
use Rattle.wire_core.specs.Clocks.{op_grammar}
use Rattle.wire_core.proofs.Ops.{IsSoFar}
use Rattle.wire_core.proofs.clock.take_ops.Given as goal

abbrev pub invariant-loop : goal.invariant-loop
invariant-loop l = record {
  front : List Id;
  inside : IsInside l.from;
  so_far : with_front (λ _. op_grammar) front (read_each (λ _. op_grammar) (l.count - l.counter) front (input_of l.from)) ≡ read_each (λ _. op_grammar) l.count [] (input_of l.initial.from);
  kept : IsSoFar l.n l.rising l.least l.at front;
}
