use Rattle.std.proofs.Common.{◌≡◌, ◌-◌, []}
use Rattle.wire_core.specs.Reading.{allows_each, read_each}
use Rattle.wire_core.specs.Calls.{IsInside, input_of}
use Rattle.wire_core.specs.Loop.{with_front}
use Rattle.wire_core.proofs.elements.take_each.Given as goal

abbrev pub invariant-loop : goal.invariant-loop
invariant-loop g l =
    let of = g.E.Elements.element l.elements in
    record {
      inside : IsInside l.from;
      rules : (input_of l.from).rules ≡ (input_of l.fn.from).rules;
      allowed : allows_each of (input_of l.fn.from).rules [] l.items.items;
      so_far : with_front of l.items.items (read_each of (l.count - l.counter) l.items.items (input_of l.from)) ≡ read_each of l.count [] (input_of l.fn.from);
    }
