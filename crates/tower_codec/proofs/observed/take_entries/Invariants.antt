use Rattle.std.proofs.Common.{◌≡◌, ◌-◌, []}
use Rattle.vector_clock.specs.declared.clock.Id.{Id}
use Rattle.crdt_laws.specs.Sets.{has_id}
use Rattle.wire_core.specs.Reading.{allows_each, read_each}
use Rattle.wire_core.specs.Calls.{IsInside, input_of}
use Rattle.wire_core.specs.Ids.{has}
use Rattle.wire_core.specs.Loop.{with_front}
use Rattle.tower_codec.specs.Observed.{logged_grammar}
use Rattle.tower_codec.proofs.observed.take_entries.Given as goal

abbrev pub invariant-loop : goal.invariant-loop
invariant-loop g l =
    let of = logged_grammar (g.C.Coder.op_grammar l.coder l.tower) (g.C.Coder.may_stand l.coder l.tower) l.d in
    record {
      inside : IsInside l.from;
      rules : (input_of l.from).rules ≡ (input_of l.fn.from).rules;
      allowed : allows_each of (input_of l.fn.from).rules [] l.entries.items;
      ids : (i : Id) → has l.ids.ids i ≡ has_id l.entries.items i;
      so_far : with_front of l.entries.items (read_each of (l.count - l.counter) l.entries.items (input_of l.from)) ≡ read_each of l.count [] (input_of l.fn.from);
    }
