use Rattle.std.proofs.Common.{◌≡◌, drop}
use Rattle.wire_core.specs.Reading.{read_all}
use Rattle.wire_core.specs.Calls.{IsInside, input_of}
use Rattle.wire_core.specs.Loop.{with_all}
use Rattle.tower_codec.proofs.States.{at_clock}
use Rattle.tower_codec.proofs.row.take_states.Given as goal

abbrev pub invariant-loop-part : goal.invariant-loop-part
invariant-loop-part g l =
    let of = at_clock (g.C.Coder.state_grammar l.coder) l.d in
    record {
      inside : IsInside l.from;
      rules : (input_of l.from).rules ≡ (input_of l.fn.from).rules;
      so_far : with_all of l.states.items (read_all of (drop l.part-index l.parts) (input_of l.from)) ≡ read_all of l.parts (input_of l.fn.from);
    }
