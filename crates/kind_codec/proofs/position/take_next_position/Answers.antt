use Rattle.std.proofs.Common.{◌≤◌, length, nat_le, arith}
use Rattle.std.proofs.lemmas.Bool.{leb-true}
use Rattle.list_crdt.specs.Position.{max_steps}
use Rattle.wire_core.specs.Calls.{input_of}
use Rattle.wire_core.specs.ClocksExact.{both}
use Rattle.wire_core.specs.Taken.{taken_allowed}
use Rattle.kind_codec.specs.Position.{position_exact, position_grammar}
use Rattle.kind_codec.specs.Position.{position_long}
use Rattle.kind_codec.proofs.position.take_next_position.Goals as goal

pub maker-requires : goal.maker-requires
maker-requires g c =
    let h = taken_allowed position_grammar position_exact c.args.from.now c.in_ok-position.position (input_of c.take_position.new.from) c.requires c.in_ok-position.ensures.0 in
    let p = c.in_ok-position.position in
    let some : 1 ≤ length p = leb-true 1 (length p) (both (nat_le 1 (length p)) (nat_le (length p) max_steps) h.0.0.1).0 in
    omega (arith, some)

pub overflow_sub-result : goal.overflow_sub-result
overflow_sub-result g c = omega (arith, position_long (input_of c.args.from.now) c.in_ok-position.position (input_of c.take_position.new.from) c.in_ok-position.ensures.0)
