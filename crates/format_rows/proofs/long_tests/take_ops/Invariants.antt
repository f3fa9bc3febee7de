use Rattle.std.proofs.Common.{◌≡◌}
use Rattle.std.specs.List.{All}
use Rattle.wire_core.specs.Calls.{IsInside, input_of}
use Rattle.format_rows.specs.Members.{one_member}
use Rattle.format_rows.proofs.long_tests.take_ops.Given as goal

abbrev pub invariant-loop : goal.invariant-loop
invariant-loop g l = record {
  inside : IsInside l.from;
  rules : (input_of l.from).rules ≡ one_member;
  allowed : All (λ x. (g.C.Coder.op_grammar l.coder l.tower).allows one_member x) l.ops.items;
}
