use Rattle.std.proofs.Common.{◌≡◌}
use Rattle.wire_core.specs.Calls.{rules_of}
use Rattle.format_rows.proofs.long_tests.put_ops.Given as goal

abbrev pub invariant-loop-op : goal.invariant-loop-op
invariant-loop-op g l = rules_of l.out ≡ rules_of l.fn.out
