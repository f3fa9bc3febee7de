use Rattle.std.proofs.Common.{◌≡◌, ◌++◌}
use Rattle.crdt_laws.proofs.unite.move_all.Given as goal

abbrev pub invariant-loop-e : goal.invariant-loop-e
invariant-loop-e g l = l.to ≡ l.initial.to ++ l.yielded
