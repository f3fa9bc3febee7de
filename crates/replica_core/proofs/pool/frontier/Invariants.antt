use Rattle.std.proofs.Common.{◌≡◌, take}
use Rattle.replica_core.specs.Frontier.{frontier}
use Rattle.replica_core.specs.Kept.{IsKnown}
use Rattle.replica_core.proofs.pool.frontier.Given as goal

abbrev pub invariant-loop-e : goal.invariant-loop-e
invariant-loop-e g l = record {
  frontier : l.front ≡ frontier l.n (take l.e-index l.ops);
  known : IsKnown l.n l.front;
}
