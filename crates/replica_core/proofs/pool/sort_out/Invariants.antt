use Rattle.std.proofs.Common.{◌≡◌, not}
use Rattle.std.specs.List.{filter}
use Rattle.replica_core.specs.Frontier.{is_at_most}
use Rattle.replica_core.proofs.pool.sort_out.Given as goal

abbrev pub invariant-loop-e : goal.invariant-loop-e
invariant-loop-e g l = record {
  ready : l.ready ≡ filter (λ e. is_at_most e.stamp.clock l.front) l.yielded;
  unready : l.unready ≡ filter (λ e. not (is_at_most e.stamp.clock l.front)) l.yielded;
}
