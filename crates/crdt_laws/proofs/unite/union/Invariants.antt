use Rattle.std.proofs.Common.{◌≡◌, ◌+◌, ◌++◌}
use Rattle.std.specs.List.{All}
use Rattle.std.specs.VecDeque.{deque_len}
use Rattle.vector_clock.specs.Stamp.{IsStamp}
use Rattle.crdt_laws.specs.Interleaved.{interleaved}
use Rattle.crdt_laws.proofs.unite.union.Given as goal

abbrev pub invariant-loop-right : goal.invariant-loop-right
invariant-loop-right g l = record {
  same : l.joined ++ interleaved l.left.items l.right.items ≡ interleaved l.fn.xs l.fn.ys;
  left : All (λ e. IsStamp e.stamp) l.left.items;
  right : All (λ e. IsStamp e.stamp) l.right.items;
}

abbrev pub decreases-loop-right : goal.decreases-loop-right
decreases-loop-right g l = deque_len l.left + deque_len l.right
