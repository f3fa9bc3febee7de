use Rattle.std.proofs.Common.{subst, sym}
use Rattle.vector_clock.specs.Clock.{join, zero_clock}
use Rattle.crdt_laws.proofs.Loops.{item_of}
use Rattle.replica_core.specs.Kept.{IsKnown}
use Rattle.replica_core.specs.Rows.{IsFrom}
use Rattle.replica_core.proofs.Joins.{known-join, known_zero}
use Rattle.replica_core.proofs.Steps.{fold_item, known_clock}
use Rattle.replica_core.proofs.rows.version.Goals as goal

pub loop-e-init : goal.loop-e-init
loop-e-init g c = record {
  version = c.zero-known.ensures.made;
  known = subst (IsKnown c.args.n) (sym c.zero-known.ensures.made) (known_zero c.args.n c.requires.some c.requires.most);
}

pub loop-e-preserved : goal.loop-e-preserved
loop-e-preserved g c =
    let n = c.args.n in
    let e = c.e-item.result in
    let k = c.loop-e.known in
    let from : IsFrom n e = item_of (IsFrom n) c.args.ops.now c.loop-e.e-index e c.requires.ops c.loop-e-test.true c.e-item.is in
    record {
      version = fold_item (λ j d. join j d.stamp.clock) (zero_clock n) c.args.ops.now c.loop-e.e-index e k c.join-known.result c.loop-e-test.true c.e-item.is c.loop-e.invariant.version c.join-known.ensures.made;
      known = subst (IsKnown n) (sym c.join-known.ensures.made) (known-join n k e.stamp.clock c.loop-e.invariant.known (known_clock n e from));
    }
