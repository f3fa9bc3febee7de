use Rattle.std.proofs.Common.{◌∙◌, ◌≡◌, ◌<◌, ap, length, subst, sym}
use Rattle.std.specs.List.{All}
use Rattle.std.proofs.Math.ListN.{set, length-set}
use Rattle.vector_clock.specs.Clock.{join}
use Rattle.crdt_laws.proofs.Loops.{item_of}
use Rattle.replica_model.specs.Replica.{heard_op, row}
use Rattle.replica_core.specs.Kept.{IsKnown}
use Rattle.replica_core.specs.Rows.{IsFrom}
use Rattle.replica_core.proofs.Joins.{known-join}
use Rattle.replica_core.proofs.Steps.{fold_item, known_clock, with_row_known}
use Rattle.replica_core.proofs.rows.heard.Goals as goal

pub loop-e-preserved : goal.loop-e-preserved
loop-e-preserved g c =
    let n = length c.args.rows in
    let rows = c.loop-e.heard in
    let e = c.e-item.result in
    let j = e.stamp.member in
    let from : IsFrom n e = item_of (IsFrom n) c.args.ops.now c.loop-e.e-index e c.requires.ops c.loop-e-test.true c.e-item.is in
    let one : e.stamp.clock.n ≡ n = from.stamp.members in
    let member : j < length rows = subst (λ k. j < k) (one ∙ sym c.loop-e.invariant.len) from.stamp.stamp.member in
    let is : c.with_row-heard.result ≡ heard_op rows e =
    c.with_row-heard.ensures ∙ ap (set rows j) (c.join-joined.ensures.made ∙ ap (λ k. join k e.stamp.clock) c.row.ensures) in
    record {
      heard = fold_item heard_op c.args.rows c.args.ops.now c.loop-e.e-index e rows c.with_row-heard.result c.loop-e-test.true c.e-item.is c.loop-e.invariant.heard is;
      len = ap length is ∙ length-set rows j (join (row rows j) e.stamp.clock) ∙ c.loop-e.invariant.len;
      known = subst (All (IsKnown n)) (sym is) (with_row_known (IsKnown n) (known-join n) rows j e.stamp.clock c.loop-e.invariant.known (known_clock n e from) member);
    }
