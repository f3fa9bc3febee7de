use Rattle.std.proofs.Common.{◌≡◌, ◌∙◌, ◌+◌, ap, subst, sym}
use Rattle.std.proofs.Math.ListN.{set}
use Rattle.vector_clock.specs.declared.clock.Id.{Id}
use Rattle.vector_clock.specs.Clock.{count, with_entry, zero_clock}
use Rattle.vector_clock.specs.Stamp.{id_of}
use Rattle.crdt_laws.proofs.Loops.{item_of}
use Rattle.replica_core.specs.Frontier.{counted}
use Rattle.replica_core.specs.Kept.{IsKnown}
use Rattle.replica_core.specs.Rows.{IsFrom}
use Rattle.replica_core.proofs.Frontier.{counted_hit, counted_miss, known-counted}
use Rattle.replica_core.proofs.Joins.{known_zero}
use Rattle.replica_core.proofs.Steps.{fold_item}
use Rattle.replica_core.proofs.pool.frontier.Goals as goal
use Rattle.replica_core.proofs.pool.frontier.Goals.{then-id-count, else-id-count}

pub loop-e-init : goal.loop-e-init
loop-e-init g c = record {
  frontier = c.zero-front.ensures.made;
  known = subst (IsKnown c.args.n) (sym c.zero-front.ensures.made) (known_zero c.args.n c.requires.some c.requires.most);
}

pub loop-e-preserved : goal.loop-e-preserved
loop-e-preserved g c =
    let n = c.args.n in
    let xs = c.args.ops.now in
    let i = c.loop-e.e-index in
    let e = c.e-item.result in
    let k = c.loop-e.front in
    let from : IsFrom n e = item_of (IsFrom n) xs i e c.requires.ops c.loop-e-test.true c.e-item.is in
    let more : (j : _) → j ≡ counted k e → _ = λ j is. fold_item counted (zero_clock n) xs i e k j c.loop-e-test.true c.e-item.is c.loop-e.invariant.frontier is in
    let id : c.id-id.result ≡ id_of e.stamp = c.id-id.ensures in
    let seq : c.id-id.result.seq ≡ count e.stamp.clock e.stamp.member = ap (λ (j : Id). j.seq) id in
    let next : c.count.result + 1 ≡ count k e.stamp.member + 1 = ap (λ j. j + 1) (c.count.ensures ∙ ap (λ (j : Id). count k j.member) id) in
    elim c.if-id-count.branch [
      | then-id-count w ↦
          (let is : c.if-id-count.front ≡ with_entry k e.stamp.member (count e.stamp.clock e.stamp.member) =
          w.front-is ∙ ap (λ i. record { n = k.n; at = set k.at i c.id-id.result.seq }) w.from.ensures ∙ ap (λ (j : Id). with_entry k j.member j.seq) id in
          record {
            frontier = more c.if-id-count.front (is ∙ counted_hit k e (sym seq ∙ w.if-id-count.true ∙ next));
            known = subst (IsKnown n) (sym is) (known-counted n k e c.loop-e.invariant.known from);
          })
      | else-id-count w ↦
          record {
            frontier = more c.if-id-count.front (w.front-is ∙ counted_miss k e (λ h. w.if-id-count.false (seq ∙ h ∙ sym next)));
            known = subst (IsKnown n) (sym w.front-is) c.loop-e.invariant.known;
          }
    ]
