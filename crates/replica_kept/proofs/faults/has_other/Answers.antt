use Rattle.std.proofs.Common.{◌≡◌, subst}
use Rattle.std.proofs.lemmas.Bool.{both_ways}
use Rattle.std.proofs.lemmas.List.{take_all}
use Rattle.vector_clock.specs.Stamp.{id_of}
use Rattle.replica_kept.specs.Merging.{HasNoOther}
use Rattle.replica_kept.proofs.OneId.{all_more, ids_differ, ids_same, item_inside, other_at}
use Rattle.replica_kept.proofs.faults.has_other.Goals as goal
use Rattle.replica_kept.proofs.faults.has_other.Goals.{else-eq-via-then-eq+else-not-is_same, else-eq-via-else-eq}

pub returns-then-not-is_same-clause-forked : goal.returns-then-not-is_same-clause-forked
returns-then-not-is_same-clause-forked g c = λ _.
    let f = c.f-item.result in
    let e = c.args.e.now in
    other_at c.args.entries.now e f (item_inside c.args.entries.now c.loop-f.f-index f c.loop-f-test.true c.f-item.is)
    (ids_same c.id.result c.id-in-loop-f.result (id_of f.stamp) (id_of e.stamp) c.eq.result c.id.ensures c.id-in-loop-f.ensures c.eq.ensures c.if-eq.true)
    (λ same. both_ways c.is_same.result c.if-not-is_same.true (c.is_same.ensures.1 same))

pub loop-f-preserved : goal.loop-f-preserved
loop-f-preserved g c =
    let e = c.args.e.now in
    all_more c.args.entries.now c.loop-f.f-index c.f-item.result c.loop-f-test.true c.f-item.is (λ f. id_of f.stamp ≡ id_of e.stamp → f ≡ e) c.loop-f.invariant
    (λ same. elim c.else-eq.branch [
      | else-eq-via-then-eq+else-not-is_same w ↦ w.is_same.ensures.0 w.if-not-is_same.false
      | else-eq-via-else-eq w ↦ absurd (ids_differ c.id.result c.id-in-loop-f.result (id_of c.f-item.result.stamp) (id_of e.stamp) c.eq.result c.id.ensures c.id-in-loop-f.ensures c.eq.ensures w.if-eq.false same)
    ])

pub returns-clause-same : goal.returns-clause-same
returns-clause-same g c = λ _. subst (λ l. HasNoOther l c.args.e.now) (take_all c.loop-f.f-index c.args.entries.now c.loop-f-test.false) c.loop-f.invariant
