use Rattle.std.proofs.lemmas.Bool.{both_ways}
use Rattle.std.proofs.lemmas.List.{take_all}
use Rattle.std.proofs.Common.{subst}
use Rattle.std.specs.List.{All}
use Rattle.replica_kept.proofs.OneId.{all_more, first_at}
use Rattle.replica_kept.proofs.faults.bad_op.Goals as goal

pub returns-then-not-valid-clause-bad : goal.returns-then-not-valid-clause-bad
returns-then-not-valid-clause-bad g c =
    let t = g.T.Tower.meaning c.args.tower.now in
    first_at c.args.ops.now c.loop-e.e-index c.e-item.result c.loop-e-test.true c.e-item.is (λ e. t.valid e.stamp e.op → ⊥) c.id.result (λ k d l bad. bad (c.loop-e.invariant k d l))
    (λ v. both_ways c.valid.result c.if-not-valid.true (c.valid.ensures.1 v)) c.id.ensures

pub loop-e-preserved : goal.loop-e-preserved
loop-e-preserved g c =
    let t = g.T.Tower.meaning c.args.tower.now in
    all_more c.args.ops.now c.loop-e.e-index c.e-item.result c.loop-e-test.true c.e-item.is (λ e. t.valid e.stamp e.op) c.loop-e.invariant (c.valid.ensures.0 c.if-not-valid.false)

pub returns-clause-good : goal.returns-clause-good
returns-clause-good g c =
    let t = g.T.Tower.meaning c.args.tower.now in
    subst (All (λ e. t.valid e.stamp e.op)) (take_all c.loop-e.e-index c.args.ops.now c.loop-e-test.false) c.loop-e.invariant
