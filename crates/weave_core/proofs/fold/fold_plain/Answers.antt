use Rattle.crdt_laws.specs.Present.{document_from}
use Rattle.weave_core.proofs.FoldPlain.{run_good, way_first, way_item, way_last, way_next}
use Rattle.weave_core.proofs.fold.fold_plain.Goals as goal

pub loop-e-init : goal.loop-e-init
loop-e-init g c =
    way_first (g.T.Tower.meaning c.args.tower.now) (g.met.T.Tower.lawful c.args.tower.now) c.args.from c.new-history.result c.as_slice-entries.result.now c.args.ops.now c.new-history.ensures c.as_slice-entries.ensures c.requires

pub fold_next-requires : goal.fold_next-requires
fold_next-requires g c =
    let t = g.T.Tower.meaning c.args.tower.now in
    way_item t (g.met.T.Tower.lawful c.args.tower.now) c.loop-e.state c.loop-e.history c.as_slice-entries.result.now c.loop-e.e-index c.e-item.result (document_from t c.args.from c.args.ops.now)
    c.loop-e-test.true c.e-item.is c.loop-e.invariant

pub loop-e-preserved : goal.loop-e-preserved
loop-e-preserved g c =
    let t = g.T.Tower.meaning c.args.tower.now in
    way_next t (g.met.T.Tower.lawful c.args.tower.now) c.loop-e.state c.in_ok-next.next c.loop-e.history c.in_ok-next.kept c.as_slice-entries.result.now c.loop-e.e-index c.e-item.result (document_from t c.args.from c.args.ops.now)
    c.loop-e-test.true c.e-item.is c.in_ok-next.ensures.state c.in_ok-next.ensures.history c.loop-e.invariant

pub returns-clause-good : goal.returns-clause-good
returns-clause-good g c =
    let t = g.T.Tower.meaning c.args.tower.now in
    let d = document_from t c.args.from c.args.ops.now in
    λ n good issued.
    run_good t (g.met.T.Tower.lawful c.args.tower.now) n c.args.from c.loop-e.state c.args.ops.now
    (way_last t c.loop-e.state c.loop-e.history c.as_slice-entries.result.now c.loop-e.e-index d c.loop-e-test.false c.loop-e.invariant) c.requires good issued
