use Rattle.crdt_laws.specs.Present.{document}
use Rattle.crdt_laws.proofs.Ready.{loop_first, loop_item, loop_next}
use Rattle.crdt_laws.proofs.present.document.Goals as goal

pub loop-e-init : goal.loop-e-init
loop-e-init g c =
    let first = loop_first (g.T.Tower.meaning c.args.tower.now) (g.met.T.Tower.lawful c.args.tower.now) c.in_ok-state.state c.new-forms.result c.as_slice-entries.result.now c.args.ops.now c.in_ok-state.ensures.ok c.new-forms.ensures c.as_slice-entries.ensures c.requires in
    record { left = first.0; ready = first.1 }

pub apply_next-requires : goal.apply_next-requires
apply_next-requires g c =
    loop_item (g.T.Tower.meaning c.args.tower.now) (g.met.T.Tower.lawful c.args.tower.now) c.loop-e.state c.loop-e.forms c.as_slice-entries.result.now c.loop-e.e-index c.e-item.result c.loop-e-test.true c.e-item.is c.loop-e.invariant.ready

pub loop-e-preserved : goal.loop-e-preserved
loop-e-preserved g c =
    let next = loop_next (g.T.Tower.meaning c.args.tower.now) (g.met.T.Tower.lawful c.args.tower.now) c.loop-e.state c.in_ok-next.next c.loop-e.forms c.in_ok-next.kept c.as_slice-entries.result.now c.loop-e.e-index c.e-item.result (document (g.T.Tower.meaning c.args.tower.now) c.args.ops.now)
    c.loop-e-test.true c.e-item.is c.in_ok-next.ensures.state c.in_ok-next.ensures.forms c.loop-e.invariant.left c.loop-e.invariant.ready in
    record { left = next.0; ready = next.1 }
