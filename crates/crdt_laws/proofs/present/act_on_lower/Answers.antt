use Rattle.std.proofs.Common.{◌∙◌}
use Rattle.crdt_laws.specs.Entry.{entry}
use Rattle.crdt_laws.specs.Present.{acted}
use Rattle.crdt_laws.proofs.Changed.{changed_all}
use Rattle.crdt_laws.proofs.InPlace
use Rattle.crdt_laws.proofs.present.act_on_lower.Goals as goal
use Rattle.crdt_laws.proofs.present.act_on_lower.Goals.{then-level+in_ok-e, else-level}

pub level-requires : goal.level-requires
level-requires g c =
    let t = g.T.Tower.meaning c.args.tower.now in
    let law = g.met.T.Tower.lawful c.args.tower.now in
    InPlace.item_formed t law c.args.stamp.now.clock.n (acted t (entry c.args.stamp.now c.args.form.now)) c.loop-e.e-index c.args.entries.now c.loop-e.entries c.e-item.result
    c.requires.before c.loop-e.invariant c.loop-e-test.true c.e-item.is

pub act-requires-clause-acted : goal.act-requires-clause-acted
act-requires-clause-acted g c =
    let t = g.T.Tower.meaning c.args.tower.now in
    let law = g.met.T.Tower.lawful c.args.tower.now in
    InPlace.item_formed t law c.args.stamp.now.clock.n (acted t (entry c.args.stamp.now c.args.form.now)) c.loop-e.e-index c.args.entries.now c.loop-e.entries c.e-item.result
    c.requires.before c.loop-e.invariant c.loop-e-test.true c.e-item.is

pub loop-e-preserved : goal.loop-e-preserved
loop-e-preserved g c =
    let t = g.T.Tower.meaning c.args.tower.now in
    let law = g.met.T.Tower.lawful c.args.tower.now in
    let n = c.args.stamp.now.clock.n in
    let y = entry c.args.stamp.now c.args.form.now in
    elim c.if-level.branch [
      | then-level+in_ok-e w ↦
          InPlace.place_acted t law n y c.loop-e.e-index c.args.entries.now c.loop-e.entries c.if-level.entries c.e-item.result w.in_ok-e.field-0 c.loop-e.invariant c.loop-e-test.true c.e-item.is w.in_ok-e.ensures.ok w.entries-is
      | else-level w ↦
          InPlace.place_stays t law n y c.loop-e.e-index c.args.entries.now c.loop-e.entries c.if-level.entries c.e-item.result c.level-level.result c.level.result c.requires.before c.requires.issued
          c.loop-e.invariant c.loop-e-test.true c.e-item.is c.level-level.ensures c.level.ensures w.if-level.false w.entries-is
    ]

pub returns : goal.returns
returns g c =
    let t = g.T.Tower.meaning c.args.tower.now in
    c.loop-e.invariant ∙ changed_all (acted t (entry c.args.stamp.now c.args.form.now)) c.loop-e.e-index c.args.entries.now c.loop-e-test.false
