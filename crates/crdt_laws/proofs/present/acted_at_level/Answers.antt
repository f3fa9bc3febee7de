use Rattle.std.proofs.Common.{◌<◌, length, sym, ◌∙◌}
use Rattle.crdt_laws.specs.Entry.{entry}
use Rattle.crdt_laws.specs.Tower.{IsIssued}
use Rattle.crdt_laws.proofs.Acts
use Rattle.crdt_laws.proofs.Loops.{one_hit, one_miss, item_of}
use Rattle.crdt_laws.proofs.present.acted_at_level.Goals as goal
use Rattle.crdt_laws.proofs.present.acted_at_level.Goals.{then-is_acting+in_ok-form, else-is_acting}

pub loop-e-preserved : goal.loop-e-preserved
loop-e-preserved g c =
    let t = g.T.Tower.meaning c.args.tower.now in
    let p = c.args.stamp.now in
    let e = c.e-item.result in
    let old = c.loop-e.form in
    let m : c.loop-e.e-index < length c.args.forms.now = c.loop-e-test.true in
    let issued : IsIssued t p.clock.n e.stamp e.op = item_of (λ d. IsIssued t p.clock.n d.stamp d.op) c.args.forms.now c.loop-e.e-index e c.requires.before m c.e-item.is in
    elim c.if-is_acting.branch [
      | then-is_acting+in_ok-form w ↦ record {
        acted =
            one_hit t c.args.level p c.args.forms.now c.loop-e.e-index e old c.if-is_acting.form c.args.op m c.e-item.is
            (sym c.is_acting.ensures ∙ w.if-is_acting.true) (w.form-is ∙ w.in_ok-form.ensures.ok) c.loop-e.invariant.acted;
        issued =
            rw (w.form-is, w.in_ok-form.ensures.ok) (Acts.acted-issued t p.clock.n (g.met.T.Tower.lawful c.args.tower.now) e (entry p old) issued c.loop-e.invariant.issued);
      }
      | else-is_acting w ↦
          rw w.form-is (record {
            acted = one_miss t c.args.level p c.args.forms.now c.loop-e.e-index e old c.args.op m c.e-item.is (sym c.is_acting.ensures ∙ w.if-is_acting.false) c.loop-e.invariant.acted;
            issued = c.loop-e.invariant.issued;
          })
    ]
