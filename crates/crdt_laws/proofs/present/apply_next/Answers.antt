use Rattle.std.proofs.Common.{refl}
use Rattle.crdt_laws.proofs.Ready.{forms_are}
use Rattle.crdt_laws.proofs.present.apply_next.Goals as goal

pub returns-clause-forms : goal.returns-clause-forms
returns-clause-forms g c =
    forms_are (g.T.Tower.meaning c.args.tower.now) c.args.forms c.as_slice.result.now c.args.forms c.args.e.now c.in_ok-op.op c.in_ok-form.form c.in_ok-kept.kept c.push.new.self
    c.in_ok-op.ensures c.as_slice.ensures refl c.in_ok-form.ensures.present c.in_ok-kept.ensures c.in_ok-push.ensures.ok
