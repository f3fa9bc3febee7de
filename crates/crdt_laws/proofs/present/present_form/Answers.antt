use Rattle.std.proofs.Common.{◌<◌, ◌≤◌, subst}
use Rattle.crdt_laws.specs.Entry.{entry}
use Rattle.crdt_laws.proofs.Loops.{first_level, next_level, last_level}
use Rattle.crdt_laws.proofs.present.present_form.Goals as goal

pub loop-level-init : goal.loop-level-init
loop-level-init g c = record {
  own = c.level-own.ensures;
  left = first_level (g.T.Tower.meaning c.args.tower.now) c.args.forms.now (entry c.args.stamp.now c.args.op) c.top-level.result c.top-level.ensures;
  issued = c.requires.issued;
}

pub loop-level-preserved : goal.loop-level-preserved
loop-level-preserved g c = record {
  own = c.loop-level.invariant.own;
  left =
      next_level (g.T.Tower.meaning c.args.tower.now) c.args.forms.now (entry c.args.stamp.now c.args.op) c.loop-level.level (entry c.args.stamp.now c.loop-level.form) (entry c.args.stamp.now c.in_ok-form.form)
      (subst (λ n. n < c.loop-level.level) c.loop-level.invariant.own c.loop-level-test.true) c.in_ok-form.ensures.acted c.loop-level.invariant.left;
  issued = c.in_ok-form.ensures.issued;
}

pub returns-clause-present : goal.returns-clause-present
returns-clause-present g c =
    last_level (g.T.Tower.meaning c.args.tower.now) c.args.forms.now (entry c.args.stamp.now c.args.op) c.loop-level.level (entry c.args.stamp.now c.loop-level.form)
    (subst (λ n. c.loop-level.level ≤ n) c.loop-level.invariant.own c.loop-level-test.false) c.loop-level.invariant.left
