use Rattle.std.proofs.Common.{◌≡◌}
use Rattle.crdt_laws.specs.Present.{acted_by, acting, present}
use Rattle.crdt_laws.specs.Entry.{entry}
use Rattle.crdt_laws.specs.Tower.{IsIssued}
use Rattle.crdt_laws.proofs.present.present_form.Given as goal

abbrev pub invariant-loop-level : goal.invariant-loop-level
invariant-loop-level g l = record {
  own : l.own ≡ (g.T.Tower.meaning l.tower).level l.fn.op;
  left : acted_by (g.T.Tower.meaning l.tower) (acting (g.T.Tower.meaning l.tower) l.level l.forms (entry l.stamp l.fn.op)) (entry l.stamp l.form) ≡ present (g.T.Tower.meaning l.tower) l.forms (entry l.stamp l.fn.op);
  issued : IsIssued (g.T.Tower.meaning l.tower) l.stamp.clock.n l.stamp l.form;
}

abbrev pub decreases-loop-level : goal.decreases-loop-level
decreases-loop-level g l = l.level
