use Rattle.std.proofs.Common.{◌≡◌, take}
use Rattle.std.specs.List.{filter}
use Rattle.crdt_laws.specs.Present.{acted_by}
use Rattle.crdt_laws.specs.Entry.{entry}
use Rattle.crdt_laws.specs.Tower.{IsIssued}
use Rattle.crdt_laws.specs.Document.{is_at}
use Rattle.crdt_laws.proofs.present.acted_at_level.Given as goal

abbrev pub invariant-loop-e : goal.invariant-loop-e
invariant-loop-e g l = record {
  acted : entry l.stamp l.form ≡ acted_by (g.T.Tower.meaning l.tower) (filter (is_at (g.T.Tower.meaning l.tower) l.level l.stamp) (take l.e-index l.forms)) (entry l.stamp l.fn.op);
  issued : IsIssued (g.T.Tower.meaning l.tower) l.stamp.clock.n l.stamp l.form;
}
