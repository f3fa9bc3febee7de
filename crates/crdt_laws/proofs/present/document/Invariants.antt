use Rattle.std.proofs.Common.{◌≡◌, drop}
use Rattle.crdt_laws.specs.Present.{apply_all, document, own_forms}
use Rattle.crdt_laws.proofs.Ready.{IsReady}
use Rattle.crdt_laws.proofs.present.document.Given as goal

abbrev pub invariant-loop-e : goal.invariant-loop-e
invariant-loop-e g l = record {
  left : apply_all (g.T.Tower.meaning l.tower) l.state (own_forms (g.T.Tower.meaning l.tower) l.forms (drop l.e-index l.entries)) ≡ document (g.T.Tower.meaning l.tower) l.ops;
  ready : IsReady (g.T.Tower.meaning l.tower) l.state l.forms (drop l.e-index l.entries);
}
