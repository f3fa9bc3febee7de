use Rattle.std.proofs.Common.{drop}
use Rattle.crdt_laws.specs.Present.{document_from}
use Rattle.weave_core.proofs.FoldPlain.{IsOnTheWay}
use Rattle.weave_core.proofs.fold.fold_plain.Given as goal

abbrev pub invariant-loop-e : goal.invariant-loop-e
invariant-loop-e g l =
    let m = g.T.Tower.meaning l.tower in
    IsOnTheWay m l.state l.history (drop l.e-index l.entries) (document_from m l.initial.state l.ops)
