use Rattle.std.proofs.lemmas.List.Elements.{All-push}
use Rattle.crdt_laws.specs.Entry.{entry}
use Rattle.crdt_laws.specs.Tower.{IsIssued}
use Rattle.compositions.proofs.tests.with_one.Goals as goal

pub returns-in_ok-push : goal.returns-in_ok-push
returns-in_ok-push g c =
    let m = g.T.Tower.meaning c.args.tower.now in
    rw c.in_ok-push.ensures.ok
    (All-push (λ e. IsIssued m 3 e.stamp e.op) c.args.ops (entry c.args.stamp c.args.op) c.requires.issued
    (record { stamp = c.requires.stamp; valid = c.valid.ensures.0 c.if-valid.true }))
