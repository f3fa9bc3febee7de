use Rattle.std.proofs.Common.{◌∙◌, ap}
use Rattle.forgetting_model.specs.Kept.{Kept}
use Rattle.crdt_laws.specs.declared.small.Entry.{Entry}
use Rattle.crdt_laws.specs.Sets.{beyond, is_beyond}
use Rattle.replica_kept.proofs.Forks.{batch_part, batch_whole}
use Rattle.replica_kept.proofs.replica.Replica.export.Goals as goal
use Rattle.replica_kept.proofs.replica.Replica.export.Goals.{in-Some+in_ok-ops-in-Some, in-None+in_ok-ops-in-None}

pub returns-clause-batch : goal.returns-clause-batch
returns-clause-batch g c =
    let t = g.T.Tower.meaning c.args.tower.now in
    let me = ap (λ (z : Kept _ _). z.ledger.me) c.self.view_is in
    let log = ap (λ (z : Kept _ _). z.ledger.log) c.self.view_is in
    elim c.match-to.branch [
      | in-Some+in_ok-ops-in-Some w ↦
          batch_part t c.args.self.now c.requires.sound c.in_ok-copy.field-0 c.self.inside.known.me c.clock.result c.match-to.ops me c.clock.ensures.own (λ (e : Entry _). is_beyond w.row-known.result e)
          (w.ops-is ∙ w.in_ok-ops-in-Some.ensures ∙ ap (beyond w.row-known.result) (w.as_slice.ensures ∙ log))
      | in-None+in_ok-ops-in-None w ↦
          batch_whole t c.args.self.now c.requires.sound c.in_ok-copy.field-0 c.self.inside.known.me c.clock.result c.match-to.ops me c.clock.ensures.own
          (w.ops-is ∙ w.in_ok-ops-in-None.ensures ∙ w.as_slice-in-None.ensures ∙ log)
    ]
