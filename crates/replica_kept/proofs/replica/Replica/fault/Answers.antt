use Rattle.std.proofs.Common.{◌∙◌, ap, subst}
use Rattle.replica_model.specs.Replica.{Batch}
use Rattle.replica_kept.specs.Merging.{IsFirst}
use Rattle.replica_kept.proofs.replica.Replica.fault.Goals as goal

pub returns-in-Some-clause-fault : goal.returns-in-Some-clause-fault
returns-in-Some-clause-fault g c =
    let t = g.T.Tower.meaning c.args.tower.now in
    subst (λ xs. IsFirst (λ e. t.valid e.stamp e.op → ⊥) xs c.in-Some.id) (c.as_slice-ops.ensures ∙ ap (λ (b : Batch _). b.ops) c.batch.view_is) c.in-Some.ensures.bad
