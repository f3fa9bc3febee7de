use Rattle.std.proofs.Common.{◌++◌, subst}
use Rattle.std.specs.List.{All}
use Rattle.std.proofs.lemmas.List.{take_all}
use Rattle.replica_kept.specs.Merging.{HasNoOther, HasOther}
use Rattle.replica_kept.proofs.OneId.{all_more, first_at, none_from_one}
use Rattle.replica_kept.proofs.replica.Replica.fork.Goals as goal

pub returns-then-is_forked-clause-forked : goal.returns-then-is_forked-clause-forked
returns-then-is_forked-clause-forked g c =
    let l = c.args.self.now.ledger in
    first_at c.args.ops.now c.loop-e.e-index c.e-item.result c.loop-e-test.true c.e-item.is (HasOther (l.log ++ l.waiting)) c.id.result (λ k d short o. none_from_one (l.log ++ l.waiting) _ (c.loop-e.invariant k d short) o)
    (c.is_forked.ensures.forked c.if-is_forked.true) c.id.ensures

pub loop-e-preserved : goal.loop-e-preserved
loop-e-preserved g c =
    let l = c.args.self.now.ledger in
    all_more c.args.ops.now c.loop-e.e-index c.e-item.result c.loop-e-test.true c.e-item.is (HasNoOther (l.log ++ l.waiting)) c.loop-e.invariant (c.is_forked.ensures.same c.if-is_forked.false)

pub returns-clause-same : goal.returns-clause-same
returns-clause-same g c =
    let l = c.args.self.now.ledger in
    subst (All (HasNoOther (l.log ++ l.waiting))) (take_all c.loop-e.e-index c.args.ops.now c.loop-e-test.false) c.loop-e.invariant
