use Rattle.std.proofs.Common.{◌≡◌, arith, subst, sym}
use Rattle.replica_core.specs.Kept.{IsKept, IsReplicaUpTo}
use Rattle.replica_core.proofs.Export.{kept_new, new_from, up_to_new}
use Rattle.replica_core.proofs.replica.Replica.new.Goals as goal

pub returns : goal.returns
returns g c =
    let doc = c.args.doc in
    let me = c.args.me in
    let n = c.args.n in
    let all : c.loop-i._i ≡ n = omega arith in
    let step = new_from doc me n c.loop-i._i c.new.result c.new-2.result c.loop-i.known c.new.ensures c.new-2.ensures c.loop-i.invariant all in
    record {
      new = step;
      kept = λ t. subst (IsKept (g.T.Tower.meaning t)) (sym step) (kept_new (g.T.Tower.meaning t) doc me n c.requires.member c.requires.most);
      up_to = subst (IsReplicaUpTo 0) (sym step) (up_to_new doc me n);
    }
