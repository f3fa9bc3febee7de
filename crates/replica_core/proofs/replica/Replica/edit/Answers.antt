use Rattle.std.proofs.Common.{◌+◌, ◌∙◌, subst, sym}
use Rattle.replica_model.specs.Replica.{Replica, next_stamp}
use Rattle.replica_core.specs.Kept.{IsKept, IsReplicaUpTo}
use Rattle.replica_core.proofs.Edit.{with_last, with_last_is}
use Rattle.replica_core.proofs.Edit
use Rattle.replica_core.proofs.replica.Replica.edit.Goals as goal

pub returns : goal.returns
returns g c =
    let t = g.T.Tower.meaning c.args.tower.now in
    let law = g.met.T.Tower.lawful c.args.tower.now in
    let r = c.args.self in
    let x = c.args.op in
    let kept = c.requires.kept in
    let valid = c.requires.valid in
    let p : Replica _ = record { doc = c.self.inside.doc; me = c.self.inside.me; delivered = c.self.inside.delivered; waiting = c.self.inside.waiting; known = c.self.inside.known } in
    let step = with_last_is c.next_stamp-stamp.result (next_stamp r) p r x c.push.new.self c.with_row.result c.self.view_is c.next_stamp-stamp.ensures.next c.in_ok-push.ensures.ok c.with_row.ensures in
    record {
      edited = step ∙ Edit.pushed_is t law r x kept valid;
      kept = subst (IsKept t) (sym step) (Edit.kept_pushed t law r x kept valid);
      up_to = λ k u. subst (IsReplicaUpTo (k + 1)) (sym step) (Edit.up_to_pushed t law r x kept valid k u);
    }
