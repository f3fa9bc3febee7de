use Rattle.std.proofs.Common.{◌∙◌, ◌≡◌, ap, subst, sym}
use Rattle.replica_model.specs.Replica.{Replica, left_out, members}
use Rattle.crdt_laws.specs.Sets.{AreFormed}
use Rattle.crdt_laws.proofs.Formed.{all_formed}
use Rattle.replica_core.specs.Kept.{IsBatchUpTo, IsKeptBatch}
use Rattle.replica_core.proofs.Export.{kept_sent, sent_from, sent_is, up_to_sent}
use Rattle.replica_core.proofs.replica.Replica.export.Goals as goal
use Rattle.replica_core.proofs.replica.Replica.export.Goals.{in-Some, in-None}

pub copy_beyond-requires : goal.copy_beyond-requires
copy_beyond-requires g c =
    let t = g.T.Tower.meaning c.args.tower.now in
    let r = c.args.self.now in
    let law = g.met.T.Tower.lawful c.args.tower.now in
    record { formed = subst (AreFormed t) (sym (c.as_slice.ensures ∙ ap (λ (q : Replica _). q.delivered) c.self.view_is)) (all_formed t (members r) law r.delivered c.requires.kept.delivered.issued) }

pub returns : goal.returns
returns g c =
    let t = g.T.Tower.meaning c.args.tower.now in
    let r = c.args.self.now in
    let to = c.args.to in
    let kept = c.requires.kept in
    let p : Replica _ = record { doc = c.self.inside.doc; me = c.self.inside.me; delivered = c.self.inside.delivered; waiting = c.self.inside.waiting; known = c.self.inside.known } in
    let out : c.match-to.known ≡ left_out p to = elim c.match-to.branch [
      | in-Some w ↦ w.known-is ∙ w.row-known.ensures ∙ sym (ap (left_out p) w.in-Some.is)
      | in-None w ↦ w.known-is ∙ w.floor-known.ensures.floor ∙ sym (ap (left_out p) w.in-None.is)
    ] in
    let step = sent_from p r to c.in_ok-copy.field-0 c.row.result c.match-to.known c.as_slice.result.now c.in_ok-copy_beyond.field-0 c.self.view_is c.in_ok-copy.ensures c.row.ensures out c.as_slice.ensures c.in_ok-copy_beyond.ensures in
    record {
      exported = step ∙ sent_is t r to kept;
      kept = subst (IsKeptBatch t (members r)) (sym step) (kept_sent t r to kept);
      up_to = λ k u. subst (IsBatchUpTo k) (sym step) (up_to_sent r to k kept.member u);
    }
