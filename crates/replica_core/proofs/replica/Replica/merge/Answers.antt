use Rattle.std.proofs.Common.{◌-◌, ◌≤◌, ◌∙◌, ap, ap₂, arith, length, subst, sym}
use Rattle.std.specs.List.{All}
use Rattle.std.proofs.lemmas.List.Elements.{recursion_from_All}
use Rattle.replica_model.specs.Replica.{Batch, Replica, members}
use Rattle.replica_core.specs.Kept.{IsBatchUpTo, IsKept, IsKeptBatch, IsReplicaUpTo}
use Rattle.replica_core.specs.Rows.{AreByKey, IsFrom}
use Rattle.replica_core.proofs.Merge.{AreSifted, by_key, kept_settled, length-rows_after, low_members, settled, settled_from, settled_is, up_to_settled}
use Rattle.replica_core.proofs.replica.Replica.merge.Goals as goal
use Rattle.vector_clock.specs.Clock.{max_members}

pub sift-requires : goal.sift-requires
sift-requires g c =
    let t = g.T.Tower.meaning c.args.tower.now in
    let law = g.met.T.Tower.lawful c.args.tower.now in
    let p : Replica _ = record { doc = c.self.inside.doc; me = c.self.inside.me; delivered = c.self.inside.delivered; waiting = c.self.inside.waiting; known = c.self.inside.known } in
    let q : Batch _ = record { doc = c.batch.inside.doc; sender = c.batch.inside.sender; header = c.batch.inside.header; ops = c.batch.inside.ops } in
    let kept : IsKept t p = subst (IsKept t) (sym c.self.view_is) c.requires.kept in
    let came : IsKeptBatch t (members p) q =
    subst (λ (u : Replica _). IsKeptBatch t (members u) q) (sym c.self.view_is) (subst (IsKeptBatch t (members c.args.self)) (sym c.batch.view_is) c.requires.batch) in
    let len = sym c.len.ensures in
    record {
      some = subst (λ n. 1 ≤ n) len (omega (arith, kept.member));
      most = subst (λ n. n ≤ max_members) len kept.most;
      delivered = subst (λ n. AreByKey n p.delivered) len (by_key t law (members p) p.delivered kept.delivered);
      waiting = subst (λ n. AreByKey n p.waiting) len (by_key t law (members p) p.waiting kept.waiting);
      arrived = subst (λ n. AreByKey n q.ops) len (by_key t law (members p) q.ops came.ops);
    }

pub rows_after-known-requires : goal.rows_after-known-requires
rows_after-known-requires g c =
    let t = g.T.Tower.meaning c.args.tower.now in
    let p : Replica _ = record { doc = c.self.inside.doc; me = c.self.inside.me; delivered = c.self.inside.delivered; waiting = c.self.inside.waiting; known = c.self.inside.known } in
    let q : Batch _ = record { doc = c.batch.inside.doc; sender = c.batch.inside.sender; header = c.batch.inside.header; ops = c.batch.inside.ops } in
    let kept : IsKept t p = subst (IsKept t) (sym c.self.view_is) c.requires.kept in
    let came : IsKeptBatch t (members p) q =
    subst (λ (u : Replica _). IsKeptBatch t (members u) q) (sym c.self.view_is) (subst (IsKeptBatch t (members c.args.self)) (sym c.batch.view_is) c.requires.batch) in
    record {
      me = kept.member;
      most = kept.most;
      sender = came.sender;
      rows = kept.rows;
      header = came.header;
      ops = subst (All (IsFrom (members p))) (sym c.as_slice.ensures) (subst (λ n. All (IsFrom n) c.in_ok-delivered.delivered) c.len.ensures c.in_ok-delivered.ensures.by_key.0.from);
    }

pub returns : goal.returns
returns g c =
    let t = g.T.Tower.meaning c.args.tower.now in
    let law = g.met.T.Tower.lawful c.args.tower.now in
    let r = c.args.self in
    let b = c.args.batch in
    let p : Replica _ = record { doc = c.self.inside.doc; me = c.self.inside.me; delivered = c.self.inside.delivered; waiting = c.self.inside.waiting; known = c.self.inside.known } in
    let q : Batch _ = record { doc = c.batch.inside.doc; sender = c.batch.inside.sender; header = c.batch.inside.header; ops = c.batch.inside.ops } in
    let kept : IsKept t p = subst (IsKept t) (sym c.self.view_is) c.requires.kept in
    let came : IsKeptBatch t (members p) q =
    subst (λ (u : Replica _). IsKeptBatch t (members u) q) (sym c.self.view_is) (subst (IsKeptBatch t (members r)) (sym c.batch.view_is) c.requires.batch) in
    let ds = c.in_ok-delivered.delivered in
    let ws = c.in_ok-delivered.waiting in
    let key : AreByKey (members p) ds = subst (λ n. AreByKey n ds) c.len.ensures c.in_ok-delivered.ensures.by_key.0 in
    let more : AreByKey (members p) ws = subst (λ n. AreByKey n ws) c.len.ensures c.in_ok-delivered.ensures.by_key.1 in
    let less = c.in_ok-delivered.ensures.ready_from in
    let other = c.in_ok-delivered.ensures.unready_from in
    let step = settled_from p q ds c.as_slice.result.now ws c.rows_after-known.result c.as_slice.ensures c.rows_after-known.ensures in
    let sifted : AreSifted r b ds ws =
    subst (λ (u : Replica _). AreSifted u b ds ws) c.self.view_is (subst (λ (u : Batch _). AreSifted p u ds ws) c.batch.view_is c.in_ok-delivered.ensures.sifted) in
    record {
      merged = λ honest.
          step ∙ ap₂ (λ (u : Replica _) (v : Batch _). settled u v ds ws) c.self.view_is c.batch.view_is ∙ settled_is r b ds ws (sifted honest).0 (sifted honest).1;
      delivered = c.saturating_sub.ensures ∙ ap₂ (λ x y. x - y) c.len-2.ensures (c.len-before.ensures ∙ ap (λ (u : Replica _). length u.delivered) c.self.view_is);
      waiting = c.len-3.ensures;
      same = (
        ap (λ (u : Replica _). u.doc) c.self.view_is,
        ap (λ (u : Replica _). u.me) c.self.view_is,
        ap length c.rows_after-known.ensures ∙ length-rows_after p.known p.me q.sender q.header c.as_slice.result.now ∙ ap members c.self.view_is,
      );
      kept = subst (IsKept t) (sym step) (kept_settled t law p q ds ws kept came key more less other);
      up_to = λ k u v.
          subst (IsReplicaUpTo k) (sym step)
          (up_to_settled k p q ds ws came.sender (low_members (members p) ds (recursion_from_All (IsFrom (members p)) ds key.from)) less other
          (subst (IsReplicaUpTo k) (sym c.self.view_is) u) (subst (IsBatchUpTo k) (sym c.batch.view_is) v));
    }
