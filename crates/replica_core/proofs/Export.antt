-- A new replica, and the batch of an export.
use Rattle.std.proofs.Common.{List, [], ◌≡◌, ℕ, ◌<◌, ◌≤◌, Bool, Option, ap, ap₂, ◌∙◌, sym, arith, replicate}
use Rattle.std.proofs.lemmas.List.{get_or-replicate, length-replicate}
use Rattle.std.specs.List.{filter}
use Rattle.std.proofs.lemmas.List.Elements.{All-filter, All-get_or, All-replicate}
use Rattle.vector_clock.specs.declared.clock.Clock.{Clock}
use Rattle.vector_clock.specs.Clock.{zero_clock, max_members}
use Rattle.crdt_laws.specs.declared.small.Entry.{Entry}
use Rattle.crdt_laws.specs.Tower.{IsIssued, Meaning}
use Rattle.crdt_laws.proofs.Filters.{rising-filter}
use Rattle.replica_model.specs.Replica.{Batch, Replica, exported, left_out, members, new_replica, row}
use Rattle.crdt_laws.specs.Sets.{beyond}
use Rattle.replica_core.specs.Kept.{AreKept, IsBatchUpTo, IsKept, IsKeptBatch, IsKnown, IsReplicaUpTo, IsUpTo}
use Rattle.replica_core.proofs.Edit.{kept_from}
use Rattle.replica_core.proofs.Joins.{known_zero, none_counted}

pub kept-filter : {State Op : Type 0} (m : Meaning State Op) (n : ℕ) (p : Entry Op → Bool) (xs : List (Entry Op)) → AreKept m n xs → AreKept m n (filter p xs)
kept-filter m n p xs h = record { issued = All-filter p (λ e. IsIssued m n e.stamp e.op) xs h.issued; rising = rising-filter p xs h.rising }

-- the batch of an export, with the sender's own row
abbrev pub sent : {Op : Type 0} → Replica Op → Option ℕ → Batch Op
sent r to = record { doc = r.doc; sender = r.me; header = row r.known r.me; ops = beyond (left_out r to) r.delivered }

pub sent_from : {Op : Type 0} (p r : Replica Op) (to : Option ℕ) (doc : List ℕ) (header k : Clock) (xs ops : List (Entry Op)) → p ≡ r → doc ≡ p.doc → header ≡ row p.known p.me → k ≡ left_out p to → xs ≡ p.delivered → ops ≡ beyond k xs → record { doc = doc; sender = p.me; header = header; ops = ops } ≡ sent r to
sent_from {Op} p r to doc header k xs ops e a b d f h =
    ap (λ (t : List ℕ). record { doc = t; sender = p.me; header = header; ops = ops }) a
    ∙ ap (λ (t : Clock). record { doc = p.doc; sender = p.me; header = t; ops = ops }) b
    ∙ ap (λ (t : List (Entry Op)). record { doc = p.doc; sender = p.me; header = row p.known p.me; ops = t }) (h ∙ ap₂ (λ (t : Clock) (zs : List (Entry Op)). beyond t zs) d f)
    ∙ ap (λ q. sent q to) e

pub sent_is : {State Op : Type 0} (m : Meaning State Op) (r : Replica Op) (to : Option ℕ) → IsKept m r → sent r to ≡ exported r to
unfolding exported
sent_is m r to h = ap (λ (t : Clock). record { doc = r.doc; sender = r.me; header = t; ops = beyond (left_out r to) r.delivered }) h.own

pub kept_sent : {State Op : Type 0} (m : Meaning State Op) (r : Replica Op) (to : Option ℕ) → IsKept m r → IsKeptBatch m (members r) (sent r to)
kept_sent m r to h = record {
  sender = h.member;
  header = All-get_or (IsKnown (members r)) r.known r.me (zero_clock 1) h.member h.rows;
  ops = kept-filter m (members r) _ r.delivered h.delivered;
}

pub up_to_sent : {Op : Type 0} (r : Replica Op) (to : Option ℕ) (k : ℕ) → r.me < members r → IsReplicaUpTo k r → IsBatchUpTo k (sent r to)
up_to_sent r to k l u = record {
  header = All-get_or (IsUpTo k) r.known r.me (zero_clock 1) l u.rows;
  ops = All-filter _ (λ e. IsUpTo k e.stamp.clock) r.delivered u.delivered;
}

pub kept_new : {State Op : Type 0} (m : Meaning State Op) (doc : List ℕ) (me n : ℕ) → me < n → n ≤ max_members → IsKept m (new_replica doc me n)
unfolding new_replica
kept_new m doc me n l most =
    kept_from m (record { doc = doc; me = me; delivered = []; waiting = []; known = replicate n (zero_clock n) }) n (sym (length-replicate n (zero_clock n))) l most
    (All-replicate (IsKnown n) n (zero_clock n) (known_zero n (omega arith) most))
    (get_or-replicate n me (zero_clock n) (zero_clock 1) l)
    (record { issued = λ k d h. absurd (omega arith); rising = tt }) (record { issued = λ k d h. absurd (omega arith); rising = tt })

pub up_to_new : {Op : Type 0} (doc : List ℕ) (me n : ℕ) → IsReplicaUpTo 0 (new_replica {Op = Op} doc me n)
unfolding new_replica
up_to_new doc me n = record {
  rows = All-replicate (IsUpTo 0) n (zero_clock n) (record { each = λ j. omega (arith, none_counted n j) });
  delivered = λ k d h. absurd (omega arith);
  waiting = λ k d h. absurd (omega arith);
}

pub new_from : {Op : Type 0} (doc : List ℕ) (me n i : ℕ) (ds ws : List (Entry Op)) (known : List Clock) → ds ≡ [] → ws ≡ [] → known ≡ replicate i (zero_clock n) → i ≡ n → record { doc = doc; me = me; delivered = ds; waiting = ws; known = known } ≡ new_replica doc me n
unfolding new_replica
new_from {Op} doc me n i ds ws known d w k e =
    ap (λ (t : List (Entry Op)). record { doc = doc; me = me; delivered = t; waiting = ws; known = known }) d
    ∙ ap (λ (t : List (Entry Op)). record { doc = doc; me = me; delivered = []; waiting = t; known = known }) w
    ∙ ap (λ (t : List Clock). record { doc = doc; me = me; delivered = []; waiting = []; known = t }) (k ∙ ap (λ j. replicate j (zero_clock n)) e)
