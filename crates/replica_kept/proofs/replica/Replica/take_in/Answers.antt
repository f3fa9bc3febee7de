use Rattle.std.proofs.Common.{◌≡◌, ◌∙◌, ◌≤◌, length, not, List, refl, ap, sym, subst}
use Rattle.std.specs.Prelude.{filter}
use Rattle.std.specs.Option.{is_some}
use Rattle.std.specs.BTreeMap.{get}
use Rattle.vector_clock.specs.declared.clock.Clock.{Clock}
use Rattle.vector_clock.specs.Stamp.{id_of}
use Rattle.crdt_laws.specs.declared.small.Entry.{Entry}
use Rattle.crdt_laws.specs.Sets.{AreIssued, beyond}
use Rattle.replica_model.specs.Replica.{Batch}
use Rattle.forgetting_model.specs.Kept.{Kept}
use Rattle.forgetting_model.specs.Ledger.{own_row}
use Rattle.forgetting_model.specs.Turns.{ledger_absorbed}
use Rattle.causal_buffer.specs.Buffer.{by_id}
use Rattle.replica_kept.specs.Sound.{burden, max_burden}
use Rattle.replica_kept.proofs.Coming.{new_is, new_issued, new_of, new_uncovered}
use Rattle.replica_kept.proofs.MergeCall
use Rattle.replica_kept.proofs.replica.Replica.take_in.Goals as goal

pub copy_ops-requires : goal.copy_ops-requires
copy_ops-requires g c =
    let k = c.args.self in
    record { formed = MergeCall.issued_formed (g.T.Tower.meaning c.args.tower.now) (g.met.T.Tower.lawful c.args.tower.now) (length k.ledger.known) k.ledger.waiting c.as_slice.result.now c.requires.sound.waiting.issued (c.as_slice.ensures ∙ ap (λ (z : Kept _ _). z.ledger.waiting) c.self.view_is) }

pub copy_ops-requires-2 : goal.copy_ops-requires-2
copy_ops-requires-2 g c =
    let t = g.T.Tower.meaning c.args.tower.now in
    let law = g.met.T.Tower.lawful c.args.tower.now in
    let k = c.args.self in
    let b = c.args.batch in
    let is = c.as_slice-2.ensures ∙ c.in_ok-new.ensures ∙ ap (λ (l : List (Entry _)). filter (λ e. not (is_some (get by_id c.args.places.now (id_of e.stamp)))) (beyond c.clock-own.result l)) (ap (λ (z : Batch _). z.ops) c.batch.view_is)
    ∙ ap (λ (d : Clock). filter (λ e. not (is_some (get by_id c.args.places.now (id_of e.stamp)))) (beyond d b.ops)) c.clock-own.ensures.own ∙ new_is k.ledger b c.args.places.now c.requires.places in
    record { formed = MergeCall.issued_formed t law (length k.ledger.known) (new_of k.ledger b) c.as_slice-2.result.now (new_issued t law k c.requires.sound b c.requires.batch c.requires.faultless) is }

pub absorb-requires : goal.absorb-requires
absorb-requires g c =
    let t = g.T.Tower.meaning c.args.tower.now in
    let law = g.met.T.Tower.lawful c.args.tower.now in
    let kn = c.self.inside.known in
    let k = c.args.self in
    let b = c.args.batch in
    let me_is = ap (λ (z : Kept _ _). z.ledger.me) c.self.view_is in
    let rows_are = ap (λ (z : Kept _ _). z.ledger.known) c.self.view_is in
    let new_is = c.in_ok-new.ensures ∙ ap (λ (l : List (Entry _)). filter (λ e. not (is_some (get by_id c.args.places.now (id_of e.stamp)))) (beyond c.clock-own.result l)) (ap (λ (z : Batch _). z.ops) c.batch.view_is)
    ∙ ap (λ (d : Clock). filter (λ e. not (is_some (get by_id c.args.places.now (id_of e.stamp)))) (beyond d b.ops)) c.clock-own.ensures.own ∙ new_is k.ledger b c.args.places.now c.requires.places in
    let ws_is = c.in_ok-waiting.ensures ∙ c.as_slice.ensures ∙ ap (λ (z : Kept _ _). z.ledger.waiting) c.self.view_is in
    let cs_is = c.in_ok-copies.ensures ∙ c.as_slice-2.ensures in
    record {
      some = MergeCall.some_call t law kn c.self.invariant k me_is rows_are c.requires.sound b c.requires.batch c.requires.faultless c.clock-own.result c.clock-own.ensures.own c.in_ok-new.new c.in_ok-waiting.waiting c.in_ok-copies.copies new_is ws_is cs_is;
      waiting = MergeCall.ws_rise t law kn c.self.invariant k me_is rows_are c.requires.sound b c.requires.batch c.requires.faultless c.clock-own.result c.clock-own.ensures.own c.in_ok-new.new c.in_ok-waiting.waiting c.in_ok-copies.copies new_is ws_is cs_is;
      ops = MergeCall.cs_rise t law kn c.self.invariant k me_is rows_are c.requires.sound b c.requires.batch c.requires.faultless c.clock-own.result c.clock-own.ensures.own c.in_ok-new.new c.in_ok-waiting.waiting c.in_ok-copies.copies new_is ws_is cs_is;
    }

pub burden_with-count-requires-clause-ready : goal.burden_with-count-requires-clause-ready
burden_with-count-requires-clause-ready g c =
    let t = g.T.Tower.meaning c.args.tower.now in
    let law = g.met.T.Tower.lawful c.args.tower.now in
    let kn = c.self.inside.known in
    let k = c.args.self in
    let b = c.args.batch in
    let me_is = ap (λ (z : Kept _ _). z.ledger.me) c.self.view_is in
    let rows_are = ap (λ (z : Kept _ _). z.ledger.known) c.self.view_is in
    let new_is = c.in_ok-new.ensures ∙ ap (λ (l : List (Entry _)). filter (λ e. not (is_some (get by_id c.args.places.now (id_of e.stamp)))) (beyond c.clock-own.result l)) (ap (λ (z : Batch _). z.ops) c.batch.view_is)
    ∙ ap (λ (d : Clock). filter (λ e. not (is_some (get by_id c.args.places.now (id_of e.stamp)))) (beyond d b.ops)) c.clock-own.ensures.own ∙ new_is k.ledger b c.args.places.now c.requires.places in
    let ws_is = c.in_ok-waiting.ensures ∙ c.as_slice.ensures ∙ ap (λ (z : Kept _ _). z.ledger.waiting) c.self.view_is in
    let cs_is = c.in_ok-copies.ensures ∙ c.as_slice-2.ensures in
    MergeCall.ready_past t law kn c.self.invariant k me_is rows_are c.requires.sound b c.requires.batch c.requires.faultless c.clock-own.result c.clock-own.ensures.own c.in_ok-new.new c.in_ok-waiting.waiting c.in_ok-copies.copies new_is ws_is cs_is c.in_ok-come.come.ready c.in_ok-come.come.waiting c.in_ok-come.come.clock c.in_ok-come.ensures.ready c.in_ok-come.ensures.waiting c.in_ok-come.ensures.clock c.floor.result c.floor.ensures.floor

pub after-requires-clause-new : goal.after-requires-clause-new
after-requires-clause-new g c =
    let t = g.T.Tower.meaning c.args.tower.now in
    let law = g.met.T.Tower.lawful c.args.tower.now in
    let k = c.args.self in
    let b = c.args.batch in
    let new_is = c.in_ok-new.ensures ∙ ap (λ (l : List (Entry _)). filter (λ e. not (is_some (get by_id c.args.places.now (id_of e.stamp)))) (beyond c.clock-own.result l)) (ap (λ (z : Batch _). z.ops) c.batch.view_is)
    ∙ ap (λ (d : Clock). filter (λ e. not (is_some (get by_id c.args.places.now (id_of e.stamp)))) (beyond d b.ops)) c.clock-own.ensures.own ∙ new_is k.ledger b c.args.places.now c.requires.places in
    new_uncovered t law k c.requires.sound b c.requires.batch c.requires.faultless c.in_ok-new.new (own_row k.ledger) new_is refl

pub heard_all-known-requires-clause-clock : goal.heard_all-known-requires-clause-clock
heard_all-known-requires-clause-clock g c =
    let t = g.T.Tower.meaning c.args.tower.now in
    let law = g.met.T.Tower.lawful c.args.tower.now in
    let kn = c.self.inside.known in
    let k = c.args.self in
    let b = c.args.batch in
    let me_is = ap (λ (z : Kept _ _). z.ledger.me) c.self.view_is in
    let rows_are = ap (λ (z : Kept _ _). z.ledger.known) c.self.view_is in
    let new_is = c.in_ok-new.ensures ∙ ap (λ (l : List (Entry _)). filter (λ e. not (is_some (get by_id c.args.places.now (id_of e.stamp)))) (beyond c.clock-own.result l)) (ap (λ (z : Batch _). z.ops) c.batch.view_is)
    ∙ ap (λ (d : Clock). filter (λ e. not (is_some (get by_id c.args.places.now (id_of e.stamp)))) (beyond d b.ops)) c.clock-own.ensures.own ∙ new_is k.ledger b c.args.places.now c.requires.places in
    let ws_is = c.in_ok-waiting.ensures ∙ c.as_slice.ensures ∙ ap (λ (z : Kept _ _). z.ledger.waiting) c.self.view_is in
    let cs_is = c.in_ok-copies.ensures ∙ c.as_slice-2.ensures in
    MergeCall.later_call t law kn c.self.invariant k me_is rows_are c.requires.sound b c.requires.batch c.requires.faultless c.clock-own.result c.clock-own.ensures.own c.in_ok-new.new c.in_ok-waiting.waiting c.in_ok-copies.copies new_is ws_is cs_is c.in_ok-come.come.ready c.in_ok-come.come.waiting c.in_ok-come.come.clock c.in_ok-come.ensures.ready c.in_ok-come.ensures.waiting c.in_ok-come.ensures.clock

pub heard_all-known-requires-clause-ops : goal.heard_all-known-requires-clause-ops
heard_all-known-requires-clause-ops g c =
    let t = g.T.Tower.meaning c.args.tower.now in
    let law = g.met.T.Tower.lawful c.args.tower.now in
    let kn = c.self.inside.known in
    let k = c.args.self in
    let b = c.args.batch in
    let me_is = ap (λ (z : Kept _ _). z.ledger.me) c.self.view_is in
    let rows_are = ap (λ (z : Kept _ _). z.ledger.known) c.self.view_is in
    let new_is = c.in_ok-new.ensures ∙ ap (λ (l : List (Entry _)). filter (λ e. not (is_some (get by_id c.args.places.now (id_of e.stamp)))) (beyond c.clock-own.result l)) (ap (λ (z : Batch _). z.ops) c.batch.view_is)
    ∙ ap (λ (d : Clock). filter (λ e. not (is_some (get by_id c.args.places.now (id_of e.stamp)))) (beyond d b.ops)) c.clock-own.ensures.own ∙ new_is k.ledger b c.args.places.now c.requires.places in
    let ws_is = c.in_ok-waiting.ensures ∙ c.as_slice.ensures ∙ ap (λ (z : Kept _ _). z.ledger.waiting) c.self.view_is in
    let cs_is = c.in_ok-copies.ensures ∙ c.as_slice-2.ensures in
    MergeCall.stamped_call t law kn c.self.invariant k me_is rows_are c.requires.sound b c.requires.batch c.requires.faultless c.clock-own.result c.clock-own.ensures.own c.in_ok-new.new c.in_ok-waiting.waiting c.in_ok-copies.copies new_is ws_is cs_is c.in_ok-come.come.ready c.in_ok-come.come.waiting c.in_ok-come.come.clock c.in_ok-come.ensures.ready c.in_ok-come.ensures.waiting c.in_ok-come.ensures.clock c.as_slice-3.result.now c.as_slice-3.ensures

pub burden_with-count-requires-clause-come : goal.burden_with-count-requires-clause-come
burden_with-count-requires-clause-come g c =
    let t = g.T.Tower.meaning c.args.tower.now in
    let law = g.met.T.Tower.lawful c.args.tower.now in
    let kn = c.self.inside.known in
    let k = c.args.self in
    let b = c.args.batch in
    let me_is = ap (λ (z : Kept _ _). z.ledger.me) c.self.view_is in
    let rows_are = ap (λ (z : Kept _ _). z.ledger.known) c.self.view_is in
    let new_is = c.in_ok-new.ensures ∙ ap (λ (l : List (Entry _)). filter (λ e. not (is_some (get by_id c.args.places.now (id_of e.stamp)))) (beyond c.clock-own.result l)) (ap (λ (z : Batch _). z.ops) c.batch.view_is)
    ∙ ap (λ (d : Clock). filter (λ e. not (is_some (get by_id c.args.places.now (id_of e.stamp)))) (beyond d b.ops)) c.clock-own.ensures.own ∙ new_is k.ledger b c.args.places.now c.requires.places in
    let ws_is = c.in_ok-waiting.ensures ∙ c.as_slice.ensures ∙ ap (λ (z : Kept _ _). z.ledger.waiting) c.self.view_is in
    let cs_is = c.in_ok-copies.ensures ∙ c.as_slice-2.ensures in
    MergeCall.few_call t law kn c.self.invariant k me_is rows_are c.requires.sound b c.requires.batch c.requires.faultless c.clock-own.result c.clock-own.ensures.own c.in_ok-new.new c.in_ok-waiting.waiting c.in_ok-copies.copies new_is ws_is cs_is c.in_ok-come.come.ready c.in_ok-come.come.waiting c.in_ok-come.come.clock c.in_ok-come.ensures.ready c.in_ok-come.ensures.waiting c.in_ok-come.ensures.clock

pub after-requires-clause-one : goal.after-requires-clause-one
after-requires-clause-one g c =
    let t = g.T.Tower.meaning c.args.tower.now in
    let law = g.met.T.Tower.lawful c.args.tower.now in
    let kn = c.self.inside.known in
    let k = c.args.self in
    let b = c.args.batch in
    let me_is = ap (λ (z : Kept _ _). z.ledger.me) c.self.view_is in
    let rows_are = ap (λ (z : Kept _ _). z.ledger.known) c.self.view_is in
    let new_is = c.in_ok-new.ensures ∙ ap (λ (l : List (Entry _)). filter (λ e. not (is_some (get by_id c.args.places.now (id_of e.stamp)))) (beyond c.clock-own.result l)) (ap (λ (z : Batch _). z.ops) c.batch.view_is)
    ∙ ap (λ (d : Clock). filter (λ e. not (is_some (get by_id c.args.places.now (id_of e.stamp)))) (beyond d b.ops)) c.clock-own.ensures.own ∙ new_is k.ledger b c.args.places.now c.requires.places in
    let ws_is = c.in_ok-waiting.ensures ∙ c.as_slice.ensures ∙ ap (λ (z : Kept _ _). z.ledger.waiting) c.self.view_is in
    let cs_is = c.in_ok-copies.ensures ∙ c.as_slice-2.ensures in
    c.heard_all-known.ensures.members ∙ sym (MergeCall.size t law kn c.self.invariant k me_is rows_are c.requires.sound b c.requires.batch c.requires.faultless c.clock-own.result c.clock-own.ensures.own c.in_ok-new.new c.in_ok-waiting.waiting c.in_ok-copies.copies new_is ws_is cs_is)

pub after-requires-clause-issued : goal.after-requires-clause-issued
after-requires-clause-issued g c =
    let t = g.T.Tower.meaning c.args.tower.now in
    let law = g.met.T.Tower.lawful c.args.tower.now in
    let kn = c.self.inside.known in
    let k = c.args.self in
    let b = c.args.batch in
    let me_is = ap (λ (z : Kept _ _). z.ledger.me) c.self.view_is in
    let rows_are = ap (λ (z : Kept _ _). z.ledger.known) c.self.view_is in
    let new_is = c.in_ok-new.ensures ∙ ap (λ (l : List (Entry _)). filter (λ e. not (is_some (get by_id c.args.places.now (id_of e.stamp)))) (beyond c.clock-own.result l)) (ap (λ (z : Batch _). z.ops) c.batch.view_is)
    ∙ ap (λ (d : Clock). filter (λ e. not (is_some (get by_id c.args.places.now (id_of e.stamp)))) (beyond d b.ops)) c.clock-own.ensures.own ∙ new_is k.ledger b c.args.places.now c.requires.places in
    let ws_is = c.in_ok-waiting.ensures ∙ c.as_slice.ensures ∙ ap (λ (z : Kept _ _). z.ledger.waiting) c.self.view_is in
    let cs_is = c.in_ok-copies.ensures ∙ c.as_slice-2.ensures in
    subst (λ n. AreIssued t n c.in_ok-come.come.ready) (MergeCall.size t law kn c.self.invariant k me_is rows_are c.requires.sound b c.requires.batch c.requires.faultless c.clock-own.result c.clock-own.ensures.own c.in_ok-new.new c.in_ok-waiting.waiting c.in_ok-copies.copies new_is ws_is cs_is ∙ sym c.heard_all-known.ensures.members) (MergeCall.ready_issued t law kn c.self.invariant k me_is rows_are c.requires.sound b c.requires.batch c.requires.faultless c.clock-own.result c.clock-own.ensures.own c.in_ok-new.new c.in_ok-waiting.waiting c.in_ok-copies.copies new_is ws_is cs_is c.in_ok-come.come.ready c.in_ok-come.come.waiting c.in_ok-come.come.clock c.in_ok-come.ensures.ready c.in_ok-come.ensures.waiting c.in_ok-come.ensures.clock)

pub after-requires-clause-next : goal.after-requires-clause-next
after-requires-clause-next g c =
    let t = g.T.Tower.meaning c.args.tower.now in
    let law = g.met.T.Tower.lawful c.args.tower.now in
    let kn = c.self.inside.known in
    let k = c.args.self in
    let b = c.args.batch in
    let me_is = ap (λ (z : Kept _ _). z.ledger.me) c.self.view_is in
    let rows_are = ap (λ (z : Kept _ _). z.ledger.known) c.self.view_is in
    let new_is = c.in_ok-new.ensures ∙ ap (λ (l : List (Entry _)). filter (λ e. not (is_some (get by_id c.args.places.now (id_of e.stamp)))) (beyond c.clock-own.result l)) (ap (λ (z : Batch _). z.ops) c.batch.view_is)
    ∙ ap (λ (d : Clock). filter (λ e. not (is_some (get by_id c.args.places.now (id_of e.stamp)))) (beyond d b.ops)) c.clock-own.ensures.own ∙ new_is k.ledger b c.args.places.now c.requires.places in
    let ws_is = c.in_ok-waiting.ensures ∙ c.as_slice.ensures ∙ ap (λ (z : Kept _ _). z.ledger.waiting) c.self.view_is in
    let cs_is = c.in_ok-copies.ensures ∙ c.as_slice-2.ensures in
    MergeCall.ready_next t law kn c.self.invariant k me_is rows_are c.requires.sound b c.requires.batch c.requires.faultless c.clock-own.result c.clock-own.ensures.own c.in_ok-new.new c.in_ok-waiting.waiting c.in_ok-copies.copies new_is ws_is cs_is c.in_ok-come.come.ready c.in_ok-come.come.waiting c.in_ok-come.come.clock c.in_ok-come.ensures.ready c.in_ok-come.ensures.waiting c.in_ok-come.ensures.clock

pub after-requires-clause-rising : goal.after-requires-clause-rising
after-requires-clause-rising g c =
    let t = g.T.Tower.meaning c.args.tower.now in
    let law = g.met.T.Tower.lawful c.args.tower.now in
    let kn = c.self.inside.known in
    let k = c.args.self in
    let b = c.args.batch in
    let me_is = ap (λ (z : Kept _ _). z.ledger.me) c.self.view_is in
    let rows_are = ap (λ (z : Kept _ _). z.ledger.known) c.self.view_is in
    let new_is = c.in_ok-new.ensures ∙ ap (λ (l : List (Entry _)). filter (λ e. not (is_some (get by_id c.args.places.now (id_of e.stamp)))) (beyond c.clock-own.result l)) (ap (λ (z : Batch _). z.ops) c.batch.view_is)
    ∙ ap (λ (d : Clock). filter (λ e. not (is_some (get by_id c.args.places.now (id_of e.stamp)))) (beyond d b.ops)) c.clock-own.ensures.own ∙ new_is k.ledger b c.args.places.now c.requires.places in
    let ws_is = c.in_ok-waiting.ensures ∙ c.as_slice.ensures ∙ ap (λ (z : Kept _ _). z.ledger.waiting) c.self.view_is in
    let cs_is = c.in_ok-copies.ensures ∙ c.as_slice-2.ensures in
    MergeCall.new_rise t law kn c.self.invariant k me_is rows_are c.requires.sound b c.requires.batch c.requires.faultless c.clock-own.result c.clock-own.ensures.own c.in_ok-new.new c.in_ok-waiting.waiting c.in_ok-copies.copies new_is ws_is cs_is

pub after-requires-clause-stamps : goal.after-requires-clause-stamps
after-requires-clause-stamps g c =
    let t = g.T.Tower.meaning c.args.tower.now in
    let law = g.met.T.Tower.lawful c.args.tower.now in
    let kn = c.self.inside.known in
    let k = c.args.self in
    let b = c.args.batch in
    let me_is = ap (λ (z : Kept _ _). z.ledger.me) c.self.view_is in
    let rows_are = ap (λ (z : Kept _ _). z.ledger.known) c.self.view_is in
    let new_is = c.in_ok-new.ensures ∙ ap (λ (l : List (Entry _)). filter (λ e. not (is_some (get by_id c.args.places.now (id_of e.stamp)))) (beyond c.clock-own.result l)) (ap (λ (z : Batch _). z.ops) c.batch.view_is)
    ∙ ap (λ (d : Clock). filter (λ e. not (is_some (get by_id c.args.places.now (id_of e.stamp)))) (beyond d b.ops)) c.clock-own.ensures.own ∙ new_is k.ledger b c.args.places.now c.requires.places in
    let ws_is = c.in_ok-waiting.ensures ∙ c.as_slice.ensures ∙ ap (λ (z : Kept _ _). z.ledger.waiting) c.self.view_is in
    let cs_is = c.in_ok-copies.ensures ∙ c.as_slice-2.ensures in
    MergeCall.new_stamps t law kn c.self.invariant k me_is rows_are c.requires.sound b c.requires.batch c.requires.faultless c.clock-own.result c.clock-own.ensures.own c.in_ok-new.new c.in_ok-waiting.waiting c.in_ok-copies.copies new_is ws_is cs_is

pub returns-then-count-gt50000-clause-full : goal.returns-then-count-gt50000-clause-full
returns-then-count-gt50000-clause-full g c =
    let t = g.T.Tower.meaning c.args.tower.now in
    let law = g.met.T.Tower.lawful c.args.tower.now in
    let kn = c.self.inside.known in
    let k = c.args.self in
    let b = c.args.batch in
    let me_is = ap (λ (z : Kept _ _). z.ledger.me) c.self.view_is in
    let rows_are = ap (λ (z : Kept _ _). z.ledger.known) c.self.view_is in
    let new_is = c.in_ok-new.ensures ∙ ap (λ (l : List (Entry _)). filter (λ e. not (is_some (get by_id c.args.places.now (id_of e.stamp)))) (beyond c.clock-own.result l)) (ap (λ (z : Batch _). z.ops) c.batch.view_is)
    ∙ ap (λ (d : Clock). filter (λ e. not (is_some (get by_id c.args.places.now (id_of e.stamp)))) (beyond d b.ops)) c.clock-own.ensures.own ∙ new_is k.ledger b c.args.places.now c.requires.places in
    let ws_is = c.in_ok-waiting.ensures ∙ c.as_slice.ensures ∙ ap (λ (z : Kept _ _). z.ledger.waiting) c.self.view_is in
    let cs_is = c.in_ok-copies.ensures ∙ c.as_slice-2.ensures in
    let count : c.burden_with-count.result ≡ burden (ledger_absorbed k.ledger b) = MergeCall.count_call t law kn c.self.invariant k me_is rows_are c.requires.sound b c.requires.batch c.requires.faultless c.clock-own.result c.clock-own.ensures.own c.in_ok-new.new c.in_ok-waiting.waiting c.in_ok-copies.copies new_is ws_is cs_is c.in_ok-come.come.ready c.in_ok-come.come.waiting c.in_ok-come.come.clock c.in_ok-come.ensures.ready c.in_ok-come.ensures.waiting c.in_ok-come.ensures.clock c.heard_all-known.result c.batch.inside.sender c.batch.inside.header c.as_slice-3.result.now (ap (λ (z : Batch _). z.sender) c.batch.view_is) (ap (λ (z : Batch _). z.header) c.batch.view_is) c.as_slice-3.ensures c.heard_all-known.ensures.rows c.heard_all-known.ensures.me c.floor-2.result c.burden_with-count.result c.floor-2.ensures.floor c.burden_with-count.ensures in
    (refl, (c.requires.faultless, count, c.if-count-gt50000.true))

pub returns-clause-absorbed : goal.returns-clause-absorbed
returns-clause-absorbed g c =
    let t = g.T.Tower.meaning c.args.tower.now in
    let law = g.met.T.Tower.lawful c.args.tower.now in
    let kn = c.self.inside.known in
    let k = c.args.self in
    let b = c.args.batch in
    let me_is = ap (λ (z : Kept _ _). z.ledger.me) c.self.view_is in
    let rows_are = ap (λ (z : Kept _ _). z.ledger.known) c.self.view_is in
    let new_is = c.in_ok-new.ensures ∙ ap (λ (l : List (Entry _)). filter (λ e. not (is_some (get by_id c.args.places.now (id_of e.stamp)))) (beyond c.clock-own.result l)) (ap (λ (z : Batch _). z.ops) c.batch.view_is)
    ∙ ap (λ (d : Clock). filter (λ e. not (is_some (get by_id c.args.places.now (id_of e.stamp)))) (beyond d b.ops)) c.clock-own.ensures.own ∙ new_is k.ledger b c.args.places.now c.requires.places in
    let ws_is = c.in_ok-waiting.ensures ∙ c.as_slice.ensures ∙ ap (λ (z : Kept _ _). z.ledger.waiting) c.self.view_is in
    let cs_is = c.in_ok-copies.ensures ∙ c.as_slice-2.ensures in
    MergeCall.absorbed_call t law kn c.self.invariant k me_is rows_are c.requires.sound b c.requires.batch c.requires.faultless c.clock-own.result c.clock-own.ensures.own c.in_ok-new.new c.in_ok-waiting.waiting c.in_ok-copies.copies new_is ws_is cs_is c.in_ok-come.come.ready c.in_ok-come.come.waiting c.in_ok-come.come.clock c.in_ok-come.ensures.ready c.in_ok-come.ensures.waiting c.in_ok-come.ensures.clock c.heard_all-known.result c.batch.inside.sender c.batch.inside.header c.as_slice-3.result.now (ap (λ (z : Batch _). z.sender) c.batch.view_is) (ap (λ (z : Batch _). z.header) c.batch.view_is) c.as_slice-3.ensures c.heard_all-known.ensures.rows c.heard_all-known.ensures.me c.in_ok-replica.replica c.in_ok-replica.ensures.kept

pub returns-clause-same : goal.returns-clause-same
returns-clause-same g c =
    let t = g.T.Tower.meaning c.args.tower.now in
    let law = g.met.T.Tower.lawful c.args.tower.now in
    let kn = c.self.inside.known in
    let k = c.args.self in
    let b = c.args.batch in
    let me_is = ap (λ (z : Kept _ _). z.ledger.me) c.self.view_is in
    let rows_are = ap (λ (z : Kept _ _). z.ledger.known) c.self.view_is in
    let new_is = c.in_ok-new.ensures ∙ ap (λ (l : List (Entry _)). filter (λ e. not (is_some (get by_id c.args.places.now (id_of e.stamp)))) (beyond c.clock-own.result l)) (ap (λ (z : Batch _). z.ops) c.batch.view_is)
    ∙ ap (λ (d : Clock). filter (λ e. not (is_some (get by_id c.args.places.now (id_of e.stamp)))) (beyond d b.ops)) c.clock-own.ensures.own ∙ new_is k.ledger b c.args.places.now c.requires.places in
    let ws_is = c.in_ok-waiting.ensures ∙ c.as_slice.ensures ∙ ap (λ (z : Kept _ _). z.ledger.waiting) c.self.view_is in
    let cs_is = c.in_ok-copies.ensures ∙ c.as_slice-2.ensures in
    MergeCall.same_call t law kn c.self.invariant k me_is rows_are c.requires.sound b c.requires.batch c.requires.faultless c.clock-own.result c.clock-own.ensures.own c.in_ok-new.new c.in_ok-waiting.waiting c.in_ok-copies.copies new_is ws_is cs_is c.in_ok-come.come.ready c.in_ok-come.come.waiting c.in_ok-come.come.clock c.in_ok-come.ensures.ready c.in_ok-come.ensures.waiting c.in_ok-come.ensures.clock c.heard_all-known.result c.batch.inside.sender c.batch.inside.header c.as_slice-3.result.now (ap (λ (z : Batch _). z.sender) c.batch.view_is) (ap (λ (z : Batch _). z.header) c.batch.view_is) c.as_slice-3.ensures c.heard_all-known.ensures.rows c.heard_all-known.ensures.me c.in_ok-replica.replica (MergeCall.absorbed_call t law kn c.self.invariant k me_is rows_are c.requires.sound b c.requires.batch c.requires.faultless c.clock-own.result c.clock-own.ensures.own c.in_ok-new.new c.in_ok-waiting.waiting c.in_ok-copies.copies new_is ws_is cs_is c.in_ok-come.come.ready c.in_ok-come.come.waiting c.in_ok-come.come.clock c.in_ok-come.ensures.ready c.in_ok-come.ensures.waiting c.in_ok-come.ensures.clock c.heard_all-known.result c.batch.inside.sender c.batch.inside.header c.as_slice-3.result.now (ap (λ (z : Batch _). z.sender) c.batch.view_is) (ap (λ (z : Batch _). z.header) c.batch.view_is) c.as_slice-3.ensures c.heard_all-known.ensures.rows c.heard_all-known.ensures.me c.in_ok-replica.replica c.in_ok-replica.ensures.kept)

pub returns-clause-did : goal.returns-clause-did
returns-clause-did g c =
    let t = g.T.Tower.meaning c.args.tower.now in
    let law = g.met.T.Tower.lawful c.args.tower.now in
    let kn = c.self.inside.known in
    let k = c.args.self in
    let b = c.args.batch in
    let me_is = ap (λ (z : Kept _ _). z.ledger.me) c.self.view_is in
    let rows_are = ap (λ (z : Kept _ _). z.ledger.known) c.self.view_is in
    let new_is = c.in_ok-new.ensures ∙ ap (λ (l : List (Entry _)). filter (λ e. not (is_some (get by_id c.args.places.now (id_of e.stamp)))) (beyond c.clock-own.result l)) (ap (λ (z : Batch _). z.ops) c.batch.view_is)
    ∙ ap (λ (d : Clock). filter (λ e. not (is_some (get by_id c.args.places.now (id_of e.stamp)))) (beyond d b.ops)) c.clock-own.ensures.own ∙ new_is k.ledger b c.args.places.now c.requires.places in
    let ws_is = c.in_ok-waiting.ensures ∙ c.as_slice.ensures ∙ ap (λ (z : Kept _ _). z.ledger.waiting) c.self.view_is in
    let cs_is = c.in_ok-copies.ensures ∙ c.as_slice-2.ensures in
    MergeCall.did_call t law kn c.self.invariant k me_is rows_are c.requires.sound b c.requires.batch c.requires.faultless c.clock-own.result c.clock-own.ensures.own c.in_ok-new.new c.in_ok-waiting.waiting c.in_ok-copies.copies new_is ws_is cs_is c.in_ok-come.come.ready c.in_ok-come.come.waiting c.in_ok-come.come.clock c.in_ok-come.ensures.ready c.in_ok-come.ensures.waiting c.in_ok-come.ensures.clock c.heard_all-known.result c.batch.inside.sender c.batch.inside.header c.as_slice-3.result.now (ap (λ (z : Batch _). z.sender) c.batch.view_is) (ap (λ (z : Batch _). z.header) c.batch.view_is) c.as_slice-3.ensures c.heard_all-known.ensures.rows c.heard_all-known.ensures.me c.len.result c.len-2.result c.len.ensures c.len-2.ensures

pub returns-clause-few : goal.returns-clause-few
returns-clause-few g c =
    let t = g.T.Tower.meaning c.args.tower.now in
    let law = g.met.T.Tower.lawful c.args.tower.now in
    let kn = c.self.inside.known in
    let k = c.args.self in
    let b = c.args.batch in
    let me_is = ap (λ (z : Kept _ _). z.ledger.me) c.self.view_is in
    let rows_are = ap (λ (z : Kept _ _). z.ledger.known) c.self.view_is in
    let new_is = c.in_ok-new.ensures ∙ ap (λ (l : List (Entry _)). filter (λ e. not (is_some (get by_id c.args.places.now (id_of e.stamp)))) (beyond c.clock-own.result l)) (ap (λ (z : Batch _). z.ops) c.batch.view_is)
    ∙ ap (λ (d : Clock). filter (λ e. not (is_some (get by_id c.args.places.now (id_of e.stamp)))) (beyond d b.ops)) c.clock-own.ensures.own ∙ new_is k.ledger b c.args.places.now c.requires.places in
    let ws_is = c.in_ok-waiting.ensures ∙ c.as_slice.ensures ∙ ap (λ (z : Kept _ _). z.ledger.waiting) c.self.view_is in
    let cs_is = c.in_ok-copies.ensures ∙ c.as_slice-2.ensures in
    let count : c.burden_with-count.result ≡ burden (ledger_absorbed k.ledger b) = MergeCall.count_call t law kn c.self.invariant k me_is rows_are c.requires.sound b c.requires.batch c.requires.faultless c.clock-own.result c.clock-own.ensures.own c.in_ok-new.new c.in_ok-waiting.waiting c.in_ok-copies.copies new_is ws_is cs_is c.in_ok-come.come.ready c.in_ok-come.come.waiting c.in_ok-come.come.clock c.in_ok-come.ensures.ready c.in_ok-come.ensures.waiting c.in_ok-come.ensures.clock c.heard_all-known.result c.batch.inside.sender c.batch.inside.header c.as_slice-3.result.now (ap (λ (z : Batch _). z.sender) c.batch.view_is) (ap (λ (z : Batch _). z.header) c.batch.view_is) c.as_slice-3.ensures c.heard_all-known.ensures.rows c.heard_all-known.ensures.me c.floor-2.result c.burden_with-count.result c.floor-2.ensures.floor c.burden_with-count.ensures in
    subst (λ i. i ≤ max_burden) count c.if-count-gt50000.false

pub returns-clause-sound : goal.returns-clause-sound
returns-clause-sound g c =
    let t = g.T.Tower.meaning c.args.tower.now in
    let law = g.met.T.Tower.lawful c.args.tower.now in
    let kn = c.self.inside.known in
    let k = c.args.self in
    let b = c.args.batch in
    let me_is = ap (λ (z : Kept _ _). z.ledger.me) c.self.view_is in
    let rows_are = ap (λ (z : Kept _ _). z.ledger.known) c.self.view_is in
    let new_is = c.in_ok-new.ensures ∙ ap (λ (l : List (Entry _)). filter (λ e. not (is_some (get by_id c.args.places.now (id_of e.stamp)))) (beyond c.clock-own.result l)) (ap (λ (z : Batch _). z.ops) c.batch.view_is)
    ∙ ap (λ (d : Clock). filter (λ e. not (is_some (get by_id c.args.places.now (id_of e.stamp)))) (beyond d b.ops)) c.clock-own.ensures.own ∙ new_is k.ledger b c.args.places.now c.requires.places in
    let ws_is = c.in_ok-waiting.ensures ∙ c.as_slice.ensures ∙ ap (λ (z : Kept _ _). z.ledger.waiting) c.self.view_is in
    let cs_is = c.in_ok-copies.ensures ∙ c.as_slice-2.ensures in
    let count : c.burden_with-count.result ≡ burden (ledger_absorbed k.ledger b) = MergeCall.count_call t law kn c.self.invariant k me_is rows_are c.requires.sound b c.requires.batch c.requires.faultless c.clock-own.result c.clock-own.ensures.own c.in_ok-new.new c.in_ok-waiting.waiting c.in_ok-copies.copies new_is ws_is cs_is c.in_ok-come.come.ready c.in_ok-come.come.waiting c.in_ok-come.come.clock c.in_ok-come.ensures.ready c.in_ok-come.ensures.waiting c.in_ok-come.ensures.clock c.heard_all-known.result c.batch.inside.sender c.batch.inside.header c.as_slice-3.result.now (ap (λ (z : Batch _). z.sender) c.batch.view_is) (ap (λ (z : Batch _). z.header) c.batch.view_is) c.as_slice-3.ensures c.heard_all-known.ensures.rows c.heard_all-known.ensures.me c.floor-2.result c.burden_with-count.result c.floor-2.ensures.floor c.burden_with-count.ensures in
    let few : burden (ledger_absorbed k.ledger b) ≤ max_burden = subst (λ i. i ≤ max_burden) count c.if-count-gt50000.false in
    MergeCall.sound_call t law kn c.self.invariant k me_is rows_are c.requires.sound b c.requires.batch c.requires.faultless c.clock-own.result c.clock-own.ensures.own c.in_ok-new.new c.in_ok-waiting.waiting c.in_ok-copies.copies new_is ws_is cs_is c.in_ok-come.come.ready c.in_ok-come.come.waiting c.in_ok-come.come.clock c.in_ok-come.ensures.ready c.in_ok-come.ensures.waiting c.in_ok-come.ensures.clock c.heard_all-known.result c.batch.inside.sender c.batch.inside.header c.as_slice-3.result.now (ap (λ (z : Batch _). z.sender) c.batch.view_is) (ap (λ (z : Batch _). z.header) c.batch.view_is) c.as_slice-3.ensures c.heard_all-known.ensures.rows c.heard_all-known.ensures.me c.in_ok-replica.replica (MergeCall.absorbed_call t law kn c.self.invariant k me_is rows_are c.requires.sound b c.requires.batch c.requires.faultless c.clock-own.result c.clock-own.ensures.own c.in_ok-new.new c.in_ok-waiting.waiting c.in_ok-copies.copies new_is ws_is cs_is c.in_ok-come.come.ready c.in_ok-come.come.waiting c.in_ok-come.come.clock c.in_ok-come.ensures.ready c.in_ok-come.ensures.waiting c.in_ok-come.ensures.clock c.heard_all-known.result c.batch.inside.sender c.batch.inside.header c.as_slice-3.result.now (ap (λ (z : Batch _). z.sender) c.batch.view_is) (ap (λ (z : Batch _). z.header) c.batch.view_is) c.as_slice-3.ensures c.heard_all-known.ensures.rows c.heard_all-known.ensures.me c.in_ok-replica.replica c.in_ok-replica.ensures.kept) c.in_ok-replica.ensures.held few
