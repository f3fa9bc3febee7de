use Rattle.std.proofs.Common.{◌≡◌, ◌∙◌, true, false, ap, ap₂, sym, length}
use Rattle.vector_clock.specs.Clock.{covers}
use Rattle.vector_clock.specs.Stamp.{id_of}
use Rattle.replica_model.specs.Replica.{meet_all}
use Rattle.forgetting_model.specs.Kept.{Kept}
use Rattle.forgetting_model.specs.Ledger.{own_row}
use Rattle.replica_kept.proofs.MergeCall.{issued_formed}
use Rattle.replica_kept.proofs.Forks.{forgotten, forked_in_log, forked_waiting, same_in_log, same_waiting}
use Rattle.replica_kept.proofs.replica.Replica.is_forked.Goals as goal

pub is_forked_by_key-requires-clause-forms : goal.is_forked_by_key-requires-clause-forms
is_forked_by_key-requires-clause-forms g c =
    let k = c.args.self.now in
    issued_formed (g.T.Tower.meaning c.args.tower.now) (g.met.T.Tower.lawful c.args.tower.now) (length k.ledger.known) k.ledger.log c.as_slice.result.now c.requires.sound.log.issued (c.as_slice.ensures ∙ ap (λ (z : Kept _ _). z.ledger.log) c.self.view_is)

pub is_forked_by_id-requires-clause-forms : goal.is_forked_by_id-requires-clause-forms
is_forked_by_id-requires-clause-forms g c =
    let k = c.args.self.now in
    issued_formed (g.T.Tower.meaning c.args.tower.now) (g.met.T.Tower.lawful c.args.tower.now) (length k.ledger.known) k.ledger.waiting c.as_slice-else-covers.result.now c.requires.sound.waiting.issued (c.as_slice-else-covers.ensures ∙ ap (λ (z : Kept _ _). z.ledger.waiting) c.self.view_is)

pub returns-then-not-covers-clause-forked : goal.returns-then-not-covers-clause-forked
returns-then-not-covers-clause-forked g c = λ r.
    let t = g.T.Tower.meaning c.args.tower.now in
    forked_in_log t c.args.self.now c.requires.sound c.args.e.now c.as_slice.result.now (c.as_slice.ensures ∙ ap (λ (z : Kept _ _). z.ledger.log) c.self.view_is) (c.is_forked_by_key.ensures.forked r)

pub returns-then-not-covers-clause-same : goal.returns-then-not-covers-clause-same
returns-then-not-covers-clause-same g c = λ r.
    let t = g.T.Tower.meaning c.args.tower.now in
    let k = c.args.self.now in
    let in_own : covers (own_row k.ledger) (id_of c.args.e.now.stamp) ≡ true = ap₂ covers (sym c.requires.own) (sym c.id-id.ensures) ∙ sym c.covers.ensures ∙ c.if-covers.true in
    same_in_log t k c.requires.sound c.args.e.now c.as_slice.result.now in_own (c.as_slice.ensures ∙ ap (λ (z : Kept _ _). z.ledger.log) c.self.view_is) (c.is_forked_by_key.ensures.same r)

pub returns-else-not-covers-clause-same : goal.returns-else-not-covers-clause-same
returns-else-not-covers-clause-same g c = λ _.
    let t = g.T.Tower.meaning c.args.tower.now in
    let k = c.args.self.now in
    let in_own : covers (own_row k.ledger) (id_of c.args.e.now.stamp) ≡ true = ap₂ covers (sym c.requires.own) (sym c.id-id.ensures) ∙ sym c.covers.ensures ∙ c.if-covers.true in
    let in_floor : covers (meet_all k.ledger.known) (id_of c.args.e.now.stamp) ≡ true = ap₂ covers (sym c.requires.floor) (sym c.id-id.ensures) ∙ sym c.covers-then-covers.ensures ∙ c.if-not-covers.false in
    forgotten t k c.requires.sound c.args.e.now k.ledger.log in_own in_floor

pub returns-else-covers-clause-forked : goal.returns-else-covers-clause-forked
returns-else-covers-clause-forked g c = λ r.
    let t = g.T.Tower.meaning c.args.tower.now in
    forked_waiting t c.args.self.now c.requires.sound c.args.e.now c.as_slice-else-covers.result.now (c.as_slice-else-covers.ensures ∙ ap (λ (z : Kept _ _). z.ledger.waiting) c.self.view_is) (c.is_forked_by_id.ensures.forked r)

pub returns-else-covers-clause-same : goal.returns-else-covers-clause-same
returns-else-covers-clause-same g c = λ r.
    let t = g.T.Tower.meaning c.args.tower.now in
    let k = c.args.self.now in
    let out : covers (own_row k.ledger) (id_of c.args.e.now.stamp) ≡ false = ap₂ covers (sym c.requires.own) (sym c.id-id.ensures) ∙ sym c.covers.ensures ∙ c.if-covers.false in
    same_waiting t k c.requires.sound c.args.e.now c.as_slice-else-covers.result.now out (c.as_slice-else-covers.ensures ∙ ap (λ (z : Kept _ _). z.ledger.waiting) c.self.view_is) (c.is_forked_by_id.ensures.same r)
