use Rattle.std.proofs.Common.{◌∙◌, ◌++◌, ap, subst, sym}
use Rattle.crdt_laws.specs.Sets.{AreIssued}
use Rattle.replica_model.specs.Replica.{meet_all}
use Rattle.forgetting_model.specs.Kept.{Kept}
use Rattle.replica_kept.specs.Sound.{CoversNone}
use Rattle.replica_kept.proofs.Advance.{held_call, issued_call, log_past, past_call, well_call}
use Rattle.replica_kept.proofs.MergeCall.{issued_formed}
use Rattle.replica_kept.proofs.replica.Replica.grown.Goals as goal

pub copy_ops-requires : goal.copy_ops-requires
copy_ops-requires g c = record { formed = issued_formed (g.T.Tower.meaning c.args.tower.now) (g.met.T.Tower.lawful c.args.tower.now) c.args.known.n c.args.new c.as_slice.result.now c.requires.issued c.as_slice.ensures }

pub weave_in-requires-clause-issued : goal.weave_in-requires-clause-issued
weave_in-requires-clause-issued g c =
    let t = g.T.Tower.meaning c.args.tower.now in
    let k = c.args.self in
    issued_call t (g.met.T.Tower.lawful c.args.tower.now) k c.requires.sound c.args.new (subst (λ n. AreIssued t n c.args.new) c.requires.one c.requires.issued) c.requires.next c.clock-own.result c.clock-own.ensures.own c.self.inside.woven (ap (λ (z : Kept _ _). z.woven) c.self.view_is) c.in_ok-copies.copies
    (c.in_ok-copies.ensures ∙ c.as_slice.ensures)

pub trimmed-requires-clause-well : goal.trimmed-requires-clause-well
trimmed-requires-clause-well g c =
    let t = g.T.Tower.meaning c.args.tower.now in
    let k = c.args.self in
    well_call t (g.met.T.Tower.lawful c.args.tower.now) k c.requires.sound c.args.new (subst (λ n. AreIssued t n c.args.new) c.requires.one c.requires.issued) c.requires.next c.clock-own.result c.clock-own.ensures.own c.self.inside.woven (ap (λ (z : Kept _ _). z.woven) c.self.view_is) c.in_ok-copies.copies
    (c.in_ok-copies.ensures ∙ c.as_slice.ensures) c.in_ok-woven.woven c.in_ok-woven.ensures.woven c.in_ok-woven.ensures.held c.args.floors.now.after.n (c.requires.clock.members ∙ c.requires.one)

pub trimmed-requires-clause-unstable : goal.trimmed-requires-clause-unstable
trimmed-requires-clause-unstable g c =
    let t = g.T.Tower.meaning c.args.tower.now in
    let k = c.args.self in
    past_call t (g.met.T.Tower.lawful c.args.tower.now) k c.requires.sound c.args.new (subst (λ n. AreIssued t n c.args.new) c.requires.one c.requires.issued) c.requires.next c.clock-own.result c.clock-own.ensures.own c.self.inside.woven (ap (λ (z : Kept _ _). z.woven) c.self.view_is) c.in_ok-copies.copies
    (c.in_ok-copies.ensures ∙ c.as_slice.ensures) c.in_ok-woven.woven c.in_ok-woven.ensures.woven c.in_ok-woven.ensures.held c.args.floors.now.before c.requires.before

pub kept-log-requires : goal.kept-log-requires
kept-log-requires g c =
    let t = g.T.Tower.meaning c.args.tower.now in
    let k = c.args.self in
    let is = c.in_ok-appended.ensures ∙ ap (λ (z : Kept _ _). z.ledger.log ++ c.args.new) c.self.view_is in
    subst (λ d. CoversNone d c.in_ok-appended.field-0) (sym c.requires.before) (subst (CoversNone (meet_all k.ledger.known)) (sym is)
    (log_past t (g.met.T.Tower.lawful c.args.tower.now) k c.requires.sound c.args.new (subst (λ n. AreIssued t n c.args.new) c.requires.one c.requires.issued) c.requires.next))

pub returns-clause-held : goal.returns-clause-held
returns-clause-held g c =
    let t = g.T.Tower.meaning c.args.tower.now in
    let k = c.args.self in
    held_call t (g.met.T.Tower.lawful c.args.tower.now) k c.requires.sound c.args.new (subst (λ n. AreIssued t n c.args.new) c.requires.one c.requires.issued) c.requires.next c.clock-own.result c.clock-own.ensures.own c.self.inside.woven (ap (λ (z : Kept _ _). z.woven) c.self.view_is) c.in_ok-copies.copies
    (c.in_ok-copies.ensures ∙ c.as_slice.ensures) c.in_ok-woven.woven c.in_ok-woven.ensures.woven c.in_ok-woven.ensures.held c.args.floors.now.after c.in_ok-woven-2.woven c.in_ok-woven-2.ensures
