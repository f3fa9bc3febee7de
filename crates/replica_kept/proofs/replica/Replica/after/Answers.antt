use Rattle.std.proofs.Common.{◌∙◌, ap, refl, sym, subst}
use Rattle.std.specs.Prelude.{length}
use Rattle.crdt_laws.specs.Sets.{AreIssued}
use Rattle.history_trim.specs.Rows.{rows_of}
use Rattle.forgetting_model.specs.Kept.{Kept}
use Rattle.replica_model.specs.Replica.{meet_all}
use Rattle.replica_kept.specs.Sound.{CoversNone}
use Rattle.replica_kept.proofs.Advance.{entered_past, held_call, issued_call, past_call, well_call}
use Rattle.replica_kept.proofs.MergeCall.{after_call, kept_stamps, logged}
use Rattle.replica_kept.proofs.replica.Replica.after.Goals as goal

pub logged-requires-clause-log_stamps : goal.logged-requires-clause-log_stamps
logged-requires-clause-log_stamps g c =
    let t = g.T.Tower.meaning c.args.tower.now in
    let k = c.args.self in
    kept_stamps t (length k.ledger.known) k.ledger.log c.self.inside.log c.requires.sound.log (ap (λ (z : Kept _ _). z.ledger.log) c.self.view_is)

pub logged-requires-clause-waiting_stamps : goal.logged-requires-clause-waiting_stamps
logged-requires-clause-waiting_stamps g c =
    let t = g.T.Tower.meaning c.args.tower.now in
    let k = c.args.self in
    kept_stamps t (length k.ledger.known) k.ledger.waiting c.self.inside.waiting c.requires.sound.waiting (ap (λ (z : Kept _ _). z.ledger.waiting) c.self.view_is)

pub weave_in-requires-clause-issued : goal.weave_in-requires-clause-issued
weave_in-requires-clause-issued g c =
    let t = g.T.Tower.meaning c.args.tower.now in
    let k = c.args.self in
    issued_call t (g.met.T.Tower.lawful c.args.tower.now) k c.requires.sound c.args.come.ready (subst (λ n. AreIssued t n c.args.come.ready) c.requires.one c.requires.issued) c.requires.next c.clock-own.result c.clock-own.ensures.own
    c.self.inside.woven (ap (λ (z : Kept _ _). z.woven) c.self.view_is) c.args.come.ready refl

pub trimmed-requires-clause-well : goal.trimmed-requires-clause-well
trimmed-requires-clause-well g c =
    let t = g.T.Tower.meaning c.args.tower.now in
    let k = c.args.self in
    well_call t (g.met.T.Tower.lawful c.args.tower.now) k c.requires.sound c.args.come.ready (subst (λ n. AreIssued t n c.args.come.ready) c.requires.one c.requires.issued) c.requires.next c.clock-own.result c.clock-own.ensures.own
    c.self.inside.woven (ap (λ (z : Kept _ _). z.woven) c.self.view_is) c.args.come.ready refl c.in_ok-woven.woven c.in_ok-woven.ensures.woven c.in_ok-woven.ensures.held c.args.floors.now.after.n (c.requires.clock.members ∙ c.requires.one)

pub trimmed-requires-clause-unstable : goal.trimmed-requires-clause-unstable
trimmed-requires-clause-unstable g c =
    let t = g.T.Tower.meaning c.args.tower.now in
    let k = c.args.self in
    past_call t (g.met.T.Tower.lawful c.args.tower.now) k c.requires.sound c.args.come.ready (subst (λ n. AreIssued t n c.args.come.ready) c.requires.one c.requires.issued) c.requires.next c.clock-own.result c.clock-own.ensures.own
    c.self.inside.woven (ap (λ (z : Kept _ _). z.woven) c.self.view_is) c.args.come.ready refl c.in_ok-woven.woven c.in_ok-woven.ensures.woven c.in_ok-woven.ensures.held c.args.floors.now.before c.requires.before

pub kept-log-requires : goal.kept-log-requires
kept-log-requires g c =
    let t = g.T.Tower.meaning c.args.tower.now in
    let k = c.args.self in
    let is = c.in_ok-logged.ensures ∙ ap (λ (z : Kept _ _). logged c.args.come.clock z.ledger.log z.ledger.waiting c.args.new) c.self.view_is in
    subst (λ d. CoversNone d c.in_ok-logged.field-0) (sym c.requires.before) (subst (CoversNone (meet_all k.ledger.known)) (sym is)
    (entered_past t (g.met.T.Tower.lawful c.args.tower.now) k c.requires.sound c.args.come.clock c.args.new c.requires.new))

pub returns-clause-kept : goal.returns-clause-kept
returns-clause-kept g c =
    let t = g.T.Tower.meaning c.args.tower.now in
    let k = c.args.self in
    let floor = c.requires.after in
    after_call t c.self.inside.doc c.self.inside.known c.self.inside.log c.self.inside.waiting c.self.inside.woven k c.self.view_is c.args.known.me (rows_of c.args.known) c.args.come.clock c.args.new c.args.come.ready c.args.come.waiting c.in_ok-logged.field-0 c.in_ok-logged.ensures
    c.args.floors.now.after c.requires.after c.kept-log.result c.in_ok-woven.woven c.in_ok-woven-2.woven c.kept-log.ensures c.in_ok-woven.ensures.woven c.in_ok-woven-2.ensures

pub returns-clause-held : goal.returns-clause-held
returns-clause-held g c =
    let t = g.T.Tower.meaning c.args.tower.now in
    let k = c.args.self in
    held_call t (g.met.T.Tower.lawful c.args.tower.now) k c.requires.sound c.args.come.ready (subst (λ n. AreIssued t n c.args.come.ready) c.requires.one c.requires.issued) c.requires.next c.clock-own.result c.clock-own.ensures.own
    c.self.inside.woven (ap (λ (z : Kept _ _). z.woven) c.self.view_is) c.args.come.ready refl c.in_ok-woven.woven c.in_ok-woven.ensures.woven c.in_ok-woven.ensures.held c.args.floors.now.after c.in_ok-woven-2.woven c.in_ok-woven-2.ensures
