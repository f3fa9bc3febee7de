use Rattle.std.proofs.Common.{sym, subst}
use Rattle.crdt_laws.specs.Entry.{entry}
use Rattle.std.specs.List.{AllByRecursion}
use Rattle.std.proofs.lemmas.List.Elements.{recursion_from_All, All-from_recursion}
use Rattle.vector_clock.specs.Stamp.{IsStamp}
use Rattle.crdt_laws.specs.Sets.{IsRising}
use Rattle.crdt_laws.specs.Tower.{IsIssued}
use Rattle.weave_core.proofs.Again
use Rattle.weave_core.proofs.woven.joined.Goals as goal

pub returns-then-level-lt2 : goal.returns-then-level-lt2
returns-then-level-lt2 g c =
    let t = g.T.Tower.meaning c.args.tower.now in
    Again.left_alone t c.args.stamp.clock.n (g.met.T.Tower.lawful c.args.tower.now) (entry c.args.stamp c.args.form) c.args.history c.level.result c.level.ensures c.if-level-lt2.true c.requires.issued c.requires.before c.requires.high

pub place_in-requires-clause-stamps : goal.place_in-requires-clause-stamps
place_in-requires-clause-stamps g c =
    let t = g.T.Tower.meaning c.args.tower.now in
    let n = c.args.stamp.clock.n in
    let all = Again.stamps_acted t n (g.met.T.Tower.lawful c.args.tower.now) c.args.stamp c.args.form c.args.history (recursion_from_All (λ e. IsIssued t n e.stamp e.op) c.args.history c.requires.before) in
    All-from_recursion (λ e. IsStamp e.stamp) c.in_ok-entries.entries (subst (AllByRecursion (λ e. IsStamp e.stamp)) (sym c.in_ok-entries.ensures) all)

pub place_in-requires-clause-rising : goal.place_in-requires-clause-rising
place_in-requires-clause-rising g c =
    let t = g.T.Tower.meaning c.args.tower.now in
    subst IsRising (sym c.in_ok-entries.ensures) (Again.rising-map t (entry c.args.stamp c.args.form) c.args.history c.requires.rising)
