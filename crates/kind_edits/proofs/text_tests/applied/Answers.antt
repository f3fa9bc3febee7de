use Rattle.std.proofs.Common.{◌≡◌, true, sym, ◌∙◌, ap, refl, subst, arith}
use Rattle.std.proofs.lemmas.Bool.Decides.{nat_tests}
use Rattle.vector_clock.specs.declared.clock.Clock.{Clock}
use Rattle.vector_clock.specs.declared.stamp.Stamp.{Stamp}
use Rattle.vector_clock.specs.Clock.{IsAtMost, covers}
use Rattle.vector_clock.specs.Stamp.{id_of}
use Rattle.vector_clock.proofs.Bounds.{at_most_refl}
use Rattle.crdt_laws.specs.Tower.{IsIssued, Lacks}
use Rattle.kind_edits.specs.Stamps.{clock_before}
use Rattle.kind_edits.proofs.Making.{after_before, before_next}
use Rattle.kind_edits.proofs.text_tests.applied.Goals as goal

pub returns : goal.returns
returns g c =
    let m = g.T.Tower.meaning c.args.tower.now in
    let law = g.met.T.Tower.lawful c.args.tower.now in
    let k = c.args.clock.now in
    let p = c.args.stamp.now in
    let before : clock_before p ≡ k = ap clock_before c.requires.next ∙ before_next k 0 c.requires.clock (omega (arith, c.requires.clock.some)) in
    let most : IsAtMost k p.clock = subst (λ (j : Clock). IsAtMost j p.clock) before (after_before p c.requires.stamp).knows in
    let same : k.n ≡ p.clock.n = sym (ap (λ (q : Stamp). q.clock.n) c.requires.next) in
    let issued : IsIssued m p.clock.n p c.args.op.now = record { stamp = record { stamp = c.requires.stamp; members = refl }; valid = c.valid.ensures.0 c.if-not-valid.false } in
    let lacks : Lacks m c.args.state (id_of p) = record { none = λ q h _. law.plain_holds c.args.state q c.requires.plain h } in
    let own : covers p.clock (id_of p) ≡ true = grind (arith, nat_tests) in
    let good : m.good_at p.clock (m.apply c.args.state p c.args.op.now) =
    law.good_at-apply p.clock c.args.state p c.args.op.now (law.good_at_later k p.clock c.args.state same most c.requires.good) issued lacks (at_most_refl p.clock) own in
    rw c.in_ok-apply.ensures.ok good
