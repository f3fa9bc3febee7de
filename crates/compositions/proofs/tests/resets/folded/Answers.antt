use Rattle.std.proofs.Common.{sym, subst}
use Rattle.compositions.proofs.tests.resets.folded.Goals as goal

pub fold_plain-requires : goal.fold_plain-requires
fold_plain-requires g c =
    let t = g.T.Tower.meaning c.args.tower.now in
    let law = g.met.T.Tower.lawful c.args.tower.now in
    let start = c.in_ok-start.ensures.ok in
    record {
      members = 2;
      good = subst (t.good 2) (sym start) (law.good-init 2);
      issued = c.requires.issued;
      rising = c.requires.rising;
      apart = c.requires.apart;
      fresh = λ i d _. record { none = λ p h _. law.holds-init p (subst (λ s. t.holds s p) start h) };
    }
