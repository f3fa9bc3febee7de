use Rattle.std.proofs.Common.{sym, ap, subst}
use Rattle.crdt_laws.specs.Sets.{AreIssued}
use Rattle.wire_core.specs.Listed.{rules_stay}
use Rattle.reset_products.specs.Observed.{Logged}
use Rattle.tower_codec.proofs.observed.ObservedCoderCoderObserved.put_state.Goals as goal

pub put_log-requires : goal.put_log-requires
put_log-requires g c =
    let m = g.T.Tower.meaning c.args.tower.now.part in
    subst (λ n. AreIssued m n c.state.inside.log) (sym (ap (λ r. r.members) (rules_stay c.args.out.now c.put_state.new.out _ c.in_ok-put_state.ensures)))
    (subst (λ (s : Logged _ _). AreIssued m c.args.out.now.n s.log) (sym c.state.view_is) c.requires.issued)
