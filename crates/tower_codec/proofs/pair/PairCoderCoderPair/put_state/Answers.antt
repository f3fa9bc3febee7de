use Rattle.std.proofs.Common.{sym, ap, subst}
use Rattle.wire_core.specs.Listed.{rules_stay}
use Rattle.tower_codec.proofs.pair.PairCoderCoderPair.put_state.Goals as goal

pub put_state-requires-2 : goal.put_state-requires-2
put_state-requires-2 g c =
    subst (λ n. (g.B.Tower.meaning c.args.tower.now.right).good n c.args.state.now.right) (sym (ap (λ r. r.members) (rules_stay c.args.out.now c.put_state.new.out _ c.in_ok-put_state.ensures))) c.requires.1
