use Rattle.std.proofs.Common.{ap, subst, sym, take, ◌∙◌}
use Rattle.wire_core.specs.Calls.{rules_of}
use Rattle.wire_core.specs.SmallExact.{map_key_allowed}
use Rattle.map_crdt.specs.Keyed.{IsKey}
use Rattle.tower_codec.specs.Keyed.{pair_grammar}
use Rattle.wire_core.specs.Listed.{element, one_more, rules_stay}
use Rattle.tower_codec.proofs.States.{pair_put}
use Rattle.tower_codec.proofs.keyed.put_pairs.Goals as goal

pub put_map_key-requires : goal.put_map_key-requires
put_map_key-requires g c =
    let key = element (λ e. IsKey e.key) c.args.pairs.now c.loop-pair.pair-index c.pair-item.result c.pair-item.result c.requires.keys c.loop-pair-test.true c.pair-item.is in
    map_key_allowed (rules_of c.loop-pair.out) c.pair-item.result.key key.some key.most key.utf8

pub put_state-requires : goal.put_state-requires
put_state-requires g c =
    let m = g.T.Tower.meaning c.args.tower.now in
    let good = element (λ e. m.good c.args.out.now.n e.state) c.args.pairs.now c.loop-pair.pair-index c.pair-item.result c.pair-item.result c.requires.states c.loop-pair-test.true c.pair-item.is in
    subst (λ n. m.good n c.pair-item.result.state) (sym (ap (λ r. r.members) (ap rules_of c.in_ok-put_map_key.ensures ∙ c.loop-pair.invariant.rules))) good

pub loop-pair-preserved : goal.loop-pair-preserved
loop-pair-preserved g c =
    let k = c.loop-pair.invariant in
    let of = g.C.Coder.state_grammar c.args.coder.now c.args.tower.now in
    let i = c.loop-pair.pair-index in
    let x = c.pair-item.result in
    record {
      rules = rules_stay c.put_map_key.new.out c.put_state.new.out _ c.in_ok-put_state.ensures ∙ ap rules_of c.in_ok-put_map_key.ensures ∙ k.rules;
      written = λ d. one_more (pair_grammar (of d)) c.args.out.now c.loop-pair.out c.put_state.new.out c.args.pairs.now i x c.loop-pair-test.true c.pair-item.is (k.written d)
          (pair_put (of d) (take i c.args.pairs.now) c.loop-pair.out c.put_map_key.new.out c.put_state.new.out x c.in_ok-put_map_key.ensures (c.in_ok-put_state.ensures d));
    }
