use Rattle.std.proofs.Common.{◌≡◌, refl, rules, subst}
use Rattle.wire_core.specs.Reading.{listed}
use Rattle.wire_core.specs.Calls.{rules_of, wrote}
use Rattle.tower_codec.specs.Keyed.{pair_grammar}
use Rattle.wire_core.specs.Listed.{listed_put, on_ok}
use Rattle.tower_codec.proofs.keyed.KeyedCoderCoderKeyed.put_state.Goals as goal

pub returns : goal.returns
returns g c =
    let of = g.C.Coder.state_grammar c.args.self.now.part c.args.tower.now.part in
    let out = c.args.out.now in
    let same : c.as_slice-pairs.result.now ≡ c.args.state.now = search rules in
    on_ok c.put_pairs.result _ _ (λ h d. subst (λ pairs. c.put_pairs.new.out ≡ wrote out ((listed (pair_grammar (of d))).spell (rules_of out) pairs)) same
    (listed_put (pair_grammar (of d)) out c.put_count.new.self c.put_pairs.new.out c.as_slice-pairs.result.now _ refl c.in_ok-put_count.ensures (h d))) c.put_pairs.ensures
