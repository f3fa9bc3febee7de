use Rattle.std.proofs.Common.{◌≡◌, refl, rules, subst}
use Rattle.wire_core.specs.Reading.{listed}
use Rattle.wire_core.specs.Calls.{rules_of, wrote}
use Rattle.wire_core.specs.Listed.{listed_put, on_ok}
use Rattle.kind_codec.specs.Registers.{held_grammar}
use Rattle.kind_codec.proofs.register.SeveralCoderCoderSeveral.put_state.Goals as goal

pub returns : goal.returns
returns c =
    let out = c.args.out.now in
    let same : c.as_slice-sets.result.now ≡ c.args.state.now = search rules in
    on_ok c.put_sets.result _ _ (λ h d. subst (λ sets. c.put_sets.new.out ≡ wrote out ((listed (held_grammar d)).spell (rules_of out) sets)) same
    (listed_put (held_grammar d) out c.put_count.new.self c.put_sets.new.out c.as_slice-sets.result.now _ refl c.in_ok-put_count.ensures (h d))) c.put_sets.ensures
