use Rattle.std.proofs.Common.{◌≡◌, refl, rules, subst}
use Rattle.wire_core.specs.Reading.{listed}
use Rattle.wire_core.specs.Calls.{rules_of, wrote}
use Rattle.wire_core.specs.Listed.{listed_put, on_ok}
use Rattle.tower_codec.specs.Observed.{logged_grammar}
use Rattle.tower_codec.proofs.observed.put_log.Goals as goal

pub returns : goal.returns
returns g c =
    let of = logged_grammar (g.C.Coder.op_grammar c.args.coder.now c.args.tower.now) (g.C.Coder.may_stand c.args.coder.now c.args.tower.now) in
    let out = c.args.out.now in
    let same : c.as_slice-entries.result.now ≡ c.args.log.now = search rules in
    on_ok c.put_entries.result _ _ (λ h d. subst (λ es. c.put_entries.new.out ≡ wrote out ((listed (of d)).spell (rules_of out) es)) same
    (listed_put (of d) out c.put_count.new.self c.put_entries.new.out c.as_slice-entries.result.now _ refl c.in_ok-put_count.ensures (h d))) c.put_entries.ensures
