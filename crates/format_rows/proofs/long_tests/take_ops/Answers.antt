use Rattle.std.proofs.Common.{sym, subst, ◌∙◌}
use Rattle.std.specs.List.{All}
use Rattle.std.proofs.lemmas.List.Elements.{All-push}
use Rattle.wire_core.specs.Calls.{input_of}
use Rattle.wire_core.specs.Reading.{Rules}
use Rattle.wire_core.specs.Taken.{taken_allowed, taken_rules}
use Rattle.format_rows.specs.Members.{one_member}
use Rattle.format_rows.proofs.long_tests.take_ops.Goals as goal

pub loop-preserved : goal.loop-preserved
loop-preserved g c =
    let k = c.loop.invariant in
    let of = g.C.Coder.op_grammar c.args.coder.now c.args.tower.now in
    let exact = g.met.C.Coder.op_exact c.args.coder.now c.args.tower.now in
    let x = c.in_ok-take_op.field-0 in
    let after = input_of c.take_op.new.from in
    let took = c.in_ok-take_op.ensures.0 in
    let allowed = taken_allowed of exact c.loop.from x after k.inside took in
    record {
      inside = c.in_ok-take_op.ensures.1;
      rules = taken_rules of exact c.loop.from x after k.inside took ∙ k.rules;
      allowed = subst (All (λ y. of.allows one_member y)) (sym c.in_ok-push.ensures.items)
          (All-push (λ y. of.allows one_member y) c.loop.ops.items x k.allowed (subst (λ (r : Rules). of.allows r x) k.rules allowed));
    }
