use Rattle.std.proofs.Common.{ap, subst, sym, take, ◌∙◌}
use Rattle.wire_core.specs.Reading.{Rules}
use Rattle.wire_core.specs.Calls.{rules_of}
use Rattle.wire_core.specs.Listed.{element, one_more}
use Rattle.wire_core.specs.Small.{stamp_grammar}
use Rattle.wire_core.specs.SmallExact.{text_allowed}
use Rattle.wire_core.specs.Written.{stamp_written}
use Rattle.register_crdts.specs.Several.{IsHeldOf}
use Rattle.kind_codec.specs.Registers.{held_grammar}
use Rattle.kind_codec.proofs.Put.{held_put}
use Rattle.kind_codec.proofs.register.put_sets.Goals as goal

pub put-requires : goal.put-requires
put-requires c =
    let x = c.held-item.result in
    let held = element (IsHeldOf c.args.out.now.n) c.args.sets.now c.loop-held.held-index x x c.requires c.loop-held-test.true c.held-item.is in
    subst (λ (r : Rules). stamp_grammar.allows r x.stamp) (sym c.loop-held.invariant.rules) (stamp_written (rules_of c.args.out.now) x.stamp held.stamp held.within)

pub put_text-requires : goal.put_text-requires
put_text-requires c =
    let x = c.held-item.result in
    let held = element (IsHeldOf c.args.out.now.n) c.args.sets.now c.loop-held.held-index x x c.requires c.loop-held-test.true c.held-item.is in
    text_allowed (rules_of c.put.new.out) x.text held.text.short held.text.utf8

pub loop-held-preserved : goal.loop-held-preserved
loop-held-preserved c =
    let k = c.loop-held.invariant in
    let i = c.loop-held.held-index in
    let x = c.held-item.result in
    record {
      rules = ap rules_of c.in_ok-put_text.ensures ∙ ap rules_of c.in_ok-put.ensures ∙ k.rules;
      written = λ d. one_more (held_grammar d) c.args.out.now c.loop-held.out c.put_text.new.out c.args.sets.now i x c.loop-held-test.true c.held-item.is (k.written d)
          (held_put d (take i c.args.sets.now) c.loop-held.out c.put.new.out c.put_text.new.out x c.in_ok-put.ensures c.in_ok-put_text.ensures);
    }
