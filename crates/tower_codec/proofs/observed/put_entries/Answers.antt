use Rattle.std.proofs.Common.{ap, subst, sym, take, ◌∙◌}
use Rattle.crdt_laws.specs.Tower.{IsIssued}
use Rattle.wire_core.specs.Calls.{rules_of}
use Rattle.wire_core.specs.Reading.{Rules}
use Rattle.wire_core.specs.Listed.{one_more}
use Rattle.wire_core.specs.Small.{stamp_grammar}
use Rattle.wire_core.specs.Written.{stamp_written}
use Rattle.tower_codec.specs.Observed.{logged_grammar}
use Rattle.tower_codec.proofs.States.{entry_put}
use Rattle.tower_codec.proofs.observed.put_entries.Goals as goal

pub put-requires : goal.put-requires
put-requires g c =
    let x = c.entry-item.result in
    let m = g.T.Tower.meaning c.args.tower.now in
    let issued = subst (λ e. IsIssued m c.args.out.now.n e.stamp e.op) (sym c.entry-item.is) (c.requires c.loop-entry.entry-index x c.loop-entry-test.true) in
    let within = (g.met.T.Tower.lawful c.args.tower.now).valid_within x.stamp x.op issued.valid in
    subst (λ (r : Rules). stamp_grammar.allows r x.stamp) (sym c.loop-entry.invariant.rules) (stamp_written (rules_of c.args.out.now) x.stamp issued.stamp within)

pub put_op-requires : goal.put_op-requires
put_op-requires g c =
    let x = c.entry-item.result in
    let m = g.T.Tower.meaning c.args.tower.now in
    let issued = subst (λ e. IsIssued m c.args.out.now.n e.stamp e.op) (sym c.entry-item.is) (c.requires c.loop-entry.entry-index x c.loop-entry-test.true) in
    subst (λ (r : Rules). (g.C.Coder.op_grammar c.args.coder.now c.args.tower.now).allows r x.op) (sym (ap rules_of c.in_ok-put.ensures ∙ c.loop-entry.invariant.rules))
    ((g.met.C.Coder.op_writes c.args.coder.now c.args.tower.now).each (rules_of c.args.out.now) x.stamp x.op issued.stamp issued.valid)

pub loop-entry-preserved : goal.loop-entry-preserved
loop-entry-preserved g c =
    let k = c.loop-entry.invariant in
    let part = g.C.Coder.op_grammar c.args.coder.now c.args.tower.now in
    let stands = g.C.Coder.may_stand c.args.coder.now c.args.tower.now in
    let i = c.loop-entry.entry-index in
    let x = c.entry-item.result in
    record {
      rules = ap rules_of c.in_ok-put_op.ensures ∙ ap rules_of c.in_ok-put.ensures ∙ k.rules;
      written = λ d. one_more (logged_grammar part stands d) c.args.out.now c.loop-entry.out c.put_op.new.out c.args.entries.now i x c.loop-entry-test.true c.entry-item.is (k.written d)
          (entry_put part stands d (take i c.args.entries.now) c.loop-entry.out c.put.new.out c.put_op.new.out x c.in_ok-put.ensures c.in_ok-put_op.ensures);
    }
