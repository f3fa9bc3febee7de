use Rattle.std.proofs.Common.{refl, sym, ap, ◌∙◌}
use Rattle.std.proofs.lemmas.Result.{err_from_is_err_and}
use Rattle.wire_core.specs.Reading.{read_all}
use Rattle.wire_core.specs.Calls.{input_of}
use Rattle.wire_core.specs.Loop.{all_begin, all_done, all_fail, all_on}
use Rattle.wire_core.specs.Taken.{taken_rules}
use Rattle.tower_codec.proofs.States.{at_clock}
use Rattle.tower_codec.proofs.row.take_states.Goals as goal

pub loop-part-init : goal.loop-part-init
loop-part-init g c = record {
  inside = c.requires.inside;
  rules = refl;
  so_far = rw c.new-states.ensures.items (all_begin (at_clock (g.C.Coder.state_grammar c.args.coder.now) c.args.d.now) c.args.parts.now (input_of c.args.from.now));
}

pub take_state-requires-clause-inside : goal.take_state-requires-clause-inside
take_state-requires-clause-inside g c = c.loop-part.invariant.inside

pub take_state-requires-clause-members : goal.take_state-requires-clause-members
take_state-requires-clause-members g c = c.requires.members ∙ sym (ap (λ r. r.members) c.loop-part.invariant.rules)

pub loop-part-preserved : goal.loop-part-preserved
loop-part-preserved g c =
    let k = c.loop-part.invariant in
    let of = at_clock (g.C.Coder.state_grammar c.args.coder.now) c.args.d.now in
    record {
      inside = c.in_ok-state.ensures.1;
      rules = taken_rules (of c.part-item.result) (g.met.C.Coder.state_exact c.args.coder.now c.part-item.result c.args.d.now) c.loop-part.from c.in_ok-state.state (input_of c.take_state.new.from) k.inside c.in_ok-state.ensures.0 ∙ k.rules;
      so_far = rw c.in_ok-push.ensures.items (all_on of c.loop-part.states.items c.args.parts.now c.loop-part.part-index _ c.part-item.result (input_of c.loop-part.from) (input_of c.take_state.new.from)
          c.in_ok-state.state (read_all of c.args.parts.now (input_of c.args.from.now)) c.loop-part-test.true c.part-item.is c.in_ok-state.ensures.0 k.so_far);
    }

pub returns-in_err-state : goal.returns-in_err-state
returns-in_err-state g c =
    let p = err_from_is_err_and c.from_residual.result c.from_residual.ensures.1 in
    let k = c.loop-part.invariant in
    let of = at_clock (g.C.Coder.state_grammar c.args.coder.now) c.args.d.now in
    rw (p.1, p.2) (all_fail of c.in_err-state.field-0.0 c.loop-part.states.items c.args.parts.now c.loop-part.part-index _ c.part-item.result (input_of c.loop-part.from)
    (read_all of c.args.parts.now (input_of c.args.from.now)) c.loop-part-test.true c.part-item.is c.in_err-state.ensures k.so_far)

pub returns : goal.returns
returns g c =
    let k = c.loop-part.invariant in
    let of = at_clock (g.C.Coder.state_grammar c.args.coder.now) c.args.d.now in
    (all_done of c.loop-part.states.items c.args.parts.now c.loop-part.part-index (input_of c.loop-part.from) (read_all of c.args.parts.now (input_of c.args.from.now)) c.loop-part-test.false k.so_far, k.inside)
