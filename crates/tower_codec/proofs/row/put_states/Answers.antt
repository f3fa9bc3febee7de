use Rattle.std.proofs.Common.{◌≡◌, ◌⊎◌, length, inl, inr, ap, subst, sym, ◌∙◌}
use Rattle.std.specs.Slice.Iter.{iter_rest}
use Rattle.wire_core.specs.Reading.{spell_all}
use Rattle.wire_core.specs.Calls.{rules_of, wrote}
use Rattle.wire_core.specs.Listed.{rules_stay}
use Rattle.tower_codec.proofs.States.{good_more, states_end, states_more}
use Rattle.tower_codec.proofs.row.put_states.Goals as goal

pub put_state-requires : goal.put_state-requires
put_state-requires g c =
    let k = c.loop-part.invariant in
    subst (λ n. (g.T.Tower.meaning c.in-Some.part.now).good n c.in-Some.state.now) (sym (ap (λ r. r.members) k.rules))
    (good_more g.T.Tower.meaning c.args.out.now.n _ _ _ _ c.in-Some.part.now c.in-Some.state.now c.in-Some.ensures.steps.0 c.in-Some.ensures.steps.1 k.left).0

pub loop-part-preserved : goal.loop-part-preserved
loop-part-preserved g c =
    let k = c.loop-part.invariant in
    let of = g.C.Coder.state_grammar c.args.coder.now in
    let steps = c.in-Some.ensures.steps in
    record {
      rules = rules_stay c.loop-part.out c.put_state.new.out _ c.in_ok-put_state.ensures ∙ k.rules;
      left = (good_more g.T.Tower.meaning c.args.out.now.n _ _ _ _ c.in-Some.part.now c.in-Some.state.now steps.0 steps.1 k.left).1;
      written = states_more of c.args.out.now c.loop-part.out c.put_state.new.out (iter_rest c.loop-part.part-iterator.a) (iter_rest c.next.new.self.a)
          (iter_rest c.loop-part.part-iterator.b) (iter_rest c.next.new.self.b) c.in-Some.part.now c.in-Some.state.now
          (λ d. wrote c.args.out.now (spell_all (λ u. of u d) (rules_of c.args.out.now) c.args.parts.now c.args.states.now)) steps.0 steps.1 k.rules c.in_ok-put_state.ensures k.written;
    }

pub returns : goal.returns
returns g c =
    let of = g.C.Coder.state_grammar c.args.coder.now in
    let ts = iter_rest c.loop-part.part-iterator.a in
    let ss = iter_rest c.loop-part.part-iterator.b in
    let none : (length ts ≡ 0) ⊎ (length ss ≡ 0) = elim c.in-None.ensures.steps [ inl h ↦ inl h.1.0 | inr h ↦ inr h.1.0 ] in
    states_end of c.args.out.now c.loop-part.out ts ss (λ d. wrote c.args.out.now (spell_all (λ u. of u d) (rules_of c.args.out.now) c.args.parts.now c.args.states.now)) none c.loop-part.invariant.written
