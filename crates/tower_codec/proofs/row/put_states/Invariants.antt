use Rattle.std.proofs.Common.{◌≡◌}
use Rattle.std.specs.Slice.Iter.{iter_rest}
use Rattle.vector_clock.specs.declared.clock.Clock.{Clock}
use Rattle.direct_product.specs.Row.{good_all}
use Rattle.wire_core.specs.Reading.{spell_all}
use Rattle.wire_core.specs.Calls.{rules_of, wrote}
use Rattle.tower_codec.proofs.row.put_states.Given as goal

-- what is written, and what is left
abbrev pub invariant-loop-part : goal.invariant-loop-part
invariant-loop-part g l =
    let ts = iter_rest l.part-iterator.a in
    let ss = iter_rest l.part-iterator.b in
    record {
      rules : rules_of l.out ≡ rules_of l.fn.out;
      left : good_all g.T.Tower.meaning l.fn.out.n ts ss;
      written : (d : Clock) → wrote l.out (spell_all (λ t. g.C.Coder.state_grammar l.coder t d) (rules_of l.fn.out) ts ss)
          ≡ wrote l.fn.out (spell_all (λ t. g.C.Coder.state_grammar l.coder t d) (rules_of l.fn.out) l.parts l.states);
    }
