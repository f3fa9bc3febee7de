use Rattle.std.proofs.Common.{◌≡◌, ℕ, rules, subst}
use Rattle.vector_clock.specs.Clock.{IsClock}
use Rattle.wire_core.specs.declared.byte_in.ByteIn.{ByteIn}
use Rattle.wire_core.specs.Calls.{IsInside, input_of}
use Rattle.wire_core.specs.Taken.{taken_allowed}
use Rattle.format_rows.proofs.state_tests.take_and_put.Goals as goal

pub put_state-requires : goal.put_state-requires
put_state-requires g c =
    let from : ByteIn = record { bytes = c.args.bytes; at = 1; n = 2; form = c.args.form } in
    let inside : IsInside from = search rules in
    let d = c.with-d.result in
    let clock : IsClock d = search rules in
    let two : d.n ≡ 2 = search rules in
    let allowed = taken_allowed (g.C.Coder.state_grammar c.args.coder.now c.args.tower.now d) (g.met.C.Coder.state_exact c.args.coder.now c.args.tower.now d) from c.in_ok-state.state _ inside c.in_ok-state.ensures.0 in
    let good = (g.met.C.Coder.state_good c.args.coder.now c.args.tower.now).taken (input_of from).rules d c.in_ok-state.state clock two allowed in
    subst (λ (n : ℕ). (g.T.Tower.meaning c.args.tower.now).good n c.in_ok-state.state) two ((g.met.T.Tower.lawful c.args.tower.now).good_at_good d c.in_ok-state.state good)
