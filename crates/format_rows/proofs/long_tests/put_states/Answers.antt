use Rattle.std.proofs.Common.{ℕ, ap, ◌∙◌, rules, sym, subst}
use Rattle.wire_core.specs.declared.byte_in.ByteIn.{ByteIn}
use Rattle.wire_core.specs.declared.form.ClockForm.TheVariants.{Sparse}
use Rattle.wire_core.specs.Calls.{IsInside, input_of}
use Rattle.wire_core.specs.Taken.{taken_allowed}
use Rattle.format_rows.proofs.long_tests.put_states.Goals as goal

pub put_state-requires : goal.put_state-requires
put_state-requires g c =
    let from : ByteIn = record { bytes = c.args.bytes; at = 0; n = 1; form = Sparse } in
    let inside : IsInside from = search rules in
    let d = c.args.d.now in
    let m = g.T.Tower.meaning c.args.tower.now in
    let allowed = taken_allowed (g.C.Coder.state_grammar c.args.coder.now c.args.tower.now d) (g.met.C.Coder.state_exact c.args.coder.now c.args.tower.now d) from c.in_ok-state.state _ inside c.in_ok-state.ensures.0 in
    let good = (g.met.C.Coder.state_good c.args.coder.now c.args.tower.now).taken (input_of from).rules d c.in_ok-state.state c.requires.clock c.requires.members allowed in
    subst (λ (n : ℕ). m.good n c.in_ok-state.state) (c.requires.members ∙ sym (ap (λ r. r.members) c.empty-out.ensures)) ((g.met.T.Tower.lawful c.args.tower.now).good_at_good d c.in_ok-state.state good)
