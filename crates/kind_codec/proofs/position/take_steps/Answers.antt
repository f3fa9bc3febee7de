use Rattle.std.proofs.Common.{◌≡◌, ◌+◌, [], ◌∷◌, nat_eq, length, length-append, sym, ap, subst, ◌∙◌}
use Rattle.std.proofs.lemmas.Result.{err_from_is_err_and}
use Rattle.wire_core.specs.Reading.{Got, read_each}
use Rattle.wire_core.specs.Calls.{input_of, Fails}
use Rattle.wire_core.specs.Loop.{goes_on, fails}
use Rattle.kind_codec.specs.Position.{step_grammar, step_at}
use Rattle.kind_codec.proofs.position.take_steps.Goals as goal

pub returns-in_err-step : goal.returns-in_err-step
returns-in_err-step c =
    let p = err_from_is_err_and c.from_residual.result c.from_residual.ensures.1 in
    let k = c.loop-i.invariant in
    rw (p.1, p.2) (fails (step_at c.args.count) c.in_err-step.field-0.0 c.loop-i.steps.items c.args.count c.loop-i.i (input_of c.loop-i.from) (read_each (step_at c.args.count) c.args.count [] (input_of c.args.from.now)) c.loop-i-test.true
    (subst (λ n. Fails c.in_err-step.field-0.0 ((step_grammar (nat_eq (n + 1) c.args.count)).read (input_of c.loop-i.from))) (sym k.count) c.in_err-step.ensures) k.so_far)

pub loop-i-preserved : goal.loop-i-preserved
loop-i-preserved c =
    let k = c.loop-i.invariant in
    record {
      inside = c.in_ok-step.ensures.1;
      count = ap length c.in_ok-push.ensures.items ∙ length-append c.loop-i.steps.items (c.in_ok-step.step ∷ []) ∙ ap (λ n. n + 1) k.count;
      so_far = rw c.in_ok-push.ensures.items (goes_on (step_at c.args.count) c.loop-i.steps.items c.args.count c.loop-i.i (input_of c.loop-i.from) (input_of c.take_step.new.from) c.in_ok-step.step
          (read_each (step_at c.args.count) c.args.count [] (input_of c.args.from.now)) c.loop-i-test.true
          (subst (λ n. (step_grammar (nat_eq (n + 1) c.args.count)).read (input_of c.loop-i.from) ≡ Got c.in_ok-step.step (input_of c.take_step.new.from)) (sym k.count) c.in_ok-step.ensures.0) k.so_far);
    }
