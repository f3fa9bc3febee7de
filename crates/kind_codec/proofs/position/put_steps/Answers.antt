use Rattle.std.proofs.Common.{length}
use Rattle.wire_core.specs.Entries.{each_put}
use Rattle.kind_codec.specs.Position.{step_at}
use Rattle.kind_codec.proofs.position.put_steps.Goals as goal

pub loop-step-preserved : goal.loop-step-preserved
loop-step-preserved c =
    each_put (step_at (length c.args.steps.now)) c.args.out.now c.loop-step.out c.put_step.new.out c.args.steps.now c.loop-step.step-index _ c.loop-step-test.true c.loop-step.invariant c.in_ok-put_step.ensures
