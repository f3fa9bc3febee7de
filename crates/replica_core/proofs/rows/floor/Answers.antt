use Rattle.std.proofs.Common.{◌∙◌, length, get_or}
use Rattle.vector_clock.specs.Clock.{zero_clock}
use Rattle.replica_core.proofs.Steps.{floor_item}
use Rattle.replica_core.proofs.rows.floor.Goals as goal

pub loop-clock-preserved : goal.loop-clock-preserved
loop-clock-preserved c =
    let rows = c.args.rows.now in
    let step =
    floor_item (length rows) (get_or rows 0 (zero_clock 1)) _ c.loop-clock.least c.meet-least.result rows c.as_slice-clocks.result.now c.loop-clock.clock-index
    (c.as_slice-clocks.ensures.value ∙ c.rows.view_is) c.loop-clock-test.true c.requires.rows c.loop-clock.invariant.least c.loop-clock.invariant.known c.meet-least.ensures.made in
    record { least = step.0; known = step.1 }
