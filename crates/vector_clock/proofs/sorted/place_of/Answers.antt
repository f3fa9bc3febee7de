use Rattle.std.proofs.Common.{◌+◌, ◌-◌, ◌/◌, ◌<◌, arith, ap, sym, ◌∙◌}
use Rattle.vector_clock.specs.Stamp.{is_below}
use Rattle.vector_clock.proofs.Ordered.{lower_half, upper_half}
use Rattle.vector_clock.proofs.sorted.place_of.Goals as goal

pub loop-low-preserved-then-below : goal.loop-low-preserved-then-below
loop-low-preserved-then-below g c =
    let low = c.loop-low.low in
    let high = c.loop-low.high in
    let open_ : low < high = c.loop-low-test.true in
    lower_half g.X.Stamped.at c.args.stamp.now c.args.items.now c.requires.rising low high (low + (high - low) / 2) c.index-items-middle.result c.loop-low.invariant (omega arith) (omega arith) c.index-items-middle.is
    (sym (ap (is_below c.args.stamp.now) c.stamp.ensures) ∙ sym c.below.ensures ∙ c.if-below.true)

pub loop-low-preserved : goal.loop-low-preserved
loop-low-preserved g c =
    let low = c.loop-low.low in
    let high = c.loop-low.high in
    let open_ : low < high = c.loop-low-test.true in
    upper_half g.X.Stamped.at c.args.stamp.now c.args.items.now c.requires.rising low high (low + (high - low) / 2) c.index-items-middle.result c.loop-low.invariant (omega arith) (omega arith) c.index-items-middle.is
    (sym (ap (is_below c.args.stamp.now) c.stamp.ensures) ∙ sym c.below.ensures ∙ c.if-below.false)
