use Rattle.std.proofs.Common.{◌-◌, ◌<◌, length, arith, ap, sym, ◌∙◌}
use Rattle.std.proofs.lemmas.Option.{get_or_from_slice_get, slice_get_within}
use Rattle.vector_clock.specs.Stamp.{is_below}
use Rattle.vector_clock.proofs.Ordered.{IsBetween, upper_half}
use Rattle.vector_clock.proofs.sorted.least_place.Goals as goal

pub returns-in-Some-clause-before : goal.returns-in-Some-clause-before
returns-in-Some-clause-before g c =
    let at = g.X.Stamped.at in
    let s = c.args.stamp.now in
    let l = c.args.items.now in
    let some : length l - 1 < length l = slice_get_within l (length l - 1) c.in-Some.last.now (sym c.in-Some.ensures.value) in
    let all : IsBetween at s l 0 (length l) = record { order = omega arith; within = omega arith; before = λ k d h. absurd (omega arith); behind = λ k d h m. absurd (omega arith) } in
    λ k d h.
    (upper_half at s l c.requires.rising 0 (length l) (length l - 1) c.in-Some.last.now all (omega arith) some
    (sym (get_or_from_slice_get l (length l - 1) c.in-Some.last.now c.in-Some.last.now (sym c.in-Some.ensures.value)))
    (sym (ap (is_below s) c.stamp.ensures) ∙ sym c.below.ensures ∙ c.if-not-below.true)).before k d (omega (arith, some, h))
