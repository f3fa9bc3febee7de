use Rattle.std.proofs.Common.{arith, drop, sym, ◌∙◌}
use Rattle.crdt_laws.proofs.Interleave.{Fronts, fronts, left_ok, level_ok, right_ok, stamps_left}
use Rattle.crdt_laws.proofs.unite.move_next.Goals as goal

pub returns-then-below-clause-step : goal.returns-then-below-clause-step
returns-then-below-clause-step g c =
    let f : Fronts c.args.left.now.items c.args.right.now.items c.in-Some-Some.x.now c.in-Some-Some.y.now =
    (fronts c.args.left.now.items c.args.right.now.items c.in-Some-Some.x.now c.in-Some-Some.y.now (omega (arith, c.args.left.now.ok.0)) (omega (arith, c.args.right.now.ok.0)) c.in-Some-Some.ensures.lookup c.in-Some-Some.ensures'.lookup) in
    left_ok c.move_front.result c.args.joined.now c.move_front.new.to c.args.left.now.items c.args.right.now.items c.move_front.new.from.items c.in-Some-Some.x.now c.in-Some-Some.y.now f
    (sym c.below.ensures ∙ c.if-below.true) c.move_front.ensures.rest
    (c.move_front.ensures.moved c.in-Some-Some.x.now (drop 1 c.args.left.now.items) f.left)

pub returns-then-below-2-clause-step : goal.returns-then-below-2-clause-step
returns-then-below-2-clause-step g c =
    let f : Fronts c.args.left.now.items c.args.right.now.items c.in-Some-Some.x.now c.in-Some-Some.y.now =
    (fronts c.args.left.now.items c.args.right.now.items c.in-Some-Some.x.now c.in-Some-Some.y.now (omega (arith, c.args.left.now.ok.0)) (omega (arith, c.args.right.now.ok.0)) c.in-Some-Some.ensures.lookup c.in-Some-Some.ensures'.lookup) in
    right_ok c.move_front-then-below-2.result c.args.joined.now c.move_front-then-below-2.new.to c.args.left.now.items c.args.right.now.items c.move_front-then-below-2.new.from.items c.in-Some-Some.x.now c.in-Some-Some.y.now f
    (sym c.below.ensures ∙ c.if-below.false) (sym c.below-else-below.ensures ∙ c.if-below-2.true) c.move_front-then-below-2.ensures.rest
    (c.move_front-then-below-2.ensures.moved c.in-Some-Some.y.now (drop 1 c.args.right.now.items) f.right)

pub returns-then-below-2-clause-right : goal.returns-then-below-2-clause-right
returns-then-below-2-clause-right g c =
    stamps_left c.args.right.now.items c.move_front-then-below-2.new.from.items c.move_front-then-below-2.ensures.rest c.requires.right

pub returns-else-below-2-clause-step : goal.returns-else-below-2-clause-step
returns-else-below-2-clause-step g c =
    let f : Fronts c.args.left.now.items c.args.right.now.items c.in-Some-Some.x.now c.in-Some-Some.y.now =
    (fronts c.args.left.now.items c.args.right.now.items c.in-Some-Some.x.now c.in-Some-Some.y.now (omega (arith, c.args.left.now.ok.0)) (omega (arith, c.args.right.now.ok.0)) c.in-Some-Some.ensures.lookup c.in-Some-Some.ensures'.lookup) in
    level_ok c.move_front-else-below-2.result c.args.joined.now c.move_front-else-below-2.new.to c.args.left.now.items c.args.right.now.items c.move_front-else-below-2.new.from.items c.pop_front.new.self.items c.in-Some-Some.x.now c.in-Some-Some.y.now f
    (sym c.below.ensures ∙ c.if-below.false) (sym c.below-else-below.ensures ∙ c.if-below-2.false) c.move_front-else-below-2.ensures.rest c.pop_front.ensures.rest
    (c.move_front-else-below-2.ensures.moved c.in-Some-Some.x.now (drop 1 c.args.left.now.items) f.left)

pub returns-else-below-2-clause-left : goal.returns-else-below-2-clause-left
returns-else-below-2-clause-left g c =
    stamps_left c.args.left.now.items c.move_front-else-below-2.new.from.items c.move_front-else-below-2.ensures.rest c.requires.left

pub returns-else-below-2-clause-right : goal.returns-else-below-2-clause-right
returns-else-below-2-clause-right g c =
    stamps_left c.args.right.now.items c.pop_front.new.self.items c.pop_front.ensures.rest c.requires.right
