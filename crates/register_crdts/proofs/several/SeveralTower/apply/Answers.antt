use Rattle.std.proofs.lemmas.List.Elements.{All-from_recursion}
use Rattle.vector_clock.specs.Sets.{beyond, is_beyond}
use Rattle.vector_clock.specs.Stamp.{IsStamp}
use Rattle.vector_clock.proofs.Ordered.{all-filter, all_weaker, rising-filter}
use Rattle.register_crdts.specs.declared.several.Held.{Held}
use Rattle.register_crdts.proofs.several.SeveralTower.apply.Goals as goal

pub with_held-requires-clause-stamps : goal.with_held-requires-clause-stamps
with_held-requires-clause-stamps c =
    rw c.beyond.ensures (All-from_recursion (λ (h : Held). IsStamp h.stamp) (beyond (λ (h : Held). h.stamp) c.args.stamp.now.clock c.args.state)
    (all-filter (λ h. IsStamp h.stamp) (is_beyond (λ (h : Held). h.stamp) c.args.stamp.now.clock) c.args.state
    (all_weaker _ (λ h. IsStamp h.stamp) (λ h good. good.stamp.stamp) c.args.state c.requires.good.sets)))

pub with_held-requires-clause-rising : goal.with_held-requires-clause-rising
with_held-requires-clause-rising c =
    rw c.beyond.ensures (rising-filter (λ (h : Held). h.stamp) (is_beyond (λ (h : Held). h.stamp) c.args.stamp.now.clock) c.args.state c.requires.good.rising)
