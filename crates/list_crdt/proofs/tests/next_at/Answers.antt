use Rattle.std.proofs.Common.{List, Option, subst, sym}
use Rattle.std.specs.Option.{option_copied}
use Rattle.list_crdt.specs.declared.position.Step.{Step}
use Rattle.list_crdt.specs.Between.{AreInOrder}
use Rattle.list_crdt.specs.Text.{at, place_before}
use Rattle.list_crdt.proofs.Neighbours.{in_order}
use Rattle.list_crdt.proofs.tests.next_at.Goals as goal

pub between-requires : goal.between-requires
between-requires c =
    let s = c.args.state.now in
    let i = c.args.index in
    let text = c.requires.text in
    subst (λ (x : Option (List Step)). AreInOrder x (option_copied c.place-high.result)) (sym c.before-low.ensures)
    (subst (λ (y : Option (List Step)). AreInOrder (place_before s i) y) (sym c.place-high.ensures.place)
    (in_order at c.args.stamp.now.clock.n s (λ k d h. (text.cells k d h).position) text.rising i))
