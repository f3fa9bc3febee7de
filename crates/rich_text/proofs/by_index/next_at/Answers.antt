use Rattle.std.proofs.Common.{◌≡◌, ◌<◌, ◌↔◌, List, Err, length, ap, subst}
use Rattle.std.specs.Option.{option_copied}
use Rattle.vector_clock.specs.declared.clock.Id.{Id}
use Rattle.vector_clock.specs.Clock.{count}
use Rattle.list_crdt.specs.declared.gap.ListError.TheVariants.{PositionFull}
use Rattle.list_crdt.specs.declared.position.Step.{Step}
use Rattle.list_crdt.specs.Between.{position_between}
use Rattle.list_crdt.specs.Cells.{place, place_before}
use Rattle.list_crdt.specs.Position.{max_steps}
use Rattle.rich_text.specs.ByIndex.{position_at}
use Rattle.rich_text.specs.Marked.{at}
use Rattle.rich_text.proofs.by_index.next_at.Goals as goal

pub returns-clause-full : goal.returns-clause-full
returns-clause-full c =
    let p = c.args.stamp.now in
    let cells = c.args.cells.now in
    let low : option_copied c.place_before-low.result ≡ place_before at cells c.args.index = c.place_before-low.ensures in
    let high : option_copied c.place-high.result ≡ place at cells c.args.index = c.place-high.ensures in
    let seq : c.id.result.seq ≡ count p.clock p.member = ap (λ (i : Id). i.seq) c.id.ensures in
    let same : position_between p.member c.id.result.seq (option_copied c.place_before-low.result) (option_copied c.place-high.result) ≡ position_at p cells c.args.index = λ i. position_between p.member (seq i) (low i) (high i) in
    λ k. subst (λ (x : List Step). (c.between.result ≡ Err (PositionFull k)) ↔ ((max_steps < length x) × (k ≡ length x))) same (c.between.ensures.full k)
