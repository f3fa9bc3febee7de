use Rattle.std.proofs.Common.{take, drop, ◌++◌, ◌≡◌, subst, sym}
use Rattle.crdt_laws.specs.Interleaved.{interleaved}
use Rattle.crdt_laws.proofs.Interleave.{split_at}
use Rattle.crdt_laws.proofs.unite.tail_place.Goals as goal

pub returns-in-Some-clause-same : goal.returns-in-Some-clause-same
returns-in-Some-clause-same g c =
    subst (λ i. take i c.args.xs.now ++ interleaved (drop i c.args.xs.now) c.args.ys.now ≡ interleaved c.args.xs.now c.args.ys.now) (sym c.saturating_sub.ensures)
    (split_at c.args.xs.now c.args.ys.now c.in-Some.y.now c.place_of.result c.in-Some.ensures.value c.requires.left_rises c.place_of.ensures.within c.place_of.ensures.before)
