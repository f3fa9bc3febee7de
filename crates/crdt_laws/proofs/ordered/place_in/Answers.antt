use Rattle.std.proofs.Common.{◌≡◌, ◌∙◌, subst}
use Rattle.std.specs.List.{insert}
use Rattle.vector_clock.proofs.Ordered.{place-insert}
use Rattle.crdt_laws.specs.Sets.{place}
use Rattle.crdt_laws.specs.Entry.{entry}
use Rattle.crdt_laws.proofs.ordered.place_in.Goals as goal

pub returns : goal.returns
returns g c =
    c.in_ok-insert.ensures.ok
    ∙ subst (λ l. insert l c.place_of-at.result (entry c.args.stamp c.args.op) ≡ place (entry c.args.stamp c.args.op) l) c.as_slice.ensures
    (place-insert (λ e. e.stamp) (entry c.args.stamp c.args.op) c.as_slice.result.now c.place_of-at.result c.place_of-at.ensures.within c.place_of-at.ensures.before c.place_of-at.ensures.found)
