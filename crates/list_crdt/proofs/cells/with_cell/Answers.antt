use Rattle.std.proofs.Common.{◌≡◌, set, subst, ap, ◌∙◌}
use Rattle.std.specs.Prelude.{insert}
use Rattle.list_crdt.specs.Places.{IsGapAt, IsStandingAt}
use Rattle.list_crdt.proofs.Found.{inserted, replaced}
use Rattle.list_crdt.proofs.cells.with_cell.Goals as goal
use Rattle.list_crdt.proofs.cells.with_cell.Goals.{in-Ok, in-Err+in_ok-insert-in-Err}

pub returns : goal.returns
returns g c =
    let position = g.C.Placed.position in
    let state = c.args.state in
    let cell = c.args.cell in
    let p = position cell in
    let items : c.state.inside.items.items ≡ state = c.state.view_is in
    let same : c.deref.result.now ≡ state = c.deref.ensures.value ∙ items in
    elim c.match-find.branch [
      | in-Ok w ↦ (
          ap (λ v. v.items) w.cells-is
          ∙ ap (λ s. set s w.in-Ok.i cell) items
          ∙ replaced position p state w.in-Ok.i cell (subst (λ s. IsStandingAt position p s w.in-Ok.i) same (subst (λ q. IsStandingAt position q c.deref.result.now w.in-Ok.i) c.at.ensures w.in-Ok.ensures.there)))
      | in-Err+in_ok-insert-in-Err w ↦ (
          ap (λ v. v.items) w.cells-is
          ∙ w.in_ok-insert-in-Err.ensures.items
          ∙ ap (λ s. insert s w.in-Err.i cell) items
          ∙ inserted position p state w.in-Err.i cell (subst (λ s. IsGapAt position p s w.in-Err.i) same (subst (λ q. IsGapAt position q c.deref.result.now w.in-Err.i) c.at.ensures w.in-Err.ensures.absent)))
    ]
