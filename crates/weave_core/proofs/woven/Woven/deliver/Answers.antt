use Rattle.std.proofs.Common.{◌≡◌, ◌∙◌, sym, subst, ap}
use Rattle.crdt_laws.specs.Entry.{entry}
use Rattle.weave_core.specs.Deliver.{deliver, IsWell}
use Rattle.weave_core.proofs.Arrivals
use Rattle.weave_core.proofs.Swap.{pair}
use Rattle.weave_core.proofs.Again
use Rattle.weave_core.proofs.Delivered.{arrived}
use Rattle.weave_core.proofs.woven.Woven.deliver.Goals as goal

pub returns : goal.returns
returns g c =
    let t = g.T.Tower.meaning c.args.tower.now in
    let law = g.met.T.Tower.lawful c.args.tower.now in
    let n = c.args.stamp.clock.n in
    let x = entry c.args.stamp c.args.op in
    let w = c.args.self in
    let step : record { state = c.in_ok-state.state; history = c.in_ok-history.history } ≡ deliver t w x =
    arrived t (pair c.self.inside.state c.self.inside.history) c.args.stamp c.args.op c.in_ok-form.form c.in_ok-state.state c.as_slice.result.now c.in_ok-history.history
    c.as_slice.ensures c.in_ok-form.ensures.present c.in_ok-state.ensures.ok c.in_ok-history.ensures
    ∙ ap (λ u. deliver t u x) c.self.view_is in
    record {
      step = step;
      well = subst (IsWell t n) (sym step) (Again.well_again t n law w x c.requires.well c.requires.issued c.requires.fresh c.requires.new);
      stands = λ xs k e v apart closed honest agrees after. step ∙ ap (λ u. deliver t u x) e ∙ Arrivals.arrives_after t law n xs x k v apart closed honest agrees after;
    }
