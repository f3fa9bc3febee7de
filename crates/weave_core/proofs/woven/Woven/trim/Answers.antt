use Rattle.std.proofs.Common.{◌≡◌, ◌∙◌, sym, subst, ap, ap₂}
use Rattle.weave_core.specs.Deliver.{trim, IsWell}
use Rattle.weave_core.proofs.Swap.{pair}
use Rattle.weave_core.proofs.Again
use Rattle.weave_core.proofs.woven.Woven.trim.Goals as goal

pub returns-clause-well : goal.returns-clause-well
returns-clause-well g c =
    let t = g.T.Tower.meaning c.args.tower.now in
    let n = c.args.k.now.n in
    let is : record { state = c.in_ok-state.state; history = c.beyond.result } ≡ trim t c.args.self c.args.k.now =
    ap₂ pair c.in_ok-state.ensures.ok c.beyond.ensures ∙ ap (λ w. trim t w c.args.k.now) c.self.view_is in
    subst (IsWell t n) (sym is) (Again.well_trimmed t n (g.met.T.Tower.lawful c.args.tower.now) c.args.self c.args.k.now c.requires.well)
