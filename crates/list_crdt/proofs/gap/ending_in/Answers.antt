use Rattle.std.proofs.Common.{◌≡◌, ◌∙◌, ap, arith, get_or, unwrap_or}
use Rattle.list_crdt.specs.Position.{pad}
use Rattle.list_crdt.proofs.Levels.{padded-push}
use Rattle.list_crdt.proofs.gap.ending_in.Goals as goal

pub loop-i-preserved : goal.loop-i-preserved
loop-i-preserved c =
    let step : c.unwrap_or.result ≡ get_or c.args.p.now c.loop-i.i pad =
    c.unwrap_or.ensures ∙ ap (λ o. unwrap_or o pad) c.copied.ensures ∙ c.get.ensures.lookup.4 (omega arith) pad in
    c.in_ok-push.ensures.items ∙ padded-push c.loop-i.i c.args.p.now c.loop-i.steps.items c.unwrap_or.result c.loop-i.invariant step
