use Rattle.std.proofs.Common.{rules, ◌∙◌, ap}
use Rattle.std.proofs.lemmas.Fn.{filter_same}
use Rattle.crdt_laws.specs.Sets.{beyond}
use Rattle.crdt_laws.proofs.ordered.beyond.Goals as goal

pub returns : goal.returns
returns g c =
    filter_same _ _ _ (λ h b f' k. search rules) _ _ c.retain.ensures.filtered
    ∙ ap (beyond c.args.k.now) c.entries.view_is
