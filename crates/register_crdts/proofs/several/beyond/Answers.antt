use Rattle.std.proofs.Common.{rules, ◌∙◌, ap}
use Rattle.std.proofs.lemmas.Fn.{filter_same}
use Rattle.vector_clock.specs.Sets.{beyond}
use Rattle.register_crdts.specs.declared.several.Held.{Held}
use Rattle.register_crdts.proofs.several.beyond.Goals as goal

pub returns : goal.returns
returns c =
    filter_same _ _ _ (λ h b f' k. search rules) _ _ c.retain.ensures.filtered
    ∙ ap (beyond (λ (h : Held). h.stamp) c.args.clock.now) c.sets.view_is
