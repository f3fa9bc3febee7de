use Rattle.std.proofs.Common.{rules, ◌∙◌, ap}
use Rattle.std.specs.Prelude.{filter}
use Rattle.std.proofs.lemmas.Fn.{filter_same}
use Rattle.vector_clock.specs.Clock.{covers}
use Rattle.vector_clock.specs.Stamp.{id_of}
use Rattle.replica_kept.proofs.merging.within.Goals as goal

pub returns : goal.returns
returns g c = filter_same _ _ _ (λ h b f' k. search rules) _ _ c.retain.ensures.filtered ∙ ap (filter (λ e. covers c.args.k.now (id_of e.stamp))) c.ops.view_is
