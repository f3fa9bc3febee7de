use Rattle.std.proofs.Common.{length, ap, ◌∙◌}
use Rattle.reset_products.proofs.Settling.{cut_fits, settled_run}
use Rattle.reset_products.proofs.observed.ObservedTower.settle.Goals as goal

pub split_off-requires : goal.split_off-requires
split_off-requires g c =
    cut_fits c.state.inside.log c.args.k.now c.clean_cut-cut.result _ c.clean_cut-cut.ensures (c.log.inside.items.ok.0 ∙ ap length c.log.view_is)

pub fold_plain-requires : goal.fold_plain-requires
fold_plain-requires g c =
    settled_run (g.T.Tower.meaning c.args.self.now.part) (g.met.T.Tower.lawful c.args.self.now.part) c.args.self.now.plain c.args.k.now.n _ c.args.state c.state.inside.base c.state.inside.log c.log.inside.items.items c.split_off.new.self.items
    c.state.view_is c.requires.good c.log.view_is c.in_ok-left.ensures.items
