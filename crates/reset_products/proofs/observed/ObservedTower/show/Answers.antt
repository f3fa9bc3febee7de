use Rattle.reset_products.proofs.Settling.{shown_state}
use Rattle.reset_products.proofs.observed.ObservedTower.show.Goals as goal

pub show-requires : goal.show-requires
show-requires g c =
    shown_state (g.T.Tower.meaning c.args.self.now.part) (g.met.T.Tower.lawful c.args.self.now.part) c.args.self.now.plain c.requires.members c.args.state.now c.in_ok-value.value c.requires.good c.in_ok-value.ensures.value
