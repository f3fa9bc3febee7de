use Rattle.std.proofs.Common.{◌∙◌, ap, sym}
use Rattle.crdt_laws.specs.Sets.{beyond}
use Rattle.replica_kept.proofs.Entering.{beyond_whole}
use Rattle.replica_kept.proofs.floors.Floors.kept.Goals as goal

pub returns-then-stay : goal.returns-then-stay
returns-then-stay g c =
    sym (beyond_whole c.args.self.now.before c.args.ops c.requires) ∙ ap (λ k. beyond k c.args.ops) (c.stay.ensures.0 c.if-stay.true)
