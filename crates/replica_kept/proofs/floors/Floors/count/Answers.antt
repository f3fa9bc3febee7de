use Rattle.std.proofs.Common.{◌∙◌, ap, length, sym}
use Rattle.crdt_laws.specs.Sets.{beyond}
use Rattle.replica_kept.proofs.Entering.{beyond_whole}
use Rattle.replica_kept.proofs.floors.Floors.count.Goals as goal

pub returns-then-stay-clause-counted : goal.returns-then-stay-clause-counted
returns-then-stay-clause-counted g c =
    ap length (sym (beyond_whole c.args.self.now.before c.args.ops.now c.requires)) ∙ ap (λ k. length (beyond k c.args.ops.now)) (c.stay.ensures.0 c.if-stay.true)
