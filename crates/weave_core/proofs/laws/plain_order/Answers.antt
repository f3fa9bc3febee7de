use Rattle.std.proofs.lemmas.List.Elements.{recursion_from_All}
use Rattle.crdt_laws.specs.declared.small.Entry.{Entry}
use Rattle.crdt_laws.specs.Tower.{IsIssued}
use Rattle.weave_core.proofs.Plain
use Rattle.weave_core.proofs.laws.plain_order.Goals as goal

pub returns : goal.returns
returns g c =
    let t = g.T.Tower.meaning c.args.tower.now in
    λ n xs v d h a. Plain.plain_document t n (g.met.T.Tower.lawful c.args.tower.now) xs (recursion_from_All (λ (e : Entry _). IsIssued t n e.stamp e.op) xs v) d h a
