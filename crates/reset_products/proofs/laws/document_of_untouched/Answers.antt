use Rattle.std.proofs.lemmas.List.Elements.{recursion_from_All}
use Rattle.crdt_laws.specs.declared.small.Entry.{Entry}
use Rattle.crdt_laws.specs.Tower.{IsIssued}
use Rattle.reset_products.specs.Untouched.{WinningOp, winning_meaning}
use Rattle.reset_products.proofs.Untouching.{document_untouched}
use Rattle.reset_products.proofs.laws.document_of_untouched.Goals as goal

pub returns : goal.returns
returns g c =
    let m = g.T.Tower.meaning c.args.tower.now in
    λ n xs v a h. document_untouched m (g.met.T.Tower.lawful c.args.tower.now) n xs (recursion_from_All (λ (x : Entry (WinningOp _)). IsIssued (winning_meaning m) n x.stamp x.op) xs v) a h
