use Rattle.std.proofs.Common.{rules}
use Rattle.std.proofs.lemmas.Fn.{always_returns_same}
use Rattle.list_crdt.specs.Position.{position_cmp}
use Rattle.list_crdt.proofs.Found.{found}
use Rattle.list_crdt.proofs.cells.find.Goals as goal

pub returns-clause-there : goal.returns-clause-there
returns-clause-there g c =
    let by_order = c.binary_search_by.ensures.position (λ x. position_cmp (g.C.Placed.position x) c.args.at.now) (always_returns_same _ _ _ (λ a r g called. (search rules, search rules))) in
    (found g.C.Placed.position c.args.at.now c.args.cells.now c.requires c.binary_search_by.result c.binary_search_by.ensures.bound by_order).0

pub returns-clause-absent : goal.returns-clause-absent
returns-clause-absent g c =
    let by_order = c.binary_search_by.ensures.position (λ x. position_cmp (g.C.Placed.position x) c.args.at.now) (always_returns_same _ _ _ (λ a r g called. (search rules, search rules))) in
    (found g.C.Placed.position c.args.at.now c.args.cells.now c.requires c.binary_search_by.result c.binary_search_by.ensures.bound by_order).1
