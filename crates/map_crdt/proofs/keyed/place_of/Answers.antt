use Rattle.std.proofs.Common.{rules}
use Rattle.std.proofs.lemmas.Fn.{always_returns_same}
use Rattle.map_crdt.specs.Keyed.{byte_order}
use Rattle.map_crdt.proofs.Places.{searched}
use Rattle.map_crdt.proofs.keyed.place_of.Goals as goal

pub returns-clause-found : goal.returns-clause-found
returns-clause-found g c =
    (searched c.args.pairs.now c.requires c.args.key.now c.binary_search_by.result
    (c.binary_search_by.ensures.position (λ e. byte_order e.key c.args.key.now) (always_returns_same _ _ _ (λ a r h called. (search rules, search rules))))).found

pub returns-clause-absent : goal.returns-clause-absent
returns-clause-absent g c =
    (searched c.args.pairs.now c.requires c.args.key.now c.binary_search_by.result
    (c.binary_search_by.ensures.position (λ e. byte_order e.key c.args.key.now) (always_returns_same _ _ _ (λ a r h called. (search rules, search rules))))).absent
