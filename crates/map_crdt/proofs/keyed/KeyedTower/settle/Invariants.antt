use Rattle.std.proofs.Common.{◌≡◌, ◌++◌}
use Rattle.std.specs.Vec.Iter.{into_iter_items}
use Rattle.map_crdt.specs.Keyed.{settle_all}
use Rattle.map_crdt.proofs.keyed.KeyedTower.settle.Given as goal

-- the pairs before the present one are settled
abbrev pub invariant-loop-pair : goal.invariant-loop-pair
invariant-loop-pair g l = record {
  settled : l.settled ≡ settle_all (g.T.Tower.meaning l.self.part) l.yielded l.k;
  rest : l.yielded ++ into_iter_items l.pair-iterator ≡ into_iter_items l.initial.pair-iterator;
}
