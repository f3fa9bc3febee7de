use Rattle.std.proofs.Common.{◌≡◌, take}
use Rattle.serde_json.specs.View.{members_view}
use Rattle.map_crdt.specs.Keyed.{members}
use Rattle.map_crdt.proofs.keyed.KeyedTower.show.Given as goal

abbrev pub invariant-loop-pair : goal.invariant-loop-pair
invariant-loop-pair g l = members_view l.object.entries ≡ members (g.T.Tower.meaning l.self.part) (take l.pair-index l.pair-items)
