use Rattle.std.proofs.Common.{◌≡◌, take, map}
use Rattle.serde_json.specs.Data.{string}
use Rattle.serde_json.specs.View.{view}
use Rattle.register_crdts.proofs.several.SeveralTower.show.Given as goal

abbrev pub invariant-loop-held : goal.invariant-loop-held
invariant-loop-held l = map view l.texts.items ≡ map (λ h. string h.text) (take l.held-index l.held-items)
