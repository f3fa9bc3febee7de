use Rattle.std.proofs.Common.{◌≤◌, arith, subst, sym}
use Rattle.crdt_laws.specs.Tower.{Meaning}
use Rattle.doc_tower.specs.declared.kinds.KindOp.{KindOp}
use Rattle.doc_tower.specs.declared.kinds.KindState.{KindState}
use Rattle.doc_tower.specs.Kinds.{kind_meaning}
use Rattle.doc_tower.proofs.Means.{tower_means}
use Rattle.doc_tower.proofs.Tops.{kind_top}
use Rattle.doc_tower.proofs.fields.field_tower.Goals as goal

pub winning-requires : goal.winning-requires
winning-requires c =
    let same = tower_means c.in_ok-tower.tower c.args.field.now.kind c.in_ok-tower.ensures in
    let low : (kind_meaning c.args.field.now.kind).top ≤ 254 = omega (arith, kind_top c.args.field.now.kind) in
    subst (λ (m : Meaning KindState KindOp). m.top ≤ 254) (sym same) low
