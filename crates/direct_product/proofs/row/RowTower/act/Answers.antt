use Rattle.std.proofs.Common.{sym, ap, ◌∙◌, arith}
use Rattle.direct_product.specs.Row.{at_part}
use Rattle.direct_product.specs.RowLaws.{row_act-same, row_act-other}
use Rattle.direct_product.proofs.RowReads.{formed_within, part_at}
use Rattle.direct_product.proofs.row.RowTower.act.Goals as goal
use Rattle.direct_product.proofs.row.RowTower.act.Goals.{then-y-x+in_ok-op, else-y-x+in_ok-op-2}

pub index-part-requires : goal.index-part-requires
index-part-requires g c = omega (arith, c.args.self.now.parts.ok.0, formed_within g.T.Tower.meaning c.args.self.now.parts.items c.args.x.now.part c.args.x.now.op c.requires.acted)

pub act-requires-clause-acting : goal.act-requires-clause-acting
act-requires-clause-acting g c =
    let within = formed_within g.T.Tower.meaning c.args.self.now.parts.items c.args.x.now.part c.args.x.now.op c.requires.acted in
    (part_at g.T.Tower.meaning _ _ _ _ within (sym c.index-part.ensures)).formed _ (rw c.if-y-x.true at c.requires.acting)

pub act-requires-clause-acted : goal.act-requires-clause-acted
act-requires-clause-acted g c =
    let within = formed_within g.T.Tower.meaning c.args.self.now.parts.items c.args.x.now.part c.args.x.now.op c.requires.acted in
    (part_at g.T.Tower.meaning _ _ _ _ within (sym c.index-part.ensures)).formed _ c.requires.acted

pub copy_op-requires : goal.copy_op-requires
copy_op-requires g c =
    let within = formed_within g.T.Tower.meaning c.args.self.now.parts.items c.args.x.now.part c.args.x.now.op c.requires.acted in
    (part_at g.T.Tower.meaning _ _ _ _ within (sym c.index-part.ensures)).formed _ c.requires.acted

pub returns-clause-ok : goal.returns-clause-ok
returns-clause-ok g c =
    let of = g.T.Tower.meaning in
    let ts = c.args.self.now.parts.items in
    let y = c.args.y.now in
    let x = c.args.x.now in
    let within = formed_within of ts x.part x.op c.requires.acted in
    let part = part_at of ts x.part c.index-part.result.now c.index-part.result.now within (sym c.index-part.ensures) in
    elim c.if-y-x.branch [
      | then-y-x+in_ok-op w ↦ ap (at_part x.part) (w.op-is ∙ w.in_ok-op.ensures.ok ∙ sym (part.act y.op x.op)) ∙ sym (row_act-same of ts y x w.if-y-x.true)
      | else-y-x+in_ok-op-2 w ↦ ap (at_part x.part) (w.op-is ∙ w.in_ok-op-2.ensures) ∙ sym (row_act-other of ts y x w.if-y-x.false)
    ]
