use Rattle.std.proofs.Common.{sym, arith}
use Rattle.direct_product.proofs.RowReads.{formed_within, part_at}
use Rattle.direct_product.proofs.row.RowTower.same_op.Goals as goal

pub index-part-requires : goal.index-part-requires
index-part-requires g c = omega (arith, c.args.self.now.parts.ok.0, formed_within g.T.Tower.meaning c.args.self.now.parts.items c.args.a.now.part c.args.a.now.op c.requires.left)

pub same_op-requires-clause-left : goal.same_op-requires-clause-left
same_op-requires-clause-left g c =
    let within = formed_within g.T.Tower.meaning c.args.self.now.parts.items c.args.a.now.part c.args.a.now.op c.requires.left in
    (part_at g.T.Tower.meaning _ _ _ _ within (sym c.index-part.ensures)).formed _ c.requires.left

pub same_op-requires-clause-right : goal.same_op-requires-clause-right
same_op-requires-clause-right g c =
    let within = formed_within g.T.Tower.meaning c.args.self.now.parts.items c.args.a.now.part c.args.a.now.op c.requires.left in
    (part_at g.T.Tower.meaning _ _ _ _ within (sym c.index-part.ensures)).formed _ (rw (← c.if-a-b.false) at c.requires.right)
