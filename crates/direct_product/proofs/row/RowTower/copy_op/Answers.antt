use Rattle.std.proofs.Common.{sym, arith}
use Rattle.direct_product.proofs.RowReads.{formed_within, part_at}
use Rattle.direct_product.proofs.row.RowTower.copy_op.Goals as goal

pub index-part-requires : goal.index-part-requires
index-part-requires g c = omega (arith, c.args.self.now.parts.ok.0, formed_within g.T.Tower.meaning c.args.self.now.parts.items c.args.op.now.part c.args.op.now.op c.requires)

pub copy_op-requires : goal.copy_op-requires
copy_op-requires g c =
    let within = formed_within g.T.Tower.meaning c.args.self.now.parts.items c.args.op.now.part c.args.op.now.op c.requires in
    (part_at g.T.Tower.meaning _ _ _ _ within (sym c.index-part.ensures)).formed _ c.requires
