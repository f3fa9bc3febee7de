use Rattle.std.proofs.Common.{ap}
use Rattle.crdt_laws.specs.Present.{document}
use Rattle.crdt_laws.proofs.Members.{canonical_same}
use Rattle.crdt_laws.proofs.sets.document_alone.Goals as goal

pub returns : goal.returns
returns g c = λ xs ys a b h. ap (document (g.T.Tower.meaning c.args.tower.now)) (canonical_same xs ys a b h)
