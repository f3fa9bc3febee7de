use Rattle.std.proofs.Common.{◌∙◌, ap}
use Rattle.replica_cmd.specs.declared.things.Named.{Named}
use Rattle.replica_cmd.specs.declared.things.Thing.TheVariants.{Replica}
use Rattle.replica_cmd.specs.Things.{lab_of}
use Rattle.replica_cmd.proofs.Lookups.{lab_insert}
use Rattle.replica_cmd.proofs.lab.Lab.put_back.Goals as goal

pub returns : goal.returns
returns c =
    let new : Named = record { name = c.args.gap.name; thing = Replica c.args.replica } in
    ap lab_of c.in_ok-insert.ensures.items ∙ lab_insert c.args.self.now.things.items c.args.gap.place new
