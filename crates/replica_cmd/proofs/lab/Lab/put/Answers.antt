use Rattle.std.proofs.Common.{refl, sym, ◌∙◌, ap}
use Rattle.replica_cmd.specs.declared.things.Named.{Named}
use Rattle.replica_cmd.specs.Things.{lab_of}
use Rattle.replica_cmd.proofs.Lookups.{at_position, absent_position, with_at, with_absent}
use Rattle.replica_cmd.proofs.lab.Lab.put.Goals as goal

pub returns-in-Some : goal.returns-in-Some
returns-in-Some c =
    let new : Named = record { name = c.args.name; thing = c.args.thing } in
    sym (with_at c.args.name c.args.self.now.things.items c.in-Some.place new new refl
    (at_position c.args.name c.args.self.now.things.items c.in-Some.place new (sym c.place_of.ensures ∙ c.in-Some.is)))

pub returns-in_ok-push-in-None : goal.returns-in_ok-push-in-None
returns-in_ok-push-in-None c =
    let new : Named = record { name = c.args.name; thing = c.args.thing } in
    ap lab_of c.in_ok-push-in-None.ensures.items
    ∙ sym (with_absent c.args.name c.args.self.now.things.items new refl
    (absent_position c.args.name c.args.self.now.things.items (sym c.place_of.ensures ∙ c.in-None.is)))
