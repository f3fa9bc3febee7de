use Rattle.std.proofs.Common.{◌≡◌, None, sym, ◌∙◌, ap, Some}
use Rattle.std.specs.Option.{option_map}
use Rattle.lab_model.specs.Lab.{thing_at}
use Rattle.replica_cmd.specs.Things.{lab_of, thing_of}
use Rattle.replica_cmd.proofs.Lookups.{at_position, absent_position, lookup_at, lookup_absent}
use Rattle.replica_cmd.proofs.lab.Lab.find.Goals as goal

pub returns-in_err-place : goal.returns-in_err-place
returns-in_err-place c =
    let gone : thing_at (lab_of c.args.self.now.things.items) c.args.name.now ≡ None =
    lookup_absent c.args.name.now c.args.self.now.things.items (absent_position c.args.name.now c.args.self.now.things.items (sym c.place_of.ensures ∙ c.in_err-place.was)) in
    ap (option_map (λ t. thing_of t.now)) c.from_residual.ensures ∙ sym gone

pub returns : goal.returns
returns c =
    ap (λ n. Some (thing_of n.thing)) c.index.ensures
    ∙ sym (lookup_at c.args.name.now c.args.self.now.things.items c.in_ok-place.place c.index.result.now
    (at_position c.args.name.now c.args.self.now.things.items c.in_ok-place.place c.index.result.now (sym c.place_of.ensures ∙ c.in_ok-place.was)))
