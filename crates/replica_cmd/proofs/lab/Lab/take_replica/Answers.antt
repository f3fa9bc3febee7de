use Rattle.std.proofs.Common.{sym, ◌∙◌, ap, Some}
use Rattle.std.specs.List.{insert}
use Rattle.replica_cmd.specs.declared.things.Named.{Named}
use Rattle.replica_cmd.specs.Things.{lab_of, replica_or, thing_of}
use Rattle.replica_cmd.proofs.Lookups.{at_position, absent_position, gap_at, lookup_at, lookup_absent}
use Rattle.replica_cmd.proofs.lab.Lab.take_replica.Goals as goal

pub returns-in_default-clause-cause : goal.returns-in_default-clause-cause
returns-in_default-clause-cause c =
    ap (replica_or c.args.file)
    (lookup_absent c.args.file c.args.self.now.things.items (absent_position c.args.file c.args.self.now.things.items (sym c.place_of.ensures ∙ c.in_default.is)))

pub returns-in-Batch-clause-cause : goal.returns-in-Batch-clause-cause
returns-in-Batch-clause-cause c =
    let d = c.index.result.now in
    let items = c.args.self.now.things.items in
    let found = lookup_at c.args.file items c.in-Some.place d (at_position c.args.file items c.in-Some.place d (sym c.place_of.ensures ∙ c.in-Some.is)) in
    ap (replica_or c.args.file) found
    ∙ ap (λ (n : Named). replica_or c.args.file (Some (thing_of n.thing))) (sym c.index.ensures)
    ∙ ap (λ t. replica_or c.args.file (Some (thing_of t))) c.in-Batch.is

pub returns-clause-found : goal.returns-clause-found
returns-clause-found c =
    let d = c.remove-thing.result in
    let items = c.args.self.now.things.items in
    let found = lookup_at c.args.file items c.in-Some.place d (at_position c.args.file items c.in-Some.place d (sym c.place_of.ensures ∙ c.in-Some.is)) in
    ap (replica_or c.args.file) found
    ∙ ap (λ (n : Named). replica_or c.args.file (Some (thing_of n.thing))) (sym c.remove-thing.ensures.value)
    ∙ ap (λ t. replica_or c.args.file (Some (thing_of t))) c.in-Replica.is

pub returns-clause-gap : goal.returns-clause-gap
returns-clause-gap c =
    let d = c.remove-thing.result in
    let items = c.args.self.now.things.items in
    record {
      back = λ t.
          ap (λ l. insert (lab_of l) c.in-Some.place (c.args.file, t)) c.remove-thing.ensures.items
          ∙ gap_at c.args.file items c.in-Some.place d t (at_position c.args.file items c.in-Some.place d (sym c.place_of.ensures ∙ c.in-Some.is));
    }
