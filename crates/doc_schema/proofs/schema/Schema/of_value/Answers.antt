use Rattle.std.proofs.Common.{map, rules, subst, sym, Ok}
use Rattle.std.proofs.lemmas.Result.{err_from_is_err_and}
use Rattle.serde_json.specs.View.{view}
use Rattle.action_tables.specs.Name.{IsName}
use Rattle.doc_schema.specs.Form.{Head}
use Rattle.doc_schema.specs.Schema.{AreMembers, ValueResult}
use Rattle.doc_schema.proofs.Kept.{accepted, kept, refused}
use Rattle.doc_schema.proofs.schema.Schema.of_value.Goals as goal

pub returns-clause-schema : goal.returns-clause-schema
returns-clause-schema c =
    let members : AreMembers c.in-Some.written.members = search rules in
    let named : IsName c.in-Some.written.doc.now = search rules in
    let h : Head = record { doc = c.in-Some.written.doc.now; members = c.in-Some.written.members; fields = map view c.in-Some.written.fields.now } in
    subst (λ doc. ValueResult (view c.args.value.now) (Ok (record { doc = doc; members = c.in-Some.written.members; fields = c.in_ok-list.field-0.list })))
    (sym c.in_ok-doc.ensures)
    (accepted (view c.args.value.now) h (sym c.in-Some.ensures) members named c.in_ok-list.field-0.list c.in_ok-list.ensures.fields)

pub returns-in_err-list-clause-fault : goal.returns-in_err-list-clause-fault
returns-in_err-list-clause-fault c =
    let members : AreMembers c.in-Some.written.members = search rules in
    let named : IsName c.in-Some.written.doc.now = search rules in
    let h : Head = record { doc = c.in-Some.written.doc.now; members = c.in-Some.written.members; fields = map view c.in-Some.written.fields.now } in
    let p = err_from_is_err_and c.from_residual-in_err-list.result c.from_residual-in_err-list.ensures.1 in
    rw (p.1, p.2) (λ other. refused (view c.args.value.now) h (sym c.in-Some.ensures) members named c.in_err-list.field-0.0 (c.in_err-list.ensures.fault other))

pub invariant_of-result : goal.invariant_of-result
invariant_of-result c =
    let members : AreMembers c.in-Some.written.members = search rules in
    let named : IsName c.in-Some.written.doc.now = search rules in
    let h : Head = record { doc = c.in-Some.written.doc.now; members = c.in-Some.written.members; fields = map view c.in-Some.written.fields.now } in (
      kept (view c.args.value.now) h c.in_ok-list.field-0.list c.in_ok-doc.doc (sym c.in-Some.ensures) members named
          c.in_ok-list.ensures.fields c.in_ok-list.ensures.sound c.in_ok-doc.ensures,
      c.in_ok-list.ensures.places,
    )
