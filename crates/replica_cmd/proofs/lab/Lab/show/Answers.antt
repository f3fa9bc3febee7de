use Rattle.std.proofs.Common.{◌≡◌, Ok, Some, sym, ◌∙◌, ap, subst, inl, refl}
use Rattle.std.specs.Prelude.{codes, string_bytes}
use Rattle.serde_json.specs.Data.{member, no_members, object}
use Rattle.serde_json.specs.View.{view}
use Rattle.serde_json.specs.Written.{compact_text}
use Rattle.replica_cmd.proofs.Stepping.{accepted_from}
use Rattle.crdt_laws.specs.Document.{MakesDocument}
use Rattle.replica_model.specs.Family as family
use Rattle.replica_model.specs.Replica.{Replica, members}
use Rattle.replica_core.specs.Kept.{IsKept}
use Rattle.lab_model.specs.Lab.{effect, show_under, thing_at}
use Rattle.lab_model.specs.Text.{document_text}
use Rattle.crdt_laws.specs.Present.{document}
use Rattle.replica_cmd.specs.Number.{number_op}
use Rattle.replica_cmd.specs.Things.{contents, thing_of}
use Rattle.replica_cmd.proofs.KeptLab.{kept_at}
use Rattle.replica_cmd.proofs.lab.Lab.show.Goals as goal
use Rattle.number_crdts.specs.Number.{number_meaning, NumberOp}

-- the operations of a replica make a document
makes : (r : Replica NumberOp) → IsKept (number_meaning 0) r → MakesDocument (number_meaning 0) r.delivered
makes r kept = record { members = members r; issued = kept.delivered.issued; apart = inl refl }

pub document-requires : goal.document-requires
document-requires c =
    let lab = contents c.args.self.now in
    let r = c.in-Some-Replica.replica in
    let found : thing_at lab c.args.file ≡ Some (family.replica r) = sym c.in-Some-Replica.ensures ∙ ap (λ t. Some (thing_of t)) c.in-Some-Replica.field-0-is in
    let kept = kept_at lab c.args.file (family.replica r) c.requires.kept found in
    rw (c.number.ensures.low, c.number.ensures.high)
    (subst (MakesDocument (number_meaning 0)) (sym (ap (λ (q : Replica NumberOp). q.delivered) c.replica.view_is)) (makes r kept.0))

pub returns-clause-answers : goal.returns-clause-answers
returns-clause-answers c =
    let lab = contents c.args.self.now in
    let r = c.in-Some-Replica.replica in
    let found : thing_at lab c.args.file ≡ Some (family.replica r) = sym c.in-Some-Replica.ensures ∙ ap (λ t. Some (thing_of t)) c.in-Some-Replica.field-0-is in
    let state : c.in_ok-state.state ≡ document (number_meaning 0) r.delivered =
    (rw (c.number.ensures.low, c.number.ensures.high) at c.in_ok-state.ensures.document) ∙ ap (λ (q : Replica NumberOp). document (number_meaning 0) q.delivered) c.replica.view_is in
    let shown : view c.in_ok-shown.shown ≡ (number_meaning 0).show c.in_ok-state.state = rw c.number-2.ensures.low at c.in_ok-shown.ensures in
    ap (show_under (number_meaning 0) number_op lab c.args.file) found
    ∙ ap (λ v. Ok (effect lab (document_text v))) (sym (shown ∙ ap (number_meaning 0).show state))
    ∙ ap (λ t. Ok (effect lab t)) (sym c.in_ok-text_of_document.ensures)

pub returns-clause-said : goal.returns-clause-said
returns-clause-said c =
    accepted_from (string_bytes c.in_ok-text_of_document.field-0) (compact_text (object (member (codes "n") (view c.in_ok-shown.shown) no_members)))
    c.in_ok-text_of_document.ensures refl
