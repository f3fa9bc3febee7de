use Rattle.std.proofs.Common.{◌++◌, ◌∷◌, [], ap, arith, drop, length, length-append, map, subst, sym, ◌+◌, ◌∙◌}
use Rattle.std.proofs.lemmas.List.{map_push}
use Rattle.std.proofs.lemmas.List.Elements.{All-push}
use Rattle.std.proofs.lemmas.Result.{err_from_is_err_and}
use Rattle.serde_json.specs.View.{view}
use Rattle.doc_schema.specs.declared.kind.Field.{Field}
use Rattle.doc_schema.specs.Schema.{FieldResult, FieldsResult}
use Rattle.doc_schema.specs.Sound.{IsSoundField}
use Rattle.std.specs.Prelude.{Err, List, Ok, ℕ}
use Rattle.std.specs.List.{All}
use Rattle.doc_schema.proofs.Steps.{at_fault, one_more}
use Rattle.doc_schema.proofs.field.read_fields.Goals as goal

pub returns-in_err-field-clause-fault : goal.returns-in_err-field-clause-fault
returns-in_err-field-clause-fault c =
    let p = err_from_is_err_and c.from_residual.result c.from_residual.ensures.1 in
    let e = c.in_err-field.field-0.0 in
    rw (p.1, p.2) (λ other. c.loop-value.invariant.kept (Err e)
    (at_fault c.args.values.now c.loop-value.value-index c.value-item.result (omega arith) c.value-item.is c.loop-value.list e
    (subst (λ (names : List (List ℕ)). FieldResult names (view c.value-item.result) (Err e)) c.loop-value.invariant.places
    (c.in_err-field.ensures.fault other))))

pub loop-value-preserved : goal.loop-value-preserved
loop-value-preserved c = record {
  kept = λ r rest. c.loop-value.invariant.kept r
      (one_more c.args.values.now c.loop-value.value-index c.value-item.result (omega arith) c.value-item.is c.loop-value.list c.in_ok-field.field r
      (subst (λ (names : List (List ℕ)). FieldResult names (view c.value-item.result) (Ok c.in_ok-field.field)) c.loop-value.invariant.places
      c.in_ok-field.ensures.field)
      (subst (λ (done : List Field). FieldsResult done (map view (drop (c.loop-value.value-index + 1) c.args.values.now)) r) c.in_ok-push.ensures.ok rest));
  places = c.in_ok-add.ensures ∙ ap (λ (names : List (List ℕ)). names ++ c.in_ok-field.field.name ∷ []) c.loop-value.invariant.places
      ∙ sym (map_push (λ (f : Field). f.name) c.loop-value.list c.in_ok-field.field)
      ∙ ap (map (λ (f : Field). f.name)) (sym c.in_ok-push.ensures.ok);
  sound = subst (All IsSoundField) (sym c.in_ok-push.ensures.ok) (All-push IsSoundField c.loop-value.list c.in_ok-field.field c.loop-value.invariant.sound c.in_ok-field.ensures.sound);
  count = ap length c.in_ok-push.ensures.ok ∙ length-append c.loop-value.list (c.in_ok-field.field ∷ []) ∙ omega (arith, c.loop-value.invariant.count);
}
