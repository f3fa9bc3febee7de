use Rattle.std.proofs.Common.{ap, arith, length, get_or, ◌≡◌, ◌<◌, ◌≤◌, ◌∙◌}
use Rattle.std.proofs.lemmas.List.{take_all}
use Rattle.std.specs.Prelude.{List, ℕ}
use Rattle.serde_json.specs.Data.{Data, array}
use Rattle.serde_json.specs.View.{items_of}
use Rattle.serde_json.proofs.Views.{view-Array}
use Rattle.doc_schema.specs.Canonical.{ops_from}
use Rattle.doc_schema.proofs.Building.{one_more_op}
use Rattle.doc_schema.proofs.canonical.ops_value.Goals as goal

pub loop-op-preserved : goal.loop-op-preserved
loop-op-preserved c =
    let same : c.deref-name-items.result.now ≡ c.args.ops.now = c.deref-name-items.ensures.value ∙ c.ops.view_is in
    let low : c.loop-op.op < length c.args.ops.now = omega (arith, c.loop-op-test.true, ap length same) in
    one_more_op c.args.table.now c.args.ops.now c.loop-op.op c.name-item.result c.loop-op.values.items c.push.new.self.items c.in_ok-op_value.field-0
    low (c.name-item.is ∙ ap (λ (xs : List (List ℕ)). get_or xs c.loop-op.op c.name-item.result) same) c.loop-op.invariant
    c.in_ok-op_value.ensures c.in_ok-push.ensures.items

pub returns : goal.returns
returns c =
    let same : c.deref-name-items.result.now ≡ c.args.ops.now = c.deref-name-items.ensures.value ∙ c.ops.view_is in
    let all : length c.args.ops.now ≤ c.loop-op.op = omega (arith, c.loop-op-test.false, ap length same) in
    view-Array c.loop-op.values
    ∙ ap (λ (ds : List Data). array (items_of ds))
    (c.loop-op.invariant ∙ ap (λ (names : List (List ℕ)). ops_from c.args.table.now names 0) (take_all c.loop-op.op c.args.ops.now all))
