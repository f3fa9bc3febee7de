use Rattle.std.proofs.Common.{◌≡◌, List, get_or, length, take, map, ◌<◌, ap, ◌∙◌, arith}
use Rattle.std.specs.Prelude.{encode_utf8_all}
use Rattle.std.proofs.lemmas.List.{take_all}
use Rattle.serde_json.specs.Data.{string}
use Rattle.list_crdt.specs.declared.text.Cell.{Cell}
use Rattle.list_crdt.proofs.Found.{shown_more}
use Rattle.list_crdt.proofs.text.TextTower.show.Goals as goal

pub loop-cell-preserved : goal.loop-cell-preserved
loop-cell-preserved c =
    let same : c.deref-cell-items.result.now ≡ c.args.state.now = c.deref-cell-items.ensures.value ∙ c.state.view_is in
    let within : c.loop-cell.cell-index < length c.args.state.now = (let long = ap length same in omega (arith, long)) in
    let item = c.cell-item.result in
    shown_more (λ (x : Cell). x.ch) c.args.state.now c.loop-cell.cell-index item _ _ within
    (c.cell-item.is ∙ ap (λ (s : List Cell). get_or s c.loop-cell.cell-index item) same) c.loop-cell.invariant c.in_ok-push.ensures.bytes

pub returns : goal.returns
returns c =
    let same : c.deref-cell-items.result.now ≡ c.args.state.now = c.deref-cell-items.ensures.value ∙ c.state.view_is in
    let all : take c.loop-cell.cell-index c.args.state.now ≡ c.args.state.now = (let long = ap length same in take_all c.loop-cell.cell-index c.args.state.now (omega (arith, long))) in
    c.from.ensures ∙ ap string (c.loop-cell.invariant ∙ ap (λ (s : List Cell). encode_utf8_all (map (λ (x : Cell). x.ch) s)) all)
