use Rattle.std.proofs.Common.{◌≤◌, ap, subst, sym, take, ◌∙◌, arith}
use Rattle.wire_core.specs.Calls.{rules_of}
use Rattle.wire_core.specs.Reading.{Rules}
use Rattle.list_crdt.specs.Text.{IsCellOf}
use Rattle.kind_codec.specs.Position.{position_allowed, position_grammar}
use Rattle.kind_codec.specs.TextStates.{cell_grammar}
use Rattle.wire_core.specs.Listed.{one_more}
use Rattle.kind_codec.proofs.Put.{cell_put}
use Rattle.kind_codec.proofs.text.put_cells.Goals as goal

pub put_position-requires : goal.put_position-requires
put_position-requires c =
    let x = c.cell-item.result in
    let few : c.args.out.now.n ≤ 256 = omega arith in
    let cell = subst (IsCellOf c.args.out.now.n) (sym c.cell-item.is) (c.requires c.loop-cell.cell-index x c.loop-cell-test.true) in
    subst (λ (r : Rules). position_grammar.allows r x.at) (sym c.loop-cell.invariant.rules) (position_allowed (rules_of c.args.out.now) x.at few cell.position)

pub loop-cell-preserved : goal.loop-cell-preserved
loop-cell-preserved c =
    let k = c.loop-cell.invariant in
    let i = c.loop-cell.cell-index in
    let x = c.cell-item.result in
    record {
      rules = ap rules_of c.in_ok-put_char.ensures ∙ ap rules_of c.in_ok-put_position.ensures ∙ k.rules;
      written = λ d. one_more (cell_grammar d) c.args.out.now c.loop-cell.out c.put_char.new.out c.args.cells.now i x c.loop-cell-test.true c.cell-item.is (k.written d)
          (cell_put d (take i c.args.cells.now) c.loop-cell.out c.put_position.new.out c.put_char.new.out x c.in_ok-put_position.ensures c.in_ok-put_char.ensures);
    }
