use Rattle.std.proofs.Common.{◌≤◌, ap, subst, sym, take, ◌∙◌, arith}
use Rattle.wire_core.specs.Calls.{rules_of}
use Rattle.wire_core.specs.Listed.{one_more}
use Rattle.wire_core.specs.Reading.{Rules}
use Rattle.rich_text.specs.Marked.{IsCellOf}
use Rattle.kind_codec.specs.Marks.{marks_allowed, marks_grammar}
use Rattle.kind_codec.specs.Position.{position_allowed, position_grammar}
use Rattle.kind_codec.specs.Rich.{rich_cell_grammar}
use Rattle.kind_codec.proofs.Put.{rich_cell_put}
use Rattle.kind_codec.proofs.rich.put_rich_cells.Goals as goal

pub put_position-requires : goal.put_position-requires
put_position-requires c =
    let x = c.cell-item.result in
    let few : c.args.out.now.n ≤ 256 = omega arith in
    let cell = subst (IsCellOf c.args.marks c.args.out.now.n) (sym c.cell-item.is) (c.requires c.loop-cell.cell-index x c.loop-cell-test.true) in
    subst (λ (r : Rules). position_grammar.allows r x.at) (sym c.loop-cell.invariant.rules) (position_allowed (rules_of c.args.out.now) x.at few cell.position)

pub put_marks-requires : goal.put_marks-requires
put_marks-requires c =
    let x = c.cell-item.result in
    let few : c.args.out.now.n ≤ 256 = omega arith in
    let cell = subst (IsCellOf c.args.marks c.args.out.now.n) (sym c.cell-item.is) (c.requires c.loop-cell.cell-index x c.loop-cell-test.true) in
    subst (λ (r : Rules). (marks_grammar c.args.marks).allows r x.marks) (sym (ap rules_of c.in_ok-put_char.ensures ∙ ap rules_of c.in_ok-put_position.ensures ∙ c.loop-cell.invariant.rules))
    (marks_allowed c.args.marks (rules_of c.args.out.now) x.marks few cell.marks)

pub loop-cell-preserved : goal.loop-cell-preserved
loop-cell-preserved c =
    let k = c.loop-cell.invariant in
    let i = c.loop-cell.cell-index in
    let x = c.cell-item.result in
    record {
      rules = ap rules_of c.in_ok-put_marks.ensures ∙ ap rules_of c.in_ok-put_char.ensures ∙ ap rules_of c.in_ok-put_position.ensures ∙ k.rules;
      written = λ d. one_more (rich_cell_grammar c.args.marks d) c.args.out.now c.loop-cell.out c.put_marks.new.out c.args.cells.now i x c.loop-cell-test.true c.cell-item.is (k.written d)
          (rich_cell_put c.args.marks d (take i c.args.cells.now) c.loop-cell.out c.put_position.new.out c.put_char.new.out c.put_marks.new.out x c.in_ok-put_position.ensures c.in_ok-put_char.ensures c.in_ok-put_marks.ensures);
    }
