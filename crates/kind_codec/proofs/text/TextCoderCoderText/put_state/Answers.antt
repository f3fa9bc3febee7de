use Rattle.std.proofs.Common.{◌≡◌, refl, rules, subst}
use Rattle.wire_core.specs.Reading.{listed}
use Rattle.wire_core.specs.Calls.{rules_of, wrote}
use Rattle.kind_codec.specs.TextStates.{cell_grammar}
use Rattle.wire_core.specs.Listed.{listed_put, on_ok}
use Rattle.kind_codec.proofs.text.TextCoderCoderText.put_state.Goals as goal

pub returns : goal.returns
returns c =
    let out = c.args.out.now in
    let same : c.as_slice-cells.result.now ≡ c.args.state.now = search rules in
    on_ok c.put_cells.result _ _ (λ h d. subst (λ cells. c.put_cells.new.out ≡ wrote out ((listed (cell_grammar d)).spell (rules_of out) cells)) same
    (listed_put (cell_grammar d) out c.put_count.new.self c.put_cells.new.out c.as_slice-cells.result.now _ refl c.in_ok-put_count.ensures (h d))) c.put_cells.ensures
