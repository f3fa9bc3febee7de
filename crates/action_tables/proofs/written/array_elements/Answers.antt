use Rattle.std.proofs.Common.{ap, sym, ◌∙◌, map, option_map, Some}
use Rattle.serde_json.specs.View.{view}
use Rattle.action_tables.specs.TableText.{elements}
use Rattle.action_tables.proofs.Reading.{elements-items_view}
use Rattle.action_tables.proofs.written.array_elements.Goals as goal

pub returns : goal.returns
returns c =
    ap (λ vs. Some (map view vs)) c.as_slice.ensures.value ∙ ap Some (sym (elements-items_view c.in_ok-items.items.now.items))
    ∙ ap (option_map elements) c.in_ok-items.ensures
