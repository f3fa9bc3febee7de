use Rattle.std.proofs.Common.{◌∙◌, sym, ap, arith}
use Rattle.std.specs.List.{swap}
use Rattle.direct_product.proofs.RowReads.{IsStateOf, has_state, part_at, state_of, valid_within}
use Rattle.crdt_laws.proofs.Swaps.{swapped_back}
use Rattle.direct_product.proofs.row_parts.apply_part.Goals as goal

pub swap_remove-state-requires : goal.swap_remove-state-requires
swap_remove-state-requires g c =
    let here = has_state g.T.Tower.meaning _ _ _ _ _ _ c.requires.may.good c.requires.valid c.states.inside.items.items c.states.view_is in
    omega (arith, c.states.inside.items.ok.0)

pub offset_bounds-parts-at : goal.offset_bounds-parts-at
offset_bounds-parts-at g c = omega (arith, valid_within g.T.Tower.meaning c.args.parts.now c.args.at c.args.stamp.now c.args.op.now c.requires.valid)

pub bounds-parts-at : goal.bounds-parts-at
bounds-parts-at g c = valid_within g.T.Tower.meaning c.args.parts.now c.args.at c.args.stamp.now c.args.op.now c.requires.valid

-- what is known of the part's state
state : (g : _) (c : goal.After-index-parts-at g)
    → IsStateOf g.T.Tower.meaning c.args.stamp.now.clock.n c.args.parts.now c.args.states c.args.at c.args.stamp.now c.index-parts-at.result c.swap_remove-state.result
state g c =
    state_of g.T.Tower.meaning _ _ _ _ _ _ _ (valid_within g.T.Tower.meaning c.args.parts.now c.args.at c.args.stamp.now c.args.op.now c.requires.valid)
    c.requires.may c.index-parts-at.is (rw c.states.view_is at c.swap_remove-state.ensures.value)

pub apply-requires-clause-good : goal.apply-requires-clause-good
apply-requires-clause-good g c = (state g c).good

pub apply-requires-clause-issued : goal.apply-requires-clause-issued
apply-requires-clause-issued g c =
    let within = valid_within g.T.Tower.meaning c.args.parts.now c.args.at c.args.stamp.now c.args.op.now c.requires.valid in
    record {
      stamp = c.requires.may.stamp;
      valid = (part_at g.T.Tower.meaning _ _ _ _ within (sym c.index-parts-at.is)).valid _ _ c.requires.valid;
    }

pub apply-requires-clause-fresh : goal.apply-requires-clause-fresh
apply-requires-clause-fresh g c = record { none = (state g c).fresh }

pub swap-requires-clause-i_in_bounds : goal.swap-requires-clause-i_in_bounds
swap-requires-clause-i_in_bounds g c =
    let here = has_state g.T.Tower.meaning _ _ _ _ _ _ c.requires.may.good c.requires.valid c.states.inside.items.items c.states.view_is in
    omega (arith, c.states.inside.items.ok.0, c.swap_remove-state.ensures.len, c.in_ok-push.ensures.len)

pub returns : goal.returns
returns g c =
    let within = valid_within g.T.Tower.meaning c.args.parts.now c.args.at c.args.stamp.now c.args.op.now c.requires.valid in
    let s = state_of g.T.Tower.meaning c.args.stamp.now.clock.n c.args.parts.now c.args.states c.args.at c.args.stamp.now c.index-parts-at.result c.swap_remove-state.result within
    c.requires.may c.index-parts-at.is (rw c.states.view_is at c.swap_remove-state.ensures.value) in
    let ss = c.states.inside.items.items in
    let here = has_state g.T.Tower.meaning _ _ _ _ _ _ c.requires.may.good c.requires.valid ss c.states.view_is in
    c.swap.ensures.items
    ∙ ap (λ l. swap l c.args.at c.len-last.result) c.in_ok-push.ensures.items
    ∙ swapped_back c.in_ok-next.next ss c.args.at c.swap_remove-state.result here c.swap_remove-state.new.self.items c.swap_remove-state.ensures.items
    c.len-last.result (omega (arith, c.states.inside.items.ok.0, c.swap_remove-state.ensures.len, c.len-last.ensures))
    ∙ rw (c.states.view_is, c.in_ok-next.ensures.ok) (s.applied c.args.op.now)
