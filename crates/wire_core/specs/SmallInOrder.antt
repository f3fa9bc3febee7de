-- The faults of small things are told from left to right.
use Rattle.std.specs.Prelude.{ℕ, []}
use Rattle.wire_core.specs.declared.form.ClockForm.{ClockForm}
use Rattle.wire_core.specs.declared.form.ClockForm.TheVariants.{Dense, Sparse}
use Rattle.wire_core.specs.Reading.{number, chain, sized}
use Rattle.wire_core.specs.Faults.{IsInOrder}
use Rattle.wire_core.specs.InOrder.{number_in_order, number_is_field, only_in_order, tested_in_order, made_in_order, chain_in_order, repeated_in_order, counted_in_order, by_rules_in_order, sized_in_order}
use Rattle.wire_core.specs.Clocks.{clock_of, entries_of, all_entries, are_within, are_rising, op_grammar, counted_ops, entries_by_form, clock_by_form, clock_grammar}
use Rattle.wire_core.specs.Small.{below, stamp_grammar, set_key_grammar, text_grammar, map_key_grammar, char_grammar}

entries_in_order : (f : ClockForm) (n : ℕ) → IsInOrder (entries_by_form f n)
entries_in_order Dense n = tested_in_order (λ _. are_within) (all_entries n) (repeated_in_order (λ _. number 4) (λ _. number_in_order 4) n [])
entries_in_order Sparse n = made_in_order _ _ _ (tested_in_order (λ _. are_rising n 0) counted_ops
    (counted_in_order (λ _. op_grammar) (λ _. made_in_order _ _ _ (chain_in_order (number 1) (λ _. number 4) (number_in_order 1) (λ _. number_in_order 4))) (number 1) (number_in_order 1)))

pub clock_in_order : IsInOrder clock_grammar
clock_in_order = by_rules_in_order (λ r. clock_by_form r.form r.members) (λ r. made_in_order (clock_of r.members) (entries_of r.members) (entries_by_form r.form r.members) (entries_in_order r.form r.members))

pub stamp_in_order : IsInOrder stamp_grammar
stamp_in_order = tested_in_order _ _ (made_in_order _ _ _ (chain_in_order (number 1) (λ _. clock_grammar) (number_in_order 1) (λ _. clock_in_order)))

pub set_key_in_order : IsInOrder set_key_grammar
set_key_in_order = tested_in_order _ _ (made_in_order _ _ _ (chain_in_order (number 8) (λ _. chain (number 1) (λ _. number 4)) (number_in_order 8)
    (λ _. chain_in_order (number 1) (λ _. number 4) (number_in_order 1) (λ _. number_in_order 4))))

pub text_in_order : IsInOrder text_grammar
text_in_order = tested_in_order _ (sized 2) (sized_in_order 2)

pub map_key_in_order : IsInOrder map_key_grammar
map_key_in_order = tested_in_order _ (sized 2) (sized_in_order 2)

pub char_in_order : IsInOrder char_grammar
char_in_order = tested_in_order _ (number 4) (number_in_order 4)

pub below_in_order : (n : ℕ) → IsInOrder (below n)
below_in_order n = only_in_order _ (number 1) (number_is_field 1) (number_in_order 1)
