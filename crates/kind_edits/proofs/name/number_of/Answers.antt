use Rattle.std.proofs.Common.{◌≡◌, sym, ◌∙◌, rules, tests}
use Rattle.std.specs.Str.{bytes_eq}
use Rattle.std.specs.List.{position}
use Rattle.std.proofs.lemmas.Iterator.{YieldsList-from_slice}
use Rattle.std.proofs.lemmas.Iterator.Search.{position_from_yields_List}
use Rattle.kind_edits.proofs.name.number_of.Goals as goal

pub returns-in_err-place-clause-number : goal.returns-in_err-place-clause-number
returns-in_err-place-clause-number c =
    let e : c.position.result ≡ position (λ own. bytes_eq own c.args.name.now) c.args.names.now =
    position_from_yields_List (λ own. bytes_eq own c.args.name.now) _ _ c.position.result c.position.ensures.ran (YieldsList-from_slice c.args.names.now (cc)) (λ x b q k. search (rules, tests)) in
    c.from_residual.ensures ∙ sym c.in_err-place.was ∙ e

pub returns-clause-number : goal.returns-clause-number
returns-clause-number c =
    let e : c.position.result ≡ position (λ own. bytes_eq own c.args.name.now) c.args.names.now =
    position_from_yields_List (λ own. bytes_eq own c.args.name.now) _ _ c.position.result c.position.ensures.ran (YieldsList-from_slice c.args.names.now (cc)) (λ x b q k. search (rules, tests)) in
    sym c.in_ok-place.was ∙ e
