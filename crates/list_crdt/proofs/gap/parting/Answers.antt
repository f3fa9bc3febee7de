use Rattle.std.proofs.Common.{◌≡◌, false, true, sym, ap, ◌∙◌, arith}
use Rattle.std.specs.Ordering.{is_eq}
use Rattle.std.proofs.lemmas.List.{nil_from_length}
use Rattle.list_crdt.specs.Position.{step_cmp}
use Rattle.list_crdt.proofs.Levels.{GoesOn, at_pad, at_one, at_last_digit, at_same, at_other, goes_along, next_level, rest_below, same_fields}
use Rattle.list_crdt.proofs.gap.parting.Goals as goal
use Rattle.list_crdt.proofs.gap.parting.Goals.{in-None-Some+else-t-ge2+then-t-eq0, in-None-Some+else-t-ge2+else-t-eq0, in-Some-None+else-s-lt65535, in-Some-Some+else-saturating_sub-ge2+then-eq, in-Some-Some+else-saturating_sub-ge2+else-eq}

pub levels-preserved : goal.levels-preserved
levels-preserved c =
    let goes : GoesOn c.levels.low.now c.levels.high.now c.match-split_first.low.now c.match-split_first.high.now =
    elim c.match-split_first.branch [
      | in-None-Some+else-t-ge2+then-t-eq0 w ↦
          let none = nil_from_length c.levels.low.now w.in-None-Some.ensures.cases in
          goes_along _ _ _ _ _ _ _ _ none w.in-None-Some.ensures'.cases.0 (ap (λ x. x.now) w.low-is ∙ none) (ap (λ x. x.now) w.high-is) (at_pad _ _ w.if-t-ge2.false w.if-t-eq0.true)
      | in-None-Some+else-t-ge2+else-t-eq0 w ↦
          let none = nil_from_length c.levels.low.now w.in-None-Some.ensures.cases in
          goes_along _ _ _ _ _ _ _ _ none w.in-None-Some.ensures'.cases.0 (ap (λ x. x.now) w.low-is ∙ none) (ap (λ x. x.now) w.high-is) (at_one _ _ w.if-t-ge2.false w.if-t-eq0.false)
      | in-Some-None+else-s-lt65535 w ↦
          let none = nil_from_length c.levels.high.now w.in-Some-None.ensures'.cases in
          goes_along _ _ _ _ _ _ _ _ w.in-Some-None.ensures.cases.0 none (ap (λ x. x.now) w.low-is) (ap (λ x. x.now) w.high-is ∙ none) (at_last_digit _ _ w.if-s-lt65535.false)
      | in-Some-Some+else-saturating_sub-ge2+then-eq w ↦
          let same : is_eq (step_cmp w.in-Some-Some.s.now w.in-Some-Some.t.now) ≡ true = sym (w.eq.ensures ∙ same_fields w.in-Some-Some.s.now w.in-Some-Some.t.now) ∙ w.if-eq.true in
          goes_along _ _ _ _ _ _ _ _ w.in-Some-Some.ensures.cases.0 w.in-Some-Some.ensures'.cases.0 (ap (λ x. x.now) w.low-is) (ap (λ x. x.now) w.high-is) (at_same _ _ _ _ (omega arith) same)
      | in-Some-Some+else-saturating_sub-ge2+else-eq w ↦
          let other : is_eq (step_cmp w.in-Some-Some.s.now w.in-Some-Some.t.now) ≡ false = sym (w.eq.ensures ∙ same_fields w.in-Some-Some.s.now w.in-Some-Some.t.now) ∙ w.if-eq.false in
          goes_along _ _ _ _ _ _ _ _ w.in-Some-Some.ensures.cases.0 w.in-Some-Some.ensures'.cases.0 (ap (λ x. x.now) w.low-is) (ap (λ x. x.now) w.high-is) (at_other _ _ _ _ (omega arith) other)
    ] in
    let p = c.args.p.now in
    let q = c.args.q.now in
    let low = c.levels.low.now in
    let high = c.levels.high.now in
    let low2 = c.match-split_first.low.now in
    let high2 = c.match-split_first.high.now in
    let n = c.levels.depth in
    record {
      next = next_level p q low high low2 high2 n c.levels.invariant.rest goes c.levels.invariant.next;
      rest = rest_below p q low high low2 high2 n c.levels.invariant.rest goes;
      room = omega (arith, goes.shorter);
    }
