use Rattle.std.proofs.Common.{◌≡◌, ℕ, ◌<◌, ◌≤◌, true, false, refl, arith, sym, ◌∙◌, nat_le}
use Rattle.std.proofs.lemmas.List.{append-nil}
use Rattle.std.proofs.lemmas.Bool.Decides.{nat_tests}
use Rattle.weave_core.proofs.FoldPlain.{kept_are}
use Rattle.weave_core.proofs.fold.fold_next.Goals as goal
use Rattle.weave_core.proofs.fold.fold_next.Goals.{then-level-ge2+in_ok-push, else-level-ge2}

high : (l n : ℕ) → l ≡ n → 2 ≤ l → nat_le 2 n ≡ true
high l n e h = grind (arith, nat_tests)

low : (l n : ℕ) → l ≡ n → l < 2 → nat_le 2 n ≡ false
low l n e h = grind (arith, nat_tests)

pub returns-clause-history : goal.returns-clause-history
returns-clause-history g c =
    let t = g.T.Tower.meaning c.args.tower.now in
    elim c.if-level-ge2.branch [
      | then-level-ge2+in_ok-push w ↦
          kept_are t c.args.history c.as_slice.result.now c.args.history c.args.e.now c.in_ok-op.op c.in_ok-form.form c.in_ok-kept.kept c.if-level-ge2.kept true
          c.in_ok-op.ensures c.as_slice.ensures refl c.in_ok-form.ensures.present c.in_ok-kept.ensures
          (high c.level.result (t.level c.in_ok-form.form) c.level.ensures w.if-level-ge2.true) (w.kept-is ∙ w.in_ok-push.ensures.ok)
      | else-level-ge2 w ↦
          kept_are t c.args.history c.as_slice.result.now c.args.history c.args.e.now c.in_ok-op.op c.in_ok-form.form c.in_ok-kept.kept c.if-level-ge2.kept false
          c.in_ok-op.ensures c.as_slice.ensures refl c.in_ok-form.ensures.present c.in_ok-kept.ensures
          (low c.level.result (t.level c.in_ok-form.form) c.level.ensures w.if-level-ge2.false) (w.kept-is ∙ sym (append-nil c.in_ok-kept.kept))
    ]
