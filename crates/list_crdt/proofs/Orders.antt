-- Laws of the order of positions.
use Rattle.std.proofs.Common.{◌≡◌, ◌≢◌, ◌⊎◌, inl, inr, List, [], ◌∷◌, ◌++◌, refl, ap, ◌∙◌}
use Rattle.std.specs.declared.cmp.Ordering.TheVariants.{Less, Equal, Greater}
use Rattle.std.specs.Ordering.{ordering_reverse, ordering_then}
use Rattle.std.specs.Cmp.{tied_itself}
use Rattle.list_crdt.specs.declared.position.Step.{Step}
use Rattle.list_crdt.specs.Position.{IsBefore, position_cmp, step_cmp}
use Rattle.list_crdt.specs.Order.{position_total, same_position, step_total}

pub before_itself : (p : List Step) → IsBefore p p → ⊥
before_itself p h = let e = tied_itself position_total p in cc

pub either_way : (p q : List Step) → p ≢ q → IsBefore p q ⊎ IsBefore q p
either_way p q d =
    (elim (position_cmp p q) as (λ o. position_cmp p q ≡ o → IsBefore p q ⊎ IsBefore q p) [
      | Less ↦ λ e. inl e
      | Equal ↦ λ e. absurd (d (same_position p q e))
      | Greater ↦ λ e. inr (position_total.antisymm q p ∙ ap ordering_reverse e)
    ]) refl

pub prefix_before : (p q : List Step) (s : Step) → IsBefore p (p ++ s ∷ q)
prefix_before [] q s = refl
prefix_before (t ∷ p) q s = ap (λ o. ordering_then o (position_cmp p (p ++ s ∷ q))) (tied_itself step_total t) ∙ prefix_before p q s

pub step_decides : (p q r : List Step) (s t : Step) → step_cmp s t ≡ Less → IsBefore (p ++ s ∷ q) (p ++ t ∷ r)
step_decides [] q r s t h = ap (λ o. ordering_then o (position_cmp q r)) h
step_decides (u ∷ p) q r s t h = ap (λ o. ordering_then o (position_cmp (p ++ s ∷ q) (p ++ t ∷ r))) (tied_itself step_total u) ∙ step_decides p q r s t h
