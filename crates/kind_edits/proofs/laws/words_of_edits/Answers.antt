use Rattle.std.proofs.Common.{◌≡◌, ℕ, List, Some, ◌∙◌, ap, sym, inl, inr}
use Rattle.kind_edits.specs.Words.{first_word, only_word}
use Rattle.kind_edits.proofs.Cutting.{cut_first, cut_only, only_from, only_is, was_cut}
use Rattle.kind_edits.proofs.laws.words_of_edits.Goals as goal

pub returns-clause-first : goal.returns-clause-first
returns-clause-first c text word after = (
  λ h. was_cut text word after h,
  λ h. elim h.1 as (λ _. first_word text ≡ Some (word, after)) [
    | inl more ↦ ap first_word more ∙ cut_first word after h.0
    | inr end ↦ ap first_word end.0 ∙ cut_only word h.0 ∙ ap (λ (a : List ℕ). Some (word, a)) (sym end.1)
  ],
)

pub returns-clause-only : goal.returns-clause-only
returns-clause-only c text word = (λ h. only_is text word h, λ h. ap only_word h.1 ∙ only_from word h.0)
