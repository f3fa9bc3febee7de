-- The last step of a position, and those before it.
use Rattle.std.proofs.Common.{◌≡◌, ℕ, suc, ◌-◌, ◌≤◌, ◌<◌, ◌⊎◌, List, [], ◌∷◌, ◌++◌, length, get_or, refl, ap, sym, ◌∙◌, subst, arith}
use Rattle.std.specs.List.{All}
use Rattle.std.proofs.lemmas.List.Elements.{All-cons, All-head, All-tail, All-nil}
use Rattle.list_crdt.specs.declared.position.Step.{Step}
use Rattle.list_crdt.specs.Position.{AreSteps, IsPositionOf, NamesOperation, last_step, pad}

module _ (P : Step → Type 0) where
  abbrev pub MayLead : Step → Type 0
  MayLead s = (s ≡ pad) ⊎ P s

  joined : (before : List Step) (last : Step) → P last → All MayLead before → AreSteps P (before ++ last ∷ [])
  joined [] last h k = h
  joined (s ∷ []) last h k = (All-head MayLead s [] k, h)
  joined (s ∷ t ∷ p) last h k = (All-head MayLead s (t ∷ p) k, joined (t ∷ p) last h (All-tail MayLead s (t ∷ p) k))

  last_kind : (before : List Step) (last : Step) → AreSteps P (before ++ last ∷ []) → P last
  last_kind [] last h = h
  last_kind (s ∷ []) last h = h.1
  last_kind (s ∷ t ∷ p) last h = last_kind (t ∷ p) last h.1

  before_kind : (before : List Step) (last : Step) → AreSteps P (before ++ last ∷ []) → All MayLead before
  before_kind [] last h = All-nil MayLead
  before_kind (s ∷ []) last h = All-cons MayLead s [] h.0 (All-nil MayLead)
  before_kind (s ∷ t ∷ p) last h = All-cons MayLead s (t ∷ p) h.0 (before_kind (t ∷ p) last h.1)

module _ (n : ℕ) (p before : List Step) (last : Step) (is : p ≡ before ++ last ∷ []) where
  pub of_parts : length p ≤ 32 → NamesOperation n last → All (MayLead (NamesOperation n)) before → IsPositionOf n p
  of_parts short h k = record { steps = subst (AreSteps (NamesOperation n)) (sym is) (joined (NamesOperation n) before last h k); most = short }

  pub last_part : IsPositionOf n p → NamesOperation n last
  last_part h = last_kind (NamesOperation n) before last (subst (AreSteps (NamesOperation n)) is h.steps)

  pub before_part : IsPositionOf n p → All (MayLead (NamesOperation n)) before
  before_part h = before_kind (NamesOperation n) before last (subst (AreSteps (NamesOperation n)) is h.steps)

pub steps_some : (P : Step → Type 0) (p : List Step) → AreSteps P p → 0 < length p
steps_some P [] h = absurd h
steps_some P (s ∷ p) h = omega arith

pub last_at : (p : List Step) (d : Step) → 0 < length p → get_or p (length p - 1) d ≡ last_step p
last_at [] d h = absurd (omega (arith, h))
last_at (s ∷ []) d h = refl
last_at (s ∷ t ∷ p) d h =
    let one : length (s ∷ t ∷ p) - 1 ≡ suc (length (t ∷ p) - 1) = omega arith in
    ap (λ i. get_or (s ∷ t ∷ p) i d) one ∙ last_at (t ∷ p) d (omega arith)
