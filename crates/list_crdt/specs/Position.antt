-- Positions in a text: lists of steps, compared as words in a dictionary are, and what they keep.
use Rattle.std.specs.Prelude.{◌≡◌, ℕ, ◌<◌, ◌≤◌, ◌⊎◌, List, [], ◌∷◌, length}
use Rattle.std.specs.declared.cmp.Ordering.{Ordering}
use Rattle.std.specs.declared.cmp.Ordering.TheVariants.{Less}
use Rattle.std.specs.Ordering.{ordering_then, nat_cmp}
use Rattle.std.specs.Cmp.Lexicographic.{slice_cmp}
use Rattle.vector_clock.specs.declared.clock.Id.{Id}
use Rattle.list_crdt.specs.declared.position.Step.{Step}
use Rattle.vector_clock.specs.Clock.{max_seq}

-- steps are compared by digit, then by member, then by sequence number
abbrev pub step_cmp : Step → Step → Ordering
step_cmp s t = ordering_then (nat_cmp s.digit t.digit) (ordering_then (nat_cmp s.member t.member) (nat_cmp s.seq t.seq))

-- Positions are compared step by step, and a proper prefix is less.
abbrev pub position_cmp : List Step → List Step → Ordering
position_cmp = slice_cmp step_cmp

-- p comes before q
abbrev pub IsBefore : List Step → List Step → Type 0
IsBefore p q = position_cmp p q ≡ Less

-- the step that has no operation's id: it only goes down a level, below all other steps
abbrev pub pad : Step
pad = record { digit = 0; member = 0; seq = 0 }

-- each step is a pad or of the kind P, and the last one is of the kind
abbrev pub AreSteps : (Step → Type 0) → List Step → Type 0
AreSteps P [] = ⊥
AreSteps P (s ∷ []) = P s
AreSteps P (s ∷ t ∷ p) = ((s ≡ pad) ⊎ P s) × AreSteps P (t ∷ p)

-- a step that is no pad has a digit of 1 to 65,535
pub record HasDigit (s : Step) : Type 0 where
  pub low : 1 ≤ s.digit
  pub high : s.digit < 65536

-- and in a document with n members it has the id of an operation of one of them
pub record NamesOperation (n : ℕ) (s : Step) : Type 0 where
  pub digit : HasDigit s
  pub member : s.member < n
  pub counted : 1 ≤ s.seq
  pub within : s.seq ≤ max_seq

-- the most steps of a position
abbrev pub max_steps : ℕ
max_steps = 32

-- what each position keeps
pub record IsPosition (p : List Step) : Type 0 where
  pub steps : AreSteps HasDigit p
  pub most : length p ≤ max_steps

-- what each position of a document with n members keeps
pub record IsPositionOf (n : ℕ) (p : List Step) : Type 0 where
  pub steps : AreSteps (NamesOperation n) p
  pub most : length p ≤ max_steps

-- the last step of a position
abbrev pub last_step : List Step → Step
last_step [] = pad
last_step (s ∷ []) = s
last_step (s ∷ t ∷ p) = last_step (t ∷ p)

-- the id of the operation that a position was made for
abbrev pub maker : List Step → Id
maker p = record { member = (last_step p).member; seq = (last_step p).seq }
