-- The next position: the one that is given to a character between two others. An absent position is the empty list of steps.
use Rattle.std.specs.Prelude.{ℕ, zero, suc, ◌+◌, ◌-◌, ◌<◌, ◌≤◌, nat_le, ◌==◌, if◌then◌else◌}
use Rattle.std.specs.Prelude.{List, [], ◌∷◌, Option, Some, None, IfSome}
use Rattle.std.specs.Ordering.{is_eq}
use Rattle.list_crdt.specs.declared.position.Step.{Step}
use Rattle.list_crdt.specs.Position.{pad, step_cmp, IsBefore, IsPosition}
use Rattle.vector_clock.specs.Clock.{max_seq}

-- for the operation of this member with this sequence number
module _ (member seq : ℕ) where
  -- one step with this digit, for the operation
  abbrev pub one_step : ℕ → List Step
  one_step digit = record { digit = digit; member = member; seq = seq } ∷ []

  -- The position between p and q. It has one step where there is a digit between the first steps of the two, and else begins as
  -- p does, or with a pad where p is absent, and goes on between what is left of them.
  abbrev pub next_position : List Step → List Step → List Step
  -- neither is given: the digit in the middle
  next_position [] [] = one_step 32768
  -- only q is given: the digit below its first one, and where that would be no digit, a pad, and then what is before the rest
  -- of q, or anything where q begins above the pad
  next_position [] (t ∷ q) =
      if nat_le 2 t.digit then one_step (t.digit - 1)
      else (pad ∷ (if t.digit == 1 then one_step 32768 else next_position [] q))
  -- only p is given: the digit above its first one, and where there is none, this step, and then what is after the rest of p
  next_position (s ∷ p) [] =
      if nat_le (s.digit + 2) 65536 then one_step (s.digit + 1) else (s ∷ next_position p [])
  -- both are given: the digit above p's first one where that is below q's, and else p's first step, and then what is between the
  -- rests where q begins with the same step, or what is after the rest of p
  next_position (s ∷ p) (t ∷ q) =
      if nat_le (s.digit + 2) t.digit then one_step (s.digit + 1)
      else (s ∷ (if is_eq (step_cmp s t) then next_position p q else next_position p []))

-- the first steps of p, so many, with pads where p has no more
abbrev pub padded : ℕ → List Step → List Step
padded zero p = []
padded (suc n) [] = pad ∷ padded n []
padded (suc n) (s ∷ p) = s ∷ padded n p

-- the steps of a position, none where it is absent
abbrev pub steps_of : Option (List Step) → List Step
steps_of None = []
steps_of (Some p) = p

-- r is after p and before q, where these are given
pub record IsBetween (p q : Option (List Step)) (r : List Step) : Type 0 where
  pub after : IfSome p (λ s. IsBefore s r)
  pub before : IfSome q (λ t. IsBefore r t)

-- p and q are positions, where these are given, and p comes before q
pub record AreInOrder (p q : Option (List Step)) : Type 0 where
  pub low : IfSome p IsPosition
  pub high : IfSome q IsPosition
  pub apart : IfSome p (λ s. IfSome q (λ t. IsBefore s t))

-- the next position between two that may be absent
abbrev pub position_between : ℕ → ℕ → Option (List Step) → Option (List Step) → List Step
position_between member seq p q = next_position member seq (steps_of p) (steps_of q)

-- an operation of a document with n members may have this id
pub record MayName (n member seq : ℕ) : Type 0 where
  pub below : member < n
  pub counted : 1 ≤ seq
  pub within : seq ≤ max_seq
