-- Where a position stands among things that stand at positions.
use Rattle.std.specs.Prelude.{◌≡◌, ℕ, ◌+◌, ◌<◌, ◌≤◌, List, length, take, drop}
use Rattle.std.specs.List.{HoldsAt}
use Rattle.list_crdt.specs.declared.position.Step.{Step}
use Rattle.list_crdt.specs.Cells.{after, before}

module _ {C : Type 0} (at : C → List Step) where
  -- the i-th thing is at the position
  pub record IsStandingAt (p : List Step) (s : List C) (i : ℕ) : Type 0 where
    pub within : i < length s
    pub here : HoldsAt (λ c. at c ≡ p) s i
    pub front : before at p s ≡ take i s
    pub back : after at p s ≡ drop (i + 1) s

  -- nothing is at the position, and what were put there would stand before the i-th thing
  pub record IsGapAt (p : List Step) (s : List C) (i : ℕ) : Type 0 where
    pub within : i ≤ length s
    pub front : before at p s ≡ take i s
    pub back : after at p s ≡ drop i s
