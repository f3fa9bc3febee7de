use Rattle.std.proofs.Common.{◌≢◌, ℕ, ◌<◌, List, get_or}
use Rattle.action_tables.proofs.named.are_apart.Given as goal

-- no two of the texts before are the same
abbrev pub invariant-loop-at : goal.invariant-loop-at
invariant-loop-at l = (i j : ℕ) (d : List ℕ) → i < j → j < l.at → get_or l.texts i d ≢ get_or l.texts j d
