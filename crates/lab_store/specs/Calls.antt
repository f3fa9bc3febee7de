-- Which calls of a store, a source or a sink in memory fail. Calls are numbered from 0, and counters stay at their last value.
use Rattle.std.specs.Prelude.{ℕ, ◌-◌, ◌^◌, List, [], ◌∷◌, Bool, true, false, ◌==◌, ◌&&◌, nat_lt, Option, None, Some, if◌then◌else◌}
use Rattle.std.specs.List.{list_any}
use Rattle.lab_store.specs.declared.mem_sink.Keep.{Keep}
use Rattle.lab_store.specs.declared.mem_store.Fail.{Fail}

-- whether a call may still fail, after so many calls and faults: a call that finds a counter at its last value does not
abbrev pub may_fail : ℕ → ℕ → Bool
may_fail calls faults = nat_lt calls (2 ^ 32 - 1) && nat_lt faults (2 ^ 64 - 1)

-- whether no call is told to fail
abbrev pub is_unfailing : {X : Type 0} → List X → Bool
is_unfailing [] = true
is_unfailing (fail ∷ fails) = false

-- whether the call is one of these
abbrev pub is_named : List ℕ → ℕ → Bool
is_named failing call = list_any (λ c. c == call) failing

-- how many bytes the failing call keeps, by the first entry that names it
abbrev pub kept_of : List Keep → ℕ → Option ℕ
kept_of [] call = None
kept_of (keep ∷ keeps) call = if keep.call == call then Some keep.kept else kept_of keeps call

-- that, where a call may still fail
abbrev pub kept_now : List Keep → ℕ → ℕ → Option ℕ
kept_now keeps calls faults = if may_fail calls faults then kept_of keeps calls else None

-- whether the failing call leaves new bytes, by the first entry that names it
abbrev pub late_of : List Fail → ℕ → Option Bool
late_of [] call = None
late_of (fail ∷ fails) call = if fail.call == call then Some fail.late else late_of fails call

-- that, where a call may still fail
abbrev pub late_now : List Fail → ℕ → ℕ → Option Bool
late_now fails calls faults = if may_fail calls faults then late_of fails calls else None
