-- How far the ids of operations run without a gap.
use Rattle.std.specs.Prelude.{ℕ, ◌+◌, List, Bool, ◌==◌, nat_le, fold, if◌then◌else◌}
use Rattle.std.specs.List.{list_all, range_with_len}
use Rattle.vector_clock.specs.declared.clock.Clock.{Clock}
use Rattle.vector_clock.specs.Clock.{count, with_entry, zero_clock, max_members}
use Rattle.crdt_laws.specs.declared.small.Entry.{Entry}

-- the clock, with the operation counted where it is the next one of its member
abbrev pub counted : {Op : Type 0} → Clock → Entry Op → Clock
counted k e =
    if count e.stamp.clock e.stamp.member == count k e.stamp.member + 1 then with_entry k e.stamp.member (count e.stamp.clock e.stamp.member) else k

-- for each of n members, how many of its operations there are without a gap, where all are given by key
abbrev pub frontier : {Op : Type 0} → ℕ → List (Entry Op) → Clock
frontier n xs = fold counted (zero_clock n) xs

-- whether the first clock is entry by entry at most the second
unfoldable pub is_at_most : Clock → Clock → Bool
is_at_most a b = list_all (λ m. nat_le (count a m) (count b m)) (range_with_len 0 max_members)
