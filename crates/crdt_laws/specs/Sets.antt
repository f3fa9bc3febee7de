-- Sets of operations. A set is given as a list, and its one list by key is the canonical list.
use Rattle.std.specs.Prelude.{ℕ, List, [], ◌∷◌, ◌++◌, Bool, ◌&&◌, ◌==◌, not, IsFalse}
use Rattle.std.specs.List.{All, AllPairs, filter, list_all, list_any, range_with_len}
use Rattle.vector_clock.specs.declared.clock.Clock.{Clock}
use Rattle.vector_clock.specs.declared.clock.Id.{Id}
use Rattle.vector_clock.specs.Clock.{count, max_members}
use Rattle.vector_clock.specs.Stamp.{id_of, is_before}
use Rattle.vector_clock.specs.Sets as stamped
use Rattle.crdt_laws.specs.declared.small.Entry.{Entry}
use Rattle.crdt_laws.specs.Tower.{Meaning, IsIssued}

-- operations of a document with n members
abbrev pub AreIssued : {State Op : Type 0} → Meaning State Op → ℕ → List (Entry Op) → Type 0
AreIssued m n xs = All (λ e. IsIssued m n e.stamp e.op) xs

-- operations that may each stand at some stamp
abbrev pub AreFormed : {State Op : Type 0} → Meaning State Op → List (Entry Op) → Type 0
AreFormed m xs = All (λ e. m.well_formed e.op) xs

-- honest and causally closed sets of operations
abbrev pub IsHonest : {Op : Type 0} → List (Entry Op) → Type 0
IsHonest xs = stamped.IsHonest (λ e. e.stamp) xs

abbrev pub IsClosed : {Op : Type 0} → List (Entry Op) → Type 0
IsClosed xs = stamped.IsClosed (λ e. e.stamp) xs

-- no id stands twice
abbrev pub AreApart : {Op : Type 0} → List (Entry Op) → Type 0
AreApart xs = stamped.AreApart (λ e. e.stamp) xs

-- strictly rising keys
abbrev pub IsRising : {Op : Type 0} → List (Entry Op) → Type 0
IsRising xs = stamped.IsRising (λ e. e.stamp) xs

-- xs with x in its place by key
abbrev pub place : {Op : Type 0} → Entry Op → List (Entry Op) → List (Entry Op)
place x xs = stamped.place (λ e. e.stamp) x xs

-- whether the clock does not cover the operation
abbrev pub is_beyond : {Op : Type 0} → Clock → Entry Op → Bool
is_beyond k e = stamped.is_beyond (λ e. e.stamp) k e

-- the operations that the clock does not cover
abbrev pub beyond : {Op : Type 0} → Clock → List (Entry Op) → List (Entry Op)
beyond k xs = stamped.beyond (λ e. e.stamp) k xs

-- the canonical list of a set, given in any order
abbrev pub canonical : {Op : Type 0} → List (Entry Op) → List (Entry Op)
canonical [] = []
canonical (x ∷ xs) = place x (canonical xs)

-- an operation that is before another stands before it
abbrev pub IsCausal : {Op : Type 0} → List (Entry Op) → Type 0
IsCausal xs = AllPairs (λ a b. IsFalse (is_before b.stamp a.stamp)) xs

-- whether an operation of the set has this id
abbrev pub has_id : {Op : Type 0} → List (Entry Op) → Id → Bool
has_id xs i = list_any (λ e. (e.stamp.member == i.member) && (count e.stamp.clock e.stamp.member == i.seq)) xs

-- whether each id that the clock covers is that of an operation of the set
unfoldable pub has_all_of : {Op : Type 0} → List (Entry Op) → Clock → Bool
has_all_of xs k = list_all (λ m. list_all (λ s. has_id xs (record { member = m; seq = s })) (range_with_len 1 (count k m))) (range_with_len 0 max_members)

-- the union of two sets: the operations of both, each id once, by key
unfoldable pub union : {Op : Type 0} → List (Entry Op) → List (Entry Op) → List (Entry Op)
union xs ys = canonical (xs ++ filter (λ e. not (has_id xs (id_of e.stamp))) ys)
