-- The part of a log that settling takes.
use Rattle.std.specs.Prelude.{ℕ, zero, suc, List, Bool, ◌&&◌, if◌then◌else◌, take, drop, length, IsTrue}
use Rattle.std.specs.List.{All, list_all}
use Rattle.vector_clock.specs.declared.clock.Clock.{Clock}
use Rattle.vector_clock.specs.Clock.{covers}
use Rattle.vector_clock.specs.Stamp.{id_of, is_before}
use Rattle.crdt_laws.specs.declared.small.Entry.{Entry}

-- whether the clock covers each operation of xs, and each of them is before each one of ys
abbrev pub is_clean : {Op : Type 0} → Clock → List (Entry Op) → List (Entry Op) → Bool
is_clean k xs ys = list_all (λ x. covers k (id_of x.stamp) && list_all (λ y. is_before x.stamp y.stamp) ys) xs

-- whether the first n operations of the log are covered, and before all that come after them
abbrev pub is_clean_prefix : {Op : Type 0} → Clock → List (Entry Op) → ℕ → Bool
is_clean_prefix k log n = is_clean k (take n log) (drop n log)

-- the greatest number up to n that passes the test, or 0
abbrev pub greatest : (ℕ → Bool) → ℕ → ℕ
greatest test zero = 0
greatest test (suc n) = if test (suc n) then suc n else greatest test n

-- the length of the longest clean prefix
unfoldable pub clean_cut : {Op : Type 0} → List (Entry Op) → Clock → ℕ
clean_cut log k = greatest (is_clean_prefix k log) (length log)

-- The same as a fact: the clock covers each of the first n operations of the log, and each of them is before all that come after.
pub record IsCleanPrefix {Op : Type 0} (k : Clock) (log : List (Entry Op)) (n : ℕ) : Type 0 where
  pub covered : All (λ x. IsTrue (covers k (id_of x.stamp))) (take n log)
  pub before : All (λ x. All (λ y. IsTrue (is_before x.stamp y.stamp)) (drop n log)) (take n log)
