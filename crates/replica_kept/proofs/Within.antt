-- Clocks that count no operation past the limit.
use Rattle.std.proofs.Common.{◌≡◌, ℕ, zero, suc, ◌≤◌, true, false, cond, List, [], ◌∷◌, refl, sym, subst, arith, length, get_or, set, Contains, inl, inr}
use Rattle.std.specs.Prelude.{max, nat_le, replicate}
use Rattle.std.specs.List.{All}
use Rattle.std.proofs.lemmas.Bool.{cases_lt}
use Rattle.std.proofs.lemmas.List.{get_or_past}
use Rattle.vector_clock.specs.declared.clock.Clock.{Clock}
use Rattle.vector_clock.specs.Clock.{count, join, zero_clock, max_members, max_seq}
use Rattle.vector_clock.proofs.Clocks.{count-clock_by, length-clock_by}
use Rattle.crdt_laws.specs.declared.small.Entry.{Entry}
use Rattle.crdt_laws.proofs.Members.{Contains-front, Contains-more}
use Rattle.replica_model.specs.Replica.{heard, heard_header, heard_op, row}
use Rattle.forgetting_model.specs.Ledger.{raised}
use Rattle.forgetting_model.proofs.Rows.{row_set}
use Rattle.replica_kept.specs.Sound.{IsRow}

abbrev pub IsLow : Clock → Type 0
IsLow k = (j : ℕ) → count k j ≤ max_seq

abbrev pub AreLow : {Op : Type 0} → List (Entry Op) → Type 0
AreLow {Op} xs = (e : Entry Op) → Contains xs e → IsLow e.stamp.clock

all_one : (i j z : ℕ) → get_or (replicate i z) j z ≡ z
all_one zero j z = refl
all_one (suc i) zero z = refl
all_one (suc i) (suc j) z = all_one i j z

pub low-zero : (n : ℕ) → IsLow (zero_clock n)
low-zero n j = let z = all_one max_members j 0 in omega (arith, z)

pub low-join : (a b : Clock) → IsLow a → IsLow b → IsLow (join a b)
low-join a b h g j = elim (cases_lt j max_members) [
  | inl l ↦
      (let e : count (join a b) j ≡ max (count a j) (count b j) = count-clock_by a.n (λ i. max (count a i) (count b i)) j l in
      let p = h j in
      let q = g j in
      omega (arith, e, p, q))
  | inr past ↦
      (let wide = length-clock_by a.n (λ i. max (count a i) (count b i)) in
      let none : count (join a b) j ≡ 0 = get_or_past (join a b).at j 0 (omega (arith, wide, past)) in
      omega (arith, none))
]

pub low_raised : {Op : Type 0} (k : Clock) (xs : List (Entry Op)) → IsLow k → AreLow xs → IsLow (raised k xs)
low_raised k [] h each = h
low_raised k (x ∷ xs) h each = low_raised (join k x.stamp.clock) xs (low-join k x.stamp.clock h (each x (Contains-front x xs))) (λ e c. each e (Contains-more x xs e c))

-- rows, also those that are not there
pub low_rows : (n : ℕ) (rows : List Clock) → All (IsRow n) rows → (j : ℕ) → IsLow (row rows j)
low_rows n rows h j = elim (cases_lt j (length rows)) [
  | inl l ↦ (h j (zero_clock 1) l).within
  | inr past ↦ subst IsLow (sym (get_or_past rows j (zero_clock 1) past)) (low-zero 1)
]

low_set : (rows : List Clock) (i : ℕ) (k : Clock) → ((j : ℕ) → IsLow (row rows j)) → IsLow k → (j : ℕ) → IsLow (row (set rows i k) j)
low_set rows i k h l = row_set (λ (_ : ℕ) (c : Clock). IsLow c) rows i k h l

low_heard : {Op : Type 0} (rows : List Clock) (xs : List (Entry Op)) → ((j : ℕ) → IsLow (row rows j)) → AreLow xs → (j : ℕ) → IsLow (row (heard rows xs) j)
low_heard rows [] h each = h
low_heard rows (x ∷ xs) h each =
    low_heard (heard_op rows x) xs (low_set rows x.stamp.member (join (row rows x.stamp.member) x.stamp.clock) h (low-join (row rows x.stamp.member) x.stamp.clock (h x.stamp.member) (each x (Contains-front x xs))))
    (λ e c. each e (Contains-more x xs e c))

low_header : (rows : List Clock) (sender : ℕ) (header d : Clock) → ((j : ℕ) → IsLow (row rows j)) → IsLow header → (j : ℕ) → IsLow (row (heard_header rows sender header d) j)
low_header rows sender header d h l =
    elim (nat_le (count header sender) (count d sender)) as (λ b. (j : ℕ) → IsLow (row (cond b (set rows sender (join (row rows sender) header)) rows) j)) [
      | true ↦ low_set rows sender (join (row rows sender) header) h (low-join (row rows sender) header (h sender) l)
      | false ↦ h
    ]

-- the rows after a batch
pub low_after : {Op : Type 0} (rows : List Clock) (xs : List (Entry Op)) (sender me : ℕ) (header d : Clock) → ((j : ℕ) → IsLow (row rows j)) → AreLow xs → IsLow header → IsLow d
    → (j : ℕ) → IsLow (row (set (heard_header (heard rows xs) sender header d) me d) j)
low_after rows xs sender me header d h each l k = low_set (heard_header (heard rows xs) sender header d) me d (low_header (heard rows xs) sender header d (low_heard rows xs h each) l) k
