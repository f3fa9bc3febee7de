-- What is at fault with the parts of a table, and the verdict on a table.
use Rattle.std.specs.Prelude.{ℕ, ◌<◌}
use Rattle.action_tables.specs.declared.table.Shape.{Shape}
use Rattle.action_tables.specs.declared.table.Shape.TheVariants.{Size, Level, Entry}
use Rattle.action_tables.specs.declared.table.Verdict.{Verdict}
use Rattle.action_tables.specs.declared.table.Verdict.TheVariants.{Lawful, Broken}
use Rattle.action_tables.specs.Table.{ActionTable, HasSizes, HasLevels, IsFirstOutside, Case, case_of, IsCase, Holds, IsBroken, IsFirstBroken, op_count, third_count}

-- what is at fault, in the order in which it is looked at: the sizes, the levels, and the entries
abbrev pub HasFault : ActionTable → Shape → Type 0
HasFault t Size = ¬ HasSizes t
HasFault t Level = HasSizes t × (¬ HasLevels t)
HasFault t (Entry at) = HasSizes t × HasLevels t × IsFirstOutside t.states (op_count t) t.next t.act at

-- the verdict on a table: its first broken case, or that there is none
abbrev pub IsVerdict : ActionTable → Verdict → Type 0
IsVerdict t Lawful = (k : Case) → ¬ IsBroken t k
IsVerdict t (Broken law a b c) = IsFirstBroken t (case_of law a b c)

-- ---- One law at a time

-- the law holds at each of its cases
abbrev pub HoldsEach : ActionTable → ℕ → Type 0
HoldsEach t law =
    (a b c : ℕ) → a < op_count t → b < op_count t → c < third_count t law → Holds t (case_of law a b c)

-- the law does not hold at this case, and at each earlier one it does
pub record IsFirst (t : ActionTable) (law a b c : ℕ) : Type 0 where
  pub case : IsCase t (case_of law a b c)
  pub fails : ¬ Holds t (case_of law a b c)
  pub before_a : (i j k : ℕ) → i < a → j < op_count t → k < third_count t law → Holds t (case_of law i j k)
  pub before_b : (j k : ℕ) → j < b → k < third_count t law → Holds t (case_of law a j k)
  pub before_c : (k : ℕ) → k < c → Holds t (case_of law a b k)
