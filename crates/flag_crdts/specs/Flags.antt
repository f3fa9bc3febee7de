-- The two flags as tables, and the table of a tower that keeps its entries in arrays.
use Rattle.std.specs.Prelude.{◌≡◌, ℕ, List, [], ◌∷◌, length}
use Rattle.std.specs.List.{All, flat_map}
use Rattle.action_tables.specs.Table.{ActionTable, table_of}

-- the table with these rows, a row for each operation, whose first state is 0
abbrev pub fixed_table : ℕ → List ℕ → List (List ℕ) → List (List ℕ) → ActionTable
fixed_table states level next act = table_of states 0 level (flat_map (λ row. row) next) (flat_map (λ row. row) act)

-- each row has an entry for each state, or for each operation
pub record HasRows (states ops : ℕ) (next act : List (List ℕ)) : Type 0 where
  pub next_rows : All (λ row. length row ≡ states) next
  pub act_rows : All (λ row. length row ≡ ops) act

-- The flag that is on where it is switched on and off by members that do not know of each other. State 0 is off and 1 is on.
-- Operation 0 does nothing, 1 switches off, and 2 switches on. Switching on turns switching off into nothing.
abbrev pub on_table : ActionTable
on_table =
    table_of 2 0
    (1 ∷ 1 ∷ 2 ∷ [])
    (0 ∷ 1 ∷ 0 ∷ 0 ∷ 1 ∷ 1 ∷ [])
    (0 ∷ 1 ∷ 2 ∷ 0 ∷ 1 ∷ 2 ∷ 0 ∷ 0 ∷ 2 ∷ [])

-- The flag that is off there. Operation 0 does nothing, 1 switches on, and 2 switches off, which turns switching on into
-- nothing.
abbrev pub off_table : ActionTable
off_table =
    table_of 2 0
    (1 ∷ 1 ∷ 2 ∷ [])
    (0 ∷ 1 ∷ 1 ∷ 1 ∷ 0 ∷ 0 ∷ [])
    (0 ∷ 1 ∷ 2 ∷ 0 ∷ 1 ∷ 2 ∷ 0 ∷ 0 ∷ 2 ∷ [])
