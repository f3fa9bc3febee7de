-- A choice of one value out of several, in which the higher of two values that are set meanwhile wins.
use Rattle.std.specs.Prelude.{ℕ, ◌+◌, ◌-◌, ◌*◌, ◌<◌, ◌≤◌, ◌&&◌, nat_lt, true, if◌then◌else◌, map}
use Rattle.std.specs.List.{flat_map, range_with_len}
use Rattle.serde_json.specs.Data.{number, unsigned}
use Rattle.vector_clock.specs.declared.stamp.Stamp.{Stamp}
use Rattle.crdt_laws.specs.Tower.{Meaning, IsWithin}
use Rattle.action_tables.specs.Table.{ActionTable, table_of}

-- how many values there may be
pub record IsLadderSize (n : ℕ) : Type 0 where
  pub some : 2 ≤ n
  pub most : n ≤ 8

-- Of n values operation v sets the value v, and operation n + v does nothing, for v below n.

-- the value of an operation
abbrev pub value_of : ℕ → ℕ → ℕ
value_of n o = if nat_lt o n then o else o - n

-- the level of an operation: the higher the value, the higher the level
abbrev pub ladder_level : ℕ → ℕ → ℕ
ladder_level n o = value_of n o + 1

-- the value after an operation
abbrev pub ladder_next : ℕ → ℕ → ℕ → ℕ
ladder_next n s o = if nat_lt o n then o else s

-- the setting of a value turns the setting of a lower one into nothing
abbrev pub ladder_act : ℕ → ℕ → ℕ → ℕ
ladder_act n y x = if nat_lt y n && nat_lt x y then n + x else x

-- an operation of the ladder, at a stamp that is within the limits
pub record IsRungAt (n : ℕ) (p : Stamp) (o : ℕ) : Type 0 where
  pub within : IsWithin p
  pub op : o < 2 * n

-- a value, at first 0, which is shown as its number
abbrev pub ladder_meaning : ℕ → Meaning ℕ ℕ
ladder_meaning n = record {
  top = n;
  level = ladder_level n;
  well_formed = λ o. o < 2 * n;
  valid = IsRungAt n;
  init = 0;
  apply = λ s _ o. ladder_next n s o;
  act = ladder_act n;
  settle = λ s _. s;
  show = λ s. number (unsigned s);
  good = λ _ s. s < n;
  good_at = λ _ s. s < n;
  holds = λ _ _. ⊥;
  sparing = true;
  plain = true;
}

-- the ladder of n values written as a table
abbrev pub ladder_table : ℕ → ActionTable
ladder_table n =
    let ops = range_with_len 0 (2 * n) in
    table_of n 0
    (map (ladder_level n) ops)
    (flat_map (λ o. map (λ s. ladder_next n s o) (range_with_len 0 n)) ops)
    (flat_map (λ y. map (ladder_act n y) ops) ops)
