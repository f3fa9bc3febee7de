-- A table as a JSON value, key by key.
use Rattle.std.specs.Prelude.{◌≡◌, ◌≤◌, ◌↔◌, ℕ, List, [], ◌∷◌, length, map, codes, Some}
use Rattle.std.specs.List.{All, AllZip, Contains}
use Rattle.serde_json.specs.Data.{Data, Members, no_members, member, array, number, object, string, unsigned}
use Rattle.serde_json.specs.Find.{get}
use Rattle.serde_json.specs.View.{items_of}
use Rattle.action_tables.specs.declared.written.WrittenOp.{WrittenOp}
use Rattle.action_tables.specs.declared.written.WrittenTable.{WrittenTable}

-- the keys of an object, in its order
abbrev pub keys_of : Members → List (List ℕ)
keys_of no_members = []
keys_of (member key d ms) = key ∷ keys_of ms

-- The value is an object with exactly these keys. Where no two of them are the same, it has each once.
pub record HasKeys (keys : List (List ℕ)) (d : Data) : Type 0 where
  pub members : Members
  pub is : d ≡ object members
  pub each : (key : List ℕ) → Contains (keys_of members) key ↔ Contains keys key
  pub once : length (keys_of members) ≡ length keys

abbrev pub table_keys : List (List ℕ)
table_keys = codes "ops" ∷ codes "start" ∷ codes "states" ∷ []

abbrev pub op_keys : List (List ℕ)
op_keys = codes "act" ∷ codes "level" ∷ codes "name" ∷ codes "next" ∷ []

-- the array of these whole numbers, and of these texts
abbrev pub numbers : List ℕ → Data
numbers ns = array (items_of (map (λ n. number (unsigned n)) ns))

abbrev pub strings : List (List ℕ) → Data
strings ss = array (items_of (map string ss))

-- The value writes down the operation: an object with exactly the keys `act`, `level`, `name` and `next`, where these stand.
pub record WritesOp (d : Data) (o : WrittenOp) : Type 0 where
  pub keys : HasKeys op_keys d
  pub name : get (codes "name") d ≡ Some (string o.name)
  pub level : get (codes "level") d ≡ Some (number (unsigned o.level))
  pub next : get (codes "next") d ≡ Some (numbers o.next)
  pub act : get (codes "act") d ≡ Some (numbers o.act)
  pub most_level : o.level ≤ 255
  pub most_next : All (λ n. n ≤ 255) o.next
  pub most_act : All (λ n. n ≤ 255) o.act

-- The value writes down the table: an object with exactly the keys `ops`, `start` and `states`, where these stand. Each value
-- at `ops` writes down the operation at its place.
pub record WritesTable (d : Data) (w : WrittenTable) : Type 0 where
  pub keys : HasKeys table_keys d
  pub states : get (codes "states") d ≡ Some (strings w.states)
  pub start : get (codes "start") d ≡ Some (number (unsigned w.start))
  pub values : List Data
  pub ops : get (codes "ops") d ≡ Some (array (items_of values))
  pub each : AllZip WritesOp values w.ops
  pub most_states : length w.states ≤ 255
  pub most_start : w.start ≤ 255
  pub most_ops : length w.ops ≤ 255
