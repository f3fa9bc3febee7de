-- The form of a table as a JSON text, and what is at fault with a text.
use Rattle.std.specs.Prelude.{◌≡◌, ◌≢◌, ℕ, ◌⊎◌, ◌+◌, ◌==◌, nat_le, if◌then◌else◌, List, [], ◌∷◌, map, length, codes, Option, Some, None, option_map, option_and_then, unwrap_or}
use Rattle.std.specs.List.{All, AllPairs, flat_map}
use Rattle.std.specs.Str.{IsUtf8}
use Rattle.serde_json.specs.Data.{Data, Items, no_items, item, Members, no_members, member}
use Rattle.serde_json.specs.Find.{get, as_number, as_u64, as_str, as_array, as_object}
use Rattle.serde_json.specs.Read.{read}
use Rattle.action_tables.specs.declared.table.Shape.{Shape}
use Rattle.action_tables.specs.declared.table.Shape.TheVariants.{Size}
use Rattle.action_tables.specs.declared.named.TableFault.{TableFault}
use Rattle.action_tables.specs.declared.named.TableFault.TheVariants.{NotJson, Form, Name, Twice, NoMemory, Shape as ShapeFault}
use Rattle.action_tables.specs.declared.written.WrittenOp.{WrittenOp}
use Rattle.action_tables.specs.declared.written.WrittenTable.{WrittenTable}
use Rattle.action_tables.specs.Name.{IsName}
use Rattle.action_tables.specs.Table.{ActionTable, table_of, IsTable}
use Rattle.action_tables.specs.Verdict.{HasFault}

-- The text is UTF-8, and serde_json reads this value. Its objects have each key once, with the last value that the text gives it.
abbrev pub IsJson : List ℕ → Data → Type 0
IsJson text d = IsUtf8 text × (read text ≡ Some d)

-- a whole number of 0 to 255: one that serde_json gives as a u64, as `2`, and neither `2.0` nor `2e0`
abbrev pub byte_of : Data → Option ℕ
byte_of d = option_and_then (λ n. if nat_le n 255 then Some n else None) (option_and_then as_u64 (as_number d))

-- the elements of an array, in their order
abbrev pub elements : Items → List Data
elements no_items = []
elements (item d ds) = d ∷ elements ds

abbrev pub array_elements : Data → Option (List Data)
array_elements d = option_map elements (as_array d)

-- those of an array of at most 255
abbrev pub short_elements : Data → Option (List Data)
short_elements d = option_and_then (λ ds. if nat_le (length ds) 255 then Some ds else None) (array_elements d)

-- what f reads of each value, where it reads each
abbrev pub each_of : {A : Type 0} → (Data → Option A) → List Data → Option (List A)
each_of f [] = Some []
each_of f (d ∷ ds) = option_and_then (λ x. option_map (λ xs. x ∷ xs) (each_of f ds)) (f d)

-- whole numbers of 0 to 255
abbrev pub bytes_of : Data → Option (List ℕ)
bytes_of d = option_and_then (each_of byte_of) (array_elements d)

-- at most 255 texts
abbrev pub texts_of : Data → Option (List (List ℕ))
texts_of d = option_and_then (each_of as_str) (short_elements d)

-- how many members an object has, each with a key of its own
abbrev pub member_count : Members → ℕ
member_count no_members = 0
member_count (member k d ms) = 1 + member_count ms

-- how many keys the value has: none, where it is no object
abbrev pub key_count : Data → ℕ
key_count d = unwrap_or (option_map member_count (as_object d)) 0

-- the value at a key, read by f
abbrev pub field_of : {A : Type 0} → (Data → Option A) → List ℕ → Data → Option A
field_of f key d = option_and_then f (get key d)

-- the operation of these parts, where each was read
abbrev pub op_from : Option (List ℕ) → Option ℕ → Option (List ℕ) → Option (List ℕ) → Option WrittenOp
op_from (Some name) (Some level) (Some next) (Some act) = Some (record { name = name; level = level; next = next; act = act })
op_from _ _ _ _ = None

-- An operation: an object with exactly the keys `act`, `level`, `name` and `next`. It has four keys, and these are there.
abbrev pub op_of : Data → Option WrittenOp
op_of d =
    if key_count d == 4 then
    op_from (field_of as_str (codes "name") d) (field_of byte_of (codes "level") d)
    (field_of bytes_of (codes "next") d) (field_of bytes_of (codes "act") d)
    else None

-- at most 255 operations
abbrev pub ops_of : Data → Option (List WrittenOp)
ops_of d = option_and_then (each_of op_of) (short_elements d)

-- the table of these parts, where each was read
abbrev pub table_from : Option (List (List ℕ)) → Option ℕ → Option (List WrittenOp) → Option WrittenTable
table_from (Some states) (Some start) (Some ops) = Some (record { states = states; start = start; ops = ops })
table_from _ _ _ = None

-- the table at the keys `ops`, `start` and `states`, whatever other keys there are
abbrev pub table_at : Data → Option WrittenTable
table_at d =
    table_from (field_of texts_of (codes "states") d) (field_of byte_of (codes "start") d) (field_of ops_of (codes "ops") d)

-- A table: an object with exactly the keys `ops`, `start` and `states`. Where it is none, the text has not the form.
abbrev pub written_of : Data → Option WrittenTable
written_of d = if key_count d == 3 then table_at d else None

-- ---- What a text says, and what is at fault with it

-- the text is JSON of this form
pub record IsWritten (text : List ℕ) (w : WrittenTable) : Type 0 where
  pub value : Data
  pub json : IsJson text value
  pub form : written_of value ≡ Some w

-- what the states and the operations are called
abbrev pub op_names : List WrittenOp → List (List ℕ)
op_names ops = map (λ o. o.name) ops

-- each of them is a name
pub record HasNames (w : WrittenTable) : Type 0 where
  pub states : All IsName w.states
  pub ops : All IsName (op_names w.ops)

-- no two states have one name, and no two operations
pub record IsApart (w : WrittenTable) : Type 0 where
  pub states : AllPairs (λ a b. a ≢ b) w.states
  pub ops : AllPairs (λ a b. a ≢ b) (op_names w.ops)

-- each operation says for each state where it leads, and for each operation what that one becomes
pub record HasRows (w : WrittenTable) : Type 0 where
  pub next : All (λ o. length o.next ≡ length w.states) w.ops
  pub act : All (λ o. length o.act ≡ length w.ops) w.ops

-- the parts of the table, its rows one after another
abbrev pub parts_of : WrittenTable → ActionTable
parts_of w =
    table_of (length w.states) w.start (map (λ o. o.level) w.ops) (flat_map (λ o. o.next) w.ops) (flat_map (λ o. o.act) w.ops)

-- a row that is too long or too short is a fault of sizes, also where the lengths of all rows together are right
abbrev pub HasShapeFault : WrittenTable → Shape → Type 0
HasShapeFault w fault = ((¬ HasRows w) × (fault ≡ Size)) ⊎ (HasRows w × HasFault (parts_of w) fault)

-- the table is accepted
pub record IsAccepted (w : WrittenTable) : Type 0 where
  pub names : HasNames w
  pub apart : IsApart w
  pub rows : HasRows w
  pub table : IsTable (parts_of w)

-- the table is of the form, and has this fault
abbrev pub HasWrittenFault : WrittenTable → TableFault → Type 0
HasWrittenFault w NotJson = ⊥
HasWrittenFault w Form = ⊥
HasWrittenFault w Name = ¬ HasNames w
HasWrittenFault w Twice = HasNames w × (¬ IsApart w)
HasWrittenFault w (ShapeFault fault) = HasNames w × IsApart w × HasShapeFault w fault
HasWrittenFault w NoMemory = Unit {0}

-- the text has this fault, and none of those before it; running out of memory may come at any time
abbrev pub HasTextFault : List ℕ → TableFault → Type 0
HasTextFault text NotJson = (d : Data) → ¬ IsJson text d
HasTextFault text Form = (d : Data) × IsJson text d × (written_of d ≡ None)
HasTextFault text Name = (w : WrittenTable) × IsWritten text w × HasWrittenFault w Name
HasTextFault text Twice = (w : WrittenTable) × IsWritten text w × HasWrittenFault w Twice
HasTextFault text (ShapeFault fault) = (w : WrittenTable) × IsWritten text w × HasWrittenFault w (ShapeFault fault)
HasTextFault text NoMemory = Unit {0}

-- the text is accepted, and gives this table and these names of its states and operations
pub record Spells (text : List ℕ) (table : ActionTable) (states ops : List (List ℕ)) : Type 0 where
  pub written : WrittenTable
  pub reads : IsWritten text written
  pub accepted : IsAccepted written
  pub parts : table ≡ parts_of written
  pub state_names : states ≡ written.states
  pub names_of_ops : ops ≡ op_names written.ops
