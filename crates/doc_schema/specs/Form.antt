-- The form of a schema as a JSON value: what is read of the value, and where it has not the form.
use Rattle.std.specs.Prelude.{ℕ, ◌+◌, ◌==◌, ◌&&◌, nat_le, if◌then◌else◌, List, length, codes, Option, Some, None, option_map, option_and_then}
use Rattle.serde_json.specs.Data.{Data}
use Rattle.serde_json.specs.Find.{get, as_number, as_u64, as_str}
use Rattle.action_tables.specs.TableText.{array_elements, field_of, key_count, table_at, texts_of}
use Rattle.doc_schema.specs.declared.kind.Reset.{Reset}
use Rattle.doc_schema.specs.declared.kind.Reset.TheVariants.{Never, Winning, Observed}
use Rattle.doc_schema.specs.declared.kind.KindName.{KindName}
use Rattle.doc_schema.specs.declared.kind.KindName.TheVariants.{Number, OnFlag, OffFlag, Choice, Table, Latest, Several, Text, Tally, Entries, Rich}
use Rattle.doc_schema.specs.declared.written.WrittenField.{WrittenField}
use Rattle.doc_schema.specs.declared.written.WrittenKind.{WrittenKind}
use Rattle.doc_schema.specs.declared.written.WrittenKind.TheVariants as written
use Rattle.doc_schema.specs.Kinds.{kind_named, reset_named}

-- a whole number of 0 to 2^64 - 1: one that serde_json gives as a u64, as `2`, and neither `2.0` nor `2e0`
abbrev pub whole_of : Data → Option ℕ
whole_of d = option_and_then as_u64 (as_number d)

-- a list of low to high elements
abbrev pub if_within : {A : Type 0} → ℕ → ℕ → List A → Option (List A)
if_within low high xs = if nat_le low (length xs) && nat_le (length xs) high then Some xs else None

-- what f reads of a value that may be absent
abbrev pub if_there : {A : Type 0} → (Data → Option A) → Option Data → Option (Option A)
if_there f None = Some None
if_there f (Some d) = option_map Some (f d)

-- ---- A field

-- a reset is "winning" or "observed", or there is none
abbrev pub reset_of : Option Data → Option Reset
reset_of None = Some Never
reset_of (Some d) = option_and_then reset_named (as_str d)

-- what a field of a kind has besides its name and its reset: a number and a tally may have a `modulus`, a choice has 2 to 8
-- `values`, a table its `ops`, `start` and `states`, and rich text 1 to 8 `marks`
abbrev pub kind_of : KindName → Data → Option WrittenKind
kind_of Number d = option_map written.Number (if_there whole_of (get (codes "modulus") d))
kind_of OnFlag d = Some written.OnFlag
kind_of OffFlag d = Some written.OffFlag
kind_of Choice d = option_map written.Choice (option_and_then (if_within 2 8) (field_of texts_of (codes "values") d))
kind_of Table d = option_map written.Table (table_at d)
kind_of Latest d = Some written.Latest
kind_of Several d = Some written.Several
kind_of Text d = Some written.Text
kind_of Tally d = option_map written.Tally (if_there whole_of (get (codes "modulus") d))
kind_of Entries d = Some written.Entries
kind_of Rich d = option_map written.Rich (option_and_then (if_within 1 8) (field_of texts_of (codes "marks") d))

abbrev pub one_if_given : Option ℕ → ℕ
one_if_given None = 0
one_if_given (Some n) = 1

-- how many keys these take
abbrev pub kind_keys : WrittenKind → ℕ
kind_keys (written.Number modulus) = one_if_given modulus
kind_keys written.OnFlag = 0
kind_keys written.OffFlag = 0
kind_keys (written.Choice values) = 1
kind_keys (written.Table table) = 3
kind_keys written.Latest = 0
kind_keys written.Several = 0
kind_keys written.Text = 0
kind_keys (written.Tally modulus) = one_if_given modulus
kind_keys written.Entries = 0
kind_keys (written.Rich marks) = 1

abbrev pub reset_keys : Reset → ℕ
reset_keys Never = 0
reset_keys Winning = 1
reset_keys Observed = 1

-- and how many the whole field has, with `kind` and `name`
abbrev pub field_keys : WrittenField → ℕ
field_keys w = 2 + reset_keys w.reset + kind_keys w.kind

-- the field of these parts, where each was read
abbrev pub field_from : Option (List ℕ) → Option Reset → Option WrittenKind → Option WrittenField
field_from (Some name) (Some reset) (Some kind) = Some (record { name = name; kind = kind; reset = reset })
field_from _ _ _ = None

-- the parts of a field, whatever other keys there are
abbrev pub field_at : Data → Option WrittenField
field_at d =
    field_from (field_of as_str (codes "name") d) (reset_of (get (codes "reset") d))
    (option_and_then (λ k. kind_of k d) (option_and_then kind_named (field_of as_str (codes "kind") d)))

-- A field: an object with its keys and no other. It has as many keys as were found.
abbrev pub field_form : Data → Option WrittenField
field_form d = option_and_then (λ (w : WrittenField). if key_count d == field_keys w then Some w else None) (field_at d)

-- ---- A schema

-- what a schema has: its name, how many members there are, and the values of its fields
pub record Head : Type 0 where
  pub doc : List ℕ
  pub members : ℕ
  pub fields : List Data

abbrev pub head_from : Option (List ℕ) → Option ℕ → Option (List Data) → Option Head
head_from (Some doc) (Some members) (Some fields) = Some (record { doc = doc; members = members; fields = fields })
head_from _ _ _ = None

-- an array of 1 to 64 elements
abbrev pub fields_of : Data → Option (List Data)
fields_of d = option_and_then (if_within 1 64) (array_elements d)

-- A schema: an object with exactly the keys `doc`, `fields` and `members`. It has three keys, and these are there.
abbrev pub head_form : Data → Option Head
head_form d =
    if key_count d == 3 then
    head_from (field_of as_str (codes "doc") d) (field_of whole_of (codes "members") d) (field_of fields_of (codes "fields") d)
    else None
