-- What is shown of the fields of a document.
use Rattle.std.specs.Prelude.{List, [], ◌∷◌, ◌==◌, slice_index_or}
use Rattle.serde_json.specs.Data.{Data, Members, boolean, no_members, object, put, string}
use Rattle.doc_schema.specs.declared.kind.Field.{Field}
use Rattle.doc_schema.specs.declared.kind.Kind.{Kind}
use Rattle.doc_schema.specs.declared.kind.Kind.TheVariants as kind
use Rattle.reset_products.specs.Observed.{value_of}
use Rattle.doc_tower.specs.declared.either.Either.TheVariants.{Left, Right}
use Rattle.doc_tower.specs.declared.kinds.KindState.{KindState}
use Rattle.doc_tower.specs.Kinds.{AllStates, arm_meaning, kind_meaning}
use Rattle.doc_tower.specs.Fields.{FieldState}
use Rattle.doc_tower.specs.Runs.{runs_data}

-- A flag is shown as true or false, a choice and a table by the name of the value or the state, and rich text by its runs. The
-- other kinds are shown as towers: a number and a tally by their numbers, a register, a text and entries by their texts.
abbrev pub arm_data : Kind → AllStates → Data
arm_data kind.OnFlag (Left (Left (Left (Right s)))) = boolean (s == 1)
arm_data kind.OffFlag (Left (Left (Right (Left s)))) = boolean (s == 1)
arm_data (kind.Choice values) (Left (Left (Right (Right s)))) = string (slice_index_or values s [])
arm_data (kind.Table t states ops) (Left (Right (Left (Left s)))) = string (slice_index_or states s [])
arm_data (kind.Rich marks) (Right s) = runs_data marks s
arm_data k s = (arm_meaning k).show s

abbrev pub kind_data : Kind → KindState → Data
kind_data k s = arm_data k s.arm

-- a field with an observed reset is shown by its value
abbrev pub field_data : Field → FieldState → Data
field_data f (Left s) = kind_data f.kind s
field_data f (Right (Left s)) = kind_data f.kind s
field_data f (Right (Right s)) = kind_data f.kind (value_of (kind_meaning f.kind) s)

-- the members, with what each field shows at its name
abbrev pub field_members : List Field → List FieldState → Members → Members
field_members [] ss ms = ms
field_members (f ∷ fs) [] ms = ms
field_members (f ∷ fs) (s ∷ ss) ms = field_members fs ss (put f.name (field_data f s) ms)

-- a document is shown as the object of its fields
abbrev pub fields_data : List Field → List FieldState → Data
fields_data fs ss = object (field_members fs ss no_members)
