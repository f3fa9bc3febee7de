-- The canonical bytes of a schema: the compact text of the object with its keys, which stand in the order of their bytes.
use Rattle.std.specs.Prelude.{ℕ, ◌+◌, ◌*◌, ◌==◌, if◌then◌else◌, List, [], ◌∷◌, map, take, drop, codes}
use Rattle.serde_json.specs.Data.{Data, Members, no_members, put, array, number, object, string, unsigned}
use Rattle.serde_json.specs.View.{items_of}
use Rattle.serde_json.specs.Written.{compact_text}
use Rattle.action_tables.specs.Table.{ActionTable, level_of, op_count}
use Rattle.action_tables.specs.TableForm.{numbers, strings}
use Rattle.doc_schema.specs.declared.kind.Field.{Field}
use Rattle.doc_schema.specs.declared.kind.Kind.{Kind}
use Rattle.doc_schema.specs.declared.kind.Kind.TheVariants as kind
use Rattle.doc_schema.specs.declared.kind.Reset.{Reset}
use Rattle.doc_schema.specs.declared.kind.Reset.TheVariants.{Never, Winning, Observed}
use Rattle.doc_schema.specs.Kinds.{kind_text, name_of}
use Rattle.doc_schema.specs.Schema.{SchemaParts}

-- the row with this number, where rows of this width stand one after another
abbrev pub row : ℕ → List ℕ → ℕ → List ℕ
row width xs at = take width (drop (at * width) xs)

-- an operation of a table
abbrev pub op_data : ActionTable → List ℕ → ℕ → Data
op_data t name op =
    object (put (codes "next") (numbers (row t.states t.next op)) (put (codes "name") (string name)
    (put (codes "level") (number (unsigned (level_of t op))) (put (codes "act") (numbers (row (op_count t) t.act op)) no_members))))

-- the operations with these names, from this number on
abbrev pub ops_from : ActionTable → List (List ℕ) → ℕ → List Data
ops_from t [] op = []
ops_from t (name ∷ names) op = op_data t name op ∷ ops_from t names (op + 1)

-- the members, with the modulus where there is one
abbrev pub modulus_member : ℕ → Members → Members
modulus_member m ms = if m == 0 then ms else put (codes "modulus") (number (unsigned m)) ms

-- with those of a kind
abbrev pub kind_members : Kind → Members → Members
kind_members (kind.Number m) ms = modulus_member m ms
kind_members (kind.Tally m) ms = modulus_member m ms
kind_members (kind.Choice values) ms = put (codes "values") (strings values) ms
kind_members (kind.Table t states ops) ms =
    put (codes "states") (strings states) (put (codes "start") (number (unsigned t.table.start))
    (put (codes "ops") (array (items_of (ops_from t.table ops 0))) ms))
kind_members (kind.Rich marks) ms = put (codes "marks") (strings marks) ms
kind_members _ ms = ms

-- with the reset where there is one
abbrev pub reset_members : Reset → Members → Members
reset_members Never ms = ms
reset_members Winning ms = put (codes "reset") (string (codes "winning")) ms
reset_members Observed ms = put (codes "reset") (string (codes "observed")) ms

abbrev pub field_data : Field → Data
field_data f =
    object (kind_members f.kind (reset_members f.reset (put (codes "name") (string f.name)
    (put (codes "kind") (string (kind_text (name_of f.kind))) no_members))))

abbrev pub schema_data : SchemaParts → Data
schema_data s =
    object (put (codes "members") (number (unsigned s.members)) (put (codes "fields") (array (items_of (map field_data s.fields)))
    (put (codes "doc") (string s.doc) no_members)))

abbrev pub canonical_text : SchemaParts → List ℕ
canonical_text s = compact_text (schema_data s)
