-- What a text says of a schema, rule by rule, and what is at fault with it.
use Rattle.std.specs.Prelude.{◌≡◌, ◌≢◌, ℕ, ◌≤◌, ◌⊎◌, List, [], ◌∷◌, ◌++◌, map, length, Option, Some, None, unwrap_or, Result, Ok, Err}
use Rattle.std.specs.List.{All, AllPairs, Contains}
use Rattle.serde_json.specs.Data.{Data}
use Rattle.vector_clock.specs.Clock.{max_members}
use Rattle.action_tables.specs.Name.{IsName}
use Rattle.action_tables.specs.Table.{IsTable, KeepsLaws}
use Rattle.action_tables.specs.TableText.{HasNames, HasRows, HasShapeFault, IsApart, IsJson, op_names, parts_of}
use Rattle.action_tables.specs.Verdict.{IsVerdict}
use Rattle.action_tables.specs.declared.table.Verdict.TheVariants.{Lawful}
use Rattle.action_tables.specs.declared.written.WrittenTable.{WrittenTable}
use Rattle.doc_schema.specs.declared.kind.Field.{Field}
use Rattle.doc_schema.specs.declared.kind.Kind.{Kind}
use Rattle.doc_schema.specs.declared.kind.Kind.TheVariants as kind
use Rattle.doc_schema.specs.declared.written.WrittenField.{WrittenField}
use Rattle.doc_schema.specs.declared.written.WrittenKind.{WrittenKind}
use Rattle.doc_schema.specs.declared.written.WrittenKind.TheVariants as written
use Rattle.doc_schema.specs.declared.fault.TableRefusal.{TableRefusal}
use Rattle.doc_schema.specs.declared.fault.TableRefusal.TheVariants as refusal
use Rattle.doc_schema.specs.declared.fault.SchemaError.{SchemaError}
use Rattle.doc_schema.specs.declared.fault.SchemaError.TheVariants.{Long, NotJson, Shape, Members, Modulus, Name, Twice, Table}
use Rattle.doc_schema.specs.Form.{field_form, head_form}
use Rattle.doc_schema.specs.Rules.{Demands, Follows, Reads}

-- what contracts see of a schema
pub record SchemaParts : Type 0 where
  pub doc : List ℕ
  pub members : ℕ
  pub fields : List Field

abbrev pub field_names : List Field → List (List ℕ)
field_names fs = map (λ f. f.name) fs

-- ---- The rules of a field

abbrev pub modulus_of : WrittenKind → Option ℕ
modulus_of (written.Number modulus) = modulus
modulus_of (written.Tally modulus) = modulus
modulus_of _ = None

-- a modulus is at least 2
abbrev pub IsModulus : Option ℕ → Type 0
IsModulus None = Unit {0}
IsModulus (Some m) = 2 ≤ m

-- its values, its marks, or its states and operations have names
abbrev pub HasKindNames : WrittenKind → Type 0
HasKindNames (written.Choice values) = All IsName values
HasKindNames (written.Table t) = HasNames t
HasKindNames (written.Rich marks) = All IsName marks
HasKindNames _ = Unit {0}

-- no two values have one name, no two marks, no two states, and no two operations
abbrev pub IsKindApart : WrittenKind → Type 0
IsKindApart (written.Choice values) = AllPairs (λ a b. a ≢ b) values
IsKindApart (written.Table t) = IsApart t
IsKindApart (written.Rich marks) = AllPairs (λ a b. a ≢ b) marks
IsKindApart _ = Unit {0}

-- it has a name, and so has each part of its kind
pub record HasFieldNames (w : WrittenField) : Type 0 where
  pub own : IsName w.name
  pub kind : HasKindNames w.kind

-- no field before has its name, and no two parts of its kind have one
pub record IsFieldApart (earlier : List (List ℕ)) (w : WrittenField) : Type 0 where
  pub own : ¬ Contains earlier w.name
  pub kind : IsKindApart w.kind

-- the kind is a table with these parts
abbrev pub IsTableOf : WrittenTable → Kind → Type 0
IsTableOf w (kind.Table table states ops) = (table.table ≡ parts_of w) × (states ≡ w.states) × (ops ≡ op_names w.ops)
IsTableOf w _ = ⊥

-- a table is accepted where its parts make one that keeps the five laws
abbrev pub TableResult : WrittenTable → Result Kind TableRefusal → Type 0
TableResult w (Ok k) = HasRows w × IsTable (parts_of w) × KeepsLaws (parts_of w) × IsTableOf w k
TableResult w (Err (refusal.Shape fault)) = HasShapeFault w fault
TableResult w (Err (refusal.Broken verdict)) =
    HasRows w × IsTable (parts_of w) × IsVerdict (parts_of w) verdict × (verdict ≢ Lawful)

-- The kind, once its names are looked at. Where no modulus is given it is 0, which stands for 2^64.
abbrev pub KindResult : WrittenKind → Result Kind TableRefusal → Type 0
KindResult (written.Number modulus) r = r ≡ Ok (kind.Number (unwrap_or modulus 0))
KindResult written.OnFlag r = r ≡ Ok kind.OnFlag
KindResult written.OffFlag r = r ≡ Ok kind.OffFlag
KindResult (written.Choice values) r = r ≡ Ok (kind.Choice values)
KindResult (written.Table t) r = TableResult t r
KindResult written.Latest r = r ≡ Ok kind.Latest
KindResult written.Several r = r ≡ Ok kind.Several
KindResult written.Text r = r ≡ Ok kind.Text
KindResult (written.Tally modulus) r = r ≡ Ok (kind.Tally (unwrap_or modulus 0))
KindResult written.Entries r = r ≡ Ok kind.Entries
KindResult (written.Rich marks) r = r ≡ Ok (kind.Rich marks)

-- the field, or the fault of its table
abbrev pub MadeResult : ℕ → WrittenField → Result Field SchemaError → Type 0
MadeResult at w r =
    ((fault : TableRefusal) × KindResult w.kind (Err fault) × (r ≡ Err (Table at fault)))
    ⊎ ((k : Kind) × KindResult w.kind (Ok k) × (r ≡ Ok (record { name = w.name; kind = k; reset = w.reset })))

-- The rules of a field that has its form, where earlier fields have these names, and its number is theirs: its modulus, its
-- names, that they are not given twice, and its table.
abbrev pub FieldRules : List (List ℕ) → WrittenField → Result Field SchemaError → Type 0
FieldRules earlier w =
    let at = length earlier in
    Demands (IsModulus (modulus_of w.kind)) (Modulus at (unwrap_or (modulus_of w.kind) 0)) (
    Demands (HasFieldNames w) (Name at) (
    Demands (IsFieldApart earlier w) (Twice at) (
    MadeResult at w)))

-- and of a value: its form comes first
abbrev pub FieldResult : List (List ℕ) → Data → Result Field SchemaError → Type 0
FieldResult earlier d = Reads (field_form d) (Shape (length earlier)) (FieldRules earlier)

-- the fields after those that were read, in their order
abbrev pub FieldsResult : List Field → List Data → Result (List Field) SchemaError → Type 0
FieldsResult done [] r = r ≡ Ok done
FieldsResult done (d ∷ ds) r = Follows (FieldResult (field_names done) d) (λ f. FieldsResult (done ++ f ∷ []) ds) r

-- ---- The rules of a schema

-- as many members as a document may have
pub record AreMembers (n : ℕ) : Type 0 where
  pub some : 1 ≤ n
  pub most : n ≤ max_members

-- The rules of a value: its form, its members, its name and its fields. What is no field's fault has the number 255.
abbrev pub ValueResult : Data → Result SchemaParts SchemaError → Type 0
ValueResult d =
    Reads (head_form d) (Shape 255) (λ h.
    Demands (AreMembers h.members) (Members h.members) (
    Demands (IsName h.doc) (Name 255) (
    Follows (FieldsResult [] h.fields) (λ fs r. r ≡ Ok (record { doc = h.doc; members = h.members; fields = fs })))))

-- a text of at most 65,536 bytes that is JSON
abbrev pub TextResult : List ℕ → Result SchemaParts SchemaError → Type 0
TextResult text =
    Demands (length text ≤ 65536) (Long (length text))
    (λ r. (((d : Data) → ¬ IsJson text d) × (r ≡ Err NotJson)) ⊎ ((d : Data) × IsJson text d × ValueResult d r))

-- the text spells this schema
abbrev pub Spells : List ℕ → SchemaParts → Type 0
Spells text s = TextResult text (Ok s)

-- this is the first thing at fault with the text
abbrev pub HasFault : List ℕ → SchemaError → Type 0
HasFault text fault = TextResult text (Err fault)
