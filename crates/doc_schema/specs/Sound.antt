-- What each schema keeps.
use Rattle.std.specs.Prelude.{◌≡◌, ◌≢◌, ℕ, ◌<◌, ◌≤◌, ◌^◌, List, length, Some, Err}
use Rattle.std.specs.List.{All, AllPairs}
use Rattle.action_tables.specs.Name.{IsName}
use Rattle.action_tables.specs.Table.{op_count}
use Rattle.doc_schema.specs.declared.kind.Field.{Field}
use Rattle.doc_schema.specs.declared.kind.Kind.{Kind}
use Rattle.doc_schema.specs.declared.kind.Kind.TheVariants as kind
use Rattle.doc_schema.specs.declared.field.KindFault.{KindFault}
use Rattle.doc_schema.specs.declared.field.KindFault.TheVariants.{Modulus, Name, Twice, Table, NoMemory}
use Rattle.doc_schema.specs.declared.written.WrittenKind.{WrittenKind}
use Rattle.doc_schema.specs.declared.written.WrittenKind.TheVariants as written
use Rattle.doc_schema.specs.Schema.{AreMembers, HasKindNames, IsKindApart, IsModulus, KindResult, SchemaParts, field_names, modulus_of}

-- names of which no two are the same
pub record AreNames (names : List (List ℕ)) : Type 0 where
  pub each : All IsName names
  pub apart : AllPairs (λ a b. a ≢ b) names

-- a modulus of a u64, where 0 stands for 2^64, and 1 is none
pub record IsKeptModulus (m : ℕ) : Type 0 where
  pub some : m ≢ 1
  pub most : m < 2 ^ 64

-- the parts of a kind: 2 to 8 values, the names of the states and operations of a table, 1 to 8 marks
abbrev pub IsSoundKind : Kind → Type 0
IsSoundKind (kind.Number m) = IsKeptModulus m
IsSoundKind (kind.Tally m) = IsKeptModulus m
IsSoundKind (kind.Choice values) = (2 ≤ length values) × (length values ≤ 8) × AreNames values
IsSoundKind (kind.Table t states ops) =
    (length states ≡ t.table.states) × (length ops ≡ op_count t.table) × AreNames states × AreNames ops
IsSoundKind (kind.Rich marks) = (1 ≤ length marks) × (length marks ≤ 8) × AreNames marks
IsSoundKind _ = Unit {0}

pub record IsSoundField (f : Field) : Type 0 where
  pub name : IsName f.name
  pub kind : IsSoundKind f.kind

-- a schema has 1 to 64 members and 1 to 64 fields, and no two fields have one name
pub record IsSchema (s : SchemaParts) : Type 0 where
  pub doc : IsName s.doc
  pub members : AreMembers s.members
  pub some : 1 ≤ length s.fields
  pub most : length s.fields ≤ 64
  pub each : All IsSoundField s.fields
  pub apart : AllPairs (λ a b. a ≢ b) (field_names s.fields)

-- ---- A kind that is read, and what is at fault with it

-- the lists of a kind that has its form are as long as that says
abbrev pub HasCounts : WrittenKind → Type 0
HasCounts (written.Choice values) = (2 ≤ length values) × (length values ≤ 8)
HasCounts (written.Table t) = length t.states ≤ 255
HasCounts (written.Rich marks) = (1 ≤ length marks) × (length marks ≤ 8)
HasCounts _ = Unit {0}

-- the kind has this fault, and none of those before it
abbrev pub HasKindFault : WrittenKind → KindFault → Type 0
HasKindFault w (Modulus got) = (modulus_of w ≡ Some got) × (got < 2)
HasKindFault w Name = IsModulus (modulus_of w) × (¬ HasKindNames w)
HasKindFault w Twice = IsModulus (modulus_of w) × HasKindNames w × (¬ IsKindApart w)
HasKindFault w (Table fault) = IsModulus (modulus_of w) × HasKindNames w × IsKindApart w × KindResult w (Err fault)
HasKindFault w NoMemory = Unit {0}
