-- The schemas that need no file: one number, called n, for two members and for three.
use Rattle.std.specs.Prelude.{ℕ, List, [], ◌∷◌, codes}
use Rattle.doc_schema.specs.declared.kind.Kind.TheVariants as kind
use Rattle.doc_schema.specs.declared.kind.Reset.TheVariants.{Never}
use Rattle.doc_schema.specs.Schema.{SchemaParts}

-- one field n, a number without a modulus and without a reset
abbrev pub one_number : List ℕ → ℕ → SchemaParts
one_number doc members =
    record { doc = doc; members = members; fields = record { name = codes "n"; kind = kind.Number 0; reset = Never } ∷ [] }

abbrev pub pair : SchemaParts
pair = one_number (codes "pair") 2

abbrev pub trio : SchemaParts
trio = one_number (codes "trio") 3
