-- The keys of a schema and of a field.
use Rattle.std.specs.Prelude.{ℕ, List, [], ◌∷◌, ◌++◌, codes, Option, Some, None}
use Rattle.doc_schema.specs.declared.kind.Reset.{Reset}
use Rattle.doc_schema.specs.declared.kind.Reset.TheVariants.{Never, Winning, Observed}
use Rattle.doc_schema.specs.declared.written.WrittenField.{WrittenField}
use Rattle.doc_schema.specs.declared.written.WrittenKind.{WrittenKind}
use Rattle.doc_schema.specs.declared.written.WrittenKind.TheVariants as written

abbrev pub schema_keys : List (List ℕ)
schema_keys = codes "doc" ∷ codes "fields" ∷ codes "members" ∷ []

abbrev pub modulus_key : Option ℕ → List (List ℕ)
modulus_key None = []
modulus_key (Some m) = codes "modulus" ∷ []

-- those that a kind has
abbrev pub keys_of_kind : WrittenKind → List (List ℕ)
keys_of_kind (written.Number modulus) = modulus_key modulus
keys_of_kind (written.Tally modulus) = modulus_key modulus
keys_of_kind (written.Choice values) = codes "values" ∷ []
keys_of_kind (written.Table table) = codes "ops" ∷ codes "start" ∷ codes "states" ∷ []
keys_of_kind (written.Rich marks) = codes "marks" ∷ []
keys_of_kind _ = []

abbrev pub reset_key : Reset → List (List ℕ)
reset_key Never = []
reset_key Winning = codes "reset" ∷ []
reset_key Observed = codes "reset" ∷ []

abbrev pub keys_of_field : WrittenField → List (List ℕ)
keys_of_field w = (codes "kind" ∷ codes "name" ∷ []) ++ (reset_key w.reset ++ keys_of_kind w.kind)
