-- Files by their names, and what a store's answers say of them.
use Rattle.std.specs.Prelude.{◌≡◌, ℕ, ◌<◌, ◌⊎◌, List, [], ◌∷◌, Bool, true, not, ◌&&◌, IsTrue, Option, None, Some, length, if◌then◌else◌}
use Rattle.std.specs.List.{list_all}
use Rattle.std.specs.Map.{lookup}
use Rattle.std.specs.Str.{bytes_eq}
use Rattle.lab_store.specs.declared.store.StoreError.{StoreError}
use Rattle.lab_store.specs.declared.store.StoreError.TheVariants.{Failed, Long, NoMemory}

-- the bytes of the file with this name
abbrev pub file_at : List (List ℕ × List ℕ) → List ℕ → Option (List ℕ)
file_at files name = lookup (bytes_eq name) files

-- the files with these bytes under the name, in the place of the file that was there, or else last
abbrev pub with_file : List (List ℕ × List ℕ) → List ℕ → List ℕ → List (List ℕ × List ℕ)
with_file [] name bytes = (name, bytes) ∷ []
with_file (file ∷ files) name bytes = if bytes_eq name file.0 then (name, bytes) ∷ files else file ∷ with_file files name bytes

-- whether no name stands twice
abbrev pub names_differ : List (List ℕ × List ℕ) → Bool
names_differ [] = true
names_differ (file ∷ files) = list_all (λ f. not (bytes_eq file.0 f.0)) files && names_differ files

-- no name stands twice, where the store tells its files
abbrev pub ToldNamesDiffer : Option (List (List ℕ × List ℕ)) → Type 0
ToldNamesDiffer None = Unit {0}
ToldNamesDiffer (Some files) = IsTrue (names_differ files)

-- what was found under the name is the file of that name, where the store tells its files
abbrev pub Finds : Option (List (List ℕ × List ℕ)) → List ℕ → Option (List ℕ) → Type 0
Finds None name found = Unit {0}
Finds (Some files) name found = found ≡ file_at files name

-- the file has more than so many bytes, where the store tells its files
abbrev pub IsLonger : Option (List (List ℕ × List ℕ)) → List ℕ → ℕ → Type 0
IsLonger None name most = Unit {0}
IsLonger (Some files) name most = (bytes : List ℕ) × ((file_at files name ≡ Some bytes) × (most < length bytes))

-- the name holds the new bytes and all else stays, where the store tells its files
abbrev pub Replaces : Option (List (List ℕ × List ℕ)) → Option (List (List ℕ × List ℕ)) → List ℕ → List ℕ → Type 0
Replaces None after name bytes = Unit {0}
Replaces (Some files) after name bytes = after ≡ Some (with_file files name bytes)

-- the name holds the old bytes or the new ones and all else stays, where the store tells its files
abbrev pub MayReplace : Option (List (List ℕ × List ℕ)) → Option (List (List ℕ × List ℕ)) → List ℕ → List ℕ → Type 0
MayReplace None after name bytes = Unit {0}
MayReplace (Some files) after name bytes = (after ≡ Some files) ⊎ (after ≡ Some (with_file files name bytes))

-- P, for one of the errors

abbrev pub OnFailed : StoreError → Type 0 → Type 0
OnFailed Failed P = P
OnFailed Long P = Unit {0}
OnFailed NoMemory P = Unit {0}

abbrev pub OnLong : StoreError → Type 0 → Type 0
OnLong Failed P = Unit {0}
OnLong Long P = P
OnLong NoMemory P = Unit {0}

abbrev pub OnNoMemory : StoreError → Type 0 → Type 0
OnNoMemory Failed P = Unit {0}
OnNoMemory Long P = Unit {0}
OnNoMemory NoMemory P = P
