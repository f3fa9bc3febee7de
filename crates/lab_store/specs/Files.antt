-- The files in memory as names with bytes.
use Rattle.std.specs.Prelude.{ℕ, ◌+◌, List, [], ◌∷◌, map, if◌then◌else◌}
use Rattle.std.specs.Str.{bytes_eq}
use Rattle.lab_store.specs.declared.mem_store.File.{File}

abbrev pub pairs : List File → List (List ℕ × List ℕ)
pairs files = map (λ f. (f.name, f.bytes)) files

-- the place of the file of this name, or how many there are
abbrev pub place_of : List (List ℕ × List ℕ) → List ℕ → ℕ
place_of [] name = 0
place_of (file ∷ files) name = if bytes_eq name file.0 then 0 else place_of files name + 1
