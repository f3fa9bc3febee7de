-- Files under their names.
use Rattle.std.proofs.Common.{◌≡◌, ℕ, zero, suc, ◌+◌, ◌≤◌, ◌<◌, true, false, Bool, not, List, [], ◌∷◌, ◌++◌, cond, refl, ap, ap₂, sym, arith, length, set, subst}
use Rattle.std.specs.List.{list_all}
use Rattle.std.specs.Str.{bytes_eq}
use Rattle.std.proofs.lemmas.Bool.{and_from, and_parts, false_from_ne_true}
use Rattle.std.proofs.lemmas.Slice.Eq.{bytes_eq-Decides}
use Rattle.lab_store.specs.declared.mem_store.File.{File}
use Rattle.lab_store.specs.Files.{pairs, place_of}
use Rattle.lab_store.specs.Store.{names_differ, with_file}

-- bytes that are told equal are equal
pub same_bytes : (xs ys : List ℕ) → bytes_eq xs ys ≡ true → xs ≡ ys
same_bytes xs ys h = (bytes_eq-Decides xs ys).0 h

pub other_bytes : (xs ys : List ℕ) → bytes_eq xs ys ≡ false → bytes_eq ys xs ≡ false
other_bytes xs ys h = false_from_ne_true _ (λ q.
    let t : bytes_eq xs ys ≡ true = (bytes_eq-Decides xs ys).1 (sym (same_bytes ys xs q)) in
    cc)

-- what passes a test at all files passes it when one more is there that does
all-with : (p : List ℕ × List ℕ → Bool) (n b : List ℕ) → p (n, b) ≡ true → (files : List (List ℕ × List ℕ)) → list_all p files ≡ true → list_all p (with_file files n b) ≡ true
all-with p n b h [] k = grind arith
all-with p n b h (f ∷ files) k =
    let both : (p f ≡ true) × (list_all p files ≡ true) = and_parts (p f) (list_all p files) k in
    let ih : list_all p (with_file files n b) ≡ true = all-with p n b h files both.1 in
    elim (bytes_eq n f.0) as (λ t. list_all p (cond t ((n, b) ∷ files) (f ∷ with_file files n b)) ≡ true) [
      | true ↦ and_from (p (n, b)) (list_all p files) h both.1
      | false ↦ and_from (p f) (list_all p (with_file files n b)) both.0 ih
    ]

pub names_differ-with : (n b : List ℕ) (files : List (List ℕ × List ℕ)) → names_differ files ≡ true → names_differ (with_file files n b) ≡ true
names_differ-with n b [] h = refl
names_differ-with n b (f ∷ files) h =
    let p : List ℕ → List ℕ × List ℕ → Bool = λ m g. not (bytes_eq m g.0) in
    let both : (list_all (p f.0) files ≡ true) × (names_differ files ≡ true) = and_parts (list_all (p f.0) files) (names_differ files) h in
    (elim (bytes_eq n f.0) as (λ t. bytes_eq n f.0 ≡ t → names_differ (cond t ((n, b) ∷ files) (f ∷ with_file files n b)) ≡ true) [
      | true ↦ λ e. and_from (list_all (p n) files) (names_differ files) (subst (λ m. list_all (p m) files ≡ true) (sym (same_bytes n f.0 e)) both.0) both.1
      | false ↦ λ e.
          (let o : p f.0 (n, b) ≡ true = ap not (other_bytes n f.0 e) in
          and_from (list_all (p f.0) (with_file files n b)) (names_differ (with_file files n b)) (all-with (p f.0) n b o files both.0) (names_differ-with n b files both.1))
    ]) refl

abbrev pair : List ℕ → List ℕ → List ℕ × List ℕ
pair name bytes = (name, bytes)

-- a file put in its place
pub pairs-set : (name bytes : List ℕ) (files : List File) (i : ℕ) (f : File) → i ≡ place_of (pairs files) name → i < length files → f.name ≡ name → f.bytes ≡ bytes → pairs (set files i f) ≡ with_file (pairs files) name bytes
pairs-set name bytes [] i f e m n b = absurd (omega arith)
pairs-set name bytes (g ∷ files) zero f e m n b =
    (elim (bytes_eq name g.name) as (λ t. 0 ≡ cond t 0 (place_of (pairs files) name + 1) → pair f.name f.bytes ∷ pairs files ≡ cond t (pair name bytes ∷ pairs files) (pair g.name g.bytes ∷ with_file (pairs files) name bytes)) [
      | true ↦ λ q. ap₂ (λ (x y : List ℕ). pair x y ∷ pairs files) n b
      | false ↦ λ q. absurd (omega arith)
    ]) e
pairs-set name bytes (g ∷ files) (suc i) f e m n b =
    (elim (bytes_eq name g.name) as (λ t. suc i ≡ cond t 0 (place_of (pairs files) name + 1) → pair g.name g.bytes ∷ pairs (set files i f) ≡ cond t (pair name bytes ∷ pairs files) (pair g.name g.bytes ∷ with_file (pairs files) name bytes)) [
      | true ↦ λ q. absurd (omega arith)
      | false ↦ λ q.
          (let p : i ≡ place_of (pairs files) name = omega arith in
          let l : i < length files = (let k : suc i < suc (length files) = m in omega arith) in
          ap (λ k. pair g.name g.bytes ∷ k) (pairs-set name bytes files i f p l n b))
    ]) e

-- a file put last
pub pairs-push : (name bytes : List ℕ) (files : List File) (f : File) → length files ≤ place_of (pairs files) name → f.name ≡ name → f.bytes ≡ bytes → pairs (files ++ f ∷ []) ≡ with_file (pairs files) name bytes
pairs-push name bytes [] f h n b = ap₂ (λ (x y : List ℕ). pair x y ∷ []) n b
pairs-push name bytes (g ∷ files) f h n b =
    (elim (bytes_eq name g.name) as (λ t. suc (length files) ≤ cond t 0 (place_of (pairs files) name + 1) → pair g.name g.bytes ∷ pairs (files ++ f ∷ []) ≡ cond t (pair name bytes ∷ pairs files) (pair g.name g.bytes ∷ with_file (pairs files) name bytes)) [
      | true ↦ λ q. absurd (omega arith)
      | false ↦ λ q.
          (let l : length files ≤ place_of (pairs files) name = omega arith in
          ap (λ k. pair g.name g.bytes ∷ k) (pairs-push name bytes files f l n b))
    ]) h
