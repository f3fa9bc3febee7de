-- The runs of rich text: characters one after another that show the same marks.
use Rattle.std.specs.Prelude.{ℕ, List, [], ◌∷◌, map, slice_index_or, if◌then◌else◌, codes, encode_utf8_all}
use Rattle.std.specs.List.{filter}
use Rattle.std.specs.Str.{bytes_eq}
use Rattle.serde_json.specs.Data.{Data, array, no_members, object, put, string}
use Rattle.serde_json.specs.View.{items_of}
use Rattle.action_tables.specs.TableForm.{strings}
use Rattle.rich_text.specs.declared.marked.RichCell.{RichCell}

-- characters that show these marks, which are told by their numbers
pub record Run : Type 0 where
  pub marks : List ℕ
  pub text : List ℕ

abbrev pub run : List ℕ → List ℕ → Run
run marks text = record { marks = marks; text = text }

-- the marks that a character shows: those of its entries that are on
abbrev pub marks_on : RichCell → List ℕ
marks_on c = map (λ e. e.mark) (filter (λ e. e.on) c.marks)

-- the runs with one more character in front, which joins the first one where it shows the same marks
abbrev pub with_front : RichCell → List Run → List Run
with_front c [] = run (marks_on c) (c.ch ∷ []) ∷ []
with_front c (r ∷ rs) = if bytes_eq (marks_on c) r.marks then run r.marks (c.ch ∷ r.text) ∷ rs else run (marks_on c) (c.ch ∷ []) ∷ r ∷ rs

-- the longest runs of a text
abbrev pub runs : List RichCell → List Run
runs [] = []
runs (c ∷ cs) = with_front c (runs cs)

-- a run is shown by the names of its marks and by its text
abbrev pub run_data : List (List ℕ) → Run → Data
run_data names r =
    object (put (codes "text") (string (encode_utf8_all r.text)) (put (codes "marks") (strings (map (λ i. slice_index_or names i []) r.marks)) no_members))

-- and a text by its runs
abbrev pub runs_data : List (List ℕ) → List RichCell → Data
runs_data names s = array (items_of (map (run_data names) (runs s)))
