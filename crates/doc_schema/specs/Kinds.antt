-- The eleven kinds of fields, and the two resets, by their names.
use Rattle.std.specs.Prelude.{ℕ, List, [], ◌∷◌, codes, Option, Some, None, if◌then◌else◌}
use Rattle.std.specs.List.{find}
use Rattle.std.specs.Str.{bytes_eq}
use Rattle.doc_schema.specs.declared.kind.Reset.{Reset}
use Rattle.doc_schema.specs.declared.kind.Reset.TheVariants.{Winning, Observed}
use Rattle.doc_schema.specs.declared.kind.KindName.{KindName}
use Rattle.doc_schema.specs.declared.kind.KindName.TheVariants.{Number, OnFlag, OffFlag, Choice, Table, Latest, Several, Text, Tally, Entries, Rich}
use Rattle.doc_schema.specs.declared.kind.Kind.{Kind}
use Rattle.doc_schema.specs.declared.kind.Kind.TheVariants as kind

abbrev pub kind_text : KindName → List ℕ
kind_text Number = codes "number"
kind_text OnFlag = codes "on_flag"
kind_text OffFlag = codes "off_flag"
kind_text Choice = codes "choice"
kind_text Table = codes "table"
kind_text Latest = codes "latest"
kind_text Several = codes "several"
kind_text Text = codes "text"
kind_text Tally = codes "tally"
kind_text Entries = codes "entries"
kind_text Rich = codes "rich"

abbrev pub all_kinds : List KindName
all_kinds = Number ∷ OnFlag ∷ OffFlag ∷ Choice ∷ Table ∷ Latest ∷ Several ∷ Text ∷ Tally ∷ Entries ∷ Rich ∷ []

-- the kind with this name
abbrev pub kind_named : List ℕ → Option KindName
kind_named text = find (λ k. bytes_eq (kind_text k) text) all_kinds

-- the kind of a field, without its parts
abbrev pub name_of : Kind → KindName
name_of (kind.Number m) = Number
name_of kind.OnFlag = OnFlag
name_of kind.OffFlag = OffFlag
name_of (kind.Choice values) = Choice
name_of (kind.Table table states ops) = Table
name_of kind.Latest = Latest
name_of kind.Several = Several
name_of kind.Text = Text
name_of (kind.Tally m) = Tally
name_of kind.Entries = Entries
name_of (kind.Rich marks) = Rich

-- the reset with this name: that there is none has no name
abbrev pub reset_named : List ℕ → Option Reset
reset_named text = if bytes_eq (codes "winning") text then Some Winning else (if bytes_eq (codes "observed") text then Some Observed else None)
