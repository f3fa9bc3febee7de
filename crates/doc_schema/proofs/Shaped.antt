-- The value of a schema is one of texts, whole numbers, arrays and objects, and nests six deep.
use Rattle.std.specs.Prelude.{◌≡◌, ℕ, ◌+◌, ◌*◌, ◌==◌, ◌^◌, ◌<◌, ◌≤◌, Bool, true, false, if◌then◌else◌, List, [], ◌∷◌, map, length, drop, codes}
use Rattle.std.specs.List.{All}
use Rattle.std.proofs.Common.{refl, arith}
use Rattle.std.proofs.lemmas.List.Elements.{All-drop, All-from_get_or, All-head, All-tail, All-take}
use Rattle.json.proofs.Printed.Utf8.{IsUtf8-are_ascii, are_ascii}
use Rattle.serde_json.specs.Data.{Data, Members, no_members, array, number, put, string, unsigned}
use Rattle.serde_json.specs.View.{items_of}
use Rattle.action_tables.specs.Name.{IsName}
use Rattle.action_tables.specs.Table.{ActionTable, EachBelow, IsTable, level_of, op_count}
use Rattle.action_tables.specs.TableForm.{numbers, strings}
use Rattle.doc_schema.specs.Canonical.{field_data, kind_members, modulus_member, op_data, ops_from, reset_members, row, schema_data}
use Rattle.doc_schema.specs.Kinds.{kind_text, name_of}
use Rattle.doc_schema.specs.Schema.{SchemaParts}
use Rattle.doc_schema.specs.Sound.{IsSchema, IsSoundField, IsSoundKind}
use Rattle.doc_schema.specs.declared.kind.Field.{Field}
use Rattle.doc_schema.specs.declared.kind.Kind.{Kind}
use Rattle.doc_schema.specs.declared.kind.Kind.TheVariants as kind
use Rattle.doc_schema.specs.declared.kind.KindName.{KindName}
use Rattle.doc_schema.specs.declared.kind.KindName.TheVariants.{Number, OnFlag, OffFlag, Choice, Table, Latest, Several, Text, Tally, Entries, Rich}
use Rattle.doc_schema.specs.declared.kind.Reset.{Reset}
use Rattle.doc_schema.specs.declared.kind.Reset.TheVariants.{Never, Winning, Observed}
use Rattle.doc_schema.proofs.Names.{utf8_name}
use Rattle.doc_schema.proofs.Plain.{ArePlain, HavePlain, IsPlain, IsRising, plain_put, rising_put}

-- members whose keys rise, and whose values nest no deeper than n
record IsShaped (n : ℕ) (ms : Members) : Type 0 where
  rising : IsRising ms
  plain : HavePlain n ms

none : (n : ℕ) → IsShaped n no_members
none n = record { rising = tt; plain = tt }

put_in : (n : ℕ) (k : List ℕ) (d : Data) (ms : Members) → are_ascii k ≡ true → IsPlain n d → IsShaped n ms → IsShaped n (put k d ms)
put_in n k d ms ascii p h = record {
  rising = rising_put k d ms h.rising;
  plain = plain_put n k d ms (IsUtf8-are_ascii k ascii) p h.plain;
}

-- arrays

plain_strings : (n : ℕ) (names : List (List ℕ)) → All IsName names → ArePlain n (items_of (map string names))
plain_strings n [] h = tt
plain_strings n (name ∷ names) h =
    (utf8_name name (All-head IsName name names h), plain_strings n names (All-tail IsName name names h))

abbrev IsSmall : ℕ → Type 0
IsSmall m = m < 2 ^ 64

plain_numbers : (n : ℕ) (ms : List ℕ) → All IsSmall ms → ArePlain n (items_of (map (λ m. number (unsigned m)) ms))
plain_numbers n [] h = tt
plain_numbers n (m ∷ ms) h = (All-head IsSmall m ms h, plain_numbers n ms (All-tail IsSmall m ms h))

small_row : (xs : List ℕ) (most width at : ℕ) → EachBelow xs most → most ≤ 32 → All IsSmall (row width xs at)
small_row xs most width at each low =
    All-take IsSmall width (drop (at * width) xs) (All-drop IsSmall (at * width) xs (All-from_get_or IsSmall xs 0 (λ i l. omega (arith, each i l, low))))

-- tables

module _ (t : ActionTable) (table : IsTable t) where
  plain_op : (name : List ℕ) (op : ℕ) → IsName name → op < op_count t → IsPlain 2 (op_data t name op)
  plain_op name op named low =
      let act : IsPlain 1 (numbers (row (op_count t) t.act op)) =
      (omega arith, plain_numbers 0 (row (op_count t) t.act op) (small_row t.act (op_count t) (op_count t) op table.entries.act table.sizes.most_ops)) in
      let next : IsPlain 1 (numbers (row t.states t.next op)) =
      (omega arith, plain_numbers 0 (row t.states t.next op) (small_row t.next t.states t.states op table.entries.next table.sizes.most_states)) in
      let level : IsPlain 1 (number (unsigned (level_of t op))) = omega (arith, table.levels.high op low) in
      let one = put_in 1 (codes "act") (numbers (row (op_count t) t.act op)) no_members refl act (none 1) in
      let two = put_in 1 (codes "level") (number (unsigned (level_of t op))) _ refl level one in
      let three = put_in 1 (codes "name") (string name) _ refl (utf8_name name named) two in
      let four = put_in 1 (codes "next") (numbers (row t.states t.next op)) _ refl next three in
      (omega arith, four.rising, four.plain)

  plain_ops : (names : List (List ℕ)) (op : ℕ) → All IsName names → op + length names ≤ op_count t → ArePlain 2 (items_of (ops_from t names op))
  plain_ops [] op h low = tt
  plain_ops (name ∷ names) op h low =
      (plain_op name op (All-head IsName name names h) (omega arith), plain_ops names (op + 1) (All-tail IsName name names h) (omega arith))

-- fields

shaped_modulus : (m : ℕ) (ms : Members) → IsSmall m → IsShaped 3 ms → IsShaped 3 (modulus_member m ms)
shaped_modulus m ms low h = by (m == 0) where
  by : (b : Bool) → IsShaped 3 (if b then ms else put (codes "modulus") (number (unsigned m)) ms)
  by true = h
  by false = put_in 3 (codes "modulus") (number (unsigned m)) ms refl low h

shaped_kind : (k : Kind) (ms : Members) → IsSoundKind k → IsShaped 3 ms → IsShaped 3 (kind_members k ms)
shaped_kind (kind.Number m) ms s h = shaped_modulus m ms s.most h
shaped_kind kind.OnFlag ms s h = h
shaped_kind kind.OffFlag ms s h = h
shaped_kind (kind.Choice values) ms s h =
    put_in 3 (codes "values") (strings values) ms refl (omega arith, plain_strings 2 values s.2.each) h
shaped_kind (kind.Table l states ops) ms s h =
    let table = l.well_formed in
    let count : 0 + length ops ≤ op_count l.table = omega (arith, s.1) in
    let start : IsPlain 3 (number (unsigned l.table.start)) = omega (arith, table.sizes.starts, table.sizes.most_states) in
    let one = put_in 3 (codes "ops") (array (items_of (ops_from l.table ops 0))) ms refl (omega arith, plain_ops l.table table ops 0 s.3.each count) h in
    let two = put_in 3 (codes "start") (number (unsigned l.table.start)) _ refl start one in
    put_in 3 (codes "states") (strings states) _ refl (omega arith, plain_strings 2 states s.2.each) two
shaped_kind kind.Latest ms s h = h
shaped_kind kind.Several ms s h = h
shaped_kind kind.Text ms s h = h
shaped_kind (kind.Tally m) ms s h = shaped_modulus m ms s.most h
shaped_kind kind.Entries ms s h = h
shaped_kind (kind.Rich marks) ms s h =
    put_in 3 (codes "marks") (strings marks) ms refl (omega arith, plain_strings 2 marks s.2.each) h

shaped_reset : (r : Reset) (ms : Members) → IsShaped 3 ms → IsShaped 3 (reset_members r ms)
shaped_reset Never ms h = h
shaped_reset Winning ms h = put_in 3 (codes "reset") (string (codes "winning")) ms refl (IsUtf8-are_ascii (codes "winning") refl) h
shaped_reset Observed ms h = put_in 3 (codes "reset") (string (codes "observed")) ms refl (IsUtf8-are_ascii (codes "observed") refl) h

ascii_kind : (k : KindName) → are_ascii (kind_text k) ≡ true
ascii_kind Number = refl
ascii_kind OnFlag = refl
ascii_kind OffFlag = refl
ascii_kind Choice = refl
ascii_kind Table = refl
ascii_kind Latest = refl
ascii_kind Several = refl
ascii_kind Text = refl
ascii_kind Tally = refl
ascii_kind Entries = refl
ascii_kind Rich = refl

plain_field : (f : Field) → IsSoundField f → IsPlain 4 (field_data f)
plain_field f s =
    let text = kind_text (name_of f.kind) in
    let one = put_in 3 (codes "kind") (string text) no_members refl (IsUtf8-are_ascii text (ascii_kind (name_of f.kind))) (none 3) in
    let two = put_in 3 (codes "name") (string f.name) _ refl (utf8_name f.name s.name) one in
    let all = shaped_kind f.kind _ s.kind (shaped_reset f.reset _ two) in
    (omega arith, all.rising, all.plain)

plain_fields : (fs : List Field) → All IsSoundField fs → ArePlain 4 (items_of (map field_data fs))
plain_fields [] h = tt
plain_fields (f ∷ fs) h = (plain_field f (All-head IsSoundField f fs h), plain_fields fs (All-tail IsSoundField f fs h))

pub plain_schema : (s : SchemaParts) → IsSchema s → IsPlain 6 (schema_data s)
plain_schema s h =
    let members : IsPlain 5 (number (unsigned s.members)) = omega (arith, h.members.most) in
    let one = put_in 5 (codes "doc") (string s.doc) no_members refl (utf8_name s.doc h.doc) (none 5) in
    let two = put_in 5 (codes "fields") (array (items_of (map field_data s.fields))) _ refl (omega arith, plain_fields s.fields h.each) one in
    let all = put_in 5 (codes "members") (number (unsigned s.members)) _ refl members two in
    (omega arith, all.rising, all.plain)
