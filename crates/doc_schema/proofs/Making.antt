-- Kinds that are made of what was read.
use Rattle.std.specs.Prelude.{◌≡◌, ℕ, ◌≤◌, ◌==◌, ◌&&◌, nat_le, if◌then◌else◌, List, length, Option, Some, None, option_map, option_and_then, codes}
use Rattle.std.proofs.Common.{refl, ap, sym, ◌∙◌, subst}
use Rattle.std.proofs.lemmas.Bool.{and_parts, eqb-true, leb-true}
use Rattle.std.proofs.lemmas.List.{length-map}
use Rattle.serde_json.specs.Data.{Data}
use Rattle.serde_json.specs.Find.{as_str, get}
use Rattle.action_tables.specs.Table.{ActionTable, op_count}
use Rattle.action_tables.specs.TableText.{IsAccepted, field_of, key_count, op_names, parts_of, table_at, texts_of}
use Rattle.action_tables.specs.declared.lawful.LawfulTable.{LawfulTable}
use Rattle.action_tables.specs.declared.written.WrittenOp.{WrittenOp}
use Rattle.action_tables.specs.declared.written.WrittenTable.{WrittenTable}
use Rattle.action_tables.proofs.Forms.{and_then_is, test_is}
use Rattle.action_tables.proofs.Reading.{few_states_at}
use Rattle.doc_schema.specs.declared.kind.Kind.TheVariants as kind
use Rattle.doc_schema.specs.declared.kind.KindName.{KindName}
use Rattle.doc_schema.specs.declared.kind.KindName.TheVariants.{Number, OnFlag, OffFlag, Choice, Table, Latest, Several, Text, Tally, Entries, Rich}
use Rattle.doc_schema.specs.declared.kind.Reset.{Reset}
use Rattle.doc_schema.specs.declared.written.WrittenField.{WrittenField}
use Rattle.doc_schema.specs.declared.written.WrittenKind.{WrittenKind}
use Rattle.doc_schema.specs.declared.written.WrittenKind.TheVariants as written
use Rattle.doc_schema.specs.Form.{field_at, field_form, field_from, field_keys, if_there, if_within, kind_of, reset_of, whole_of}
use Rattle.doc_schema.specs.Kinds.{kind_named}
use Rattle.doc_schema.specs.Sound.{AreNames, HasCounts, IsSoundKind}

-- a table that was accepted and is lawful
pub sound_table : (w : WrittenTable) (t : ActionTable) (l : LawfulTable) (states ops : List (List ℕ)) → IsAccepted w → t ≡ parts_of w
    → states ≡ w.states → ops ≡ op_names w.ops → l.table ≡ t → IsSoundKind (kind.Table l states ops)
sound_table w t l states ops a parts s o own =
    let same : l.table ≡ parts_of w = own ∙ parts in
    let states_named : AreNames w.states = record { each = a.names.states; apart = a.apart.states } in
    let ops_named : AreNames (op_names w.ops) = record { each = a.names.ops; apart = a.apart.ops } in (
      ap length s ∙ sym (ap (λ (u : ActionTable). u.states) same),
      ap length o ∙ length-map w.ops (λ (p : WrittenOp). p.name) ∙ sym (length-map w.ops (λ (p : WrittenOp). p.level)) ∙ sym (ap op_count same),
      subst AreNames (sym s) states_named,
      subst AreNames (sym o) ops_named,
    )

-- ---- how long the lists are

pub map_is : {A B : Type 0} (f : A → B) (o : Option A) (y : B) → option_map f o ≡ Some y → (x : A) × (o ≡ Some x) × (f x ≡ y)
map_is f None y e = absurd (cc)
map_is f (Some x) y e = (x, refl, (let same : f x ≡ y = cc in same))

pub within_is : {A : Type 0} (low high : ℕ) (xs ys : List A) → if_within low high xs ≡ Some ys → (xs ≡ ys) × (low ≤ length ys) × (length ys ≤ high)
within_is low high xs ys e =
    let t = test_is (nat_le low (length xs) && nat_le (length xs) high) (Some xs) ys e in
    let p = and_parts (nat_le low (length xs)) (nat_le (length xs) high) t.0 in
    let same : xs ≡ ys = cc in (
      same,
      subst (λ zs. low ≤ length zs) same (leb-true low (length xs) p.0),
      subst (λ zs. length zs ≤ high) same (leb-true (length xs) high p.1),
    )

names_within : (low high : ℕ) (o : Option (List (List ℕ))) (ys : List (List ℕ)) → option_and_then (if_within low high) o ≡ Some ys
    → (low ≤ length ys) × (length ys ≤ high)
names_within low high o ys e =
    let a = and_then_is (if_within low high) o ys e in
    let w = within_is low high a.0 ys a.2 in
    (w.1, w.2)

kind_counts : (k : KindName) (d : Data) (w : WrittenKind) → kind_of k d ≡ Some w → HasCounts w
kind_counts Number d w e = let m = map_is written.Number (if_there whole_of (get (codes "modulus") d)) w e in subst HasCounts m.2 tt
kind_counts OnFlag d w e = let same : written.OnFlag ≡ w = cc in subst HasCounts same tt
kind_counts OffFlag d w e = let same : written.OffFlag ≡ w = cc in subst HasCounts same tt
kind_counts Choice d w e =
    let o = option_and_then (if_within 2 8) (field_of texts_of (codes "values") d) in
    let m = map_is written.Choice o w e in
    subst HasCounts m.2 (names_within 2 8 (field_of texts_of (codes "values") d) m.0 m.1)
kind_counts Table d w e = let m = map_is written.Table (table_at d) w e in subst HasCounts m.2 (few_states_at d m.0 m.1)
kind_counts Latest d w e = let same : written.Latest ≡ w = cc in subst HasCounts same tt
kind_counts Several d w e = let same : written.Several ≡ w = cc in subst HasCounts same tt
kind_counts Text d w e = let same : written.Text ≡ w = cc in subst HasCounts same tt
kind_counts Tally d w e = let m = map_is written.Tally (if_there whole_of (get (codes "modulus") d)) w e in subst HasCounts m.2 tt
kind_counts Entries d w e = let same : written.Entries ≡ w = cc in subst HasCounts same tt
kind_counts Rich d w e =
    let o = option_and_then (if_within 1 8) (field_of texts_of (codes "marks") d) in
    let m = map_is written.Rich o w e in
    subst HasCounts m.2 (names_within 1 8 (field_of texts_of (codes "marks") d) m.0 m.1)

pub field_parts : (n : Option (List ℕ)) (r : Option Reset) (k : Option WrittenKind) (w : WrittenField) → field_from n r k ≡ Some w
    → (n ≡ Some w.name) × (r ≡ Some w.reset) × (k ≡ Some w.kind)
field_parts None r k w e = absurd (cc)
field_parts (Some n) None k w e = absurd (cc)
field_parts (Some n) (Some r) None w e = absurd (cc)
field_parts (Some n) (Some r) (Some k) w e =
    let made : WrittenField = record { name = n; kind = k; reset = r } in
    let same : made ≡ w = cc in
    (ap (λ (z : WrittenField). Some z.name) same, ap (λ (z : WrittenField). Some z.reset) same, ap (λ (z : WrittenField). Some z.kind) same)

-- a field that has its form has its keys and no other
pub form_is : (d : Data) (w : WrittenField) → field_form d ≡ Some w → (field_at d ≡ Some w) × (key_count d ≡ field_keys w)
form_is d w e =
    let a = and_then_is (λ (v : WrittenField). if key_count d == field_keys v then Some v else None) (field_at d) w e in
    let t = test_is (key_count d == field_keys a.0) (Some a.0) w a.2 in
    let same : a.0 ≡ w = cc in
    (a.1 ∙ ap Some same, eqb-true (key_count d) (field_keys a.0) t.0 ∙ ap field_keys same)

pub counts : (d : Data) (w : WrittenField) → field_form d ≡ Some w → HasCounts w.kind
counts d w e =
    let name = field_of as_str (codes "name") d in
    let kind_name = option_and_then kind_named (field_of as_str (codes "kind") d) in
    let kind_part = option_and_then (λ k. kind_of k d) kind_name in
    let p = field_parts name (reset_of (get (codes "reset") d)) kind_part w (form_is d w e).0 in
    let k = and_then_is (λ k. kind_of k d) kind_name w.kind p.2 in
    kind_counts k.0 d w.kind k.2
