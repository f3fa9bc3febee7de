-- The value of a schema is read again as that schema.
use Rattle.std.specs.Prelude.{◌≡◌, ◌≢◌, ℕ, ◌==◌, ◌&&◌, nat_le, ◌≤◌, Bool, true, false, if◌then◌else◌, List, [], ◌∷◌, ◌++◌, map, length, Option, Some, None, unwrap_or, option_map, option_and_then, Ok, codes}
use Rattle.std.specs.List.{All, AllPairs, Contains}
use Rattle.std.proofs.Common.{refl, ap, sym, ◌∙◌, subst, arith, inl, inr, append-nil, append_assoc}
use Rattle.std.proofs.lemmas.Bool.{cases_eq, cond-true, eq-eqb, eqb-true, le-leb, and_from}
use Rattle.std.proofs.lemmas.List.{length-map, map-append}
use Rattle.std.proofs.lemmas.List.Elements.{All-head, All-tail}
use Rattle.crdt_laws.proofs.Members.{at_member}
use Rattle.crdt_laws.proofs.Seams.{pairs_before}
use Rattle.serde_json.specs.Data.{Data, Members, no_members, array, number, object, put, string, unsigned}
use Rattle.serde_json.specs.Find.{as_str, get}
use Rattle.serde_json.specs.View.{items_of}
use Rattle.action_tables.specs.Name.{IsName}
use Rattle.action_tables.specs.Table.{IsTable, KeepsLaws}
use Rattle.action_tables.specs.TableForm.{strings}
use Rattle.action_tables.specs.TableText.{byte_of, field_of, key_count, op_names, ops_of, parts_of, table_from, texts_of}
use Rattle.action_tables.specs.declared.lawful.LawfulTable.{LawfulTable}
use Rattle.action_tables.proofs.Forms.{array_from, texts_from}
use Rattle.doc_schema.specs.Canonical.{field_data, ops_from, reset_members, schema_data}
use Rattle.doc_schema.specs.Form.{Head, head_from, field_at, field_form, field_from, field_keys, fields_of, if_within, kind_of, reset_of}
use Rattle.doc_schema.specs.Kinds.{kind_named, kind_text}
use Rattle.doc_schema.specs.Schema.{FieldResult, FieldsResult, HasKindNames, IsKindApart, IsModulus, KindResult, SchemaParts, ValueResult, field_names, modulus_of}
use Rattle.doc_schema.specs.Sound.{IsKeptModulus, IsSchema, IsSoundField, IsSoundKind}
use Rattle.doc_schema.specs.declared.kind.Field.{Field}
use Rattle.doc_schema.specs.declared.kind.Kind.{Kind}
use Rattle.doc_schema.specs.declared.kind.Kind.TheVariants as kind
use Rattle.doc_schema.specs.declared.kind.KindName.{KindName}
use Rattle.doc_schema.specs.declared.kind.KindName.TheVariants.{Number, Choice, Table, Tally, Rich}
use Rattle.doc_schema.specs.declared.kind.Reset.{Reset}
use Rattle.doc_schema.specs.declared.kind.Reset.TheVariants.{Never, Winning, Observed}
use Rattle.doc_schema.specs.declared.written.WrittenField.{WrittenField}
use Rattle.doc_schema.specs.declared.written.WrittenKind.{WrittenKind}
use Rattle.doc_schema.specs.declared.written.WrittenKind.TheVariants as written
use Rattle.doc_schema.proofs.Kept.{accepted}
use Rattle.doc_schema.proofs.Rows.{has_rows, names_back, parts_back, table_read, written_table}

-- ---- what is written down of a kind and of a field

abbrev modulus_given : Bool → ℕ → Option ℕ
modulus_given none m = if none then None else Some m

abbrev kind_back : Kind → WrittenKind
kind_back (kind.Number m) = written.Number (modulus_given (m == 0) m)
kind_back kind.OnFlag = written.OnFlag
kind_back kind.OffFlag = written.OffFlag
kind_back (kind.Choice values) = written.Choice values
kind_back (kind.Table l states ops) = written.Table (written_table l.table states ops)
kind_back kind.Latest = written.Latest
kind_back kind.Several = written.Several
kind_back kind.Text = written.Text
kind_back (kind.Tally m) = written.Tally (modulus_given (m == 0) m)
kind_back kind.Entries = written.Entries
kind_back (kind.Rich marks) = written.Rich marks

abbrev field_back : Field → WrittenField
field_back f = record { name = f.name; kind = kind_back f.kind; reset = f.reset }

-- ---- the form of a field

abbrev base : List ℕ → KindName → Reset → Members
base name k r = reset_members r (put (codes "name") (string name) (put (codes "kind") (string (kind_text k)) no_members))

form_from : (d : Data) (w : WrittenField) (k : KindName) → field_of as_str (codes "name") d ≡ Some w.name
    → reset_of (get (codes "reset") d) ≡ Some w.reset → option_and_then kind_named (field_of as_str (codes "kind") d) ≡ Some k
    → kind_of k d ≡ Some w.kind → key_count d ≡ field_keys w → field_form d ≡ Some w
form_from d w k name reset named parts count =
    let whole : field_at d ≡ Some w = all (field_of as_str (codes "name") d) (reset_of (get (codes "reset") d)) (option_and_then kind_named (field_of as_str (codes "kind") d)) name reset named in
    ap (option_and_then (λ (v : WrittenField). if key_count d == field_keys v then Some v else None)) whole
    ∙ cond-true (key_count d == field_keys w) (Some w) None (eq-eqb (key_count d) (field_keys w) count)
  where
    all : (n : Option (List ℕ)) (r : Option Reset) (o : Option KindName) → n ≡ Some w.name → r ≡ Some w.reset → o ≡ Some k
        → field_from n r (option_and_then (λ k. kind_of k d) o) ≡ Some w
    all n r o i j l = rw (i, j, l, parts) refl

within_from : {A : Type 0} (low high : ℕ) (xs : List A) → low ≤ length xs → length xs ≤ high → if_within low high xs ≡ Some xs
within_from low high xs some most =
    cond-true (nat_le low (length xs) && nat_le (length xs) high) (Some xs) None
    (and_from (nat_le low (length xs)) (nat_le (length xs) high) (le-leb low (length xs) some) (le-leb (length xs) high most))

names_from : (low high : ℕ) (names : List (List ℕ)) → low ≤ length names → length names ≤ high → high ≤ 255
    → option_and_then (if_within low high) (texts_of (strings names)) ≡ Some names
names_from low high names some most few =
    ap (option_and_then (if_within low high)) (texts_from names (omega arith)) ∙ within_from low high names some most

-- a number, with or without a modulus
number_form : (none : Bool) (name : List ℕ) (m : ℕ) (r : Reset)
    → field_form (object (if none then base name Number r else put (codes "modulus") (number (unsigned m)) (base name Number r)))
    ≡ Some (record { name = name; kind = written.Number (modulus_given none m); reset = r })
number_form true name m Never = refl
number_form true name m Winning = refl
number_form true name m Observed = refl
number_form false name m Never = refl
number_form false name m Winning = refl
number_form false name m Observed = refl

tally_form : (none : Bool) (name : List ℕ) (m : ℕ) (r : Reset)
    → field_form (object (if none then base name Tally r else put (codes "modulus") (number (unsigned m)) (base name Tally r)))
    ≡ Some (record { name = name; kind = written.Tally (modulus_given none m); reset = r })
tally_form true name m Never = refl
tally_form true name m Winning = refl
tally_form true name m Observed = refl
tally_form false name m Never = refl
tally_form false name m Winning = refl
tally_form false name m Observed = refl

abbrev IsBack : List ℕ → Kind → Reset → Type 0
IsBack name k r = field_form (field_data (record { name = name; kind = k; reset = r })) ≡ Some (field_back (record { name = name; kind = k; reset = r }))

choice_form : (name : List ℕ) (values : List (List ℕ)) (r : Reset) → IsSoundKind (kind.Choice values) → IsBack name (kind.Choice values) r
choice_form name values r s = by r (ap (option_map written.Choice) (names_from 2 8 values s.0 s.1 (omega arith)))
  where
    by : (r : Reset) → option_map written.Choice (option_and_then (if_within 2 8) (texts_of (strings values))) ≡ Some (written.Choice values)
        → IsBack name (kind.Choice values) r
    by Never e = form_from (field_data (record { name = name; kind = kind.Choice values; reset = Never })) (field_back (record { name = name; kind = kind.Choice values; reset = Never })) Choice refl refl refl e refl
    by Winning e = form_from (field_data (record { name = name; kind = kind.Choice values; reset = Winning })) (field_back (record { name = name; kind = kind.Choice values; reset = Winning })) Choice refl refl refl e refl
    by Observed e = form_from (field_data (record { name = name; kind = kind.Choice values; reset = Observed })) (field_back (record { name = name; kind = kind.Choice values; reset = Observed })) Choice refl refl refl e refl

rich_form : (name : List ℕ) (marks : List (List ℕ)) (r : Reset) → IsSoundKind (kind.Rich marks) → IsBack name (kind.Rich marks) r
rich_form name marks r s = by r (ap (option_map written.Rich) (names_from 1 8 marks s.0 s.1 (omega arith)))
  where
    by : (r : Reset) → option_map written.Rich (option_and_then (if_within 1 8) (texts_of (strings marks))) ≡ Some (written.Rich marks)
        → IsBack name (kind.Rich marks) r
    by Never e = form_from (field_data (record { name = name; kind = kind.Rich marks; reset = Never })) (field_back (record { name = name; kind = kind.Rich marks; reset = Never })) Rich refl refl refl e refl
    by Winning e = form_from (field_data (record { name = name; kind = kind.Rich marks; reset = Winning })) (field_back (record { name = name; kind = kind.Rich marks; reset = Winning })) Rich refl refl refl e refl
    by Observed e = form_from (field_data (record { name = name; kind = kind.Rich marks; reset = Observed })) (field_back (record { name = name; kind = kind.Rich marks; reset = Observed })) Rich refl refl refl e refl

table_form : (name : List ℕ) (l : LawfulTable) (states ops : List (List ℕ)) (r : Reset) → IsSoundKind (kind.Table l states ops)
    → IsBack name (kind.Table l states ops) r
table_form name l states ops r s = by r (ap (option_map written.Table) (table_read l.table l.well_formed states ops s.0 s.1))
  where
    by : (r : Reset) → option_map written.Table (table_from (texts_of (strings states)) (byte_of (number (unsigned l.table.start)))
        (ops_of (array (items_of (ops_from l.table ops 0))))) ≡ Some (written.Table (written_table l.table states ops))
        → IsBack name (kind.Table l states ops) r
    by Never e = form_from (field_data (record { name = name; kind = kind.Table l states ops; reset = Never })) (field_back (record { name = name; kind = kind.Table l states ops; reset = Never })) Table refl refl refl e refl
    by Winning e = form_from (field_data (record { name = name; kind = kind.Table l states ops; reset = Winning })) (field_back (record { name = name; kind = kind.Table l states ops; reset = Winning })) Table refl refl refl e refl
    by Observed e = form_from (field_data (record { name = name; kind = kind.Table l states ops; reset = Observed })) (field_back (record { name = name; kind = kind.Table l states ops; reset = Observed })) Table refl refl refl e refl

-- of the kinds that have no parts
on_flag : (name : List ℕ) (r : Reset) → IsBack name kind.OnFlag r
on_flag name Never = refl
on_flag name Winning = refl
on_flag name Observed = refl

off_flag : (name : List ℕ) (r : Reset) → IsBack name kind.OffFlag r
off_flag name Never = refl
off_flag name Winning = refl
off_flag name Observed = refl

latest : (name : List ℕ) (r : Reset) → IsBack name kind.Latest r
latest name Never = refl
latest name Winning = refl
latest name Observed = refl

several : (name : List ℕ) (r : Reset) → IsBack name kind.Several r
several name Never = refl
several name Winning = refl
several name Observed = refl

text : (name : List ℕ) (r : Reset) → IsBack name kind.Text r
text name Never = refl
text name Winning = refl
text name Observed = refl

entries : (name : List ℕ) (r : Reset) → IsBack name kind.Entries r
entries name Never = refl
entries name Winning = refl
entries name Observed = refl

field_read : (name : List ℕ) (k : Kind) (r : Reset) → IsSoundKind k → IsBack name k r
field_read name (kind.Number m) r s = number_form (m == 0) name m r
field_read name kind.OnFlag r s = on_flag name r
field_read name kind.OffFlag r s = off_flag name r
field_read name (kind.Choice values) r s = choice_form name values r s
field_read name (kind.Table l states ops) r s = table_form name l states ops r s
field_read name kind.Latest r s = latest name r
field_read name kind.Several r s = several name r
field_read name kind.Text r s = text name r
field_read name (kind.Tally m) r s = tally_form (m == 0) name m r
field_read name kind.Entries r s = entries name r
field_read name (kind.Rich marks) r s = rich_form name marks r s

-- ---- the rules of a field

modulus_kept : (none : Bool) (m : ℕ) → (m == 0) ≡ none → IsKeptModulus m → IsModulus (modulus_given none m) × (unwrap_or (modulus_given none m) 0 ≡ m)
modulus_kept true m e s = (tt, sym (eqb-true m 0 e))
modulus_kept false m e s = (
  elim (cases_eq m 0) [
    | inl zero ↦ absurd (let t : (m == 0) ≡ true = eq-eqb m 0 zero in let f : true ≡ false = sym t ∙ e in cc)
    | inr other ↦ omega (arith, other, s.some)
  ],
  refl,
)

kind_modulus : (k : Kind) → IsSoundKind k → IsModulus (modulus_of (kind_back k))
kind_modulus (kind.Number m) s = (modulus_kept (m == 0) m refl s).0
kind_modulus kind.OnFlag s = tt
kind_modulus kind.OffFlag s = tt
kind_modulus (kind.Choice values) s = tt
kind_modulus (kind.Table l states ops) s = tt
kind_modulus kind.Latest s = tt
kind_modulus kind.Several s = tt
kind_modulus kind.Text s = tt
kind_modulus (kind.Tally m) s = (modulus_kept (m == 0) m refl s).0
kind_modulus kind.Entries s = tt
kind_modulus (kind.Rich marks) s = tt

abbrev differ : List ℕ → List ℕ → Type 0
differ a b = a ≢ b

kind_named_well : (k : Kind) → IsSoundKind k → HasKindNames (kind_back k) × IsKindApart (kind_back k)
kind_named_well (kind.Number m) s = (tt, tt)
kind_named_well kind.OnFlag s = (tt, tt)
kind_named_well kind.OffFlag s = (tt, tt)
kind_named_well (kind.Choice values) s = (s.2.each, s.2.apart)
kind_named_well (kind.Table l states ops) s =
    let same : ops ≡ op_names (written_table l.table states ops).ops = sym (names_back l.table ops 0) in
    (record { states = s.2.each; ops = subst (All IsName) same s.3.each }, record { states = s.2.apart; ops = subst (AllPairs differ) same s.3.apart })
kind_named_well kind.Latest s = (tt, tt)
kind_named_well kind.Several s = (tt, tt)
kind_named_well kind.Text s = (tt, tt)
kind_named_well (kind.Tally m) s = (tt, tt)
kind_named_well kind.Entries s = (tt, tt)
kind_named_well (kind.Rich marks) s = (s.2.each, s.2.apart)

kind_again : (k : Kind) → IsSoundKind k → KindResult (kind_back k) (Ok k)
kind_again (kind.Number m) s = ap (λ n. Ok (kind.Number n)) (sym (modulus_kept (m == 0) m refl s).1)
kind_again kind.OnFlag s = refl
kind_again kind.OffFlag s = refl
kind_again (kind.Choice values) s = refl
kind_again (kind.Table l states ops) s =
    let same : l.table ≡ parts_of (written_table l.table states ops) = sym (parts_back l.table l.well_formed states ops s.0 s.1) in (
      has_rows l.table l.well_formed states ops s.0 s.1,
      subst IsTable same l.well_formed,
      subst KeepsLaws same l.laws,
      (same, refl, sym (names_back l.table ops 0)),
    )
kind_again kind.Latest s = refl
kind_again kind.Several s = refl
kind_again kind.Text s = refl
kind_again (kind.Tally m) s = ap (λ n. Ok (kind.Tally n)) (sym (modulus_kept (m == 0) m refl s).1)
kind_again kind.Entries s = refl
kind_again (kind.Rich marks) s = refl

field_again : (earlier : List (List ℕ)) (f : Field) → IsSoundField f → ¬ Contains earlier f.name → FieldResult earlier (field_data f) (Ok f)
field_again earlier f s new =
    let well = kind_named_well f.kind s.kind in
    inr (
      field_back f,
      field_read f.name f.kind f.reset s.kind,
      inr (
        kind_modulus f.kind s.kind,
        inr (
          record { own = s.name; kind = well.0 },
          inr (
            record { own = new; kind = well.1 },
            inr (f.kind, kind_again f.kind s.kind, refl),
          ),
        ),
      ),
    )

-- ---- the fields, and the schema

new_name : (done : List Field) (f : Field) (fs : List Field) → AllPairs differ (field_names (done ++ f ∷ fs)) → ¬ Contains (field_names done) f.name
new_name done f fs apart c =
    let pairs = pairs_before differ (field_names done) (field_names fs) f.name (subst (AllPairs differ) (map-append (λ (g : Field). g.name) done (f ∷ fs)) apart) in
    at_member (λ n. differ n f.name) (field_names done) f.name pairs c refl

fields_again : (done fs : List Field) → All IsSoundField fs → AllPairs differ (field_names (done ++ fs))
    → FieldsResult done (map field_data fs) (Ok (done ++ fs))
fields_again done [] sound apart = ap Ok (append-nil done)
fields_again done (f ∷ fs) sound apart =
    let same : (done ++ f ∷ []) ++ fs ≡ done ++ f ∷ fs = append_assoc done (f ∷ []) fs in
    inr (
      f,
      field_again (field_names done) f (All-head IsSoundField f fs sound) (new_name done f fs apart),
      subst (λ gs. FieldsResult (done ++ f ∷ []) (map field_data fs) (Ok gs)) same
          (fields_again (done ++ f ∷ []) fs (All-tail IsSoundField f fs sound) (subst (λ gs. AllPairs differ (field_names gs)) (sym same) apart)),
    )

count_data : (fs : List Field) → length (map field_data fs) ≡ length fs
count_data fs = length-map fs field_data

pub schema_again : (s : SchemaParts) → IsSchema s → ValueResult (schema_data s) (Ok s)
schema_again s h =
    let head : Head = record { doc = s.doc; members = s.members; fields = map field_data s.fields } in
    let fields : option_and_then fields_of (Some (array (items_of (map field_data s.fields)))) ≡ Some (map field_data s.fields) =
    ap (option_and_then (if_within 1 64)) (array_from (map field_data s.fields))
    ∙ within_from 1 64 (map field_data s.fields) (omega (arith, count_data s.fields, h.some)) (omega (arith, count_data s.fields, h.most)) in
    accepted (schema_data s) head (ap (head_from (Some s.doc) (Some s.members)) fields) h.members h.doc s.fields
    (fields_again [] s.fields h.each h.apart)
