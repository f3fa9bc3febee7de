-- Each text gives one result.
use Rattle.std.specs.Prelude.{◌≡◌, ◌≢◌, ℕ, ◌<◌, ◌≤◌, ◌⊎◌, List, [], ◌∷◌, ◌++◌, length, Option, Some, None, Result, Ok, Err, unwrap_or}
use Rattle.std.specs.List.{Contains}
use Rattle.std.specs.Str.{IsUtf8, bytes_eq, is_utf8}
use Rattle.std.proofs.Common.{refl, ap, ap₂, sym, ◌∙◌, subst, arith, inl, inr}
use Rattle.std.specs.Coded.{le_prop}
use Rattle.std.proofs.Math.Decide.{dec_le, map_dec}
use Rattle.std.proofs.Math.Nat.{ℕ_set}
use Rattle.std.proofs.lemmas.Bool.{both_ways, cases_Bool}
use Rattle.std.proofs.lemmas.Slice.Eq.{bytes_eq-Decides}
use Rattle.std.proofs.lemmas.Str.{IsUtf8-from_is_utf8, is_utf8-from_IsUtf8}
use Rattle.crdt_laws.proofs.Members.{Contains-cases, Contains-front, Contains-more}
use Rattle.serde_json.specs.Data.{Data}
use Rattle.serde_json.specs.Read.{read}
use Rattle.action_tables.specs.Name.{IsName}
use Rattle.action_tables.specs.Table.{ActionTable, IsTable, KeepsLaws}
use Rattle.action_tables.specs.TableText.{HasRows, HasShapeFault, IsJson, op_names, parts_of}
use Rattle.action_tables.specs.Verdict.{IsVerdict}
use Rattle.action_tables.specs.declared.lawful.LawfulTable.{LawfulTable}
use Rattle.action_tables.specs.declared.table.Shape.TheVariants.{Size}
use Rattle.action_tables.specs.declared.table.Verdict.{Verdict}
use Rattle.action_tables.specs.declared.table.Verdict.TheVariants.{Lawful, Broken}
use Rattle.action_tables.specs.declared.written.WrittenTable.{WrittenTable}
use Rattle.action_tables.proofs.Cases.{none_broken}
use Rattle.action_tables.proofs.Decided.{all, all_pairs, both, other}
use Rattle.action_tables.proofs.Searched.{verdict_there}
use Rattle.action_tables.proofs.Texts.{faultless, shape_alike, value_alike}
use Rattle.action_tables.proofs.Verdicts.{one_verdict_lem}
use Rattle.action_tables.proofs.Whole as tables
use Rattle.doc_schema.specs.declared.fault.SchemaError.{SchemaError}
use Rattle.doc_schema.specs.declared.fault.SchemaError.TheVariants.{Long, NotJson, Shape, Members, Modulus, Name, Twice, Table}
use Rattle.doc_schema.specs.declared.fault.TableRefusal.{TableRefusal}
use Rattle.doc_schema.specs.declared.fault.TableRefusal.TheVariants as refusal
use Rattle.doc_schema.specs.declared.kind.Field.{Field}
use Rattle.doc_schema.specs.declared.kind.Kind.{Kind}
use Rattle.doc_schema.specs.declared.kind.Kind.TheVariants as kind
use Rattle.doc_schema.specs.declared.written.WrittenField.{WrittenField}
use Rattle.doc_schema.specs.declared.written.WrittenKind.{WrittenKind}
use Rattle.doc_schema.specs.declared.written.WrittenKind.TheVariants as written
use Rattle.doc_schema.specs.Form.{Head, field_form, head_form}
use Rattle.doc_schema.specs.Rules.{Demands, Follows}
use Rattle.doc_schema.specs.Schema.{AreMembers, FieldResult, FieldRules, FieldsResult, HasFieldNames, HasKindNames, IsFieldApart, IsKindApart, IsModulus, IsTableOf, KindResult, MadeResult, SchemaParts, HasFault, Spells, TableResult, TextResult, ValueResult, field_names, modulus_of}
use Rattle.doc_schema.proofs.Settled.{IsSettled, demands, follows, made, reads}

-- ---- what can be told

modulus : (o : Option ℕ) → Dec (IsModulus o)
modulus None = yes tt
modulus (Some m) = dec_le 2 m

kind_names : (w : WrittenKind) → Dec (HasKindNames w)
kind_names (written.Number m) = yes tt
kind_names written.OnFlag = yes tt
kind_names written.OffFlag = yes tt
kind_names (written.Choice values) = all IsName tables.name values
kind_names (written.Table t) = tables.names t
kind_names written.Latest = yes tt
kind_names written.Several = yes tt
kind_names written.Text = yes tt
kind_names (written.Tally m) = yes tt
kind_names written.Entries = yes tt
kind_names (written.Rich marks) = all IsName tables.name marks

abbrev differ : List ℕ → List ℕ → Type 0
differ a b = a ≢ b

kind_apart : (w : WrittenKind) → Dec (IsKindApart w)
kind_apart (written.Number m) = yes tt
kind_apart written.OnFlag = yes tt
kind_apart written.OffFlag = yes tt
kind_apart (written.Choice values) = all_pairs differ other values
kind_apart (written.Table t) = tables.apart t
kind_apart written.Latest = yes tt
kind_apart written.Several = yes tt
kind_apart written.Text = yes tt
kind_apart (written.Tally m) = yes tt
kind_apart written.Entries = yes tt
kind_apart (written.Rich marks) = all_pairs differ other marks

field_named : (w : WrittenField) → Dec (HasFieldNames w)
field_named w = map_dec (λ h. record { own = h.0; kind = h.1 }) (λ h. (h.own, h.kind)) (both (tables.name w.name) (kind_names w.kind))

absent : (names : List (List ℕ)) (name : List ℕ) → Dec (¬ Contains names name)
absent [] name = yes (λ c. let l : c.0 < 0 = c.1 in omega arith)
absent (first ∷ names) name = elim (cases_Bool (bytes_eq first name)) [
  | inl t ↦ no (λ n. n (subst (Contains (first ∷ names)) ((bytes_eq-Decides first name).0 t) (Contains-front first names)))
  | inr f ↦ elim (absent names name) [
    | no n ↦ no (λ m. n (λ c. m (Contains-more first names name c)))
    | yes none ↦ yes (λ c. elim (Contains-cases first names name c) [
      | inl e ↦ both_ways (bytes_eq first name) f ((bytes_eq-Decides first name).1 e)
      | inr k ↦ none k
    ])
  ]
]

field_apart : (earlier : List (List ℕ)) (w : WrittenField) → Dec (IsFieldApart earlier w)
field_apart earlier w =
    map_dec (λ h. record { own = h.0; kind = h.1 }) (λ h. (h.own, h.kind)) (both (absent earlier w.name) (kind_apart w.kind))

members : (n : ℕ) → Dec (AreMembers n)
members n = map_dec (λ h. record { some = h.0; most = h.1 }) (λ h. (h.some, h.most)) (both (dec_le 1 n) (dec_le n 64))

-- ---- tables

-- a lawful table is its table
table_prop : (t : ActionTable) → IsProp (IsTable t)
table_prop t = hlevel (le_prop, ℕ_set)

laws_prop : (t : ActionTable) → IsProp (KeepsLaws t)
laws_prop t = hlevel (le_prop, ℕ_set)

lawful_same : (l m : LawfulTable) → l.table ≡ m.table → l ≡ m
lawful_same l m e =
    let P : ActionTable → Type 0 = λ t. (w : IsTable t) (k : KeepsLaws t) → l ≡ record { table = t; well_formed = w; laws = k } in
    let base : P l.table = λ w k. ap₂ (λ (v : IsTable l.table) (j : KeepsLaws l.table). record { table = l.table; well_formed = v; laws = j })
    (table_prop l.table l.well_formed w) (laws_prop l.table l.laws k) in
    subst P e base m.well_formed m.laws

record IsNamedTable (w : WrittenTable) (k : Kind) : Type 0 where
  table : LawfulTable
  parts : table.table ≡ parts_of w
  is : k ≡ kind.Table table w.states (op_names w.ops)

named_table : (w : WrittenTable) (k : Kind) → IsTableOf w k → IsNamedTable w k
named_table w (kind.Number m) h = absurd h
named_table w kind.OnFlag h = absurd h
named_table w kind.OffFlag h = absurd h
named_table w (kind.Choice values) h = absurd h
named_table w (kind.Table table states ops) h = record { table = table; parts = h.0; is = ap₂ (kind.Table table) h.1 h.2 }
named_table w kind.Latest h = absurd h
named_table w kind.Several h = absurd h
named_table w kind.Text h = absurd h
named_table w (kind.Tally m) h = absurd h
named_table w kind.Entries h = absurd h
named_table w (kind.Rich marks) h = absurd h

one_table : (w : WrittenTable) (k l : Kind) → IsTableOf w k → IsTableOf w l → k ≡ l
one_table w k l h j =
    let a = named_table w k h in
    let b = named_table w l j in
    a.is ∙ ap (λ (t : LawfulTable). kind.Table t w.states (op_names w.ops)) (lawful_same a.table b.table (a.parts ∙ sym b.parts)) ∙ sym b.is

no_shape_fault : (w : WrittenTable) (fault : _) → HasRows w → IsTable (parts_of w) → HasShapeFault w fault → ⊥
no_shape_fault w fault rows table (inl h) = h.0 rows
no_shape_fault w fault rows table (inr h) = faultless (parts_of w) fault table h.1

not_broken : (t : ActionTable) (v : Verdict) → KeepsLaws t → IsVerdict t v → v ≢ Lawful → ⊥
not_broken t v keeps h other = other (one_verdict_lem t v Lawful h ((none_broken t).1 keeps))

table_one : (w : WrittenTable) (r q : Result Kind TableRefusal) → TableResult w r → TableResult w q → r ≡ q
table_one w (Ok k) (Ok l) h j = ap Ok (one_table w k l h.3 j.3)
table_one w (Ok k) (Err (refusal.Shape f)) h j = absurd (no_shape_fault w f h.0 h.1 j)
table_one w (Ok k) (Err (refusal.Broken v)) h j = absurd (not_broken (parts_of w) v h.2 j.2 j.3)
table_one w (Err (refusal.Shape f)) (Ok k) h j = absurd (no_shape_fault w f j.0 j.1 h)
table_one w (Err (refusal.Shape f)) (Err (refusal.Shape g)) h j = ap (λ s. Err (refusal.Shape s)) (shape_alike w f g h j)
table_one w (Err (refusal.Shape f)) (Err (refusal.Broken v)) h j = absurd (no_shape_fault w f j.0 j.1 h)
table_one w (Err (refusal.Broken v)) (Ok k) h j = absurd (not_broken (parts_of w) v j.2 h.2 h.3)
table_one w (Err (refusal.Broken v)) (Err (refusal.Shape f)) h j = absurd (no_shape_fault w f h.0 h.1 j)
table_one w (Err (refusal.Broken v)) (Err (refusal.Broken u)) h j =
    ap (λ x. Err (refusal.Broken x)) (one_verdict_lem (parts_of w) v u h.2 j.2)

table_some : (w : WrittenTable) → (r : Result Kind TableRefusal) × TableResult w r
table_some w = elim (tables.rows w) [
  | no n ↦ (Err (refusal.Shape Size), inl (n, refl))
  | yes rows ↦ elim (tables.table_or_fault (parts_of w)) [
    | inr f ↦ (Err (refusal.Shape f.0), inr (rows, f.1))
    | inl table ↦ (let v = verdict_there (parts_of w) in by rows table v.0 v.1)
  ]
]
  where
    by : HasRows w → IsTable (parts_of w) → (v : Verdict) → IsVerdict (parts_of w) v → (r : Result Kind TableRefusal) × TableResult w r
    by rows table Lawful h =
        let keeps = (none_broken (parts_of w)).0 h in
        let lawful : LawfulTable = record { table = parts_of w; well_formed = table; laws = keeps } in
        (Ok (kind.Table lawful w.states (op_names w.ops)), (rows, table, keeps, (refl, refl, refl)))
    by rows table (Broken law a b c) h = (Err (refusal.Broken (Broken law a b c)), (rows, table, h, λ e. absurd (cc)))

-- ---- kinds, fields, schemas

is_only : {A E : Type 0} (a : A) → IsSettled {A = A} {E = E} (λ r. r ≡ Ok a)
is_only a = record { some = (Ok a, refl); one = λ r q h k. h ∙ sym k }

kind_settled : (w : WrittenKind) → IsSettled (KindResult w)
kind_settled (written.Number m) = is_only (kind.Number (unwrap_or m 0))
kind_settled written.OnFlag = is_only kind.OnFlag
kind_settled written.OffFlag = is_only kind.OffFlag
kind_settled (written.Choice values) = is_only (kind.Choice values)
kind_settled (written.Table t) = record { some = table_some t; one = table_one t }
kind_settled written.Latest = is_only kind.Latest
kind_settled written.Several = is_only kind.Several
kind_settled written.Text = is_only kind.Text
kind_settled (written.Tally m) = is_only (kind.Tally (unwrap_or m 0))
kind_settled written.Entries = is_only kind.Entries
kind_settled (written.Rich marks) = is_only (kind.Rich marks)

made_settled : (at : ℕ) (w : WrittenField) → IsSettled (MadeResult at w)
made_settled at w = made (KindResult w.kind) (Table at) (λ k. record { name = w.name; kind = k; reset = w.reset }) (kind_settled w.kind)

rules_settled : (earlier : List (List ℕ)) (w : WrittenField) → IsSettled (FieldRules earlier w)
rules_settled earlier w =
    let at = length earlier in
    demands (IsModulus (modulus_of w.kind)) (Modulus at (unwrap_or (modulus_of w.kind) 0)) _ (modulus (modulus_of w.kind))
    (demands (HasFieldNames w) (Name at) _ (field_named w)
    (demands (IsFieldApart earlier w) (Twice at) _ (field_apart earlier w) (made_settled at w)))

field_settled : (earlier : List (List ℕ)) (d : Data) → IsSettled (FieldResult earlier d)
field_settled earlier d = reads (field_form d) (Shape (length earlier)) (FieldRules earlier) (rules_settled earlier)

fields_settled : (done : List Field) (ds : List Data) → IsSettled (FieldsResult done ds)
fields_settled done [] = is_only done
fields_settled done (d ∷ ds) =
    follows (FieldResult (field_names done) d) (λ f. FieldsResult (done ++ f ∷ []) ds) (field_settled (field_names done) d)
    (λ f. fields_settled (done ++ f ∷ []) ds)

abbrev HeadRules : Head → Result SchemaParts SchemaError → Type 0
HeadRules h =
    Demands (AreMembers h.members) (Members h.members) (
    Demands (IsName h.doc) (Name 255) (
    Follows (FieldsResult [] h.fields) (λ fs r. r ≡ Ok (record { doc = h.doc; members = h.members; fields = fs }))))

head_settled : (h : Head) → IsSettled (HeadRules h)
head_settled h =
    demands (AreMembers h.members) (Members h.members) _ (members h.members)
    (demands (IsName h.doc) (Name 255) _ (tables.name h.doc)
    (follows (FieldsResult [] h.fields) _ (fields_settled [] h.fields) (λ fs. is_only (record { doc = h.doc; members = h.members; fields = fs }))))

pub value_settled : (d : Data) → IsSettled (ValueResult d)
value_settled d = reads (head_form d) (Shape 255) HeadRules head_settled

-- ---- texts

abbrev JsonRules : List ℕ → Result SchemaParts SchemaError → Type 0
JsonRules text r = (((d : Data) → ¬ IsJson text d) × (r ≡ Err NotJson)) ⊎ ((d : Data) × IsJson text d × ValueResult d r)

json_settled : (text : List ℕ) → IsSettled (JsonRules text)
json_settled text = record {
  some = elim (cases_Bool (is_utf8 text)) [
    | inr f ↦ (Err NotJson, inl ((λ d j. both_ways (is_utf8 text) f (is_utf8-from_IsUtf8 text j.0)), refl))
    | inl u ↦ at_value (IsUtf8-from_is_utf8 text u) (read text) refl
  ];
  one = alike;
}
  where
    at_value : IsUtf8 text → (o : Option Data) → read text ≡ o → (r : Result SchemaParts SchemaError) × JsonRules text r
    at_value u None e = (Err NotJson, inl ((λ d j. let same : None ≡ Some d = sym e ∙ j.1 in absurd (cc)), refl))
    at_value u (Some d) e = ((value_settled d).some.0, inr (d, (u, e), (value_settled d).some.1))

    alike : (r q : Result SchemaParts SchemaError) → JsonRules text r → JsonRules text q → r ≡ q
    alike r q (inl h) (inl k) = h.1 ∙ sym k.1
    alike r q (inl h) (inr k) = absurd (h.0 k.0 k.1)
    alike r q (inr h) (inl k) = absurd (k.0 h.0 h.1)
    alike r q (inr h) (inr k) =
        (value_settled k.0).one r q (subst (λ d. ValueResult d r) (value_alike text h.0 k.0 h.1 k.1) h.2) k.2

pub text_settled : (text : List ℕ) → IsSettled (TextResult text)
text_settled text = demands (length text ≤ 65536) (Long (length text)) (JsonRules text) (dec_le (length text) 65536) (json_settled text)

-- ---- so a text spells a schema or has a fault

pub whole : (text : List ℕ) → ((s : SchemaParts) × Spells text s) ⊎ ((fault : SchemaError) × HasFault text fault)
whole text = by (text_settled text).some.0 (text_settled text).some.1
  where
    by : (r : Result SchemaParts SchemaError) → TextResult text r → ((s : SchemaParts) × Spells text s) ⊎ ((fault : SchemaError) × HasFault text fault)
    by (Ok s) h = inl (s, h)
    by (Err fault) h = inr (fault, h)

pub one_schema : (text : List ℕ) (s t : SchemaParts) → Spells text s → Spells text t → s ≡ t
one_schema text s t h k = let e : Ok s ≡ Ok t = (text_settled text).one (Ok s) (Ok t) h k in cc

pub one_fault_lem : (text : List ℕ) (f g : SchemaError) → HasFault text f → HasFault text g → f ≡ g
one_fault_lem text f g h k = let e : Err f ≡ Err g = (text_settled text).one (Err f) (Err g) h k in cc

pub spelled_faultless : (text : List ℕ) (s : SchemaParts) (fault : SchemaError) → Spells text s → ¬ HasFault text fault
spelled_faultless text s fault h k = absurd (let e : Ok s ≡ Err fault = (text_settled text).one (Ok s) (Err fault) h k in cc)

-- ---- and the value is what counts

module _ (text other : List ℕ) (d : Data) (is : IsJson text d) (too : IsJson other d) where
  pub same_result : (r : Result SchemaParts SchemaError) → length text ≤ 65536 → length other ≤ 65536 → TextResult text r → TextResult other r
  same_result r short low (inl h) = absurd (h.0 short)
  same_result r short low (inr (_, inl h)) = absurd (h.0 d is)
  same_result r short low (inr (_, inr h)) = inr (low, inr (d, too, subst (λ e. ValueResult e r) (value_alike text h.0 d h.1 is) h.2))

  pub same_schema : (s : SchemaParts) → length other ≤ 65536 → Spells text s → Spells other s
  same_schema s low (inl h) = absurd (let e = h.1 in cc)
  same_schema s low (inr h) = same_result (Ok s) h.0 low (inr h)

-- a text that spells a schema is short
pub short_text : (text : List ℕ) (s : SchemaParts) → Spells text s → length text ≤ 65536
short_text text s (inl h) = absurd (let e = h.1 in cc)
short_text text s (inr h) = h.0
