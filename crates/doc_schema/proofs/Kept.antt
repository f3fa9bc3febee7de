-- What a schema keeps whose value was accepted.
use Rattle.std.specs.Prelude.{◌≡◌, ◌≢◌, ℕ, ◌+◌, ◌==◌, ◌≤◌, List, [], ◌∷◌, ◌++◌, length, Option, Some, None, Ok, Err, codes}
use Rattle.std.specs.List.{All, AllPairs, Contains}
use Rattle.std.proofs.Common.{refl, ap, sym, ◌∙◌, subst, arith, inl, inr, length-append}
use Rattle.std.proofs.lemmas.List.{map_push}
use Rattle.std.proofs.lemmas.List.Elements.{Contains-get_or}
use Rattle.std.proofs.lemmas.List.Quantifiers.{all_pairs_push}
use Rattle.serde_json.specs.Data.{Data}
use Rattle.serde_json.specs.Find.{as_str}
use Rattle.action_tables.specs.Name.{IsName}
use Rattle.action_tables.specs.TableText.{array_elements, field_of, key_count}
use Rattle.action_tables.proofs.Forms.{and_then_is, field_is, test_is}
use Rattle.doc_schema.specs.declared.fault.SchemaError.{SchemaError}
use Rattle.doc_schema.specs.declared.kind.Field.{Field}
use Rattle.doc_schema.specs.declared.written.WrittenField.{WrittenField}
use Rattle.doc_schema.specs.Form.{Head, fields_of, head_form, head_from, if_within, whole_of}
use Rattle.doc_schema.specs.Schema.{AreMembers, FieldResult, FieldsResult, MadeResult, ValueResult, field_names}
use Rattle.doc_schema.specs.Sound.{IsSchema, IsSoundField}
use Rattle.doc_schema.proofs.Making.{within_is}

-- ---- a value, rule by rule

module _ (d : Data) (h : Head) (reads : head_form d ≡ Some h) (members : AreMembers h.members) (named : IsName h.doc) where
  pub accepted : (fs : List Field) → FieldsResult [] h.fields (Ok fs) → ValueResult d (Ok (record { doc = h.doc; members = h.members; fields = fs }))
  accepted fs k = inr (h, reads, inr (members, inr (named, inr (fs, k, refl))))

  pub refused : (e : SchemaError) → FieldsResult [] h.fields (Err e) → ValueResult d (Err e)
  refused e k = inr (h, reads, inr (members, inr (named, inl (e, k, refl))))

-- ---- how many fields there are

pub head_parts : (n : Option (List ℕ)) (m : Option ℕ) (f : Option (List Data)) (h : Head) → head_from n m f ≡ Some h
    → (n ≡ Some h.doc) × (m ≡ Some h.members) × (f ≡ Some h.fields)
head_parts None m f h e = absurd (cc)
head_parts (Some n) None f h e = absurd (cc)
head_parts (Some n) (Some m) None h e = absurd (cc)
head_parts (Some n) (Some m) (Some f) h e =
    let made : Head = record { doc = n; members = m; fields = f } in
    let same : made ≡ h = cc in
    (ap (λ (z : Head). Some z.doc) same, ap (λ (z : Head). Some z.members) same, ap (λ (z : Head). Some z.fields) same)

pub some_fields : (d : Data) (h : Head) → head_form d ≡ Some h → (1 ≤ length h.fields) × (length h.fields ≤ 64)
some_fields d h e =
    let doc = field_of as_str (codes "doc") d in
    let members = field_of whole_of (codes "members") d in
    let fields = field_of fields_of (codes "fields") d in
    let t = test_is (key_count d == 3) (head_from doc members fields) h e in
    let p = head_parts doc members fields h t.1 in
    let f = field_is fields_of (codes "fields") d h.fields p.2 in
    let a = and_then_is (if_within 1 64) (array_elements f.0) h.fields f.2 in
    let w = within_is 1 64 a.0 h.fields a.2 in
    (w.1, w.2)

-- ---- the names of the fields

-- a field that is made has the name that was written
made_name : (at : ℕ) (w : WrittenField) (f : Field) → MadeResult at w (Ok f) → f.name ≡ w.name
made_name at w f h = elim h [
  | inl wrong ↦ absurd (let e : Ok f ≡ Err _ = wrong.2 in cc)
  | inr made ↦ (let same : f ≡ record { name = w.name; kind = made.0; reset = w.reset } = (let e = made.2 in cc) in ap (λ (z : Field). z.name) same)
]

-- which no field before has
new_name : (earlier : List (List ℕ)) (d : Data) (f : Field) → FieldResult earlier d (Ok f) → ¬ Contains earlier f.name
new_name earlier d f h = elim h [
  | inl wrong ↦ absurd (let e = wrong.1 in cc)
  | inr read ↦ elim read.2 [
    | inl wrong ↦ absurd (let e = wrong.1 in cc)
    | inr modulus ↦ elim modulus.1 [
      | inl wrong ↦ absurd (let e = wrong.1 in cc)
      | inr names ↦ elim names.1 [
        | inl wrong ↦ absurd (let e = wrong.1 in cc)
        | inr apart ↦ λ c. apart.0.own (subst (Contains earlier) (made_name (length earlier) read.0 f apart.1) c)
      ]
    ]
  ]
]

apart_push : (names : List (List ℕ)) (name : List ℕ) → ¬ Contains names name → AllPairs (λ a b. a ≢ b) names → AllPairs (λ a b. a ≢ b) (names ++ name ∷ [])
apart_push names name none apart =
    all_pairs_push (λ a b. a ≢ b) names name apart (λ k d low e. none (subst (Contains names) e (Contains-get_or names k d low)))

-- fields that were read: as many as there are values, and no two with one name
pub record AreRead (done : List Field) (ds : List Data) (fs : List Field) : Type 0 where
  pub count : length fs ≡ length done + length ds
  pub apart : AllPairs (λ a b. a ≢ b) (field_names done) → AllPairs (λ a b. a ≢ b) (field_names fs)

pub are_read : (done : List Field) (ds : List Data) (fs : List Field) → FieldsResult done ds (Ok fs) → AreRead done ds fs
are_read done [] fs h =
    let same : fs ≡ done = cc in
    record { count = ap length same ∙ omega arith; apart = λ a. subst (λ (gs : List Field). AllPairs (λ a b. a ≢ b) (field_names gs)) (sym same) a }
are_read done (d ∷ ds) fs h = elim h [
  | inl wrong ↦ absurd (let e = wrong.2 in cc)
  | inr read ↦
      let f = read.0 in
      let rest = are_read (done ++ f ∷ []) ds fs read.2 in
      record {
        count = omega (arith, rest.count, length-append done (f ∷ []));
        apart = λ a. rest.apart (subst (AllPairs (λ a b. a ≢ b)) (sym (map_push (λ (g : Field). g.name) done f))
            (apart_push (field_names done) f.name (new_name (field_names done) d f read.1) a));
      }
]

no_pairs : AllPairs {X = List ℕ} (λ a b. a ≢ b) []
no_pairs i j d low high = absurd (omega (arith, high))

pub kept : (d : Data) (h : Head) (fs : List Field) (doc : List ℕ) → head_form d ≡ Some h → AreMembers h.members → IsName h.doc
    → FieldsResult [] h.fields (Ok fs) → All IsSoundField fs → doc ≡ h.doc → IsSchema (record { doc = doc; members = h.members; fields = fs })
kept d h fs doc reads members named k sound same =
    let r = are_read [] h.fields fs k in
    let bounds = some_fields d h reads in
    record {
      doc = subst IsName (sym same) named;
      members = members;
      some = omega (arith, r.count, bounds.0);
      most = omega (arith, r.count, bounds.1);
      each = sound;
      apart = r.apart no_pairs;
    }
