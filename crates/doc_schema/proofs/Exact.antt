-- What has the form of a schema or of a field has its keys and no other.
use Rattle.std.specs.Prelude.{◌≡◌, ◌≢◌, ℕ, ◌+◌, ◌==◌, ◌&&◌, Bool, true, false, not, List, [], ◌∷◌, ◌++◌, length, Option, Some, None, option_and_then, codes}
use Rattle.std.specs.List.{AllByRecursion, Contains}
use Rattle.std.specs.Str.{bytes_eq}
use Rattle.std.proofs.Common.{refl, ap, sym, ◌∙◌, subst}
use Rattle.std.proofs.lemmas.Bool.{and_parts, both_ways, eqb-true}
use Rattle.std.proofs.lemmas.Slice.Eq.{bytes_eq-Decides}
use Rattle.serde_json.specs.Data.{Data, Members, object}
use Rattle.serde_json.specs.Find.{as_str, get}
use Rattle.action_tables.specs.TableForm.{HasKeys, keys_of}
use Rattle.action_tables.specs.TableText.{byte_of, field_of, key_count, ops_of, table_at, texts_of}
use Rattle.action_tables.specs.declared.written.WrittenTable.{WrittenTable}
use Rattle.action_tables.proofs.Forms.{and_then_is, field_is, table_parts, test_is}
use Rattle.action_tables.proofs.Keys.{AreDifferent, has_keys, key_found, object_where}
use Rattle.doc_schema.specs.Form.{Head, field_form, fields_of, head_form, head_from, if_there, if_within, kind_keys, kind_of, reset_keys, reset_of, whole_of}
use Rattle.doc_schema.specs.Keys.{keys_of_field, keys_of_kind, modulus_key, reset_key, schema_keys}
use Rattle.doc_schema.specs.Kinds.{kind_named}
use Rattle.doc_schema.specs.declared.kind.KindName.{KindName}
use Rattle.doc_schema.specs.declared.kind.KindName.TheVariants.{Number, OnFlag, OffFlag, Choice, Table, Latest, Several, Text, Tally, Entries, Rich}
use Rattle.doc_schema.specs.declared.kind.Reset.{Reset}
use Rattle.doc_schema.specs.declared.kind.Reset.TheVariants.{Never, Winning, Observed}
use Rattle.doc_schema.specs.declared.written.WrittenField.{WrittenField}
use Rattle.doc_schema.specs.declared.written.WrittenKind.{WrittenKind}
use Rattle.doc_schema.specs.declared.written.WrittenKind.TheVariants as written
use Rattle.doc_schema.proofs.Kept.{head_parts}
use Rattle.doc_schema.proofs.Making.{field_parts, form_is, map_is}

-- ---- keys of which a test says that they are different

abbrev is_new : List ℕ → List (List ℕ) → Bool
is_new k [] = true
is_new k (l ∷ ls) = not (bytes_eq k l) && is_new k ls

abbrev are_different : List (List ℕ) → Bool
are_different [] = true
are_different (k ∷ ks) = is_new k ks && are_different ks

not_same : (b : Bool) → not b ≡ true → b ≡ false
not_same true e = absurd (cc)
not_same false e = refl

others : (k : List ℕ) (ls : List (List ℕ)) → is_new k ls ≡ true → AllByRecursion (λ l. k ≢ l) ls
others k [] e = tt
others k (l ∷ ls) e =
    let p = and_parts (not (bytes_eq k l)) (is_new k ls) e in
    ((λ same. both_ways (bytes_eq k l) (not_same (bytes_eq k l) p.0) ((bytes_eq-Decides k l).1 same)), others k ls p.1)

different : (ks : List (List ℕ)) → are_different ks ≡ true → AreDifferent ks
different [] e = tt
different (k ∷ ks) e = let p = and_parts (is_new k ks) (are_different ks) e in (others k ks p.0, different ks p.1)

-- ---- an object with as many keys as were found

-- there is a value at the key
abbrev IsThere : Data → List ℕ → Type 0
IsThere d k = (v : Data) × (get k d ≡ Some v)

append_there : (d : Data) (ks ls : List (List ℕ)) → AllByRecursion (IsThere d) ks → AllByRecursion (IsThere d) ls → AllByRecursion (IsThere d) (ks ++ ls)
append_there d [] ls h j = j
append_there d (k ∷ ks) ls h j = (h.0, append_there d ks ls h.1 j)

exact : (d : Data) (k : List ℕ) (ks : List (List ℕ)) → are_different (k ∷ ks) ≡ true → AllByRecursion (IsThere d) (k ∷ ks)
    → key_count d ≡ length (k ∷ ks) → HasKeys (k ∷ ks) d
exact d k ks e there count =
    let found = object_where k d there.0.0 there.0.1 in
    subst (HasKeys (k ∷ ks)) (sym found.1)
    (has_keys (k ∷ ks) found.0 (different (k ∷ ks) e) (all found.0 found.1 (k ∷ ks) there) (sym (ap key_count found.1) ∙ count))
  where
    all : (ms : Members) → d ≡ object ms → (ls : List (List ℕ)) → AllByRecursion (IsThere d) ls → AllByRecursion (Contains (keys_of ms)) ls
    all ms is [] h = tt
    all ms is (l ∷ ls) h = (key_found l ms h.0.0 (subst (λ z. get l z ≡ Some h.0.0) is h.0.1), all ms is ls h.1)

there_at : {A : Type 0} (f : Data → Option A) (k : List ℕ) (d : Data) (x : A) → field_of f k d ≡ Some x → IsThere d k
there_at f k d x e = let r = field_is f k d x e in (r.0, r.1)

-- ---- a schema

pub schema_exact : (d : Data) (h : Head) → head_form d ≡ Some h → HasKeys schema_keys d
schema_exact d h e =
    let doc = field_of as_str (codes "doc") d in
    let members = field_of whole_of (codes "members") d in
    let fields = field_of fields_of (codes "fields") d in
    let t = test_is (key_count d == 3) (head_from doc members fields) h e in
    let p = head_parts doc members fields h t.1 in
    exact d (codes "doc") (codes "fields" ∷ codes "members" ∷ []) refl
    (there_at as_str (codes "doc") d h.doc p.0, (there_at fields_of (codes "fields") d h.fields p.2, (there_at whole_of (codes "members") d h.members p.1, tt)))
    (eqb-true (key_count d) 3 t.0)

-- ---- a field

reset_there : (d : Data) (r : Reset) → reset_of (get (codes "reset") d) ≡ Some r → AllByRecursion (IsThere d) (reset_key r)
reset_there d r e = by (get (codes "reset") d) refl r e
  where
    by : (o : Option Data) → get (codes "reset") d ≡ o → (r : Reset) → reset_of o ≡ Some r → AllByRecursion (IsThere d) (reset_key r)
    by None is Never e = tt
    by None is Winning e = absurd (cc)
    by None is Observed e = absurd (cc)
    by (Some v) is Never e = tt
    by (Some v) is Winning e = ((v, is), tt)
    by (Some v) is Observed e = ((v, is), tt)

modulus_there : (d : Data) (m : Option ℕ) → if_there whole_of (get (codes "modulus") d) ≡ Some m → AllByRecursion (IsThere d) (modulus_key m)
modulus_there d m e = by (get (codes "modulus") d) refl m e
  where
    by : (o : Option Data) → get (codes "modulus") d ≡ o → (m : Option ℕ) → if_there whole_of o ≡ Some m → AllByRecursion (IsThere d) (modulus_key m)
    by None is None e = tt
    by None is (Some m) e = absurd (cc)
    by (Some v) is None e = tt
    by (Some v) is (Some m) e = ((v, is), tt)

names_there : (d : Data) (low high : ℕ) (k : List ℕ) (names : List (List ℕ)) → option_and_then (if_within low high) (field_of texts_of k d) ≡ Some names
    → AllByRecursion (IsThere d) (k ∷ [])
names_there d low high k names e =
    let a = and_then_is (if_within low high) (field_of texts_of k d) names e in (there_at texts_of k d a.0 a.1, tt)

kind_there : (k : KindName) (d : Data) (w : WrittenKind) → kind_of k d ≡ Some w → AllByRecursion (IsThere d) (keys_of_kind w)
kind_there Number d w e =
    let m = map_is written.Number (if_there whole_of (get (codes "modulus") d)) w e in
    subst (λ v. AllByRecursion (IsThere d) (keys_of_kind v)) m.2 (modulus_there d m.0 m.1)
kind_there OnFlag d w e = let same : written.OnFlag ≡ w = cc in subst (λ v. AllByRecursion (IsThere d) (keys_of_kind v)) same tt
kind_there OffFlag d w e = let same : written.OffFlag ≡ w = cc in subst (λ v. AllByRecursion (IsThere d) (keys_of_kind v)) same tt
kind_there Choice d w e =
    let m = map_is written.Choice (option_and_then (if_within 2 8) (field_of texts_of (codes "values") d)) w e in
    subst (λ v. AllByRecursion (IsThere d) (keys_of_kind v)) m.2 (names_there d 2 8 (codes "values") m.0 m.1)
kind_there Table d w e =
    let m = map_is written.Table (table_at d) w e in
    let p = table_parts (field_of texts_of (codes "states") d) (field_of byte_of (codes "start") d) (field_of ops_of (codes "ops") d) m.0 m.1 in
    subst (λ v. AllByRecursion (IsThere d) (keys_of_kind v)) m.2
    (there_at ops_of (codes "ops") d m.0.ops p.2, (there_at byte_of (codes "start") d m.0.start p.1, (there_at texts_of (codes "states") d m.0.states p.0, tt)))
kind_there Latest d w e = let same : written.Latest ≡ w = cc in subst (λ v. AllByRecursion (IsThere d) (keys_of_kind v)) same tt
kind_there Several d w e = let same : written.Several ≡ w = cc in subst (λ v. AllByRecursion (IsThere d) (keys_of_kind v)) same tt
kind_there Text d w e = let same : written.Text ≡ w = cc in subst (λ v. AllByRecursion (IsThere d) (keys_of_kind v)) same tt
kind_there Tally d w e =
    let m = map_is written.Tally (if_there whole_of (get (codes "modulus") d)) w e in
    subst (λ v. AllByRecursion (IsThere d) (keys_of_kind v)) m.2 (modulus_there d m.0 m.1)
kind_there Entries d w e = let same : written.Entries ≡ w = cc in subst (λ v. AllByRecursion (IsThere d) (keys_of_kind v)) same tt
kind_there Rich d w e =
    let m = map_is written.Rich (option_and_then (if_within 1 8) (field_of texts_of (codes "marks") d)) w e in
    subst (λ v. AllByRecursion (IsThere d) (keys_of_kind v)) m.2 (names_there d 1 8 (codes "marks") m.0 m.1)

-- the keys of every field are different, and as many as are counted
abbrev AreCounted : Reset → WrittenKind → Type 0
AreCounted r w =
    (are_different (codes "kind" ∷ codes "name" ∷ (reset_key r ++ keys_of_kind w)) ≡ true)
    × (2 + reset_keys r + kind_keys w ≡ length (codes "kind" ∷ codes "name" ∷ (reset_key r ++ keys_of_kind w)))

modulus_counted : (r : Reset) (m : Option ℕ) → AreCounted r (written.Number m)
modulus_counted Never None = (refl, refl)
modulus_counted Never (Some m) = (refl, refl)
modulus_counted Winning None = (refl, refl)
modulus_counted Winning (Some m) = (refl, refl)
modulus_counted Observed None = (refl, refl)
modulus_counted Observed (Some m) = (refl, refl)

bare_counted : (r : Reset) → AreCounted r written.OnFlag
bare_counted Never = (refl, refl)
bare_counted Winning = (refl, refl)
bare_counted Observed = (refl, refl)

one_counted : (r : Reset) (names : List (List ℕ)) → AreCounted r (written.Choice names) × AreCounted r (written.Rich names)
one_counted Never names = ((refl, refl), (refl, refl))
one_counted Winning names = ((refl, refl), (refl, refl))
one_counted Observed names = ((refl, refl), (refl, refl))

table_counted : (r : Reset) (t : WrittenTable) → AreCounted r (written.Table t)
table_counted Never t = (refl, refl)
table_counted Winning t = (refl, refl)
table_counted Observed t = (refl, refl)

counted : (r : Reset) (w : WrittenKind) → AreCounted r w
counted r (written.Number m) = modulus_counted r m
counted r written.OnFlag = bare_counted r
counted r written.OffFlag = bare_counted r
counted r (written.Choice values) = (one_counted r values).0
counted r (written.Table t) = table_counted r t
counted r written.Latest = bare_counted r
counted r written.Several = bare_counted r
counted r written.Text = bare_counted r
counted r (written.Tally m) = modulus_counted r m
counted r written.Entries = bare_counted r
counted r (written.Rich marks) = (one_counted r marks).1

pub field_exact : (d : Data) (w : WrittenField) → field_form d ≡ Some w → HasKeys (keys_of_field w) d
field_exact d w e =
    let f = form_is d w e in
    let name = field_of as_str (codes "name") d in
    let kind_text = field_of as_str (codes "kind") d in
    let kind_name = option_and_then kind_named kind_text in
    let p = field_parts name (reset_of (get (codes "reset") d)) (option_and_then (λ k. kind_of k d) kind_name) w f.0 in
    let k = and_then_is (λ k. kind_of k d) kind_name w.kind p.2 in
    let n = and_then_is kind_named kind_text k.0 k.1 in
    let c = counted w.reset w.kind in
    exact d (codes "kind") (codes "name" ∷ (reset_key w.reset ++ keys_of_kind w.kind)) c.0 (
      there_at as_str (codes "kind") d n.0 n.1,
      (
        there_at as_str (codes "name") d w.name p.0,
        append_there d (reset_key w.reset) (keys_of_kind w.kind) (reset_there d w.reset p.1) (kind_there k.0 d w.kind k.2),
      ),
    )
    (f.1 ∙ c.1)
