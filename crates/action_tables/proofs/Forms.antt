-- What is read of a value is what it writes down, key by key.
use Rattle.std.specs.Prelude.{◌≡◌, ℕ, ◌≤◌, ◌==◌, nat_le, if◌then◌else◌, Bool, true, false, List, [], ◌∷◌, map, length, codes, Option, Some, None, option_map, option_and_then}
use Rattle.std.specs.List.{All, AllZip, Contains}
use Rattle.std.proofs.Common.{refl, ap, ap₂, sym, ◌∙◌, subst, arith}
use Rattle.std.specs.Str.{bytes_eq}
use Rattle.std.proofs.lemmas.Bool.{both_ways, cond-true, eq-eqb, eqb-true, le-leb, leb-true}
use Rattle.std.proofs.lemmas.Slice.Eq.{bytes_eq-Decides}
use Rattle.std.proofs.lemmas.List.Elements.{All-cons, All-head, All-nil, All-tail}
use Rattle.serde_json.specs.Data.{unsigned, negative, float, Data, null, boolean, number, string, array, object, Items, no_items, item}
use Rattle.serde_json.specs.Find.{get, as_str}
use Rattle.serde_json.specs.View.{items_of}
use Rattle.action_tables.specs.declared.written.WrittenOp.{WrittenOp}
use Rattle.action_tables.specs.declared.written.WrittenTable.{WrittenTable}
use Rattle.action_tables.specs.TableForm.{HasKeys, WritesOp, WritesTable, keys_of, numbers, op_keys, strings, table_keys}
use Rattle.action_tables.specs.TableText.{array_elements, byte_of, bytes_of, each_of, elements, field_of, key_count, op_from, op_of, ops_of, short_elements, table_from, texts_of, written_of}
use Rattle.action_tables.proofs.Keys.{AreDifferent, has_keys, key_found, length-keys_of, object_where}
use Rattle.action_tables.proofs.Reading.{each_length}

-- what a value that is there was made of

pub and_then_is : {A B : Type 0} (f : A → Option B) (o : Option A) (y : B) → option_and_then f o ≡ Some y → (x : A) × (o ≡ Some x) × (f x ≡ Some y)
and_then_is f None y e = absurd (cc)
and_then_is f (Some x) y e = (x, refl, e)

pub test_is : {A : Type 0} (b : Bool) (o : Option A) (y : A) → (if b then o else None) ≡ Some y → (b ≡ true) × (o ≡ Some y)
test_is true o y e = (refl, e)
test_is false o y e = absurd (cc)

-- whole numbers

pub byte_is : (d : Data) (n : ℕ) → byte_of d ≡ Some n → (d ≡ number (unsigned n)) × (n ≤ 255)
byte_is null n e = absurd (cc)
byte_is (boolean b) n e = absurd (cc)
byte_is (number (unsigned m)) n e =
    let h = test_is (nat_le m 255) (Some m) n e in
    let same : m ≡ n = cc in
    (ap (λ k. number (unsigned k)) same, subst (λ k. k ≤ 255) same (leb-true m 255 h.0))
byte_is (number (negative z)) n e = absurd (cc)
byte_is (number (float x)) n e = absurd (cc)
byte_is (string s) n e = absurd (cc)
byte_is (array ds) n e = absurd (cc)
byte_is (object ms) n e = absurd (cc)

pub byte_from : (n : ℕ) → n ≤ 255 → byte_of (number (unsigned n)) ≡ Some n
byte_from n h = cond-true (nat_le n 255) (Some n) None (le-leb n 255 h)

pub str_is : (d : Data) (s : List ℕ) → as_str d ≡ Some s → d ≡ string s
str_is null s e = absurd (cc)
str_is (boolean b) s e = absurd (cc)
str_is (number n) s e = absurd (cc)
str_is (string t) s e = let same : t ≡ s = cc in ap string same
str_is (array ds) s e = absurd (cc)
str_is (object ms) s e = absurd (cc)

-- arrays

items-elements : (ds : Items) → items_of (elements ds) ≡ ds
items-elements no_items = refl
items-elements (item d ds) = ap (item d) (items-elements ds)

elements-items : (ds : List Data) → elements (items_of ds) ≡ ds
elements-items [] = refl
elements-items (d ∷ ds) = ap (λ z. d ∷ z) (elements-items ds)

pub array_is : (d : Data) (ds : List Data) → array_elements d ≡ Some ds → d ≡ array (items_of ds)
array_is null ds e = absurd (cc)
array_is (boolean b) ds e = absurd (cc)
array_is (number n) ds e = absurd (cc)
array_is (string s) ds e = absurd (cc)
array_is (array is) ds e = let same : elements is ≡ ds = cc in ap array (sym (items-elements is) ∙ ap items_of same)
array_is (object ms) ds e = absurd (cc)

pub array_from : (ds : List Data) → array_elements (array (items_of ds)) ≡ Some ds
array_from ds = ap Some (elements-items ds)

pub short_is : (d : Data) (ds : List Data) → short_elements d ≡ Some ds → (d ≡ array (items_of ds)) × (length ds ≤ 255)
short_is d ds e =
    let a = and_then_is (λ es. if nat_le (length es) 255 then Some es else None) (array_elements d) ds e in
    let h = test_is (nat_le (length a.0) 255) (Some a.0) ds a.2 in
    let same : a.0 ≡ ds = cc in
    (array_is d a.0 a.1 ∙ ap (λ es. array (items_of es)) same, subst (λ es. length es ≤ 255) same (leb-true (length a.0) 255 h.0))

pub short_from : (ds : List Data) → length ds ≤ 255 → short_elements (array (items_of ds)) ≡ Some ds
short_from ds h =
    ap (option_and_then (λ es. if nat_le (length es) 255 then Some es else None)) (array_from ds)
    ∙ cond-true (nat_le (length ds) 255) (Some ds) None (le-leb (length ds) 255 h)

-- each of the values

module _ {A : Type 0} (f : Data → Option A) (R : Data → A → Type 0) where
  each_is : ((d : Data) (x : A) → f d ≡ Some x → R d x) → (ds : List Data) (xs : List A) → each_of f ds ≡ Some xs → AllZip R ds xs
  each_is g [] xs e = let same : [] ≡ xs = cc in subst (AllZip R []) same tt
  each_is g (d ∷ ds) xs e =
      let a = and_then_is (λ x. option_map (λ ys. x ∷ ys) (each_of f ds)) (f d) xs e in
      let b = map_is (each_of f ds) a.0 xs a.2 in
      subst (AllZip R (d ∷ ds)) b.2 (g d a.0 a.1, each_is g ds b.0 b.1)
    where
      map_is : (o : Option (List A)) (x : A) (zs : List A) → option_map (λ ys. x ∷ ys) o ≡ Some zs → (ys : List A) × (o ≡ Some ys) × (x ∷ ys ≡ zs)
      map_is None x zs h = absurd (cc)
      map_is (Some ys) x zs h = (ys, refl, (let same : x ∷ ys ≡ zs = cc in same))

  pub each_from : ((d : Data) (x : A) → R d x → f d ≡ Some x) → (ds : List Data) (xs : List A) → AllZip R ds xs → each_of f ds ≡ Some xs
  each_from g [] [] h = refl
  each_from g [] (x ∷ xs) h = absurd h
  each_from g (d ∷ ds) [] h = absurd h
  each_from g (d ∷ ds) (x ∷ xs) h =
      ap (option_and_then (λ y. option_map (λ ys. y ∷ ys) (each_of f ds))) (g d x h.0) ∙ ap (option_map (λ ys. x ∷ ys)) (each_from g ds xs h.1)

abbrev IsString : Data → List ℕ → Type 0
IsString d s = d ≡ string s

strings_are : (ds : List Data) (ss : List (List ℕ)) → AllZip IsString ds ss → ds ≡ map string ss
strings_are [] [] h = refl
strings_are [] (s ∷ ss) h = absurd h
strings_are (d ∷ ds) [] h = absurd h
strings_are (d ∷ ds) (s ∷ ss) h = ap₂ (λ (e : Data) es. e ∷ es) h.0 (strings_are ds ss h.1)

are_strings : (ss : List (List ℕ)) → AllZip IsString (map string ss) ss
are_strings [] = tt
are_strings (s ∷ ss) = (refl, are_strings ss)

abbrev IsByte : Data → ℕ → Type 0
IsByte d n = (d ≡ number (unsigned n)) × (n ≤ 255)

bytes_are : (ds : List Data) (ns : List ℕ) → AllZip IsByte ds ns → (ds ≡ map (λ n. number (unsigned n)) ns) × All (λ n. n ≤ 255) ns
bytes_are [] [] h = (refl, All-nil (λ n. n ≤ 255))
bytes_are [] (n ∷ ns) h = absurd h
bytes_are (d ∷ ds) [] h = absurd h
bytes_are (d ∷ ds) (n ∷ ns) h =
    let rest = bytes_are ds ns h.1 in
    (ap₂ (λ (e : Data) es. e ∷ es) h.0.0 rest.0, All-cons (λ n. n ≤ 255) n ns h.0.1 rest.1)

are_bytes : (ns : List ℕ) → All (λ n. n ≤ 255) ns → AllZip IsByte (map (λ n. number (unsigned n)) ns) ns
are_bytes [] h = tt
are_bytes (n ∷ ns) h = ((refl, All-head (λ n. n ≤ 255) n ns h), are_bytes ns (All-tail (λ n. n ≤ 255) n ns h))

pub bytes_is : (d : Data) (ns : List ℕ) → bytes_of d ≡ Some ns → (d ≡ numbers ns) × All (λ n. n ≤ 255) ns
bytes_is d ns e =
    let a = and_then_is (each_of byte_of) (array_elements d) ns e in
    let b = bytes_are a.0 ns (each_is byte_of IsByte byte_is a.0 ns a.2) in
    (array_is d a.0 a.1 ∙ ap (λ ds. array (items_of ds)) b.0, b.1)

pub bytes_from : (ns : List ℕ) → All (λ n. n ≤ 255) ns → bytes_of (numbers ns) ≡ Some ns
bytes_from ns h =
    ap (option_and_then (each_of byte_of)) (array_from (map (λ n. number (unsigned n)) ns))
    ∙ each_from byte_of IsByte (λ d n k. ap byte_of k.0 ∙ byte_from n k.1) (map (λ n. number (unsigned n)) ns) ns (are_bytes ns h)

pub texts_is : (d : Data) (ss : List (List ℕ)) → texts_of d ≡ Some ss → (d ≡ strings ss) × (length ss ≤ 255)
texts_is d ss e =
    let a = and_then_is (each_of as_str) (short_elements d) ss e in
    let b = short_is d a.0 a.1 in
    let same = strings_are a.0 ss (each_is as_str IsString str_is a.0 ss a.2) in
    (b.0 ∙ ap (λ ds. array (items_of ds)) same, omega (arith, each_length as_str a.0 ss a.2, b.1))

length-strings : (ss : List (List ℕ)) → length (map string ss) ≡ length ss
length-strings [] = refl
length-strings (s ∷ ss) = omega (arith, length-strings ss)

pub texts_from : (ss : List (List ℕ)) → length ss ≤ 255 → texts_of (strings ss) ≡ Some ss
texts_from ss h =
    ap (option_and_then (each_of as_str)) (short_from (map string ss) (omega (arith, length-strings ss)))
    ∙ each_from as_str IsString (λ d s k. ap as_str k) (map string ss) ss (are_strings ss)

-- a field

pub field_is : {A : Type 0} (f : Data → Option A) (k : List ℕ) (d : Data) (x : A) → field_of f k d ≡ Some x → (v : Data) × (get k d ≡ Some v) × (f v ≡ Some x)
field_is f k d x e = and_then_is f (get k d) x e

pub field_from : {A : Type 0} (f : Data → Option A) (k : List ℕ) (d v : Data) (x : A) → get k d ≡ Some v → f v ≡ Some x → field_of f k d ≡ Some x
field_from f k d v x e h = ap (option_and_then f) e ∙ h

pub count_keys : (keys : List (List ℕ)) (d : Data) → HasKeys keys d → key_count d ≡ length keys
count_keys keys d h = ap key_count h.is ∙ sym (length-keys_of h.members) ∙ h.once

-- two texts of which a test says that they are not the same
pub differ : (xs ys : List ℕ) → bytes_eq xs ys ≡ false → xs ≡ ys → ⊥
differ xs ys f e = both_ways (bytes_eq xs ys) f ((bytes_eq-Decides xs ys).1 e)

-- operations

op_parts : (n : Option (List ℕ)) (l : Option ℕ) (s a : Option (List ℕ)) (o : WrittenOp) → op_from n l s a ≡ Some o
    → (n ≡ Some o.name) × (l ≡ Some o.level) × (s ≡ Some o.next) × (a ≡ Some o.act)
op_parts None l s a o e = absurd (cc)
op_parts (Some n) None s a o e = absurd (cc)
op_parts (Some n) (Some l) None a o e = absurd (cc)
op_parts (Some n) (Some l) (Some s) None o e = absurd (cc)
op_parts (Some n) (Some l) (Some s) (Some a) o e =
    let r : WrittenOp = record { name = n; level = l; next = s; act = a } in
    let same : r ≡ o = cc in
    (ap (λ z. Some z.name) same, ap (λ z. Some z.level) same, ap (λ z. Some z.next) same, ap (λ z. Some z.act) same)

op_keys_different : AreDifferent op_keys
op_keys_different = (
  (λ e. differ (codes "act") (codes "level") refl e, (λ e. differ (codes "act") (codes "name") refl e, (λ e. differ (codes "act") (codes "next") refl e, tt))),
  (
    (λ e. differ (codes "level") (codes "name") refl e, (λ e. differ (codes "level") (codes "next") refl e, tt)),
    ((λ e. differ (codes "name") (codes "next") refl e, tt), (tt, tt)),
  ),
)

pub op_writes : (d : Data) (o : WrittenOp) → op_of d ≡ Some o → WritesOp d o
op_writes d o e =
    let t = test_is (key_count d == 4) (op_from (field_of as_str (codes "name") d) (field_of byte_of (codes "level") d) (field_of bytes_of (codes "next") d) (field_of bytes_of (codes "act") d)) o e in
    let p = op_parts (field_of as_str (codes "name") d) (field_of byte_of (codes "level") d) (field_of bytes_of (codes "next") d) (field_of bytes_of (codes "act") d) o t.1 in
    let name = field_is as_str (codes "name") d o.name p.0 in
    let level = field_is byte_of (codes "level") d o.level p.1 in
    let next = field_is bytes_of (codes "next") d o.next p.2 in
    let act = field_is bytes_of (codes "act") d o.act p.3 in
    let found = object_where (codes "name") d name.0 name.1 in
    let here : (k : List ℕ) (v : Data) → get k d ≡ Some v → Contains (keys_of found.0) k = λ k v h. key_found k found.0 v (subst (λ z. get k z ≡ Some v) found.1 h) in
    let keys : HasKeys op_keys (object found.0) =
    has_keys op_keys found.0 op_keys_different
    (here (codes "act") act.0 act.1, (here (codes "level") level.0 level.1, (here (codes "name") name.0 name.1, (here (codes "next") next.0 next.1, tt))))
    (sym (ap key_count found.1) ∙ eqb-true (key_count d) 4 t.0) in
    record {
      keys = subst (HasKeys op_keys) (sym found.1) keys;
      name = name.1 ∙ ap Some (str_is name.0 o.name name.2);
      level = level.1 ∙ ap Some (byte_is level.0 o.level level.2).0;
      next = next.1 ∙ ap Some (bytes_is next.0 o.next next.2).0;
      act = act.1 ∙ ap Some (bytes_is act.0 o.act act.2).0;
      most_level = (byte_is level.0 o.level level.2).1;
      most_next = (bytes_is next.0 o.next next.2).1;
      most_act = (bytes_is act.0 o.act act.2).1;
    }

pub op_reads : (d : Data) (o : WrittenOp) → WritesOp d o → op_of d ≡ Some o
op_reads d o h =
    let name = field_from as_str (codes "name") d (string o.name) o.name h.name refl in
    let level = field_from byte_of (codes "level") d (number (unsigned o.level)) o.level h.level (byte_from o.level h.most_level) in
    let next = field_from bytes_of (codes "next") d (numbers o.next) o.next h.next (bytes_from o.next h.most_next) in
    let act = field_from bytes_of (codes "act") d (numbers o.act) o.act h.act (bytes_from o.act h.most_act) in
    cond-true (key_count d == 4) (op_from (field_of as_str (codes "name") d) (field_of byte_of (codes "level") d) (field_of bytes_of (codes "next") d) (field_of bytes_of (codes "act") d)) None (eq-eqb (key_count d) 4 (count_keys op_keys d h.keys))
    ∙ whole (field_of as_str (codes "name") d) (field_of byte_of (codes "level") d) (field_of bytes_of (codes "next") d) (field_of bytes_of (codes "act") d) name level next act
  where
    whole : (n : Option (List ℕ)) (l : Option ℕ) (s a : Option (List ℕ)) → n ≡ Some o.name → l ≡ Some o.level → s ≡ Some o.next → a ≡ Some o.act → op_from n l s a ≡ Some o
    whole n l s a i j k m = rw (i, j, k, m) refl

-- tables

pub table_parts : (s : Option (List (List ℕ))) (f : Option ℕ) (o : Option (List WrittenOp)) (w : WrittenTable) → table_from s f o ≡ Some w
    → (s ≡ Some w.states) × (f ≡ Some w.start) × (o ≡ Some w.ops)
table_parts None f o w e = absurd (cc)
table_parts (Some s) None o w e = absurd (cc)
table_parts (Some s) (Some f) None w e = absurd (cc)
table_parts (Some s) (Some f) (Some o) w e =
    let r : WrittenTable = record { states = s; start = f; ops = o } in
    let same : r ≡ w = cc in
    (ap (λ z. Some z.states) same, ap (λ z. Some z.start) same, ap (λ z. Some z.ops) same)

table_keys_different : AreDifferent table_keys
table_keys_different = (
  (λ e. differ (codes "ops") (codes "start") refl e, (λ e. differ (codes "ops") (codes "states") refl e, tt)),
  ((λ e. differ (codes "start") (codes "states") refl e, tt), (tt, tt)),
)

pub table_writes : (d : Data) (w : WrittenTable) → written_of d ≡ Some w → WritesTable d w
table_writes d w e =
    let t = test_is (key_count d == 3) (table_from (field_of texts_of (codes "states") d) (field_of byte_of (codes "start") d) (field_of ops_of (codes "ops") d)) w e in
    let p = table_parts (field_of texts_of (codes "states") d) (field_of byte_of (codes "start") d) (field_of ops_of (codes "ops") d) w t.1 in
    let states = field_is texts_of (codes "states") d w.states p.0 in
    let start = field_is byte_of (codes "start") d w.start p.1 in
    let ops = field_is ops_of (codes "ops") d w.ops p.2 in
    let found = object_where (codes "states") d states.0 states.1 in
    let here : (k : List ℕ) (v : Data) → get k d ≡ Some v → Contains (keys_of found.0) k = λ k v h. key_found k found.0 v (subst (λ z. get k z ≡ Some v) found.1 h) in
    let keys : HasKeys table_keys (object found.0) =
    has_keys table_keys found.0 table_keys_different
    (here (codes "ops") ops.0 ops.1, (here (codes "start") start.0 start.1, (here (codes "states") states.0 states.1, tt)))
    (sym (ap key_count found.1) ∙ eqb-true (key_count d) 3 t.0) in
    let values = and_then_is (each_of op_of) (short_elements ops.0) w.ops ops.2 in
    let short = short_is ops.0 values.0 values.1 in
    record {
      keys = subst (HasKeys table_keys) (sym found.1) keys;
      states = states.1 ∙ ap Some (texts_is states.0 w.states states.2).0;
      start = start.1 ∙ ap Some (byte_is start.0 w.start start.2).0;
      values = values.0;
      ops = ops.1 ∙ ap Some short.0;
      each = each_is op_of WritesOp op_writes values.0 w.ops values.2;
      most_states = (texts_is states.0 w.states states.2).1;
      most_start = (byte_is start.0 w.start start.2).1;
      most_ops = omega (arith, each_length op_of values.0 w.ops values.2, short.1);
    }

length_zip : (ds : List Data) (os : List WrittenOp) → AllZip WritesOp ds os → length ds ≡ length os
length_zip [] [] h = refl
length_zip [] (o ∷ os) h = absurd h
length_zip (d ∷ ds) [] h = absurd h
length_zip (d ∷ ds) (o ∷ os) h = omega (arith, length_zip ds os h.1)

pub table_reads : (d : Data) (w : WrittenTable) → WritesTable d w → written_of d ≡ Some w
table_reads d w h =
    let states = field_from texts_of (codes "states") d (strings w.states) w.states h.states (texts_from w.states h.most_states) in
    let start = field_from byte_of (codes "start") d (number (unsigned w.start)) w.start h.start (byte_from w.start h.most_start) in
    let read : ops_of (array (items_of h.values)) ≡ Some w.ops =
    ap (option_and_then (each_of op_of)) (short_from h.values (omega (arith, length_zip h.values w.ops h.each, h.most_ops)))
    ∙ each_from op_of WritesOp op_reads h.values w.ops h.each in
    let ops = field_from ops_of (codes "ops") d (array (items_of h.values)) w.ops h.ops read in
    cond-true (key_count d == 3) (table_from (field_of texts_of (codes "states") d) (field_of byte_of (codes "start") d) (field_of ops_of (codes "ops") d)) None (eq-eqb (key_count d) 3 (count_keys table_keys d h.keys))
    ∙ whole (field_of texts_of (codes "states") d) (field_of byte_of (codes "start") d) (field_of ops_of (codes "ops") d) states start ops
  where
    whole : (s : Option (List (List ℕ))) (f : Option ℕ) (o : Option (List WrittenOp)) → s ≡ Some w.states → f ≡ Some w.start → o ≡ Some w.ops → table_from s f o ≡ Some w
    whole s f o i j k = rw (i, j, k) refl
