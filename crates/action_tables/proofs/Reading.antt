-- Reading the parts of a JSON value.
use Rattle.std.specs.Prelude.{◌≡◌, ℕ, zero, suc, ◌+◌, ◌<◌, ◌≤◌, List, [], ◌∷◌, ◌++◌, map, length, take, get_or, Option, Some, None, option_map, option_and_then, String, Bool, true, false, nat_le, if◌then◌else◌, ◌==◌, codes}
use Rattle.std.specs.declared.alloc.Global.{Global}
use Rattle.std.proofs.Common.{refl, ap, sym, ◌∙◌, arith}
use Rattle.std.proofs.lemmas.List.{map_push, take_more}
use Rattle.serde_json.specs.Data.{Data}
use Rattle.serde_json.specs.View.{view, items_view, members_view}
use Rattle.serde_json.specs.declared.value.Value.{Value}
use Rattle.action_tables.specs.declared.written.WrittenOp.{WrittenOp}
use Rattle.action_tables.specs.declared.written.WrittenTable.{WrittenTable}
use Rattle.serde_json.specs.Find.{as_str, get}
use Rattle.std.proofs.lemmas.Bool.Decides.{nat_tests}
use Rattle.action_tables.specs.TableText.{elements, array_elements, each_of, member_count, key_count, field_of, byte_of, texts_of, ops_of, table_from, table_at, written_of}

-- the elements of an array of values
pub elements-items_view : (vs : List Value) → elements (items_view vs) ≡ map view vs
elements-items_view [] = refl
elements-items_view (v ∷ vs) = ap (λ ds. view v ∷ ds) (elements-items_view vs)

-- an object has a key for each entry
pub count-members_view : (ms : List (String Global × Value)) → member_count (members_view ms) ≡ length ms
count-members_view [] = refl
count-members_view (m ∷ ms) = omega (arith, count-members_view ms)

-- one more value that is read, at the end
more_read : {A : Type 0} (o : Option A) (p q : Option (List A))
    → option_and_then (λ x. option_map (λ xs. x ∷ xs) (option_and_then (λ xs. option_map (λ ys. xs ++ ys) q) p)) o
    ≡ option_and_then (λ xs. option_map (λ ys. xs ++ ys) q) (option_and_then (λ x. option_map (λ xs. x ∷ xs) p) o)
more_read None p q = refl
more_read (Some x) None q = refl
more_read (Some x) (Some xs) None = refl
more_read (Some x) (Some xs) (Some ys) = refl

none_before : {A : Type 0} (q : Option (List A)) → q ≡ option_map (λ ys. [] ++ ys) q
none_before None = refl
none_before (Some ys) = refl

each_of-append : {A : Type 0} (f : Data → Option A) (xs ys : List Data)
    → each_of f (xs ++ ys) ≡ option_and_then (λ vs. option_map (λ ws. vs ++ ws) (each_of f ys)) (each_of f xs)
each_of-append f [] ys = none_before (each_of f ys)
each_of-append f (x ∷ xs) ys =
    ap (λ r. option_and_then (λ y. option_map (λ ys. y ∷ ys) r) (f x)) (each_of-append f xs ys)
    ∙ more_read (f x) (each_of f xs) (each_of f ys)

-- a value that is not read
unread_first : {A : Type 0} (o : Option A) (q : Option (List A)) → o ≡ None
    → option_and_then (λ x. option_map (λ xs. x ∷ xs) q) o ≡ None
unread_first None q h = refl
unread_first (Some x) q h = cc

unread_later : {A : Type 0} (o : Option A) (q : Option (List A)) → q ≡ None
    → option_and_then (λ x. option_map (λ xs. x ∷ xs) q) o ≡ None
unread_later None q h = refl
unread_later (Some x) None h = refl
unread_later (Some x) (Some xs) h = cc

each_unread : {A : Type 0} (f : Data → Option A) (vs : List Value) (i : ℕ) (v : Value)
    → i < length vs → f (view (get_or vs i v)) ≡ None → each_of f (map view vs) ≡ None
each_unread f [] i v low h = absurd (omega arith)
each_unread f (w ∷ vs) zero v low h = unread_first (f (view w)) (each_of f (map view vs)) h
each_unread f (w ∷ vs) (suc i) v low h =
    unread_later (f (view w)) (each_of f (map view vs)) (each_unread f vs i v (omega arith) h)

-- a loop over values that reads one more
pub read_more : {A : Type 0} (f : Data → Option A) (vs : List Value) (i : ℕ) (v : Value) (ys : List A) (y : A)
    → i < length vs → v ≡ get_or vs i v → each_of f (map view (take i vs)) ≡ Some ys → f (view v) ≡ Some y
    → each_of f (map view (take (i + 1) vs)) ≡ Some (ys ++ y ∷ [])
read_more f vs i v ys y low is before here =
    let parts : map view (take (i + 1) vs) ≡ map view (take i vs) ++ view (get_or vs i v) ∷ [] =
    ap (map view) (take_more vs i v low) ∙ map_push view (take i vs) (get_or vs i v) in
    let last : f (view (get_or vs i v)) ≡ Some y = ap (λ w. f (view w)) (sym is) ∙ here in
    ap (each_of f) parts ∙ each_of-append f (map view (take i vs)) (view (get_or vs i v) ∷ [])
    ∙ rw (before, last) refl

-- and one that finds a value which is not read
pub read_none : {A : Type 0} (f : Data → Option A) (vs : List Value) (i : ℕ) (v : Value)
    → i < length vs → v ≡ get_or vs i v → None ≡ f (view v) → None ≡ each_of f (map view vs)
read_none f vs i v low is none = sym (each_unread f vs i v low (ap (λ w. f (view w)) (sym is) ∙ sym none))

-- as many are read as there are
step_length : {A : Type 0} (o : Option A) (q : Option (List A)) (xs : List A) (n : ℕ)
    → ((ys : List A) → q ≡ Some ys → length ys ≡ n) → option_and_then (λ x. option_map (λ ys. x ∷ ys) q) o ≡ Some xs
    → length xs ≡ n + 1
step_length None q xs n h e = absurd (cc)
step_length (Some x) None xs n h e = absurd (cc)
step_length (Some x) (Some ys) xs n h e = let same : x ∷ ys ≡ xs = cc in omega (arith, ap length same, h ys refl)

pub each_length : {A : Type 0} (f : Data → Option A) (ds : List Data) (xs : List A) → each_of f ds ≡ Some xs
    → length xs ≡ length ds
each_length f [] xs e = let same : [] ≡ xs = cc in omega (arith, ap length same)
each_length f (d ∷ ds) xs e =
    omega (arith, step_length (f d) (each_of f ds) xs (length ds) (λ ys h. each_length f ds ys h) e)

-- so a short array gives no more than 255 texts
few_texts : (o : Option (List Data)) (xs : List (List ℕ))
    → option_and_then (each_of as_str) (option_and_then (λ ds. if nat_le (length ds) 255 then Some ds else None) o) ≡ Some xs
    → length xs ≤ 255
few_texts None xs e = absurd (cc)
few_texts (Some ds) xs e = few_where (nat_le (length ds) 255) refl e where
  few_where : (b : Bool) → b ≡ nat_le (length ds) 255 → option_and_then (each_of as_str) (if b then Some ds else None) ≡ Some xs
      → length xs ≤ 255
  few_where true is e = let few : length ds ≤ 255 = grind (arith, nat_tests) in omega (arith, few, each_length as_str ds xs e)
  few_where false is e = absurd (cc)

few_at : (o : Option Data) (xs : List (List ℕ)) → option_and_then texts_of o ≡ Some xs → length xs ≤ 255
few_at None xs e = absurd (cc)
few_at (Some d) xs e = few_texts (array_elements d) xs e

states_from : (o : Option (List (List ℕ))) (p : Option ℕ) (q : Option (List WrittenOp)) (w : WrittenTable)
    → table_from o p q ≡ Some w → o ≡ Some w.states
states_from None p q w e = absurd (cc)
states_from (Some states) None q w e = absurd (cc)
states_from (Some states) (Some start) None w e = absurd (cc)
states_from (Some states) (Some start) (Some ops) w e =
    let r : WrittenTable = record { states = states; start = start; ops = ops } in
    let same : r ≡ w = cc in
    ap (λ w. Some w.states) same

states_where : (b : Bool) (o : Option (List (List ℕ))) (p : Option ℕ) (q : Option (List WrittenOp)) (w : WrittenTable)
    → (if b then table_from o p q else None) ≡ Some w → o ≡ Some w.states
states_where true o p q w e = states_from o p q w e
states_where false o p q w e = absurd (cc)

-- a table of the form has no more than 255 states, and so has one that stands beside other keys
pub few_states_at : (d : Data) (w : WrittenTable) → table_at d ≡ Some w → length w.states ≤ 255
few_states_at d w e =
    few_at (get (codes "states") d) w.states
    (states_from (field_of texts_of (codes "states") d) (field_of byte_of (codes "start") d) (field_of ops_of (codes "ops") d) w e)

pub few_states : (d : Data) (w : WrittenTable) → written_of d ≡ Some w → length w.states ≤ 255
few_states d w e =
    few_at (get (codes "states") d) w.states
    (states_where (key_count d == 3) (field_of texts_of (codes "states") d) (field_of byte_of (codes "start") d)
    (field_of ops_of (codes "ops") d) w e)
