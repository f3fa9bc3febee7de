-- A table that is written down row by row is read again.
use Rattle.std.specs.Prelude.{◌≡◌, ℕ, suc, ◌+◌, ◌*◌, ◌<◌, ◌≤◌, List, [], ◌∷◌, ◌++◌, map, length, take, drop, Option, Some, option_map, option_and_then}
use Rattle.std.specs.List.{All, flat_map}
use Rattle.std.proofs.Common.{refl, ap, ap₂, sym, ◌∙◌, subst, arith, add-one, drop-cons}
use Rattle.std.proofs.Math.Nat.{suc-mul}
use Rattle.std.proofs.Math.Seq.{take-add}
use Rattle.std.proofs.lemmas.List.{drop-drop, length-drop, length-take-le, take_all}
use Rattle.std.proofs.lemmas.List.Elements.{All-cons, All-drop, All-from_get_or, All-nil, All-take}
use Rattle.serde_json.specs.Data.{array, number, unsigned}
use Rattle.serde_json.specs.View.{items_of}
use Rattle.action_tables.specs.Table.{ActionTable, EachBelow, IsTable, level_of, op_count, table_of}
use Rattle.action_tables.specs.TableForm.{numbers, strings}
use Rattle.action_tables.specs.TableText.{HasRows, byte_of, bytes_of, each_of, op_from, op_names, op_of, ops_of, parts_of, table_from, texts_of}
use Rattle.action_tables.specs.declared.written.WrittenOp.{WrittenOp}
use Rattle.action_tables.specs.declared.written.WrittenTable.{WrittenTable}
use Rattle.action_tables.proofs.Forms.{byte_from, bytes_from, short_from, texts_from}
use Rattle.doc_schema.specs.Canonical.{op_data, ops_from, row}

-- ---- rows that stand one after another

next_place : (op w : ℕ) → (op + 1) * w ≡ op * w + w
next_place op w = ap (λ n. n * w) (add-one op) ∙ suc-mul op w

-- a row, and those after it
row_and_more : (w : ℕ) (xs : List ℕ) (n op : ℕ) → row w xs op ++ take (n * w) (drop ((op + 1) * w) xs) ≡ take (suc n * w) (drop (op * w) xs)
row_and_more w xs n op =
    let ys = drop (op * w) xs in
    let later : drop ((op + 1) * w) xs ≡ drop w ys = ap (λ k. drop k xs) (next_place op w) ∙ sym (drop-drop w (op * w) xs) in
    let count : w + n * w ≡ suc n * w = omega (arith, suc-mul n w) in
    ap (λ zs. take w ys ++ take (n * w) zs) later ∙ sym (take-add w (n * w) ys) ∙ ap (λ k. take k ys) count

no_rows : (w : ℕ) (ys : List ℕ) → [] ≡ take (0 * w) ys
no_rows w ys = let none : 0 ≡ 0 * w = omega arith in ap (λ n. take n ys) none

from_first : (w : ℕ) (xs : List ℕ) → drop (0 * w) xs ≡ xs
from_first w xs = let none : 0 * w ≡ 0 = omega arith in ap (λ n. drop n xs) none

row_length : (w : ℕ) (xs : List ℕ) (n op : ℕ) → op * w + suc n * w ≤ length xs → length (row w xs op) ≡ w
row_length w xs n op low =
    length-take-le w (drop (op * w) xs) (omega (arith, length-drop (op * w) xs, suc-mul n w, low))

later_low : (w : ℕ) (xs : List ℕ) (n op : ℕ) → op * w + suc n * w ≤ length xs → (op + 1) * w + n * w ≤ length xs
later_low w xs n op low = omega (arith, next_place op w, suc-mul n w, low)

byte_row : (xs : List ℕ) (most width at : ℕ) → EachBelow xs most → most ≤ 32 → All (λ m. m ≤ 255) (row width xs at)
byte_row xs most width at each low =
    All-take (λ m. m ≤ 255) width (drop (at * width) xs) (All-drop (λ m. m ≤ 255) (at * width) xs
    (All-from_get_or (λ m. m ≤ 255) xs 0 (λ i l. omega (arith, each i l, low))))

-- ---- the operations

module _ (t : ActionTable) where
  abbrev pub written_op : List ℕ → ℕ → WrittenOp
  written_op name op =
      record { name = name; level = level_of t op; next = row t.states t.next op; act = row (op_count t) t.act op }

  abbrev pub written_ops : List (List ℕ) → ℕ → List WrittenOp
  written_ops [] op = []
  written_ops (name ∷ names) op = written_op name op ∷ written_ops names (op + 1)

  abbrev pub written_table : List (List ℕ) → List (List ℕ) → WrittenTable
  written_table states ops = record { states = states; start = t.start; ops = written_ops ops 0 }

  pub names_back : (names : List (List ℕ)) (op : ℕ) → op_names (written_ops names op) ≡ names
  names_back [] op = refl
  names_back (name ∷ names) op = ap (λ ns. name ∷ ns) (names_back names (op + 1))

  ops_count : (names : List (List ℕ)) (op : ℕ) → length (written_ops names op) ≡ length names
  ops_count [] op = refl
  ops_count (name ∷ names) op = ap suc (ops_count names (op + 1))

  data_count : (names : List (List ℕ)) (op : ℕ) → length (ops_from t names op) ≡ length names
  data_count [] op = refl
  data_count (name ∷ names) op = ap suc (data_count names (op + 1))

  levels_back : (names : List (List ℕ)) (op : ℕ) → op + length names ≤ length t.level
      → map (λ (o : WrittenOp). o.level) (written_ops names op) ≡ take (length names) (drop op t.level)
  levels_back [] op low = refl
  levels_back (name ∷ names) op low =
      let here : drop op t.level ≡ level_of t op ∷ drop (op + 1) t.level = rw (add-one) (drop-cons t.level op 0 (omega arith)) in
      ap (λ ls. level_of t op ∷ ls) (levels_back names (op + 1) (omega arith)) ∙ ap (take (suc (length names))) (sym here)

  next_back : (names : List (List ℕ)) (op : ℕ)
      → flat_map (λ (o : WrittenOp). o.next) (written_ops names op) ≡ take (length names * t.states) (drop (op * t.states) t.next)
  next_back [] op = no_rows t.states (drop (op * t.states) t.next)
  next_back (name ∷ names) op =
      ap (λ xs. row t.states t.next op ++ xs) (next_back names (op + 1)) ∙ row_and_more t.states t.next (length names) op

  act_back : (names : List (List ℕ)) (op : ℕ)
      → flat_map (λ (o : WrittenOp). o.act) (written_ops names op) ≡ take (length names * op_count t) (drop (op * op_count t) t.act)
  act_back [] op = no_rows (op_count t) (drop (op * op_count t) t.act)
  act_back (name ∷ names) op =
      ap (λ xs. row (op_count t) t.act op ++ xs) (act_back names (op + 1)) ∙ row_and_more (op_count t) t.act (length names) op

  next_rows : (names : List (List ℕ)) (op : ℕ) → op * t.states + length names * t.states ≤ length t.next
      → All (λ (o : WrittenOp). length o.next ≡ t.states) (written_ops names op)
  next_rows [] op low = All-nil (λ (o : WrittenOp). length o.next ≡ t.states)
  next_rows (name ∷ names) op low =
      All-cons (λ (o : WrittenOp). length o.next ≡ t.states) (written_op name op) (written_ops names (op + 1))
      (row_length t.states t.next (length names) op low)
      (next_rows names (op + 1) (later_low t.states t.next (length names) op low))

  act_rows : (names : List (List ℕ)) (op : ℕ) → op * op_count t + length names * op_count t ≤ length t.act
      → All (λ (o : WrittenOp). length o.act ≡ op_count t) (written_ops names op)
  act_rows [] op low = All-nil (λ (o : WrittenOp). length o.act ≡ op_count t)
  act_rows (name ∷ names) op low =
      All-cons (λ (o : WrittenOp). length o.act ≡ op_count t) (written_op name op) (written_ops names (op + 1))
      (row_length (op_count t) t.act (length names) op low)
      (act_rows names (op + 1) (later_low (op_count t) t.act (length names) op low))

  module _ (table : IsTable t) where
    -- what is read of an operation
    all_four : (name : List ℕ) (l : Option ℕ) (s a : Option (List ℕ)) (level : ℕ) (next act : List ℕ) → l ≡ Some level → s ≡ Some next
        → a ≡ Some act → op_from (Some name) l s a ≡ Some (record { name = name; level = level; next = next; act = act })
    all_four name l s a level next act i j k = rw (i, j, k) refl

    op_read : (name : List ℕ) (op : ℕ) → op < op_count t → op_of (op_data t name op) ≡ Some (written_op name op)
    op_read name op low =
        let next = row t.states t.next op in
        let act = row (op_count t) t.act op in
        all_four name (byte_of (number (unsigned (level_of t op)))) (bytes_of (numbers next)) (bytes_of (numbers act)) (level_of t op) next act
        (byte_from (level_of t op) (omega (arith, table.levels.high op low)))
        (bytes_from next (byte_row t.next t.states t.states op table.entries.next table.sizes.most_states))
        (bytes_from act (byte_row t.act (op_count t) (op_count t) op table.entries.act table.sizes.most_ops))

    ops_read : (names : List (List ℕ)) (op : ℕ) → op + length names ≤ op_count t
        → each_of op_of (ops_from t names op) ≡ Some (written_ops names op)
    ops_read [] op low = refl
    ops_read (name ∷ names) op low =
        ap (option_and_then (λ o. option_map (λ os. o ∷ os) (each_of op_of (ops_from t names (op + 1))))) (op_read name op (omega arith))
        ∙ ap (option_map (λ os. written_op name op ∷ os)) (ops_read names (op + 1) (omega arith))

    module _ (states ops : List (List ℕ)) (state_count : length states ≡ t.states) (count : length ops ≡ op_count t) where
      all_three : (s : Option (List (List ℕ))) (f : Option ℕ) (o : Option (List WrittenOp)) → s ≡ Some states → f ≡ Some t.start
          → o ≡ Some (written_ops ops 0) → table_from s f o ≡ Some (written_table states ops)
      all_three s f o i j k = rw (i, j, k) refl

      -- what is read of the whole table
      pub table_read : table_from (texts_of (strings states)) (byte_of (number (unsigned t.start))) (ops_of (array (items_of (ops_from t ops 0))))
          ≡ Some (written_table states ops)
      table_read =
          all_three (texts_of (strings states)) (byte_of (number (unsigned t.start))) (ops_of (array (items_of (ops_from t ops 0))))
          (texts_from states (omega (arith, table.sizes.most_states)))
          (byte_from t.start (omega (arith, table.sizes.starts, table.sizes.most_states)))
          (ap (option_and_then (each_of op_of)) (short_from (ops_from t ops 0) (omega (arith, data_count ops 0, table.sizes.most_ops)))
          ∙ ops_read ops 0 (omega arith))

      pub has_rows : HasRows (written_table states ops)
      has_rows = record {
        next = subst (λ n. All (λ (o : WrittenOp). length o.next ≡ n) (written_ops ops 0)) (sym state_count)
            (next_rows ops 0 (omega (arith, table.sizes.next_length, ap (λ n. n * t.states) count)));
        act = subst (λ n. All (λ (o : WrittenOp). length o.act ≡ n) (written_ops ops 0)) (sym (ops_count ops 0 ∙ count))
            (act_rows ops 0 (omega (arith, table.sizes.act_length, ap (λ n. n * op_count t) count)));
      }

      -- its parts are those of the table
      pub parts_back : parts_of (written_table states ops) ≡ t
      parts_back =
          let level : map (λ (o : WrittenOp). o.level) (written_ops ops 0) ≡ t.level =
          levels_back ops 0 (omega arith) ∙ take_all (length ops) t.level (omega arith) in
          let next : flat_map (λ (o : WrittenOp). o.next) (written_ops ops 0) ≡ t.next =
          next_back ops 0 ∙ ap (take (length ops * t.states)) (from_first t.states t.next) ∙ take_all (length ops * t.states) t.next (omega (arith, table.sizes.next_length, ap (λ n. n * t.states) count)) in
          let act : flat_map (λ (o : WrittenOp). o.act) (written_ops ops 0) ≡ t.act =
          act_back ops 0 ∙ ap (take (length ops * op_count t)) (from_first (op_count t) t.act) ∙ take_all (length ops * op_count t) t.act (omega (arith, table.sizes.act_length, ap (λ n. n * op_count t) count)) in
          ap (λ n. table_of n t.start (map (λ (o : WrittenOp). o.level) (written_ops ops 0)) (flat_map (λ (o : WrittenOp). o.next) (written_ops ops 0)) (flat_map (λ (o : WrittenOp). o.act) (written_ops ops 0))) state_count
          ∙ ap (λ ls. table_of t.states t.start ls (flat_map (λ (o : WrittenOp). o.next) (written_ops ops 0)) (flat_map (λ (o : WrittenOp). o.act) (written_ops ops 0))) level
          ∙ ap₂ (λ ns as'. table_of t.states t.start t.level ns as') next act
