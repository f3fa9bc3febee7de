-- Each text spells a table or has a fault.
use Rattle.std.specs.Prelude.{◌≡◌, ◌≢◌, ℕ, ◌+◌, ◌-◌, ◌*◌, ◌<◌, ◌≤◌, ◌⊎◌, List, length, slice_index, Option, Some, None}
use Rattle.std.specs.Str.{IsUtf8, is_utf8}
use Rattle.std.proofs.Common.{refl, sym, ◌∙◌, subst, arith, inl, inr}
use Rattle.std.proofs.Math.Decide.{dec_le, dec_lt, map_dec}
use Rattle.std.proofs.lemmas.Bool.{both_ways, cases_Bool, cases_lt}
use Rattle.std.proofs.lemmas.Str.{IsUtf8-from_is_utf8, is_utf8-from_IsUtf8}
use Rattle.serde_json.specs.Data.{Data}
use Rattle.serde_json.specs.Read.{read}
use Rattle.action_tables.specs.declared.table.Shape.{Shape}
use Rattle.action_tables.specs.declared.table.Shape.TheVariants.{Size, Level, Entry}
use Rattle.action_tables.specs.declared.named.TableFault.{TableFault}
use Rattle.action_tables.specs.declared.named.TableFault.TheVariants.{NotJson, Form, Name, Twice, NoMemory, Shape as ShapeFault}
use Rattle.action_tables.specs.declared.written.WrittenOp.{WrittenOp}
use Rattle.action_tables.specs.declared.written.WrittenTable.{WrittenTable}
use Rattle.action_tables.specs.Name.{IsLetter, IsName, IsNameByte}
use Rattle.action_tables.specs.Table.{ActionTable, HasLevels, HasSizes, IsOutside, IsTable, level_of, op_count}
use Rattle.action_tables.specs.TableText.{HasNames, HasRows, HasTextFault, IsApart, IsJson, IsWritten, Spells, op_names, parts_of, written_of}
use Rattle.action_tables.specs.Verdict.{HasFault}
use Rattle.action_tables.proofs.Decided.{all, all_pairs, both, each_below, either, first, other, same}

-- names

letter : (b : ℕ) → Dec (IsLetter b)
letter b = both (dec_le 97 b) (dec_le b 122)

name_byte : (b : ℕ) → Dec (IsNameByte b)
name_byte b = either (letter b) (either (both (dec_le 48 b) (dec_le b 57)) (same b 95))

pub name : (xs : List ℕ) → Dec (IsName xs)
name xs =
    map_dec (λ h. record { some = h.0.0; most = h.0.1; first = h.1.0; each = h.1.1 }) (λ h. ((h.some, h.most), (h.first, h.each)))
    (both (both (dec_le 1 (length xs)) (dec_le (length xs) 32))
    (both (letter (slice_index xs 0)) (each_below (λ i. IsNameByte (slice_index xs i)) (λ i. name_byte (slice_index xs i)) (length xs))))

pub names : (w : WrittenTable) → Dec (HasNames w)
names w = map_dec (λ h. record { states = h.0; ops = h.1 }) (λ h. (h.states, h.ops)) (both (all IsName name w.states) (all IsName name (op_names w.ops)))

pub apart : (w : WrittenTable) → Dec (IsApart w)
apart w =
    map_dec (λ h. record { states = h.0; ops = h.1 }) (λ h. (h.states, h.ops))
    (both (all_pairs (λ a b. a ≢ b) other w.states) (all_pairs (λ a b. a ≢ b) other (op_names w.ops)))

pub rows : (w : WrittenTable) → Dec (HasRows w)
rows w =
    map_dec (λ h. record { next = h.0; act = h.1 }) (λ h. (h.next, h.act))
    (both (all (λ (o : WrittenOp). length o.next ≡ length w.states) (λ o. same (length o.next) (length w.states)) w.ops)
    (all (λ (o : WrittenOp). length o.act ≡ length w.ops) (λ o. same (length o.act) (length w.ops)) w.ops))

-- the parts of a table

module _ (t : ActionTable) where
  sizes : Dec (HasSizes t)
  sizes =
      map_dec
      (λ h. record { some_states = h.0.0; most_states = h.0.1; some_ops = h.1.0.0; most_ops = h.1.0.1; starts = h.1.1.0; next_length = h.1.1.1.0; act_length = h.1.1.1.1 })
      (λ h. ((h.some_states, h.most_states), ((h.some_ops, h.most_ops), (h.starts, (h.next_length, h.act_length)))))
      (both (both (dec_le 1 t.states) (dec_le t.states 32)) (both (both (dec_le 1 (op_count t)) (dec_le (op_count t) 32))
      (both (dec_lt t.start t.states) (both (same (length t.next) (op_count t * t.states)) (same (length t.act) (op_count t * op_count t))))))

  levels : Dec (HasLevels t)
  levels =
      map_dec (λ h. record { low = h.0; high = h.1 }) (λ h. (h.low, h.high))
      (both (each_below (λ o. 1 ≤ level_of t o) (λ o. dec_le 1 (level_of t o)) (op_count t))
      (each_below (λ o. level_of t o ≤ 8) (λ o. dec_le (level_of t o) 8) (op_count t)))

  abbrev Outside : ℕ → Type 0
  Outside at = IsOutside t.states (op_count t) t.next t.act at

  outside : (at : ℕ) → Dec (Outside at)
  outside at =
      either (both (dec_lt at (length t.next)) (dec_le t.states (slice_index t.next at)))
      (map_dec (λ h. (h.0, h.1.0, h.1.1)) (λ h. (h.0, (h.1, h.2)))
      (both (dec_le (length t.next) at) (both (dec_lt at (length t.next + length t.act)) (dec_le (op_count t) (slice_index t.act (at - length t.next))))))

  module _ (none : (i : ℕ) → i < length t.next + length t.act → ¬ Outside i) where
    next_low : (i : ℕ) → i < length t.next → slice_index t.next i < t.states
    next_low i h = elim (cases_lt (slice_index t.next i) t.states) [ inl low ↦ low | inr high ↦ absurd (none i (omega (arith, h)) (inl (h, high))) ]

    act_low : (i : ℕ) → i < length t.act → slice_index t.act i < op_count t
    act_low i h = elim (cases_lt (slice_index t.act i) (op_count t)) [
      | inl low ↦ low
      | inr high ↦
          let place : i ≡ length t.next + i - length t.next = omega arith in
          absurd (none (length t.next + i) (omega (arith, h)) (inr (omega arith, omega (arith, h), subst (λ k. op_count t ≤ slice_index t.act k) place high)))
    ]

  -- parts make a table or have a fault
  pub table_or_fault : IsTable t ⊎ ((f : Shape) × HasFault t f)
  table_or_fault = elim sizes [
    | no n ↦ inr (Size, n)
    | yes s ↦ elim levels [
      | no n ↦ inr (Level, (s, n))
      | yes l ↦ elim (first Outside outside (length t.next + length t.act)) [
        | inl f ↦ inr (Entry f.0, (s, l, record { outside = f.1; first = f.2 }))
        | inr none ↦ inl (record { sizes = s; levels = l; entries = record { next = next_low none; act = act_low none } })
      ]
    ]
  ]

-- texts

abbrev IsSpelled : List ℕ → Type 0
IsSpelled text = (t : ActionTable) × (states : List (List ℕ)) × (ops : List (List ℕ)) × Spells text t states ops

abbrev IsFaulty : List ℕ → Type 0
IsFaulty text = (f : TableFault) × (f ≢ NoMemory) × HasTextFault text f

written : (text : List ℕ) (w : WrittenTable) → IsWritten text w → IsSpelled text ⊎ IsFaulty text
written text w r = elim (names w) [
  | no f ↦ inr (Name, (λ e. absurd (cc)), (w, r, f))
  | yes n ↦ elim (apart w) [
    | no f ↦ inr (Twice, (λ e. absurd (cc)), (w, r, (n, f)))
    | yes a ↦ elim (rows w) [
      | no f ↦ inr (ShapeFault Size, (λ e. absurd (cc)), (w, r, (n, a, inl (f, refl))))
      | yes h ↦ elim (table_or_fault (parts_of w)) [
        | inr f ↦ inr (ShapeFault f.0, (λ e. absurd (cc)), (w, r, (n, a, inr (h, f.1))))
        | inl t ↦ inl (
          parts_of w,
          w.states,
          op_names w.ops,
          record {
            written = w;
            reads = r;
            accepted = record { names = n; apart = a; rows = h; table = t };
            parts = refl;
            state_names = refl;
            names_of_ops = refl;
          },
        )
      ]
    ]
  ]
]

pub whole : (text : List ℕ) → IsSpelled text ⊎ IsFaulty text
whole text = elim (cases_Bool (is_utf8 text)) [
  | inr f ↦ inr (NotJson, (λ e. absurd (cc)), λ d j. both_ways (is_utf8 text) f (is_utf8-from_IsUtf8 text j.0))
  | inl u ↦ at_value (IsUtf8-from_is_utf8 text u) (read text) refl
]
  where
    at_form : (d : Data) → IsJson text d → (o : Option WrittenTable) → written_of d ≡ o → IsSpelled text ⊎ IsFaulty text
    at_form d j None e = inr (Form, (λ e. absurd (cc)), (d, j, e))
    at_form d j (Some w) e = written text w (record { value = d; json = j; form = e })

    at_value : IsUtf8 text → (o : Option Data) → read text ≡ o → IsSpelled text ⊎ IsFaulty text
    at_value u None e = inr (NotJson, (λ e. absurd (cc)), λ d j. let same : None ≡ Some d = sym e ∙ j.1 in absurd (cc))
    at_value u (Some d) e = at_form d (u, e) (written_of d) refl
