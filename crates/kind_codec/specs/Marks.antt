-- The bytes of marks: a count, and so many entries by rising mark. An entry is one field: a mark, a key, and 0 or 1.
use Rattle.std.specs.Prelude.{◌≡◌, ℕ, ◌+◌, ◌^◌, ◌<◌, ◌≤◌, ◌==◌, ◌&&◌, Bool, true, false, List, [], ◌∷◌, None, length, nat_le, nat_lt, if◌then◌else◌}
use Rattle.std.proofs.Common.{refl, ap, arith}
use Rattle.std.proofs.lemmas.Bool.{leb-true, ltb-true}
use Rattle.std.proofs.lemmas.Bool.Decides.{nat_tests}
use Rattle.std.specs.List.{AllByRecursion, last_or}
use Rattle.std.proofs.lemmas.List.Elements.{All-from_recursion, recursion_from_All}
use Rattle.vector_clock.specs.declared.stamp.Key.{Key}
use Rattle.rich_text.specs.declared.marks.MarkEntry.{MarkEntry}
use Rattle.rich_text.specs.Marks.{AreMarksOf, IsEntryOf}
use Rattle.wire_core.specs.Reading.{Grammar, IsExact, Rules, number, tested, chain, made, counted}
use Rattle.wire_core.specs.Exact.{number_exact, tested_exact, chain_exact, made_exact, counted_exact}
use Rattle.wire_core.specs.Faults.{IsInOrder}
use Rattle.wire_core.specs.InOrder.{number_in_order, tested_in_order, chain_in_order, made_in_order, counted_in_order}
use Rattle.wire_core.specs.Small.{set_key_grammar, width_up_to}
use Rattle.wire_core.specs.SmallExact.{set_key_allowed, set_key_exact, set_key_is, up_to_fits}
use Rattle.wire_core.specs.SmallInOrder.{set_key_in_order}
use Rattle.wire_core.specs.ClocksExact.{both}
use Rattle.wire_core.specs.Rising.{AreRising, IsTransitive, comes_next, follows, follows_back, pairs_back, pairs_from, rising_again, rising_taken}
use Rattle.kind_codec.specs.declared.marks.EntryBytes.{EntryBytes}

-- an entry as it stands in a file
abbrev pub entry_bytes : ℕ → Key → ℕ → EntryBytes
entry_bytes mark key on = record { mark = mark; key = key; on = on }

abbrev pub entry_of : EntryBytes → MarkEntry
entry_of b = record { mark = b.mark; key = b.key; on = b.on == 1 }

abbrev pub bytes_of : MarkEntry → EntryBytes
bytes_of e = entry_bytes e.mark e.key (if e.on then 1 else 0)

abbrev pub mark_of : MarkEntry → ℕ
mark_of e = e.mark

-- the number of marks that a text may have
module _ (marks : ℕ) where
  abbrev pub entry_parts : Grammar EntryBytes
  entry_parts = made (λ p. entry_bytes p.0 p.1.0 p.1.1) (λ b. (b.mark, (b.key, b.on)))
      (chain (number (width_up_to marks)) (λ _. chain set_key_grammar (λ _. number 1)))

  -- a mark of the text that comes after those of the entries before, and 0 or 1
  abbrev pub is_next_entry : List MarkEntry → EntryBytes → Bool
  is_next_entry before b = comes_next mark_of nat_lt (last_or None before) b.mark && (nat_lt b.mark marks && nat_le b.on 1)

  -- an entry behind those before
  abbrev pub entry_grammar : List MarkEntry → Grammar MarkEntry
  entry_grammar before = made entry_of bytes_of (tested (λ _. is_next_entry before) entry_parts)

  abbrev pub marks_grammar : Grammar (List MarkEntry)
  marks_grammar = counted entry_grammar (number (width_up_to marks))

  parts_exact : IsExact entry_parts
  parts_exact = made_exact _ _ _ (chain_exact (number (width_up_to marks)) (λ _. chain set_key_grammar (λ _. number 1)) (number_exact (width_up_to marks))
      (λ _. chain_exact set_key_grammar (λ _. number 1) set_key_exact (λ _. number_exact 1))) (λ r p a. refl)

  on_back : (x : ℕ) → x ≤ 1 → (if x == 1 then 1 else 0) ≡ x
  on_back x le = grind (arith, nat_tests)

  pub entry_exact : (before : List MarkEntry) → IsExact (entry_grammar before)
  entry_exact before = made_exact entry_of bytes_of (tested (λ _. is_next_entry before) entry_parts) (tested_exact _ entry_parts parts_exact) (λ r b a.
      (let last = both (comes_next mark_of nat_lt (last_or None before) b.mark) (nat_lt b.mark marks && nat_le b.on 1) a.1 in
      let le : b.on ≤ 1 = leb-true b.on 1 (both (nat_lt b.mark marks) (nat_le b.on 1) last.1).1 in
      ap (entry_bytes b.mark b.key) (on_back b.on le)))

  pub marks_exact : IsExact marks_grammar
  marks_exact = counted_exact entry_grammar entry_exact (number (width_up_to marks)) (number_exact (width_up_to marks))

  pub entry_in_order : (before : List MarkEntry) → IsInOrder (entry_grammar before)
  entry_in_order before = made_in_order _ _ _ (tested_in_order _ entry_parts (made_in_order _ _ _
      (chain_in_order (number (width_up_to marks)) (λ _. chain set_key_grammar (λ _. number 1)) (number_in_order (width_up_to marks))
      (λ _. chain_in_order set_key_grammar (λ _. number 1) set_key_in_order (λ _. number_in_order 1)))))

  pub marks_in_order : IsInOrder marks_grammar
  marks_in_order = counted_in_order entry_grammar entry_in_order (number (width_up_to marks)) (number_in_order (width_up_to marks))

  -- ---- the marks that are allowed are those of the text and the document

  -- the mark of the first is less
  abbrev IsLess : MarkEntry → MarkEntry → Type 0
  IsLess a b = a.mark < b.mark

  less_transitive : IsTransitive IsLess
  less_transitive = record { each = λ a b c h k. omega arith }

  pub entry_is : (r : Rules) (before : List MarkEntry) (e : MarkEntry) → (entry_grammar before).allows r e → IsEntryOf marks r.members e
  entry_is r before e a =
      let last = both (comes_next mark_of nat_lt (last_or None before) e.mark) (nat_lt e.mark marks && nat_le (bytes_of e).on 1) a.0.1 in
      record { mark = ltb-true e.mark marks (both (nat_lt e.mark marks) (nat_le (bytes_of e).on 1) last.1).0; key = set_key_is r e.key a.0.0.0.1.0 }

  on_small : (b : Bool) → nat_le (if b then 1 else 0) 1 ≡ true
  on_small true = refl
  on_small false = refl

  on_below : (b : Bool) → (if b then 1 else 0) < 256
  on_below true = omega arith
  on_below false = omega arith

  on_is : (b : Bool) → ((if b then 1 else 0) == 1) ≡ b
  on_is true = refl
  on_is false = refl

  on_allowed : (r : Rules) (b : Bool) → (number 1).allows r (if b then 1 else 0)
  unfolding number
  on_allowed r b = on_below b

  mark_allowed : (r : Rules) (mark : ℕ) → mark ≤ marks → (number (width_up_to marks)).allows r mark
  unfolding number
  mark_allowed r mark le = up_to_fits marks mark le

  pub entry_allowed : (r : Rules) (before : List MarkEntry) (e : MarkEntry) → r.members ≤ 256 → comes_next mark_of nat_lt (last_or None before) e.mark ≡ true
      → IsEntryOf marks r.members e → (entry_grammar before).allows r e
  entry_allowed r before e few next h =
      let below : nat_lt e.mark marks ≡ true = let lt = h.mark in grind (arith, nat_tests) in
      let last : (nat_lt e.mark marks && nat_le (bytes_of e).on 1) ≡ true = rw below (on_small e.on) in
      let lt = h.mark in (
        (((mark_allowed r e.mark (omega arith), (set_key_allowed r e.key few h.key, on_allowed r e.on)), refl), rw next last),
        ap (λ (b : Bool). let x : MarkEntry = record { mark = e.mark; key = e.key; on = b } in x) (on_is e.on),
      )

  pub marks_are : (r : Rules) (ms : List MarkEntry) → marks_grammar.allows r ms → AreMarksOf marks r.members ms
  marks_are r ms a =
      let t = rising_taken IsLess less_transitive entry_grammar r (IsEntryOf marks r.members) (λ before e b.
      (let next = both (comes_next mark_of nat_lt (last_or None before) e.mark) (nat_lt e.mark marks && nat_le (bytes_of e).on 1) b.0.1 in
      (follows mark_of nat_lt IsLess (λ x y i. ltb-true x.mark y.mark i) (last_or None before) e next.0, entry_is r before e b))) ms a.1 in
      record { rising = pairs_from IsLess ms t.0; entries = All-from_recursion (IsEntryOf marks r.members) ms t.1 }

  -- by rising mark there are no more entries than marks
  few_from : (low n : ℕ) (ms : List MarkEntry) → low ≤ marks → AllByRecursion (λ e. low ≤ e.mark) ms → AreRising IsLess ms → AllByRecursion (IsEntryOf marks n) ms → low + length ms ≤ marks
  few_from low n [] le from rising entries = omega arith
  few_from low n (e ∷ ms) le from rising entries =
      let below = entries.0.mark in
      let rest = few_from (e.mark + 1) n ms (omega arith) (later e.mark ms rising.0) rising.1 entries.1 in
      omega (arith, from.0, rest)
    where
      later : (mark : ℕ) (xs : List MarkEntry) → AllByRecursion (λ x. mark < x.mark) xs → AllByRecursion (λ x. mark + 1 ≤ x.mark) xs
      later mark [] h = tt
      later mark (x ∷ xs) h = (omega (arith, h.0), later mark xs h.1)

  from_zero : (ms : List MarkEntry) → AllByRecursion (λ e. 0 ≤ e.mark) ms
  from_zero [] = tt
  from_zero (e ∷ ms) = (omega arith, from_zero ms)

  less_is_before : (x y : MarkEntry) → x.mark < y.mark → nat_lt x.mark y.mark ≡ true
  less_is_before x y h = grind (arith, nat_tests)

  pub marks_allowed : (r : Rules) (ms : List MarkEntry) → r.members ≤ 256 → AreMarksOf marks r.members ms → marks_grammar.allows r ms
  marks_allowed r ms few h =
      let rising = pairs_back IsLess ms h.rising in
      let entries = recursion_from_All (IsEntryOf marks r.members) ms h.entries in
      let count = few_from 0 r.members ms (omega arith) (from_zero ms) rising entries in (
        mark_allowed r (length ms) (omega (arith, count)),
        rising_again IsLess less_transitive entry_grammar r (IsEntryOf marks r.members)
            (λ before e f q. entry_allowed r before e few (follows_back mark_of nat_lt IsLess less_is_before (last_or None before) e f) q) ms rising entries,
      )

-- where the number of marks is one of 8 bits, so is a number up to it that may be written
pub byte_fits : (marks : ℕ) (r : Rules) (n : ℕ) → marks < 256 → (number (width_up_to marks)).allows r n → n < 256
unfolding number
byte_fits marks r n few h = go (nat_lt marks 256) refl h
  where
    go : (b : Bool) → nat_lt marks 256 ≡ b → n < 256 ^ (if b then 1 else marks) → n < 256
    go true e k = omega arith
    go false e k = absurd (grind (arith, nat_tests))
