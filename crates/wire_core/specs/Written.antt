-- The clocks and the stamps of a document may be written, in both forms.
use Rattle.std.proofs.Common.{◌≡◌, ℕ, zero, suc, ◌+◌, ◌-◌, ◌<◌, ◌≤◌, true, ◌&&◌, List, [], ◌∷◌, ◌++◌, length, take, drop, replicate, slice_index, slice_set, nat_le, nat_lt, refl, sym, ap, ◌∙◌, append_assoc, arith, inl, inr}
use Rattle.std.proofs.lemmas.List.{get_or-drop, get_or-take, length-append, length-drop, length-take, take-append-drop, get_or_past}
use Rattle.std.proofs.lemmas.Bool.{cases_lt}
use Rattle.std.proofs.lemmas.Bool.Decides.{nat_tests}
use Rattle.std.proofs.Math.Seq.{set-append_seam}
use Rattle.vector_clock.specs.declared.clock.Clock.{Clock}
use Rattle.vector_clock.specs.declared.clock.Id.{Id}
use Rattle.vector_clock.specs.declared.stamp.Stamp.{Stamp}
use Rattle.vector_clock.specs.Clock.{IsClock, count, max_members, max_seq}
use Rattle.crdt_laws.specs.Tower.{IsStampOf, IsWithin}
use Rattle.wire_core.specs.declared.form.ClockForm.{ClockForm}
use Rattle.wire_core.specs.declared.form.ClockForm.TheVariants.{Dense, Sparse}
use Rattle.wire_core.specs.Reading.{Rules, number, allows_each}
use Rattle.wire_core.specs.Clocks.{clock_of, entries_of, are_within, last_op, last_ops, with_ops, is_op_from, are_rising, op_grammar, entries_by_form, clock_grammar}
use Rattle.wire_core.specs.ClocksExact.{both, op_from}
use Rattle.wire_core.specs.Small.{stamp_grammar}

-- ---- entries

-- no entry is above the limit
pub record AreSmall (entries : List ℕ) : Type 0 where
  pub each : (i : ℕ) → slice_index entries i ≤ max_seq

small_behind : (x : ℕ) (xs : List ℕ) → AreSmall (x ∷ xs) → AreSmall xs
small_behind x xs h = record { each = λ i. h.each (suc i) }

within : (xs : List ℕ) → AreSmall xs → are_within xs ≡ true
within [] h = refl
within (x ∷ xs) h =
    let first : x ≤ max_seq = h.each 0 in
    let here : nat_le x max_seq ≡ true = grind (arith, nat_tests) in
    rw here (within xs (small_behind x xs h))

numbers : (r : Rules) (before xs : List ℕ) → AreSmall xs → allows_each (λ _. number 4) r before xs
unfolding number
numbers r before [] h = tt
numbers r before (x ∷ xs) h = let first : x ≤ max_seq = h.each 0 in (omega arith, numbers r (before ++ x ∷ []) xs (small_behind x xs h))

few_ops : (m : ℕ) (xs : List ℕ) → length (last_ops m xs) ≤ length xs
few_ops m [] = omega arith
few_ops m (zero ∷ xs) = omega (arith, few_ops (m + 1) xs)
few_ops m (suc x ∷ xs) = omega (arith, few_ops (m + 1) xs)

op_earlier : (n m : ℕ) (id : Id) → is_op_from n (m + 1) id ≡ true → is_op_from n m id ≡ true
op_earlier n m id h = let p = op_from n (m + 1) id h in let least = p.0 in let member = p.1 in let some = p.2 in let most = p.3 in grind (arith, nat_tests)

earlier : (n m : ℕ) (ids : List Id) → are_rising n (m + 1) ids ≡ true → are_rising n m ids ≡ true
earlier n m [] h = refl
earlier n m (id ∷ ids) h =
    let sides = both (is_op_from n (m + 1) id) (are_rising n (id.member + 1) ids) h in
    rw (op_earlier n m id sides.0) sides.1

op_is : (n m x : ℕ) → m < n → 1 ≤ x → x ≤ max_seq → is_op_from n m (last_op m x) ≡ true
op_is n m x lt some most = grind (arith, nat_tests)

rise : (n m : ℕ) (xs : List ℕ) → m + length xs ≡ n → AreSmall xs → are_rising n m (last_ops m xs) ≡ true
rise n m [] e h = refl
rise n m (zero ∷ xs) e h = earlier n m (last_ops (m + 1) xs) (rise n (m + 1) xs (omega (arith, e)) (small_behind zero xs h))
rise n m (suc x ∷ xs) e h =
    let first : suc x ≤ max_seq = h.each 0 in
    rw (op_is n m (suc x) (omega (arith, e)) (omega arith) first) (rise n (m + 1) xs (omega (arith, e)) (small_behind (suc x) xs h))

op_allowed : (r : Rules) (n m : ℕ) (id : Id) → n ≤ 256 → is_op_from n m id ≡ true → op_grammar.allows r id
unfolding number
op_allowed r n m id le h = let p = op_from n m id h in let member = p.1 in let most = p.3 in ((omega arith, omega arith), refl)

ops_allowed : (r : Rules) (n m : ℕ) (before ids : List Id) → n ≤ 256 → are_rising n m ids ≡ true → allows_each (λ _. op_grammar) r before ids
ops_allowed r n m before [] le h = tt
ops_allowed r n m before (id ∷ ids) le h =
    let sides = both (is_op_from n m id) (are_rising n (id.member + 1) ids) h in
    (op_allowed r n m id le sides.0, ops_allowed r n (id.member + 1) (before ++ id ∷ []) ids le sides.1)

restored : (before xs : List ℕ) (m : ℕ) → length before ≡ m → with_ops (before ++ replicate (length xs) 0) (last_ops m xs) ≡ before ++ xs
restored before [] m e = refl
restored before (zero ∷ xs) m e =
    ap (λ (t : List ℕ). with_ops t (last_ops (m + 1) xs)) (sym (append_assoc before (0 ∷ []) (replicate (length xs) 0)))
    ∙ restored (before ++ 0 ∷ []) xs (m + 1) (omega (arith, length-append before (0 ∷ []), e)) ∙ append_assoc before (0 ∷ []) xs
restored before (suc x ∷ xs) m e =
    ap (λ (t : List ℕ). with_ops t (last_ops (m + 1) xs)) (ap (λ (i : ℕ). slice_set (before ++ 0 ∷ replicate (length xs) 0) i (suc x)) (sym e)
    ∙ set-append_seam before 0 (replicate (length xs) 0) (suc x) ∙ sym (append_assoc before (suc x ∷ []) (replicate (length xs) 0)))
    ∙ restored (before ++ suc x ∷ []) xs (m + 1) (omega (arith, length-append before (suc x ∷ []), e)) ∙ append_assoc before (suc x ∷ []) xs

count_fits : (r : Rules) (k : ℕ) → k ≤ 255 → (number 1).allows r k
unfolding number
count_fits r k le = omega arith

entries_allowed : (f : ClockForm) (n : ℕ) (r : Rules) (xs : List ℕ) → n ≤ max_members → length xs ≡ n → AreSmall xs → (entries_by_form f n).allows r xs
entries_allowed Dense n r xs le e h = ((e, numbers r [] xs h), within xs h)
entries_allowed Sparse n r xs le e h =
    let rising : are_rising n 0 (last_ops 0 xs) ≡ true = rise n 0 xs (omega (arith, e)) h in
    let back : with_ops (replicate n 0) (last_ops 0 xs) ≡ xs = ap (λ (k : ℕ). with_ops (replicate k 0) (last_ops 0 xs)) (sym e) ∙ restored [] xs 0 refl in
    (((count_fits r (length (last_ops 0 xs)) (omega (arith, few_ops 0 xs, e)), ops_allowed r n 0 [] (last_ops 0 xs) (omega arith) rising), rising), back)

-- ---- clocks and stamps

zeros_are : (xs : List ℕ) → ((i : ℕ) → slice_index xs i ≡ 0) → xs ≡ replicate (length xs) 0
zeros_are [] h = refl
zeros_are (x ∷ xs) h = ap (λ (y : ℕ). y ∷ xs) (h 0) ∙ ap (λ (t : List ℕ). 0 ∷ t) (zeros_are xs (λ i. h (suc i)))

small_first : (n : ℕ) (xs : List ℕ) → AreSmall xs → AreSmall (take n xs)
small_first n xs h = record { each = λ i. elim (cases_lt i n) [ inl lt ↦ rw (get_or-take n xs i 0 lt) (h.each i) | inr le ↦ rw (get_or_past (take n xs) i 0 (omega (arith, length-take n xs))) (omega arith) ] }

-- a clock of the document, of which no entry is above the limit of files
pub clock_written : (r : Rules) (c : Clock) → IsClock c → c.n ≡ r.members → ((m : ℕ) → count c m ≤ max_seq) → clock_grammar.allows r c
clock_written r c h e small =
    let n = r.members in
    let most : n ≤ max_members = omega (arith, h.most, e) in
    let many : length (take n c.at) ≡ n = omega (arith, length-take n c.at, h.wide) in
    let rest : drop n c.at ≡ replicate (length (drop n c.at)) 0 = zeros_are (drop n c.at) (λ i. get_or-drop n c.at i 0 ∙ h.empty_past (n + i) (omega (arith, e))) in
    let left : length (drop n c.at) ≡ max_members - n = omega (arith, length-drop n c.at, h.wide) in
    let at : take n c.at ++ replicate (max_members - n) 0 ≡ c.at =
    ap (λ (k : ℕ). take n c.at ++ replicate k 0) (sym left) ∙ ap (λ (t : List ℕ). take n c.at ++ t) (sym rest) ∙ take-append-drop n c.at in
    let same : clock_of n (entries_of n c) ≡ c = ap (λ (k : ℕ). let d : Clock = record { n = k; at = take n c.at ++ replicate (max_members - n) 0 } in d) (sym e)
    ∙ ap (λ (t : List ℕ). let d : Clock = record { n = c.n; at = t } in d) at in
    (entries_allowed r.form n r (take n c.at) most many (small_first n c.at (record { each = small })), same)

-- a stamp of the document
pub stamp_written : (r : Rules) (s : Stamp) → IsStampOf r.members s → IsWithin s → stamp_grammar.allows r s
stamp_written r s h w =
    let same = h.members in
    let member : s.member < r.members = omega (arith, h.stamp.member, same) in
    let counted = h.stamp.counted in
    let test : (nat_lt s.member r.members && nat_le 1 (count s.clock s.member)) ≡ true = grind (arith, nat_tests) in
    (((count_fits r s.member (omega (arith, h.stamp.member, h.stamp.clock.most)), clock_written r s.clock h.stamp.clock same w.each), refl), test)
