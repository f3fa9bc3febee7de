-- A sparse clock, as a loop over its operations reads it.
use Rattle.std.proofs.Common.{◌≡◌, ◌≢◌, ℕ, zero, suc, ◌+◌, ◌-◌, ◌<◌, ◌≤◌, Bool, true, false, not, ◌==◌, cond, count_by, ◌&&◌, Option, Some, None, if◌then◌else◌, List, [], ◌∷◌, ◌++◌, length, take, replicate, slice_index, set, slice_set, refl, sym, ap, ◌∙◌, append_assoc, arith}
use Rattle.std.proofs.lemmas.List.{append-nil, take_more, length-take, set-append_left, length-set, length-replicate, replicate-append-replicate}
use Rattle.std.proofs.lemmas.Bool.{false≢true}
use Rattle.std.proofs.lemmas.Bool.Decides.{nat_tests}
use Rattle.std.proofs.lemmas.List.Sums.{sum_by-cons}
use Rattle.vector_clock.specs.declared.clock.Clock.{Clock}
use Rattle.vector_clock.specs.declared.clock.Id.{Id}
use Rattle.vector_clock.specs.Clock.{max_members}
use Rattle.wire_core.specs.declared.error.WireError.{WireError}
use Rattle.wire_core.specs.declared.error.WireError.TheVariants as errors
use Rattle.wire_core.specs.Reading.{Input, Got, number, mapped, read_each, spell_each}
use Rattle.wire_core.specs.Calls.{Fails, rules_of, wrote}
use Rattle.wire_core.specs.declared.byte_out.ByteOut.{ByteOut}
use Rattle.wire_core.specs.Entries.{wrote_more}
use Rattle.wire_core.specs.Loop.{with_front, fails, is_done, spell_more}
use Rattle.wire_core.specs.Clocks.{last_op, last_ops, with_ops, is_op_from, are_rising, op_grammar, counted_ops, clock_if_rising}
use Rattle.wire_core.specs.ClocksExact.{op_from}

-- the least member that may follow
abbrev pub next_member : ℕ → List Id → ℕ
next_member m [] = m
next_member m (id ∷ ids) = next_member (id.member + 1) ids

rising_more : (n m : ℕ) (ids : List Id) (id : Id) → are_rising n m (ids ++ id ∷ []) ≡ (are_rising n m ids && is_op_from n (next_member m ids) id)
rising_more n m [] id = last (is_op_from n m id)
  where
    last : (b : Bool) → (b && true) ≡ b
    last true = refl
    last false = refl
rising_more n m (one ∷ ids) id = ap (λ (b : Bool). is_op_from n m one && b) (rising_more n (one.member + 1) ids id) ∙ regroup (is_op_from n m one) (are_rising n (one.member + 1) ids) (is_op_from n (next_member (one.member + 1) ids) id)
  where
    regroup : (a b c : Bool) → (a && (b && c)) ≡ ((a && b) && c)
    regroup true b c = refl
    regroup false b c = refl

next_more : (m : ℕ) (ids : List Id) (id : Id) → next_member m (ids ++ id ∷ []) ≡ id.member + 1
next_more m [] id = refl
next_more m (one ∷ ids) id = next_more (one.member + 1) ids id

with_more : (entries : List ℕ) (ids : List Id) (id : Id) → with_ops entries (ids ++ id ∷ []) ≡ set (with_ops entries ids) id.member id.seq
with_more entries [] id = refl
with_more entries (one ∷ ids) id = with_more (slice_set entries one.member one.seq) ids id

many_with : (entries : List ℕ) (ids : List Id) → length (with_ops entries ids) ≡ length entries
many_with entries [] = refl
many_with entries (id ∷ ids) = many_with (slice_set entries id.member id.seq) ids ∙ length-set entries id.member id.seq

-- what the loop keeps: the operations that it read, whether they rise, and if so their clock
pub record IsSoFar (n : ℕ) (rising : Bool) (least : ℕ) (at : List ℕ) (front : List Id) : Type 0 where
  pub test : are_rising n 0 front ≡ rising
  pub next : rising ≡ true → next_member 0 front ≡ least
  pub made : rising ≡ true → with_ops (replicate n 0) front ++ replicate (max_members - n) 0 ≡ at

pub at_first : (n : ℕ) → n ≤ max_members → IsSoFar n true 0 (replicate max_members 0) []
at_first n le =
    let all : n + (max_members - n) ≡ max_members = omega arith in
    record { test = refl; next = λ _. refl; made = λ _. replicate-append-replicate n (max_members - n) 0 ∙ ap (λ (k : ℕ). replicate k 0) all }

module _ (n : ℕ) (rising sound : Bool) (least : ℕ) (at : List ℕ) (front : List Id) (id : Id) (so_far : IsSoFar n rising least at front) (is : sound ≡ (rising && is_op_from n least id)) where
  test_more : (b : Bool) → rising ≡ b → are_rising n 0 (front ++ id ∷ []) ≡ sound
  test_more true e = rising_more n 0 front id ∙ rw (so_far.test, so_far.next e) (sym is)
  test_more false e = rising_more n 0 front id ∙ rw (so_far.test, e) (sym (is ∙ rw e refl))

  was_rising : (b : Bool) → rising ≡ b → sound ≡ true → (rising ≡ true) × (is_op_from n least id ≡ true)
  was_rising true e h = (e, sym (is ∙ rw e refl) ∙ h)
  was_rising false e h = absurd (false≢true (sym (is ∙ rw e refl) ∙ h))

  pub is_more : sound ≡ true → IsSoFar n sound (id.member + 1) (set at id.member id.seq) (front ++ id ∷ [])
  is_more h =
      let before = was_rising rising refl h in
      let here = op_from n least id before.1 in
      let many : length (with_ops (replicate n 0) front) ≡ n = many_with (replicate n 0) front ∙ length-replicate {A = ℕ} n 0 in
      record {
        test = test_more rising refl;
        next = λ _. next_more 0 front id;
        made = λ _. ap (λ (t : List ℕ). t ++ replicate (max_members - n) 0) (with_more (replicate n 0) front id)
            ∙ sym (set-append_left (with_ops (replicate n 0) front) (replicate (max_members - n) 0) id.member id.seq (omega (arith, here.1, many)))
            ∙ ap (λ (t : List ℕ). set t id.member id.seq) (so_far.made before.0);
      }

  pub is_not_more : sound ≡ false → IsSoFar n sound least at (front ++ id ∷ [])
  is_not_more h = record { test = test_more rising refl; next = λ t. absurd (false≢true (sym h ∙ t)); made = λ t. absurd (false≢true (sym h ∙ t)) }

-- ---- what becomes of the whole

module _ (n : ℕ) (at : List ℕ) (front : List Id) where
  clock_is : (rising : Bool) → are_rising n 0 front ≡ rising → (rising ≡ true → with_ops (replicate n 0) front ++ replicate (max_members - n) 0 ≡ at)
      → clock_if_rising n front ≡ (if rising then Some (record { n = n; at = at }) else None)
  clock_is true test made = rw test (ap (λ (t : List ℕ). let c : Clock = record { n = n; at = t } in Some c) (made refl))
  clock_is false test made = rw test refl

module _ (n : ℕ) (start mid : Input) (count : ℕ) (counted : (number 1).read start ≡ Got count mid) where
  pub ops_end : (rising : Bool) (least : ℕ) (at : List ℕ) (front : List Id) (i : ℕ) (end : Input) → count ≤ i → IsSoFar n rising least at front
      → with_front (λ _. op_grammar) front (read_each (λ _. op_grammar) (count - i) front end) ≡ read_each (λ _. op_grammar) count [] mid
      → mapped (clock_if_rising n) (counted_ops.read start) ≡ Got (if rising then Some (record { n = n; at = at }) else None) end
  ops_end rising least at front i end le kept so_far =
      let read : read_each (λ _. op_grammar) count [] mid ≡ Got front end = is_done (λ _. op_grammar) front count i end (read_each (λ _. op_grammar) count [] mid) le so_far in
      rw (counted, read) (ap (λ (o : Option Clock). Got o end) (clock_is n at front rising kept.test kept.made))

  moved_fails : (e : WireError) → Fails e (read_each (λ _. op_grammar) count [] mid) → Fails e (mapped (clock_if_rising n) (counted_ops.read start))
  moved_fails (errors.Short a) h = rw (counted, h) refl
  moved_fails (errors.Bad a) h = rw (counted, h) refl
  moved_fails errors.NoMemory h = tt

  pub ops_fail : (e : WireError) (front : List Id) (i : ℕ) (from : Input) → i < count → Fails e (op_grammar.read from)
      → with_front (λ _. op_grammar) front (read_each (λ _. op_grammar) (count - i) front from) ≡ read_each (λ _. op_grammar) count [] mid
      → Fails e (mapped (clock_if_rising n) (counted_ops.read start))
  ops_fail e front i from lt h so_far = moved_fails e (fails (λ _. op_grammar) e front count i from (read_each (λ _. op_grammar) count [] mid) lt h so_far)

-- ---- what is written

last_append : (m : ℕ) (xs ys : List ℕ) → last_ops m (xs ++ ys) ≡ last_ops m xs ++ last_ops (m + length xs) ys
last_append m [] ys = ap (λ (k : ℕ). last_ops k ys) (omega arith)
last_append m (zero ∷ xs) ys = last_append (m + 1) xs ys ∙ ap (λ (k : ℕ). last_ops (m + 1) xs ++ last_ops k ys) (omega arith)
last_append m (suc x ∷ xs) ys = ap (λ (t : List Id). last_op m (suc x) ∷ t) (last_append (m + 1) xs ys ∙ ap (λ (k : ℕ). last_ops (m + 1) xs ++ last_ops k ys) (omega arith))

last_more : (entries : List ℕ) (i : ℕ) → i < length entries → last_ops 0 (take (i + 1) entries) ≡ last_ops 0 (take i entries) ++ last_ops i (slice_index entries i ∷ [])
last_more entries i lt =
    let many : length (take i entries) ≡ i = omega (arith, length-take i entries) in
    ap (last_ops 0) (take_more entries i 0 lt) ∙ last_append 0 (take i entries) (slice_index entries i ∷ []) ∙ ap (λ (k : ℕ). last_ops 0 (take i entries) ++ last_ops k (slice_index entries i ∷ [])) (omega (arith, many))

last_one : (m x : ℕ) → x ≢ 0 → last_ops m (x ∷ []) ≡ last_op m x ∷ []
last_one m zero h = absurd (h refl)
last_one m (suc x) h = refl

pub last_more_some : (entries : List ℕ) (i : ℕ) → i < length entries → slice_index entries i ≢ 0 → last_ops 0 (take (i + 1) entries) ≡ last_ops 0 (take i entries) ++ last_op i (slice_index entries i) ∷ []
last_more_some entries i lt h = last_more entries i lt ∙ ap (λ (t : List Id). last_ops 0 (take i entries) ++ t) (last_one i (slice_index entries i) h)

pub last_more_none : (entries : List ℕ) (i : ℕ) → i < length entries → slice_index entries i ≡ 0 → last_ops 0 (take (i + 1) entries) ≡ last_ops 0 (take i entries)
last_more_none entries i lt h = last_more entries i lt ∙ ap (λ (x : ℕ). last_ops 0 (take i entries) ++ last_ops i (x ∷ [])) h ∙ append-nil (last_ops 0 (take i entries))

pub known_are : (m : ℕ) (entries : List ℕ) → count_by (λ e. not (e == 0)) entries ≡ length (last_ops m entries)
known_are m [] = refl
known_are m (zero ∷ entries) = known_are (m + 1) entries
known_are m (suc e ∷ entries) =
    let some : (suc e == 0) ≡ false = grind (arith, nat_tests) in
    let one : ◌≡◌ {A = ℕ} (cond (not (suc e == 0)) 1 0) 1 = ap (λ (b : Bool). cond (not b) 1 0) some in
    omega (arith, sum_by-cons (λ x. cond (not (x == 0)) 1 0) (suc e) entries, known_are (m + 1) entries, one)

-- a member and its entry behind what was written
pub op_put : (start mid one two : ByteOut) (front : List ℕ) (ids : List Id) (id : Id) → mid ≡ wrote start (front ++ spell_each (λ _. op_grammar) (rules_of start) [] ids)
    → one ≡ wrote mid ((number 1).spell (rules_of mid) id.member) → two ≡ wrote one ((number 4).spell (rules_of one) id.seq)
    → two ≡ wrote start (front ++ spell_each (λ _. op_grammar) (rules_of start) [] (ids ++ id ∷ []))
op_put start mid one two front ids id before member seq =
    let r = rules_of start in
    let so_far = front ++ spell_each (λ _. op_grammar) r [] ids in
    let first = (number 1).spell r id.member in
    let second = (number 4).spell r id.seq in
    let behind : one ≡ wrote start (so_far ++ first) = member ∙ ap (λ (m : ByteOut). wrote m ((number 1).spell (rules_of m) id.member)) before ∙ wrote_more start so_far first in
    let all : (so_far ++ first) ++ second ≡ front ++ spell_each (λ _. op_grammar) r [] (ids ++ id ∷ []) =
    append_assoc so_far first second ∙ append_assoc front (spell_each (λ _. op_grammar) r [] ids) (first ++ second)
    ∙ ap (λ (t : List ℕ). front ++ t) (sym (spell_more (λ _. op_grammar) r ids [] id)) in
    seq ∙ ap (λ (m : ByteOut). wrote m ((number 4).spell (rules_of m) id.seq)) behind ∙ wrote_more start (so_far ++ first) second ∙ ap (wrote start) all
