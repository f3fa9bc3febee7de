-- Clocks are read and spelled exactly, in both forms.
use Rattle.std.proofs.Common.{◌≡◌, ℕ, zero, suc, ◌+◌, ◌<◌, ◌≤◌, Bool, true, false, ◌&&◌, List, [], ◌∷◌, ◌++◌, length, replicate, nat_le, nat_lt, set, refl, sym, ap, subst, ◌∙◌, append_assoc, arith, inl, inr}
use Rattle.std.proofs.lemmas.List.{length-append, length-replicate}
use Rattle.std.proofs.lemmas.Bool.{ltb-true, leb-true, false≢true, cases_lt}
use Rattle.std.proofs.lemmas.Bool.Decides.{nat_tests}
use Rattle.std.proofs.Math.Seq.{set-append_seam}
use Rattle.vector_clock.specs.declared.clock.Id.{Id}
use Rattle.vector_clock.specs.Clock.{max_seq}
use Rattle.wire_core.specs.declared.form.ClockForm.{ClockForm}
use Rattle.wire_core.specs.declared.form.ClockForm.TheVariants.{Dense, Sparse}
use Rattle.wire_core.specs.Reading.{Rules, IsExact, number}
use Rattle.wire_core.specs.Exact.{number_exact, tested_exact, made_exact, repeated_exact, counted_exact, chain_exact}
use Rattle.wire_core.specs.Clocks.{all_entries, are_within, dense_entries, last_op, last_ops, with_ops, is_op_from, are_rising, op_grammar, counted_ops, sparse_entries, entries_by_form}

pub both : (a b : Bool) → (a && b) ≡ true → (a ≡ true) × (b ≡ true)
both true b h = (refl, h)
both false b h = absurd (false≢true h)

-- an id that keeps its rule
pub op_from : (n m : ℕ) (id : Id) → is_op_from n m id ≡ true → (m ≤ id.member) × (id.member < n) × (1 ≤ id.seq) × (id.seq ≤ max_seq)
op_from n m id h =
    let sides = both (nat_le m id.member && nat_lt id.member n) (nat_le 1 id.seq && nat_le id.seq max_seq) h in
    let member = both (nat_le m id.member) (nat_lt id.member n) sides.0 in
    let seq = both (nat_le 1 id.seq) (nat_le id.seq max_seq) sides.1 in
    (leb-true m id.member member.0, ltb-true id.member n member.1, leb-true 1 id.seq seq.0, leb-true id.seq max_seq seq.1)

later_op : (n m : ℕ) (id : Id) → is_op_from n m id ≡ true → m < id.member → is_op_from n (m + 1) id ≡ true
later_op n m id h lt = let p = op_from n m id h in let member = p.1 in let some = p.2 in let most = p.3 in grind (arith, nat_tests)

-- an entry that is not 0
one_op : (m e : ℕ) (entries : List ℕ) → 1 ≤ e → last_ops m (e ∷ entries) ≡ last_op m e ∷ last_ops (m + 1) entries
one_op m zero entries h = absurd (omega arith)
one_op m (suc e) entries h = refl

none_in : (m k : ℕ) → last_ops m (replicate k 0) ≡ []
none_in m zero = refl
none_in m (suc k) = none_in (m + 1) k

one_longer : (before : List ℕ) (x m : ℕ) → length before ≡ m → length (before ++ x ∷ []) ≡ m + 1
one_longer before x m e = omega (arith, length-append before (x ∷ []), e)

-- what the zeros of k members behind those before become: entries of which these are not 0
pub record IsMade (before : List ℕ) (m k : ℕ) (ids : List Id) : Type 0 where
  pub entries : List ℕ
  pub many : length entries ≡ k
  pub is : with_ops (before ++ replicate k 0) ids ≡ before ++ entries
  pub back : last_ops m entries ≡ ids

pub makes : (n : ℕ) (before : List ℕ) (m k : ℕ) (ids : List Id) → length before ≡ m → m + k ≡ n → are_rising n m ids ≡ true → IsMade before m k ids
makes n before m k [] len e h = record { entries = replicate k 0; many = length-replicate {A = ℕ} k 0; is = refl; back = none_in m k }
makes n before m zero (id ∷ ids) len e h =
    let sides = both (is_op_from n m id) (are_rising n (id.member + 1) ids) h in
    let here = op_from n m id sides.0 in
    absurd (omega (arith, here.0, here.1))
makes n before m (suc k) (id ∷ ids) len e h =
    let sides = both (is_op_from n m id) (are_rising n (id.member + 1) ids) h in
    let here = op_from n m id sides.0 in
    elim (cases_lt m id.member) [
      | inl later ↦
          let rising : are_rising n (m + 1) (id ∷ ids) ≡ true = rw (later_op n m id sides.0 later) sides.1 in
          let rest = makes n (before ++ 0 ∷ []) (m + 1) k (id ∷ ids) (one_longer before 0 m len) (omega arith) rising in
          record {
            entries = 0 ∷ rest.entries;
            many = omega (arith, rest.many);
            is = ap (λ (t : List ℕ). with_ops t (id ∷ ids)) (sym (append_assoc before (0 ∷ []) (replicate k 0))) ∙ rest.is ∙ append_assoc before (0 ∷ []) rest.entries;
            back = rest.back;
          }
      | inr le ↦
          let there : id.member ≡ m = omega (arith, here.0, le) in
          let rising : are_rising n (m + 1) ids ≡ true = subst (λ (k : ℕ). are_rising n (k + 1) ids ≡ true) there sides.1 in
          let rest = makes n (before ++ id.seq ∷ []) (m + 1) k ids (one_longer before id.seq m len) (omega arith) rising in
          let put : set (before ++ 0 ∷ replicate k 0) id.member id.seq ≡ (before ++ id.seq ∷ []) ++ replicate k 0 =
          ap (λ (i : ℕ). set (before ++ 0 ∷ replicate k 0) i id.seq) (there ∙ sym len) ∙ set-append_seam before 0 (replicate k 0) id.seq ∙ sym (append_assoc before (id.seq ∷ []) (replicate k 0)) in
          let same : last_op m id.seq ≡ id = ap (λ (i : ℕ). last_op i id.seq) (sym there) in
          record {
            entries = id.seq ∷ rest.entries;
            many = omega (arith, rest.many);
            is = ap (λ (t : List ℕ). with_ops t ids) put ∙ rest.is ∙ append_assoc before (id.seq ∷ []) rest.entries;
            back = one_op m id.seq rest.entries here.2 ∙ ap (λ (t : List Id). last_op m id.seq ∷ t) rest.back ∙ ap (λ (o : Id). o ∷ ids) same;
          }
    ]

-- operations that rise are found again
pub found_again : (n : ℕ) (ids : List Id) → are_rising n 0 ids ≡ true → (last_ops 0 (with_ops (replicate n 0) ids) ≡ ids) × (length (with_ops (replicate n 0) ids) ≡ n)
found_again n ids h =
    let m = makes n [] 0 n ids refl (omega arith) h in
    (ap (last_ops 0) m.is ∙ m.back, ap length m.is ∙ m.many)

-- ---- exactness

pub dense_exact : (n : ℕ) → IsExact (dense_entries n)
dense_exact n = tested_exact (λ _. are_within) (all_entries n) (repeated_exact (λ _. number 4) (λ _. number_exact 4) n [])

op_exact : IsExact op_grammar
op_exact = made_exact _ _ _ (chain_exact (number 1) (λ _. number 4) (number_exact 1) (λ _. number_exact 4)) (λ r p a. refl)

pub sparse_exact : (n : ℕ) → IsExact (sparse_entries n)
sparse_exact n = made_exact (with_ops (replicate n 0)) (last_ops 0) _ (tested_exact (λ _. are_rising n 0) counted_ops (counted_exact (λ _. op_grammar) (λ _. op_exact) (number 1) (number_exact 1)))
    (λ r ids a. (found_again n ids a.1).0)

-- what is allowed has an entry of each member
pub entries_many : (f : ClockForm) (n : ℕ) (r : Rules) (entries : List ℕ) → (entries_by_form f n).allows r entries → length entries ≡ n
entries_many Dense n r entries h = h.0.0
entries_many Sparse n r entries h = ap length (sym h.1) ∙ (found_again n (last_ops 0 entries) h.0.1).1

pub entries_exact : (f : ClockForm) (n : ℕ) → IsExact (entries_by_form f n)
entries_exact Dense n = dense_exact n
entries_exact Sparse n = sparse_exact n
