-- Clocks, in the two forms in which they are spelled.
use Rattle.std.specs.Prelude.{ℕ, zero, suc, ◌+◌, ◌-◌, ◌&&◌, Bool, true, if◌then◌else◌, Option, Some, None, List, [], ◌∷◌, ◌++◌, take, replicate, slice_set, nat_le, nat_lt}
use Rattle.std.specs.List.{list_all}
use Rattle.vector_clock.specs.declared.clock.Clock.{Clock}
use Rattle.vector_clock.specs.declared.clock.Id.{Id}
use Rattle.vector_clock.specs.Clock.{max_members, max_seq}
use Rattle.wire_core.specs.declared.form.ClockForm.{ClockForm}
use Rattle.wire_core.specs.declared.form.ClockForm.TheVariants.{Dense, Sparse}
use Rattle.wire_core.specs.Reading.{Grammar, number, chain, made, tested, repeated, counted, by_rules}

-- the clock of n members with these entries, and the entries of a clock
abbrev pub clock_of : ℕ → List ℕ → Clock
clock_of n entries = record { n = n; at = entries ++ replicate (max_members - n) 0 }

abbrev pub entries_of : ℕ → Clock → List ℕ
entries_of n c = take n c.at

-- ---- every entry

-- an entry of each member
abbrev pub all_entries : ℕ → Grammar (List ℕ)
all_entries n = repeated (λ _. number 4) n []

-- no entry is above the limit
abbrev pub are_within : List ℕ → Bool
are_within entries = list_all (λ e. nat_le e max_seq) entries

-- n times an entry up to the greatest sequence number
abbrev pub dense_entries : ℕ → Grammar (List ℕ)
dense_entries n = tested (λ _. are_within) (all_entries n)

-- ---- only the entries that are not 0, each as the id of the member's last operation that is known

abbrev pub last_op : ℕ → ℕ → Id
last_op member seq = record { member = member; seq = seq }

-- of the entries of the members from m on, those that are not 0
abbrev pub last_ops : ℕ → List ℕ → List Id
last_ops m [] = []
last_ops m (zero ∷ entries) = last_ops (m + 1) entries
last_ops m (suc e ∷ entries) = last_op m (suc e) ∷ last_ops (m + 1) entries

-- the entries, with these in their members' places
abbrev pub with_ops : List ℕ → List Id → List ℕ
with_ops entries [] = entries
with_ops entries (id ∷ ids) = with_ops (slice_set entries id.member id.seq) ids

-- a member of n, from m on, and a sequence number
abbrev pub is_op_from : ℕ → ℕ → Id → Bool
is_op_from n m id = (nat_le m id.member && nat_lt id.member n) && (nat_le 1 id.seq && nat_le id.seq max_seq)

-- the members rise strictly
abbrev pub are_rising : ℕ → ℕ → List Id → Bool
are_rising n m [] = true
are_rising n m (id ∷ ids) = is_op_from n m id && are_rising n (id.member + 1) ids

abbrev pub op_grammar : Grammar Id
op_grammar = made (λ p. last_op p.0 p.1) (λ id. (id.member, id.seq)) (chain (number 1) (λ _. number 4))

-- a count, and so many members with their entries
abbrev pub counted_ops : Grammar (List Id)
counted_ops = counted (λ _. op_grammar) (number 1)

-- a count, and so many times a member below n and an entry from 1 to the greatest sequence number, the members strictly rising
abbrev pub sparse_entries : ℕ → Grammar (List ℕ)
sparse_entries n = made (with_ops (replicate n 0)) (last_ops 0) (tested (λ _. are_rising n 0) counted_ops)

-- the clock of n members whose operations these are, if they rise
abbrev pub clock_if_rising : ℕ → List Id → Option Clock
clock_if_rising n ids = if are_rising n 0 ids then Some (clock_of n (with_ops (replicate n 0) ids)) else None

-- ---- by the form that stands

abbrev pub entries_by_form : ClockForm → ℕ → Grammar (List ℕ)
entries_by_form Dense n = dense_entries n
entries_by_form Sparse n = sparse_entries n

-- a clock of n members
abbrev pub clock_by_form : ClockForm → ℕ → Grammar Clock
clock_by_form f n = made (clock_of n) (entries_of n) (entries_by_form f n)

abbrev pub clock_grammar : Grammar Clock
clock_grammar = by_rules (λ r. clock_by_form r.form r.members)
