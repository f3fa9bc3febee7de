-- Tables of states and operations, the laws that a table may keep, and which of their cases it breaks.
use Rattle.std.specs.Prelude.{◌≡◌, ◌≢◌, ℕ, ◌+◌, ◌-◌, ◌*◌, ◌<◌, ◌≤◌, ◌⊎◌, ◌==◌, ◌&&◌, ◌||◌, Bool, true, IsTrue, nat_lt, nat_le, if◌then◌else◌, List, [], ◌∷◌, max, length, slice_index}
use Rattle.serde_json.specs.Data.{number, unsigned}
use Rattle.vector_clock.specs.declared.stamp.Stamp.{Stamp}
use Rattle.crdt_laws.specs.Tower.{Meaning, IsWithin}

-- A table of states, which are the numbers below `states`, and of operations, each with a level. The rows of `next` and `act`
-- stand one after another, a row for each operation.
pub record ActionTable : Type 0 where
  -- how many states there are
  pub states : ℕ
  -- the first state
  pub start : ℕ
  -- the level of each operation
  pub level : List ℕ
  -- for each operation, the state to which it leads from each state
  pub next : List ℕ
  -- for each operation, what each operation becomes when it acts on it
  pub act : List ℕ

-- the table of these parts
abbrev pub table_of : ℕ → ℕ → List ℕ → List ℕ → List ℕ → ActionTable
table_of states start level next act = record { states = states; start = start; level = level; next = next; act = act }

-- how many operations there are
abbrev pub op_count : ActionTable → ℕ
op_count t = length t.level

abbrev pub level_of : ActionTable → ℕ → ℕ
level_of t o = slice_index t.level o

-- the state to which the operation o leads from the state s
abbrev pub next_of : ActionTable → ℕ → ℕ → ℕ
next_of t s o = slice_index t.next (o * t.states + s)

-- what the operation x becomes when y acts on it
abbrev pub act_of : ActionTable → ℕ → ℕ → ℕ
act_of t y x = slice_index t.act (y * op_count t + x)

-- There are 1 to 32 states and operations, the first state is one of them, and each list has its length.
pub record HasSizes (t : ActionTable) : Type 0 where
  pub some_states : 1 ≤ t.states
  pub most_states : t.states ≤ 32
  pub some_ops : 1 ≤ op_count t
  pub most_ops : op_count t ≤ 32
  pub starts : t.start < t.states
  pub next_length : length t.next ≡ op_count t * t.states
  pub act_length : length t.act ≡ op_count t * op_count t

-- levels are 1 to 8
pub record HasLevels (t : ActionTable) : Type 0 where
  pub low : (o : ℕ) → o < op_count t → 1 ≤ level_of t o
  pub high : (o : ℕ) → o < op_count t → level_of t o ≤ 8

-- each number of the list is below n
abbrev pub EachBelow : List ℕ → ℕ → Type 0
EachBelow xs n = (i : ℕ) → i < length xs → slice_index xs i < n

-- each entry is a state or an operation of the table
pub record HasEntries (t : ActionTable) : Type 0 where
  pub next : EachBelow t.next t.states
  pub act : EachBelow t.act (op_count t)

-- what each table keeps
pub record IsTable (t : ActionTable) : Type 0 where
  pub sizes : HasSizes t
  pub levels : HasLevels t
  pub entries : HasEntries t

-- Of the entries of two lists, one after the other, that at this place is not below its limit. The places of the second list
-- count on from those of the first.
abbrev pub IsOutside : ℕ → ℕ → List ℕ → List ℕ → ℕ → Type 0
IsOutside states ops next act at = ((at < length next) × (states ≤ slice_index next at))
    ⊎ ((length next ≤ at) × (at < length next + length act) × (ops ≤ slice_index act (at - length next)))

-- the first such place
pub record IsFirstOutside (states ops : ℕ) (next act : List ℕ) (at : ℕ) : Type 0 where
  pub outside : IsOutside states ops next act at
  pub first : (i : ℕ) → i < at → ¬ IsOutside states ops next act i

-- ---- The five laws, each at one of its cases

-- Law 1. An operation that is acted on keeps its level, and changes only where the level of the acting one is greater.
pub record ActsUpward (t : ActionTable) (y x : ℕ) : Type 0 where
  pub level : level_of t (act_of t y x) ≡ level_of t x
  pub below : level_of t y ≤ level_of t x → act_of t y x ≡ x

-- Law 2. Two operations of one level lead to one state in either order.
abbrev pub Commute : ActionTable → ℕ → ℕ → ℕ → Type 0
Commute t x y s = level_of t x ≡ level_of t y → next_of t (next_of t s x) y ≡ next_of t (next_of t s y) x

-- Law 3. Of two operations of different levels the lower one may come second: then it is the one that the higher one acts on.
abbrev pub Exchange : ActionTable → ℕ → ℕ → ℕ → Type 0
Exchange t y x s = level_of t x < level_of t y → next_of t (next_of t s x) y ≡ next_of t (next_of t s y) (act_of t y x)

-- Law 4. Two operations of one level may act on a lower one in either order.
abbrev pub ActAlike : ActionTable → ℕ → ℕ → ℕ → Type 0
ActAlike t y v x =
    level_of t y ≡ level_of t v → level_of t x < level_of t y → act_of t y (act_of t v x) ≡ act_of t v (act_of t y x)

-- Law 5. Of three levels the highest may act first, on each of the two others, or last, on what has become of the lowest.
abbrev pub Distribute : ActionTable → ℕ → ℕ → ℕ → Type 0
Distribute t z y x =
    level_of t x < level_of t y → level_of t y < level_of t z
    → act_of t z (act_of t y x) ≡ act_of t (act_of t z y) (act_of t z x)

-- the table keeps the five laws, each at all states and operations
pub record KeepsLaws (t : ActionTable) : Type 0 where
  pub upward : (y x : ℕ) → y < op_count t → x < op_count t → ActsUpward t y x
  pub commute : (x y s : ℕ) → x < op_count t → y < op_count t → s < t.states → Commute t x y s
  pub exchange : (y x s : ℕ) → y < op_count t → x < op_count t → s < t.states → Exchange t y x s
  pub act_alike : (y v x : ℕ) → y < op_count t → v < op_count t → x < op_count t → ActAlike t y v x
  pub distribute : (z y x : ℕ) → z < op_count t → y < op_count t → x < op_count t → Distribute t z y x

-- ---- The cases of the laws, and the verdict

-- a law, by its number, at three places
pub record Case : Type 0 where
  pub law : ℕ
  pub a : ℕ
  pub b : ℕ
  pub c : ℕ

abbrev pub case_of : ℕ → ℕ → ℕ → ℕ → Case
case_of law a b c = record { law = law; a = a; b = b; c = c }

-- How many values the third place takes: the first law has two places alone, and its third is 0; the two next ones speak of
-- a state, and the last two of a third operation.
abbrev pub third_count : ActionTable → ℕ → ℕ
third_count t law = if law == 1 then 1 else (if nat_le law 3 then t.states else op_count t)

-- the case is one of the table's
pub record IsCase (t : ActionTable) (k : Case) : Type 0 where
  pub first_law : 1 ≤ k.law
  pub last_law : k.law ≤ 5
  pub a : k.a < op_count t
  pub b : k.b < op_count t
  pub c : k.c < third_count t k.law

-- the law of the case holds there
pub record Holds (t : ActionTable) (k : Case) : Type 0 where
  pub upward : k.law ≡ 1 → ActsUpward t k.a k.b
  pub commute : k.law ≡ 2 → Commute t k.a k.b k.c
  pub exchange : k.law ≡ 3 → Exchange t k.a k.b k.c
  pub act_alike : k.law ≡ 4 → ActAlike t k.a k.b k.c
  pub distribute : k.law ≡ 5 → Distribute t k.a k.b k.c

-- a case of the table where its law does not hold
pub record IsBroken (t : ActionTable) (k : Case) : Type 0 where
  pub case : IsCase t k
  pub fails : ¬ Holds t k

-- the order of cases: by law, and then by the places
abbrev pub is_earlier : Case → Case → Bool
is_earlier j k =
    nat_lt j.law k.law
    || ((j.law == k.law) && (nat_lt j.a k.a || ((j.a == k.a) && (nat_lt j.b k.b || ((j.b == k.b) && nat_lt j.c k.c)))))

-- the case is broken, and each other broken one comes later
pub record IsFirstBroken (t : ActionTable) (k : Case) : Type 0 where
  pub broken : IsBroken t k
  pub others : (j : Case) → IsBroken t j → j ≢ k → IsTrue (is_earlier k j)

-- ---- The tower of a table

-- an operation of the table, at a stamp that is within the limits
pub record IsOpAt (t : ActionTable) (p : Stamp) (o : ℕ) : Type 0 where
  pub within : IsWithin p
  pub op : o < op_count t

-- the greatest of the numbers, or 0 where there is none
abbrev pub greatest : List ℕ → ℕ
greatest [] = 0
greatest (x ∷ xs) = max x (greatest xs)

-- a state of the table, which operations lead on, and which is shown as its number
abbrev pub table_meaning : ActionTable → Meaning ℕ ℕ
table_meaning t = record {
  top = greatest t.level;
  level = level_of t;
  well_formed = λ o. o < op_count t;
  valid = IsOpAt t;
  init = t.start;
  apply = λ s _ o. next_of t s o;
  act = act_of t;
  settle = λ s _. s;
  show = λ s. number (unsigned s);
  good = λ _ s. s < t.states;
  good_at = λ _ s. s < t.states;
  holds = λ _ _. ⊥;
  sparing = true;
  plain = true;
}
