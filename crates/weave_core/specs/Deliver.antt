-- Operations woven in as they arrive, and what stands for a set of them.
use Rattle.std.specs.Prelude.{ℕ, List, [], ◌∷◌, ◌++◌, map, Bool, nat_le, if◌then◌else◌, IsTrue, IsFalse}
use Rattle.std.specs.List.{All, filter, fold}
use Rattle.vector_clock.specs.declared.clock.Clock.{Clock}
use Rattle.vector_clock.specs.Stamp.{id_of, same_id}
use Rattle.crdt_laws.specs.declared.small.Entry.{Entry}
use Rattle.crdt_laws.specs.Tower.{Meaning, IsIssued, Lacks}
use Rattle.crdt_laws.specs.Present.{acted, present, forms, document}
use Rattle.crdt_laws.specs.Sets.{place, canonical, beyond, AreApart, IsRising, AreIssued}

-- a state, and the present forms of the operations that led to it and can act on others
pub record Weave (State Op : Type 0) : Type 0 where
  pub state : State
  pub history : List (Entry Op)

module _ {State Op : Type 0} (m : Meaning State Op) where
  -- whether the operation can act on others
  abbrev pub is_high : Entry Op → Bool
  is_high x = nat_le 2 (m.level x.op)

  -- nothing has arrived
  abbrev pub nothing : Weave State Op
  nothing = record { state = m.init; history = [] }

  -- once an operation is in, which is applied in the form x
  unfoldable pub woven_with : Weave State Op → Entry Op → Weave State Op
  woven_with w x =
      record {
        state = m.apply w.state x.stamp x.op;
        history = if is_high x then place x (map (acted m x) w.history) else map (acted m x) w.history;
      }

  -- once x has arrived
  abbrev pub deliver : Weave State Op → Entry Op → Weave State Op
  deliver w x = woven_with w (present m w.history x)

  -- what the arrivals of xs leave, one after the other
  abbrev pub weave_all : List (Entry Op) → Weave State Op
  weave_all xs = fold deliver nothing xs

  -- what stands for a set of operations
  abbrev pub stands_for : List (Entry Op) → Weave State Op
  stands_for xs = record { state = document m (canonical xs); history = filter is_high (forms m (canonical xs)) }

  -- the state settled at the clock, and the history without what the clock covers
  abbrev pub trim : Weave State Op → Clock → Weave State Op
  trim w k = record { state = m.settle w.state k; history = beyond k w.history }

  -- what each state and history of a document with n members keeps
  pub record IsWell (n : ℕ) (w : Weave State Op) : Type 0 where
    pub good : m.good n w.state
    pub issued : AreIssued m n w.history
    pub high : All (λ e. IsTrue (is_high e)) w.history
    pub rising : IsRising w.history

  -- x may arrive
  pub record MayArrive (w : Weave State Op) (x : Entry Op) : Type 0 where
    pub well : IsWell x.stamp.clock.n w
    pub issued : IsIssued m x.stamp.clock.n x.stamp x.op
    pub fresh : Lacks m w.state (id_of x.stamp)
    pub new : All (λ e. IsFalse (same_id x.stamp e.stamp)) w.history

-- operations of a document in canonical order, which may be applied to the state one after another
pub record IsRun {State Op : Type 0} (m : Meaning State Op) (s : State) (es : List (Entry Op)) : Type 0 where
  pub members : ℕ
  pub good : m.good members s
  pub issued : AreIssued m members es
  pub rising : IsRising es
  pub apart : AreApart es
  pub fresh : All (λ e. Lacks m s (id_of e.stamp)) es

-- the forms that are kept once x is in, which comes after all of them
unfoldable pub kept_with : {State Op : Type 0} → Meaning State Op → List (Entry Op) → Entry Op → List (Entry Op)
kept_with m es x = map (acted m (present m es x)) es ++ (if is_high m (present m es x) then present m es x ∷ [] else [])
