-- What an actor means over a tower, and the laws that it keeps there.
use Rattle.std.specs.Prelude.{◌≡◌, ℕ, ◌<◌, ◌⊎◌, Bool, IsTrue}
use Rattle.vector_clock.specs.declared.clock.Clock.{Clock}
use Rattle.vector_clock.specs.declared.stamp.Stamp.{Stamp}
use Rattle.vector_clock.specs.Clock.{IsAtMost, covers}
use Rattle.vector_clock.specs.Stamp.{IsStamp, IsAfter, id_of}
use Rattle.crdt_laws.specs.Tower.{Meaning, IsIssued, IsStampOf, IsWithin, Lacks, Agrees, MaySwap}

-- the calls of an actor over one tower as functions, and what its operations keep
pub record Action (State Low Op : Type 0) : Type 1 where
  -- the operation may stand at some stamp
  pub well_formed : Op → Type 0
  -- the operation may stand at this stamp
  pub valid : Stamp → Op → Type 0
  -- the tower's state after an operation that was issued at this stamp
  pub apply : State → Stamp → Op → State
  -- what an operation of the tower becomes when the actor's acts on it
  pub act : Op → Low → Low
  -- apply, act and copy never run out of memory
  pub sparing : Bool

-- the actor's operation y was issued at the stamp p, in a document with n members
pub record IsActing {State Low Op : Type 0} (a : Action State Low Op) (n : ℕ) (p : Stamp) (y : Op) : Type 0 where
  pub stamp : IsStampOf n p
  pub valid : a.valid p y

-- y was issued at some stamp, in a document with n members
pub record WasActing {State Low Op : Type 0} (a : Action State Low Op) (n : ℕ) (y : Op) : Type 0 where
  pub at : Stamp
  pub issued : IsActing a n at y

-- What an actor must keep over a lawful tower, so that its operations may stand as one more level above it. No law asks
-- that the actor's operations act on each other: they are of one level.
pub record IsLawfulAction {State Low Op : Type 0} (m : Meaning State Low) (a : Action State Low Op) : Type 0 where
  -- A valid operation knows only sequence numbers within the limit. Without it clocks outgrow their entries.
  pub valid_within : (p : Stamp) (y : Op) → a.valid p y → IsWithin p
  -- What may stand at this stamp may stand at some stamp. Without it an operation that was issued might not act.
  pub valid_well_formed : (p : Stamp) (y : Op) → a.valid p y → a.well_formed y
  -- An operation that is acted on keeps its level. Without it the order of the levels would change with what is concurrent.
  pub level-act : (y : Op) (x : Low) → a.well_formed y → m.well_formed x → m.level (a.act y x) ≡ m.level x
  -- An operation that is acted on may still stand at some stamp. Without it nothing further could act on it.
  pub well_formed-act : (y : Op) (x : Low) → a.well_formed y → m.well_formed x → m.well_formed (a.act y x)
  -- And it may stand at the stamp at which it stood. Without it the form in which it is present could not be applied. The
  -- operation that acts was issued in a document of as many members.
  pub valid-act : (p : Stamp) (y : Op) (x : Low) → IsStamp p → WasActing a p.clock.n y → m.valid p x → m.valid p (a.act y x)
  -- Two concurrent operations of the actor may be applied in either order. Without it replicas that heard them in different
  -- orders differ.
  pub commute : (n : ℕ) (s : State) (p q : Stamp) (x y : Op) → MaySwap m n s p q → IsActing a n p x → IsActing a n q y
      → a.apply (a.apply s p x) q y ≡ a.apply (a.apply s q y) p x
  -- An operation x of the tower and then a concurrent one of the actor give the state of the actor's and then what has become
  -- of x. Without it an operation that comes late leaves another state than one that came in time.
  pub exchange : (n : ℕ) (s : State) (p q : Stamp) (x : Low) (y : Op) → MaySwap m n s p q → IsIssued m n p x → IsActing a n q y
      → a.apply (m.apply s p x) q y ≡ m.apply (a.apply s q y) p (a.act y x)
  -- Two operations of the actor may act in either order. Without it what has become of an operation depends on which was heard
  -- first.
  pub act-act : (y v : Op) (x : Low) → a.well_formed y → a.well_formed v → m.well_formed x → a.act y (a.act v x) ≡ a.act v (a.act y x)
  -- The actor may act on each of two operations of the tower before the higher acts on the lower, or on what has become of the
  -- lower. Without it three concurrent operations of three levels may end in as many states as they have orders.
  pub distribute : (z : Op) (y x : Low) → a.well_formed z → m.well_formed y → m.well_formed x → m.level x < m.level y
      → a.act z (m.act y x) ≡ m.act (a.act z y) (a.act z x)
  -- Settling may come before or after an operation that knows all that the clock covers and is not covered itself. Without it
  -- a replica that has settled goes on to another state than one that has not.
  pub settle-apply : (n : ℕ) (s : State) (k : Clock) (p : Stamp) (y : Op) → m.good n s → Agrees m s k
      → IsActing a n p y → Lacks m s (id_of p) → IsAfter k p → m.settle (a.apply s p y) k ≡ a.apply (m.settle s k) p y
  -- An issued operation whose id the state does not hold keeps the state good. Without it nothing more could be applied.
  pub good-apply : (n : ℕ) (s : State) (p : Stamp) (y : Op) → m.good n s → IsActing a n p y → Lacks m s (id_of p) → m.good n (a.apply s p y)
  -- An operation that the clock covers, and which knows no more than the clock, brings no other ids into the state. Without
  -- it a saved state might refer to an operation that its file does not know.
  pub good_at-apply : (d : Clock) (s : State) (p : Stamp) (y : Op) → m.good_at d s → IsActing a d.n p y → Lacks m s (id_of p)
      → IsAtMost p.clock d → IsTrue (covers d (id_of p)) → m.good_at d (a.apply s p y)
  -- An operation adds no other stamp to those that the state holds than its own. Without it a new operation might be taken
  -- for one that is held.
  pub holds-apply : (s : State) (p : Stamp) (y : Op) (q : Stamp) → m.holds (a.apply s p y) q → (q ≡ p) ⊎ m.holds s q
