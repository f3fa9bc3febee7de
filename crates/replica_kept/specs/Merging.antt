-- When a batch is refused, whoever made it.
use Rattle.std.specs.Prelude.{◌≡◌, ℕ, ◌<◌, ◌≤◌, ◌^◌, ◌++◌, ◌==◌, List, ◌∷◌, fold, length, max, if◌then◌else◌}
use Rattle.std.specs.List.{All, Any}
use Rattle.vector_clock.specs.declared.clock.Id.{Id}
use Rattle.vector_clock.specs.Clock.{count}
use Rattle.vector_clock.specs.Stamp.{id_of}
use Rattle.crdt_laws.specs.declared.small.Entry.{Entry}
use Rattle.crdt_laws.specs.Sets.{AreApart, IsRising}
use Rattle.crdt_laws.specs.Tower.{Meaning, IsStampOf}
use Rattle.replica_model.specs.Replica.{Batch}
use Rattle.forgetting_model.specs.Ledger.{Ledger, own_row}
use Rattle.forgetting_model.specs.Turns.{ledger_absorbed}
use Rattle.replica_kept.specs.Sound.{IsRow, burden, max_burden}
use Rattle.replica_kept.specs.declared.refusal.Refusal.{Refusal}
use Rattle.replica_kept.specs.declared.refusal.Refusal.TheVariants.{SeqFull, BadOp, Rollback, Fork, Full, NoMemory}

-- A batch of a document with n members, by key, no two operations of one id, which may be counted in 32 bits. Its operations
-- need not be valid.
pub record IsBatchOf {Op : Type 0} (n : ℕ) (b : Batch Op) : Type 0 where
  pub sender : b.sender < n
  pub header : IsRow n b.header
  pub stamped : All (λ e. IsStampOf n e.stamp) b.ops
  pub rising : IsRising b.ops
  pub apart : AreApart b.ops
  pub few : length b.ops < 2 ^ 32

-- the id is that of the first operation of which P holds
pub record IsFirst {Op : Type 0} (P : Entry Op → Type 0) (xs : List (Entry Op)) (i : Id) : Type 0 where
  pub before : List (Entry Op)
  pub first : Entry Op
  pub after : List (Entry Op)
  pub all : xs ≡ before ++ first ∷ after
  pub none : All (λ e. P e → ⊥) before
  pub holds : P first
  pub id : id_of first.stamp ≡ i

-- how many operations the own member has made
abbrev pub own_seq : {Op : Type 0} → Ledger Op → ℕ
own_seq l = count (own_row l) l.me

-- the greatest number of an operation of the member, and 0 where there is none
abbrev pub last_of : {Op : Type 0} → ℕ → List (Entry Op) → ℕ
last_of j xs = fold (λ k e. if e.stamp.member == j then max k (count e.stamp.clock e.stamp.member) else k) 0 xs

-- the list has another operation of the same id: its clock or its body is another
abbrev pub HasOther : {Op : Type 0} → List (Entry Op) → Entry Op → Type 0
HasOther xs e = Any (λ f. (id_of f.stamp ≡ id_of e.stamp) × (f ≡ e → ⊥)) xs

-- of its id the list has the operation itself, or none
abbrev pub HasNoOther : {Op : Type 0} → List (Entry Op) → Entry Op → Type 0
HasNoOther xs e = All (λ f. id_of f.stamp ≡ id_of e.stamp → f ≡ e) xs

module _ {State Op : Type 0} (m : Meaning State Op) where
  abbrev pub AreValid : List (Entry Op) → Type 0
  AreValid xs = All (λ e. m.valid e.stamp e.op) xs

  -- The operations may stand at their stamps, the own ones among them are in, and of each id that is kept it is the same one.
  pub record IsFaultless (l : Ledger Op) (b : Batch Op) : Type 0 where
    pub valid : AreValid b.ops
    pub own : last_of l.me b.ops ≤ own_seq l
    pub same : All (HasNoOther (l.log ++ l.waiting)) b.ops

  -- Why a batch is refused. Of these causes the first one is given, with the first operation by key.
  abbrev pub IsMergeCause : Ledger Op → Batch Op → Refusal → Type 0
  IsMergeCause l b (SeqFull seq) = ⊥
  IsMergeCause l b (BadOp i) = IsFirst (λ e. m.valid e.stamp e.op → ⊥) b.ops i
  IsMergeCause l b (Rollback mine got) = AreValid b.ops × (mine ≡ own_seq l) × (got ≡ last_of l.me b.ops) × (mine < got)
  IsMergeCause l b (Fork i) = AreValid b.ops × (last_of l.me b.ops ≤ own_seq l) × IsFirst (HasOther (l.log ++ l.waiting)) b.ops i
  IsMergeCause l b (Full c) = IsFaultless l b × (c ≡ burden (ledger_absorbed l b)) × (max_burden < c)
  IsMergeCause l b NoMemory = ⊥

  -- no cause holds
  pub record MayAbsorb (l : Ledger Op) (b : Batch Op) : Type 0 where
    pub faultless : IsFaultless l b
    pub few : burden (ledger_absorbed l b) ≤ max_burden
