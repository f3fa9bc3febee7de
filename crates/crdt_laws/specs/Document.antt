-- What making a document asks of the operations, and its loop invariant.
use Rattle.std.specs.Prelude.{ℕ, Bool, ◌&&◌, ◌==◌, ◌⊎◌, List, IsTrue}
use Rattle.vector_clock.specs.declared.stamp.Stamp.{Stamp}
use Rattle.vector_clock.specs.Stamp.{are_concurrent, id_of}
use Rattle.crdt_laws.specs.declared.small.Entry.{Entry}
use Rattle.crdt_laws.specs.Tower.{Meaning, IsIssued, Lacks}
use Rattle.crdt_laws.specs.Sets.{AreApart, AreIssued}

-- whether the entry has the level and is concurrent to the stamp
abbrev pub is_at : {State Op : Type 0} → Meaning State Op → ℕ → Stamp → Entry Op → Bool
is_at m l p e = (m.level e.op == l) && are_concurrent e.stamp p

-- The operations are of one document, and no two have one id. Where states hold no stamps, ids do not matter.
pub record MakesDocument {State Op : Type 0} (m : Meaning State Op) (xs : List (Entry Op)) : Type 0 where
  pub members : ℕ
  pub issued : AreIssued m members xs
  pub apart : IsTrue m.plain ⊎ AreApart xs

-- x may be applied next, where s is the state and es are the forms so far
pub record MayFollow {State Op : Type 0} (m : Meaning State Op) (s : State) (es : List (Entry Op)) (x : Entry Op) : Type 0 where
  pub good : m.good x.stamp.clock.n s
  pub forms : AreIssued m x.stamp.clock.n es
  pub issued : IsIssued m x.stamp.clock.n x.stamp x.op
  pub fresh : Lacks m s (id_of x.stamp)
