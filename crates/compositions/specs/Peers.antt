-- Operations of one level of which none knew of another.
use Rattle.std.specs.Prelude.{◌≡◌, ℕ, List, All, AllPairs, IsTrue}
use Rattle.vector_clock.specs.Stamp.{are_concurrent, id_of}
use Rattle.crdt_laws.specs.declared.small.Entry.{Entry}
use Rattle.crdt_laws.specs.Sets.{AreIssued}
use Rattle.crdt_laws.specs.Tower.{Meaning, Lacks}

-- the operations may come next, after the state s, in a document with n members: they are of level l and concurrent to each other
pub record ArePeers {State Op : Type 0} (m : Meaning State Op) (n l : ℕ) (s : State) (xs : List (Entry Op)) : Type 0 where
  pub good : m.good n s
  pub issued : AreIssued m n xs
  pub fresh : All (λ x. Lacks m s (id_of x.stamp)) xs
  pub level : All (λ x. m.level x.op ≡ l) xs
  pub concurrent : AllPairs (λ x y. IsTrue (are_concurrent x.stamp y.stamp)) xs
