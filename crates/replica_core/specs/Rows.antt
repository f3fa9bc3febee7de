-- Operations of a document with n members, whatever they do.
use Rattle.std.specs.Prelude.{ℕ, List, length, slice_set}
use Rattle.std.specs.List.{All}
use Rattle.vector_clock.specs.declared.clock.Clock.{Clock}
use Rattle.crdt_laws.specs.declared.small.Entry.{Entry}
use Rattle.crdt_laws.specs.Sets.{IsRising}
use Rattle.crdt_laws.specs.Tower.{IsStampOf, IsWithin}
use Rattle.replica_model.specs.Replica.{heard, heard_header, version}

-- the stamp is one of n members, and within the limit
pub record IsFrom {Op : Type 0} (n : ℕ) (e : Entry Op) : Type 0 where
  pub stamp : IsStampOf n e.stamp
  pub within : IsWithin e.stamp

-- operations of a document with n members, by key
pub record AreByKey {Op : Type 0} (n : ℕ) (xs : List (Entry Op)) : Type 0 where
  pub from : All (IsFrom n) xs
  pub rising : IsRising xs

-- the rows once the operations are in, which came with a header: the last is the own row
abbrev pub rows_after : {Op : Type 0} → List Clock → ℕ → ℕ → Clock → List (Entry Op) → List Clock
rows_after rows me sender header xs =
    let d = version (length rows) xs in
    slice_set (heard_header (heard rows xs) sender header d) me d
