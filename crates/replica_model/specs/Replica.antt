-- The replica of a document: two sets of operations, and what each member is known to have.
use Rattle.std.specs.Prelude.{ℕ, ◌+◌, List, [], ◌∷◌, not, nat_le, Option, None, Some, filter, fold, length, replicate, slice_index_or, slice_set, if◌then◌else◌}
use Rattle.vector_clock.specs.declared.clock.Clock.{Clock}
use Rattle.vector_clock.specs.declared.stamp.Stamp.{Stamp}
use Rattle.vector_clock.specs.Clock.{count, join, meet, with_entry, zero_clock}
use Rattle.crdt_laws.specs.declared.small.Entry.{Entry}
use Rattle.crdt_laws.specs.Entry.{entry}
use Rattle.crdt_laws.specs.Sets.{beyond, has_all_of, place, union}

pub record Replica (Op : Type 0) : Type 0 where
  -- the text of the document's schema
  pub doc : List ℕ
  -- the member whose replica this is
  pub me : ℕ
  -- the operations that are in, by key
  pub delivered : List (Entry Op)
  -- those that wait for what they knew of, by key
  pub waiting : List (Entry Op)
  -- for each member, what it is known to have
  pub known : List Clock

pub record Batch (Op : Type 0) : Type 0 where
  pub doc : List ℕ
  pub sender : ℕ
  -- what the sender had
  pub header : Clock
  pub ops : List (Entry Op)

abbrev pub members : {Op : Type 0} → Replica Op → ℕ
members r = length r.known

-- the row of a member
abbrev pub row : List Clock → ℕ → Clock
row rows j = slice_index_or rows j (zero_clock 1)

-- What a set of operations knows of, in a document with n members: the join of its clocks.
-- For a causally closed set, each id once, this is the number of operations of each member.
abbrev pub version : {Op : Type 0} → ℕ → List (Entry Op) → Clock
version n xs = fold (λ k e. join k e.stamp.clock) (zero_clock n) xs

-- the meet of clocks, of which there is one at least
abbrev pub meet_all : List Clock → Clock
meet_all [] = zero_clock 1
meet_all (k ∷ ks) = fold meet k ks

-- what each member is known to have
abbrev pub floor : {Op : Type 0} → Replica Op → Clock
floor r = meet_all r.known

-- a replica that has nothing
unfoldable pub new_replica : {Op : Type 0} → List ℕ → ℕ → ℕ → Replica Op
new_replica doc me n = record { doc = doc; me = me; delivered = []; waiting = []; known = replicate n (zero_clock n) }

-- the stamp of the member's next operation: all that is in, and one more of its own
abbrev pub next_stamp : {Op : Type 0} → Replica Op → Stamp
next_stamp r =
    let k = version (members r) r.delivered in
    record { member = r.me; clock = with_entry k r.me (count k r.me + 1) }

-- the replica after an operation of its own member
unfoldable pub edited : {Op : Type 0} → Replica Op → Op → Replica Op
edited r op =
    let xs = place (entry (next_stamp r) op) r.delivered in
    record { doc = r.doc; me = r.me; delivered = xs; waiting = r.waiting; known = slice_set r.known r.me (version (members r) xs) }

-- what an export leaves out: what all members are known to have, or what the one is that it is for
abbrev pub left_out : {Op : Type 0} → Replica Op → Option ℕ → Clock
left_out r None = floor r
left_out r (Some j) = row r.known j

unfoldable pub exported : {Op : Type 0} → Replica Op → Option ℕ → Batch Op
exported r to =
    record { doc = r.doc; sender = r.me; header = version (members r) r.delivered; ops = beyond (left_out r to) r.delivered }

-- all operations that the replica has once the batch has come
unfoldable pub pooled : {Op : Type 0} → Replica Op → Batch Op → List (Entry Op)
pooled r b = union (union r.delivered r.waiting) b.ops

-- those that know only of operations among them, and the others
abbrev pub ready : {Op : Type 0} → List (Entry Op) → List (Entry Op)
ready all = filter (λ e. has_all_of all e.stamp.clock) all

abbrev pub unready : {Op : Type 0} → List (Entry Op) → List (Entry Op)
unready all = filter (λ e. not (has_all_of all e.stamp.clock)) all

-- the rows, each joined with the clocks of that member's operations
abbrev pub heard_op : {Op : Type 0} → List Clock → Entry Op → List Clock
heard_op rows e = slice_set rows e.stamp.member (join (row rows e.stamp.member) e.stamp.clock)

abbrev pub heard : {Op : Type 0} → List Clock → List (Entry Op) → List Clock
heard rows xs = fold heard_op rows xs

-- The sender's row is joined with its header, but only where all operations of the sender that the header counts are in.
abbrev pub heard_header : List Clock → ℕ → Clock → Clock → List Clock
heard_header rows sender h d =
    if nat_le (count h sender) (count d sender) then slice_set rows sender (join (row rows sender) h) else rows

-- the replica after a batch
unfoldable pub merged : {Op : Type 0} → Replica Op → Batch Op → Replica Op
merged r b =
    let xs = ready (pooled r b) in
    let d = version (members r) xs in
    record {
      doc = r.doc;
      me = r.me;
      delivered = xs;
      waiting = unready (pooled r b);
      known = slice_set (heard_header (heard r.known xs) b.sender b.header d) r.me d;
    }
