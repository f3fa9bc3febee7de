-- The replica after a merge.
use Rattle.std.proofs.Common.{List, [], ◌∷◌, ◌++◌, ◌≡◌, ℕ, ◌<◌, true, false, cond, length, ap, ap₂, ◌∙◌, refl, sym, subst, arith}
use Rattle.std.specs.Prelude.{nat_le}
use Rattle.std.specs.List.{All, AllByRecursion}
use Rattle.std.proofs.Math.ListN.{set}
use Rattle.std.proofs.lemmas.List.{get_or-set_same, length-set}
use Rattle.std.proofs.lemmas.List.Elements.{All-append, All-set, recursion_from_All}
use Rattle.vector_clock.specs.declared.clock.Clock.{Clock}
use Rattle.vector_clock.specs.Clock.{count, join, zero_clock}
use Rattle.crdt_laws.specs.declared.small.Entry.{Entry}
use Rattle.crdt_laws.specs.Tower.{IsIssued, IsLawful, Meaning}
use Rattle.crdt_laws.specs.Sets.{IsHonest, union}
use Rattle.crdt_laws.proofs.Filters.{all_both}
use Rattle.replica_model.specs.Replica.{Batch, Replica, heard, heard_header, heard_op, members, merged, pooled, ready, row, unready, version}
use Rattle.replica_model.proofs.Merged.{length-heard, length-heard_header}
use Rattle.replica_core.specs.Kept.{AreKept, IsBatchUpTo, IsKept, IsKeptBatch, IsKnown, IsReplicaUpTo, IsUpTo}
use Rattle.replica_core.specs.Rows.{AreByKey, IsFrom, rows_after}
use Rattle.replica_core.proofs.Edit.{all_from, kept_from}
use Rattle.replica_core.proofs.Gathered.{IsLess, all_less}
use Rattle.replica_core.proofs.Joins.{fold-joins, known-join, known_zero, none_counted, up_to-join}
use Rattle.replica_core.proofs.Steps.{known_clock, with_row_known}
use Rattle.vector_clock.proofs.Ordered.{all_weaker}

-- rows

length-before : {Op : Type 0} (rows : List Clock) (j : ℕ) (h d : Clock) (xs : List (Entry Op)) → length (heard_header (heard rows xs) j h d) ≡ length rows
length-before rows j h d xs = length-heard_header (heard rows xs) j h d ∙ length-heard rows xs

pub length-rows_after : {Op : Type 0} (rows : List Clock) (me j : ℕ) (h : Clock) (xs : List (Entry Op)) → length (rows_after rows me j h xs) ≡ length rows
length-rows_after rows me j h xs =
    length-set (heard_header (heard rows xs) j h (version (length rows) xs)) me (version (length rows) xs) ∙ length-before rows j h (version (length rows) xs) xs

all-heard : {Op : Type 0} (P : Clock → Type 0) → ((a b : Clock) → P a → P b → P (join a b)) → (rows : List Clock) (xs : List (Entry Op)) → All P rows → AllByRecursion (λ e. (e.stamp.member < length rows) × P e.stamp.clock) xs → (n : ℕ) → n ≡ length rows → All P (heard rows xs)
all-heard P more rows [] h all n e = h
all-heard P more rows (x ∷ xs) h all n e =
    let same : length (heard_op rows x) ≡ length rows = length-set rows x.stamp.member (join (row rows x.stamp.member) x.stamp.clock) in
    all-heard P more (heard_op rows x) xs (with_row_known P more rows x.stamp.member x.stamp.clock h all.0.1 all.0.0)
    (subst (λ k. AllByRecursion (λ e. (e.stamp.member < k) × P e.stamp.clock) xs) (sym same) all.1) n (e ∙ sym same)

all-heard_header : (P : Clock → Type 0) → ((a b : Clock) → P a → P b → P (join a b)) → (rows : List Clock) (j : ℕ) (h d : Clock) → All P rows → P h → j < length rows → All P (heard_header rows j h d)
all-heard_header P more rows j h d all k l =
    elim (nat_le (count h j) (count d j)) as (λ b. All P (cond b (set rows j (join (row rows j) h)) rows)) [
      | true ↦ with_row_known P more rows j h all k l
      | false ↦ all
    ]

-- what joins keep, the rows keep
all-rows_after : {Op : Type 0} (P : Clock → Type 0) → ((a b : Clock) → P a → P b → P (join a b)) → (rows : List Clock) (me j : ℕ) (h : Clock) (xs : List (Entry Op)) → P (zero_clock (length rows)) → All P rows → j < length rows → P h → AllByRecursion (λ e. e.stamp.member < length rows) xs → AllByRecursion (λ e. P e.stamp.clock) xs → All P (rows_after rows me j h xs)
all-rows_after P more rows me j h xs zero all l k members clocks =
    let d = version (length rows) xs in
    let own : P d = fold-joins P more xs (zero_clock (length rows)) zero clocks in
    All-set P (heard_header (heard rows xs) j h d) me d own
    (all-heard_header P more (heard rows xs) j h d
    (all-heard P more rows xs all (all_both (λ e. e.stamp.member < length rows) (λ e. P e.stamp.clock) xs members clocks) (length rows) refl) k (subst (λ m. j < m) (sym (length-heard rows xs)) l))

pub low_members : {Op : Type 0} (n : ℕ) (xs : List (Entry Op)) → AllByRecursion (IsFrom n) xs → AllByRecursion (λ e. e.stamp.member < n) xs
low_members n xs h = all_weaker (IsFrom n) (λ e. e.stamp.member < n) (λ e f. subst (λ k. e.stamp.member < k) f.stamp.members f.stamp.stamp.member) xs h

-- the replica with these operations

abbrev pub settled : {Op : Type 0} → Replica Op → Batch Op → List (Entry Op) → List (Entry Op) → Replica Op
settled r b ds ws = record { doc = r.doc; me = r.me; delivered = ds; waiting = ws; known = rows_after r.known r.me b.sender b.header ds }

-- what is to be delivered, and what waits, where all is honest
abbrev pub AreSifted : {Op : Type 0} → Replica Op → Batch Op → List (Entry Op) → List (Entry Op) → Type 0
AreSifted r b ds ws =
    IsHonest ((r.delivered ++ r.waiting) ++ b.ops) → (let all = union (union r.delivered r.waiting) b.ops in (ds ≡ ready all) × (ws ≡ unready all))

pub settled_is : {Op : Type 0} (r : Replica Op) (b : Batch Op) (ds ws : List (Entry Op)) → ds ≡ ready (union (union r.delivered r.waiting) b.ops) → ws ≡ unready (union (union r.delivered r.waiting) b.ops) → settled r b ds ws ≡ merged r b
unfolding merged pooled
settled_is {Op} r b ds ws d w = ap₂ (λ (xs ys : List (Entry Op)). settled r b xs ys) d w

pub settled_from : {Op : Type 0} (r : Replica Op) (b : Batch Op) (ds es ws : List (Entry Op)) (known : List Clock) → es ≡ ds → known ≡ rows_after r.known r.me b.sender b.header es → record { doc = r.doc; me = r.me; delivered = ds; waiting = ws; known = known } ≡ settled r b ds ws
settled_from {Op} r b ds es ws known e k =
    ap (λ (t : List Clock). record { doc = r.doc; me = r.me; delivered = ds; waiting = ws; known = t }) (k ∙ ap (λ (t : List (Entry Op)). rows_after r.known r.me b.sender b.header t) e)

pub up_to_settled : {Op : Type 0} (k : ℕ) (r : Replica Op) (b : Batch Op) (ds ws : List (Entry Op)) → b.sender < members r → AllByRecursion (λ e. e.stamp.member < members r) ds → IsLess ds ((r.delivered ++ r.waiting) ++ b.ops) → IsLess ws ((r.delivered ++ r.waiting) ++ b.ops) → IsReplicaUpTo k r → IsBatchUpTo k b → IsReplicaUpTo k (settled r b ds ws)
up_to_settled {Op} k r b ds ws l low less other u v =
    let P : Entry Op → Type 0 = λ e. IsUpTo k e.stamp.clock in
    let all : All P ((r.delivered ++ r.waiting) ++ b.ops) = All-append P (r.delivered ++ r.waiting) b.ops (All-append P r.delivered r.waiting u.delivered u.waiting) v.ops in
    let delivered : All P ds = all_less P ds ((r.delivered ++ r.waiting) ++ b.ops) less all in
    record {
      rows =
          all-rows_after (IsUpTo k) (up_to-join k) r.known r.me b.sender b.header ds (record { each = λ j. omega (arith, none_counted (members r) j) }) u.rows l v.header low (recursion_from_All P ds delivered);
      delivered = delivered;
      waiting = all_less P ws ((r.delivered ++ r.waiting) ++ b.ops) other all;
    }

module _ {State Op : Type 0} (m : Meaning State Op) (law : IsLawful m) where
  pub by_key : (n : ℕ) (xs : List (Entry Op)) → AreKept m n xs → AreByKey n xs
  by_key n xs h = record { from = all_from m law n xs h.issued; rising = h.rising }

  pub kept_less : (r : Replica Op) (b : Batch Op) (xs : List (Entry Op)) → IsKept m r → IsKeptBatch m (members r) b → AreByKey (members r) xs → IsLess xs ((r.delivered ++ r.waiting) ++ b.ops) → AreKept m (members r) xs
  kept_less r b xs h k key less =
      let P : Entry Op → Type 0 = λ e. IsIssued m (members r) e.stamp e.op in
      record {
        issued = all_less P xs ((r.delivered ++ r.waiting) ++ b.ops) less (All-append P (r.delivered ++ r.waiting) b.ops (All-append P r.delivered r.waiting h.delivered.issued h.waiting.issued) k.ops.issued);
        rising = key.rising;
      }

  pub kept_settled : (r : Replica Op) (b : Batch Op) (ds ws : List (Entry Op)) → IsKept m r → IsKeptBatch m (members r) b → AreByKey (members r) ds → AreByKey (members r) ws → IsLess ds ((r.delivered ++ r.waiting) ++ b.ops) → IsLess ws ((r.delivered ++ r.waiting) ++ b.ops) → IsKept m (settled r b ds ws)
  kept_settled r b ds ws h k key more less other =
      let n = members r in
      let d = version n ds in
      let from : AllByRecursion (IsFrom n) ds = recursion_from_All (IsFrom n) ds key.from in
      let before = heard_header (heard r.known ds) b.sender b.header d in
      kept_from m (settled r b ds ws) n (sym (length-rows_after r.known r.me b.sender b.header ds)) h.member h.most
      (all-rows_after (IsKnown n) (known-join n) r.known r.me b.sender b.header ds (known_zero n (omega (arith, h.member)) h.most) h.rows k.sender k.header (low_members n ds from)
      (all_weaker (IsFrom n) (λ e. IsKnown n e.stamp.clock) (λ e f. known_clock n e f) ds from))
      (get_or-set_same before r.me d (zero_clock 1) (subst (λ j. r.me < j) (sym (length-before r.known b.sender b.header d ds)) h.member))
      (kept_less r b ds h k key less)
      (kept_less r b ws h k more other)
