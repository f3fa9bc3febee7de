-- A kept record after a batch without a fault keeps what each record keeps.
use Rattle.std.proofs.Common.{◌≡◌, ℕ, ◌+◌, ◌<◌, ◌≤◌, Bool, false, not, List, ap, sym, ◌∙◌, subst, arith, length, set, sum, fold, inl, inr, Contains, refl}
use Rattle.std.specs.Prelude.{filter}
use Rattle.std.specs.List.{All}
use Rattle.std.proofs.lemmas.List.Elements.{All-contains}
use Rattle.vector_clock.specs.declared.clock.Clock.{Clock}
use Rattle.vector_clock.specs.Clock.{IsAtMost, covers, zero_clock, max_members}
use Rattle.vector_clock.specs.Stamp.{id_of}
use Rattle.vector_clock.proofs.Bounds.{at_most_trans}
use Rattle.vector_clock.proofs.Keys.{covers_more}
use Rattle.crdt_laws.specs.declared.small.Entry.{Entry}
use Rattle.crdt_laws.specs.Sets.{AreIssued, beyond, union}
use Rattle.crdt_laws.specs.Tower.{Meaning, IsIssued, IsLawful}
use Rattle.crdt_laws.proofs.Filters.{apart-filter, rising-filter}
use Rattle.replica_model.specs.Replica.{Batch, heard, heard_header, meet_all, row}
use Rattle.replica_model.proofs.Names.{all_from_contains}
use Rattle.replica_model.proofs.Ready.{covers_on}
use Rattle.weave_core.specs.Deliver.{deliver, is_high, trim}
use Rattle.forgetting_model.specs.Kept.{Kept, kept_with}
use Rattle.forgetting_model.specs.Ledger.{Ledger, come, ledger_with, own_row, raised, trimmed}
use Rattle.forgetting_model.specs.Made.{kept_absorbed}
use Rattle.forgetting_model.specs.Turns.{ledger_absorbed, taken}
use Rattle.forgetting_model.proofs.Floors.{floor_below}
use Rattle.forgetting_model.proofs.Forgets.{in_beyond}
use Rattle.forgetting_model.proofs.Raised.{raised_grows}
use Rattle.forgetting_model.proofs.Rows.{AreRows, AreStamped, heard_grows, heard_header_grows, heard_header_rows, heard_rows, row_set, row_set_same, rows-set}
use Rattle.forgetting_model.proofs.Tells.{covers_itself}
use Rattle.replica_kept.specs.Held.{IsHeld}
use Rattle.replica_kept.specs.Merging.{IsBatchOf, IsFaultless}
use Rattle.replica_kept.specs.Sound.{AreForms, AreKept, IsRow, IsSound, burden, max_burden}
use Rattle.causal_buffer.proofs.Placed.{same_at}
use Rattle.replica_kept.proofs.Between.{AreBetween}
use Rattle.replica_kept.proofs.Coming
use Rattle.replica_kept.proofs.Counting.{counted_after, raised_sums}
use Rattle.replica_kept.proofs.Edits
use Rattle.replica_kept.proofs.Within.{IsLow, low_after, low_raised, low_rows}
use Rattle.replica_kept.proofs.Entering.{IsEntering, entered_apart, entered_count, entered_from, entered_many, entered_rises, next_outside, placed_is}
use Rattle.replica_kept.proofs.Matching.{forms_kept}

-- the rows after a batch
abbrev pub rows_after : {Op : Type 0} → Ledger Op → Batch Op → List Clock
rows_after l b = set (heard_header (heard l.known (taken l b)) b.sender b.header (raised (own_row l) (taken l b))) l.me (raised (own_row l) (taken l b))

-- the ledger after a batch
pub absorbed_ledger : {Op : Type 0} (l : Ledger Op) (b : Batch Op)
    → ledger_absorbed l b ≡ trimmed l (union l.log (taken l b)) (beyond (raised (own_row l) (taken l b)) (come l b)) (rows_after l b)
unfolding ledger_with
absorbed_ledger l b = refl

module _ {State Op : Type 0} (m : Meaning State Op) (law : IsLawful m) (k : Kept State Op) (sound : IsSound m k) (b : Batch Op) (ok : IsBatchOf (length k.ledger.known) b) (free : IsFaultless m k.ledger b) where
  abbrev l : Ledger Op
  l = k.ledger

  abbrev n : ℕ
  n = length k.ledger.known

  abbrev new : List (Entry Op)
  new = taken k.ledger b

  abbrev later : Clock
  later = raised (own_row k.ledger) (taken k.ledger b)

  abbrev all : List (Entry Op)
  all = union k.ledger.log (taken k.ledger b)

  abbrev rows : List Clock
  rows = rows_after k.ledger b

  abbrev f : Clock
  f = meet_all (rows_after k.ledger b)

  abbrev Issued : Entry Op → Type 0
  Issued e = IsIssued m (length k.ledger.known) e.stamp e.op

  entering : IsEntering (own_row k.ledger) later k.ledger.log k.ledger.waiting (Coming.new_of k.ledger b) new
  entering = Coming.entering m law k sound b ok free

  stamped : AreStamped n new
  stamped e c = (All-contains Issued new e (Coming.taken_issued m law k sound b ok free) c).stamp

  heard_are : AreRows n (heard_header (heard k.ledger.known new) b.sender b.header later)
  heard_are = heard_header_rows n (heard k.ledger.known new) (heard_rows n k.ledger.known new (record { length = refl; clocks = λ i d l. (sound.rows i d l).clock }) stamped) b.sender b.header later ok.sender ok.header.clock

  pub rows_are : AreRows n rows
  rows_are = rows-set n (heard_header (heard k.ledger.known new) b.sender b.header later) heard_are k.ledger.me later (Coming.later_clock m law k sound b ok free)

  rows_low : All (IsRow n) rows
  rows_low i d l =
      let low = low_after k.ledger.known new b.sender k.ledger.me b.header later (low_rows n k.ledger.known sound.rows)
      (λ e c. (law.valid_within e.stamp e.op (All-contains Issued new e (Coming.taken_issued m law k sound b ok free) c).valid).each) ok.header.within
      (low_raised (own_row k.ledger) new (low_rows n k.ledger.known sound.rows k.ledger.me) (λ e c. (law.valid_within e.stamp e.op (All-contains Issued new e (Coming.taken_issued m law k sound b ok free) c).valid).each)) in
      record { clock = rows_are.clocks i d l; within = subst IsLow (same_at rows i (zero_clock 1) d l) (low i) }

  pub own_after : row rows k.ledger.me ≡ later
  own_after =
      let len = heard_are.length in
      row_set_same (heard_header (heard k.ledger.known new) b.sender b.header later) k.ledger.me later (omega (arith, len, sound.me))

  all_issued : (e : Entry Op) → Contains all e → Issued e
  all_issued e c = elim (entered_from (own_row l) later k.ledger.log k.ledger.waiting (Coming.new_of k.ledger b) new entering e c) [
    | inl i ↦ All-contains Issued k.ledger.log e sound.log.issued i
    | inr j ↦ All-contains Issued new e (Coming.taken_issued m law k sound b ok free) j
  ]

  all_known : (e : Entry Op) → Contains all e → IsAtMost e.stamp.clock later
  all_known e c = elim (entered_from (own_row l) later k.ledger.log k.ledger.waiting (Coming.new_of k.ledger b) new entering e c) [
    | inl i ↦ at_most_trans e.stamp.clock (own_row k.ledger) later (sound.known e i) (raised_grows n (own_row k.ledger) new (Edits.own_clock m law k sound) stamped)
    | inr j ↦ Coming.taken_known m law k sound b ok free e j
  ]

  -- each row grows
  rows_grow : (j : ℕ) → IsAtMost (row k.ledger.known j) (row rows j)
  rows_grow =
      let before : AreRows n k.ledger.known = record { length = refl; clocks = λ i d l. (sound.rows i d l).clock } in
      let heard_rows = heard_rows n k.ledger.known new before stamped in
      let told : ((j : ℕ) → IsAtMost (row k.ledger.known j) (row (heard_header (heard k.ledger.known new) b.sender b.header later) j)) = λ j.
      at_most_trans (row k.ledger.known j) (row (heard k.ledger.known new) j) (row (heard_header (heard k.ledger.known new) b.sender b.header later) j) (heard_grows n k.ledger.known new before stamped j)
      (heard_header_grows n (heard k.ledger.known new) heard_rows b.sender b.header later ok.sender ok.header.clock j) in
      row_set (λ (j : ℕ) (c : Clock). IsAtMost (row k.ledger.known j) c) (heard_header (heard k.ledger.known new) b.sender b.header later) k.ledger.me later told
      (raised_grows n (own_row k.ledger) new (Edits.own_clock m law k sound) stamped)

  between : AreBetween (meet_all k.ledger.known) later all
  between = record {
    apart = entered_apart (own_row l) later k.ledger.log k.ledger.waiting (Coming.new_of k.ledger b) new entering;
    new = λ e c. elim (entered_from (own_row l) later k.ledger.log k.ledger.waiting (Coming.new_of k.ledger b) new entering e c) [
      | inl i ↦ sound.unstable e i
      | inr j ↦ covers_more (meet_all k.ledger.known) (own_row k.ledger) e.stamp (floor_below k.ledger.known k.ledger.me sound.me) (next_outside n (own_row k.ledger) new (Edits.own_clock m law k sound) stamped (Coming.taken_next m law k sound b ok free) e j)
    ];
    covered = λ e c. covers_on e.stamp.clock later (id_of e.stamp) (all_known e c) (covers_itself e);
  }

  counted : length (beyond f all) + sum f.at ≡ sum later.at
  counted =
      counted_after n k.ledger.known rows (record { length = refl; clocks = λ i d l. (sound.rows i d l).clock }) rows_are k.ledger.me sound.me later own_after (λ j l. rows_grow j) all (Coming.later_clock m law k sound b ok free).clock between
      (let many = entered_many (own_row l) later k.ledger.log k.ledger.waiting (Coming.new_of k.ledger b) new entering in
      let up = raised_sums n (own_row k.ledger) new (Edits.own_clock m law k sound) stamped (Coming.taken_next m law k sound b ok free) in
      let before = sound.counted in
      omega (arith, many, up, before))

  forms : AreForms m (trim m (fold (deliver m) k.woven new) f).history (filter (is_high m) (beyond f all))
  forms =
      subst (λ (xs : List (Entry Op)). AreForms m (trim m (fold (deliver m) k.woven new) f).history (filter (is_high m) (beyond f xs))) (placed_is (own_row l) later k.ledger.log k.ledger.waiting (Coming.new_of k.ledger b) new entering)
      (forms_kept m law n k.woven k.ledger.log new f (subst (λ (i : ℕ). AreIssued m i k.woven.history) (Edits.own_clock m law k sound).members sound.held.well.issued) sound.log.rising (Coming.taken_issued m law k sound b ok free) sound.forms)

  -- how many are kept and wait
  pub burden_is : (a c w : ℕ) → a ≡ length (beyond f k.ledger.log) → c ≡ length (beyond f new) → w ≡ length (beyond later (come k.ledger b)) → a + c + w ≡ burden (ledger_absorbed k.ledger b)
  burden_is a c w p q r =
      let whole : burden (ledger_absorbed k.ledger b) ≡ length (beyond f all) + length (beyond later (come k.ledger b)) = ap burden (absorbed_ledger k.ledger b) in
      let split : length (beyond f all) ≡ length (beyond f k.ledger.log) + length (beyond f new) = entered_count (own_row l) later k.ledger.log k.ledger.waiting (Coming.new_of k.ledger b) new entering (λ e. not (covers f (id_of e.stamp))) in
      omega (arith, whole, split, p, q, r)

  abbrev after : Kept State Op
  after = kept_with m k (trimmed k.ledger (union k.ledger.log (taken k.ledger b)) (beyond (raised (own_row k.ledger) (taken k.ledger b)) (come k.ledger b)) (rows_after k.ledger b)) (taken k.ledger b)

  pub after_is : kept_absorbed m k b ≡ after
  after_is = ap (λ (z : Ledger Op). kept_with m k z (taken k.ledger b)) (absorbed_ledger k.ledger b)

  after_sound : IsHeld m later after.woven → burden (ledger_absorbed k.ledger b) ≤ max_burden → IsSound m after
  after_sound held few =
      let len : length rows ≡ n = rows_are.length in
      let out : Entry Op → Bool = λ e. not (covers f (id_of e.stamp)) in
      let left = beyond later (come k.ledger b) in
      record {
        me = subst (λ (i : ℕ). k.ledger.me < i) (sym len) sound.me;
        most = subst (λ (i : ℕ). i ≤ max_members) (sym len) sound.most;
        rows = subst (λ (i : ℕ). All (IsRow i) rows) (sym len) rows_low;
        held = subst (λ (c : Clock). IsHeld m c after.woven) (sym own_after) held;
        log = subst (λ (i : ℕ). AreKept m i (beyond f all)) (sym len) (record {
          issued = all_from_contains Issued (beyond f all) (λ e c. all_issued e (in_beyond f all e c).0);
          rising = rising-filter out all (entered_rises (own_row l) later k.ledger.log k.ledger.waiting (Coming.new_of k.ledger b) new entering);
          apart = apart-filter out all (entered_apart (own_row l) later k.ledger.log k.ledger.waiting (Coming.new_of k.ledger b) new entering);
        });
        counted = counted ∙ sym (ap (λ (c : Clock). sum c.at) own_after);
        forms = forms;
        unstable = λ e c. (in_beyond f all e c).1;
        known = λ e c. subst (IsAtMost e.stamp.clock) (sym own_after) (all_known e (in_beyond f all e c).0);
        waiting = subst (λ (i : ℕ). AreKept m i left) (sym len) (record {
          issued = Coming.left_issued m law k sound b ok free;
          rising = Coming.left_rises m law k sound b ok free;
          apart = Coming.left_apart m law k sound b ok free;
        });
        new = λ e c. subst (λ (j : Clock). covers j (id_of e.stamp) ≡ false) (sym own_after) (Coming.left_outside m law k sound b ok free e c);
        others = Coming.left_others m law k sound b ok free;
        few = subst (λ (z : Ledger Op). burden z ≤ max_burden) (absorbed_ledger k.ledger b) few;
      }

  pub absorbed_sound : (r : Kept State Op) → r ≡ kept_absorbed m k b → IsHeld m later r.woven → burden (ledger_absorbed k.ledger b) ≤ max_burden → IsSound m r
  absorbed_sound r is held few = subst (IsSound m) (sym (is ∙ after_is)) (after_sound (subst (λ (z : Kept State Op). IsHeld m later z.woven) (is ∙ after_is) held) few)
