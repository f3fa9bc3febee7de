-- What honest members keep and send meets what a merge asks.
use Rattle.std.proofs.Common.{◌≡◌, ℕ, ◌+◌, ◌<◌, ◌≤◌, ◌^◌, ◌∙◌, true, List, [], ◌∷◌, refl, ap, sym, subst, arith, sum, length, map, Contains, get_or, inl, inr}
use Rattle.std.specs.Prelude.{filter}
use Rattle.std.specs.List.{AllByRecursion}
use Rattle.std.proofs.lemmas.Bool.{cases_lt, false_from_ne_true, le-leb}
use Rattle.std.proofs.lemmas.List.Elements.{All-contains, All-from_recursion, Contains-append_right}
use Rattle.vector_clock.specs.declared.clock.Clock.{Clock}
use Rattle.vector_clock.specs.declared.clock.Id.{Id}
use Rattle.vector_clock.specs.declared.stamp.Stamp.{Stamp}
use Rattle.vector_clock.specs.Clock.{count, covers, zero_clock, max_seq}
use Rattle.vector_clock.specs.Stamp.{id_of, is_below}
use Rattle.vector_clock.proofs.Ordered.{all-filter, all_weaker}
use Rattle.crdt_laws.specs.declared.small.Entry.{Entry}
use Rattle.crdt_laws.specs.Present.{forms}
use Rattle.crdt_laws.specs.Sets.{AreIssued, IsRising, beyond, has_id, is_beyond}
use Rattle.crdt_laws.specs.Tower.{Meaning, IsIssued, IsLawful, IsStampOf}
use Rattle.crdt_laws.proofs.Both.{honest_part, rising_apart}
use Rattle.crdt_laws.proofs.Filters.{all_pass, apart-filter, rising-filter}
use Rattle.crdt_laws.proofs.Members.{each}
use Rattle.weave_core.specs.Deliver.{IsWell, is_high, trim}
use Rattle.replica_model.specs.Family.{IsSoundReplica, Thing, batch, batches, operations, replica}
use Rattle.replica_model.specs.Replica.{Replica, Batch, floor, row}
use Rattle.replica_model.proofs.Families.{batch_at, issued_at, sound_at}
use Rattle.replica_model.proofs.Names.{all_from_contains, named_in}
use Rattle.replica_model.proofs.Things.{batches_have, operations_have}
use Rattle.forgetting_model.specs.Kept.{Kept, kept, whole}
use Rattle.forgetting_model.specs.Ledger.{Ledger, ledger}
use Rattle.forgetting_model.specs.Truth.{IsClockOf, IsTold, IsTrueBatch, IsTrueFamily, IsTrueReplica}
use Rattle.forgetting_model.proofs.Allowed.{kept_good, kept_issued, kept_levels, kept_stamps}
use Rattle.forgetting_model.proofs.Counts.{log_counts}
use Rattle.forgetting_model.proofs.Forgets.{d_covers, d_knows, in_beyond}
use Rattle.forgetting_model.proofs.Steps.{rows_at}
use Rattle.forgetting_model.proofs.Tells.{delivered_inside, own_in, replica_of, version_in}
use Rattle.causal_buffer.proofs.Placed.{same_at}
use Rattle.replica_kept.specs.Held.{IsHeld}
use Rattle.replica_kept.proofs.Matching.{stamps_all}
use Rattle.replica_kept.specs.Merging.{IsBatchOf}
use Rattle.replica_kept.specs.Sound.{AreKept, IsRow, IsSound, burden, max_burden}

stamps_rise : {Op : Type 0} (xs ys : List (Entry Op)) → map (λ e. e.stamp) xs ≡ map (λ e. e.stamp) ys → IsRising ys → IsRising xs
stamps_rise [] ys is h = tt
stamps_rise (x ∷ xs) [] is h = absurd (let g : x.stamp ∷ map (λ e. e.stamp) xs ≡ [] = is in cc)
stamps_rise {Op} (x ∷ xs) (y ∷ ys) is h =
    let head : x.stamp ≡ y.stamp = (let g : x.stamp ∷ map (λ e. e.stamp) xs ≡ y.stamp ∷ map (λ e. e.stamp) ys = is in cc) in
    let tail : map (λ e. e.stamp) xs ≡ map (λ e. e.stamp) ys = (let g : x.stamp ∷ map (λ e. e.stamp) xs ≡ y.stamp ∷ map (λ e. e.stamp) ys = is in cc) in
    (stamps_all (λ p. is_below x.stamp p ≡ true) xs ys tail (subst (λ (p : Stamp). AllByRecursion (λ e. is_below p e.stamp ≡ true) ys) (sym head) h.0), stamps_rise xs ys tail h.1)

module _ {State Op : Type 0} (m : Meaning State Op) (law : IsLawful m) (n : ℕ) (ts : List (Thing Op)) (family : IsTrueFamily m n ts) where
  -- what a member is told to have, somebody has made
  told_low : (i : ℕ) (k : Clock) → IsTold ts i k → (j : ℕ) → count k j ≤ max_seq
  told_low i k told j = elim (cases_lt (count k j) 1) [
    | inl none ↦ omega (arith, none)
    | inr some ↦
        (let id : Id = record { member = j; seq = count k j } in
        let o = replica_of ts (λ (o : Replica Op). (o.me ≡ i) × (has_id o.delivered id ≡ true)) (told.had id some (le-leb (count k j) (count k j) (omega arith))) in
        let f = named_in o.0.delivered id o.2.1 in
        let v = issued_at m n ts family.honest f.0 (delivered_inside m n ts family.honest o.0 o.1 f.0 f.1) in
        let seq : count f.0.stamp.clock f.0.stamp.member ≡ count k j = ap (λ (i : Id). i.seq) f.2 in
        let low = (law.valid_within f.0.stamp f.0.op v.valid).each f.0.stamp.member in
        omega (arith, seq, low))
  ]

  pub sent_batch : (b : Batch Op) → Contains ts (batch b) → length b.ops < 2 ^ 32 → IsBatchOf n b
  sent_batch b c few =
      let truth = All-contains (IsTrueBatch n ts) (batches ts) b family.headers (batches_have ts b c) in
      let o = replica_of ts (λ (o : Replica Op). o.me ≡ b.sender) truth.sender in
      let inside : ((e : Entry Op) → Contains b.ops e → Contains (operations ts) e) = λ (e : Entry Op) i. operations_have ts (batch b) e c i in
      record {
        sender = subst (λ (i : ℕ). i < n) o.2 (sound_at m n ts family.honest o.0 o.1).member;
        header = record { clock = truth.clock; within = told_low b.sender b.header truth.told };
        stamped = all_from_contains (λ (e : Entry Op). IsStampOf n e.stamp) b.ops (λ e i. (issued_at m n ts family.honest e (inside e i)).stamp);
        rising = batch_at m n ts family.honest b c;
        apart = rising_apart b.ops (honest_part (operations ts) b.ops family.honest.honest inside) (batch_at m n ts family.honest b c);
        few = few;
      }

  module _ (r : Replica Op) (there : Contains ts (replica r)) where
    sound : IsSoundReplica n r
    sound = sound_at m n ts family.honest r there

    truth : IsTrueReplica n ts r
    truth = rows_at m n ts family r there

    abbrev own : Clock
    own = row r.known r.me

    inside : (e : Entry Op) → Contains r.delivered e → Contains (operations ts) e
    inside = delivered_inside m n ts family.honest r there

    waits_inside : (e : Entry Op) → Contains r.waiting e → Contains (operations ts) e
    waits_inside e c = operations_have ts (replica r) e there (Contains-append_right r.delivered r.waiting e c)

    abbrev Issued : Entry Op → Type 0
    Issued e = IsIssued m n e.stamp e.op

    own_clock : IsClockOf n own
    own_clock = truth.clocks r.me (zero_clock 1) (let a = sound.member in let b = sound.rows in omega (arith, a, b))

    abbrev bare : Kept State Op
    bare = record { ledger = record { doc = r.doc; me = r.me; log = beyond (floor r) r.delivered; waiting = r.waiting; known = r.known }; woven = trim m (whole m r.delivered) (floor r) }

    kept_is : kept m r ≡ bare
    unfolding kept ledger
    kept_is = refl

    stamps : map (λ e. e.stamp) bare.woven.history ≡ map (λ e. e.stamp) (filter (is_high m) (beyond (floor r) r.delivered))
    unfolding kept ledger
    stamps = kept_stamps m law n ts family r there

    levels : map (λ e. m.level e.op) bare.woven.history ≡ map (λ e. m.level e.op) (filter (is_high m) (beyond (floor r) r.delivered))
    unfolding kept ledger
    levels = kept_levels m law n ts family r there

    counts : length (beyond (floor r) r.delivered) + sum (floor r).at ≡ sum own.at
    unfolding ledger
    counts = log_counts m n ts family r there ∙ sym (ap (λ (k : Clock). sum k.at) truth.own)

    good : m.good_at own bare.woven.state
    unfolding kept ledger
    good = kept_good m law n ts family r there

    issued : AreIssued m n bare.woven.history
    unfolding kept
    issued = kept_issued m law n ts family r there

    log_covered : AllByRecursion (λ e. covers own (id_of e.stamp) ≡ true) (beyond (floor r) r.delivered)
    log_covered = all-filter (λ (e : Entry Op). covers own (id_of e.stamp) ≡ true) (is_beyond (floor r)) r.delivered (all_weaker (Contains r.delivered) (λ (e : Entry Op). covers own (id_of e.stamp) ≡ true) (λ e c. d_covers m n ts family r there e c) r.delivered (each r.delivered))

    log_rises : IsRising (beyond (floor r) r.delivered)
    log_rises = rising-filter (is_beyond (floor r)) r.delivered sound.delivered_by_key

    held : IsHeld m own bare.woven
    held = record {
      clock = own_clock.clock;
      well = subst (λ (i : ℕ). IsWell m i bare.woven) (sym own_clock.members) (record {
        good = subst (λ (i : ℕ). m.good i bare.woven.state) own_clock.members (law.good_at_good own bare.woven.state good);
        issued = issued;
        high = All-from_recursion (λ (e : Entry Op). is_high m e ≡ true) bare.woven.history
            (all-filter (λ (e : Entry Op). is_high m e ≡ true) (is_beyond (floor r)) (filter (is_high m) (forms m r.delivered)) (all_pass (is_high m) (forms m r.delivered)));
        rising = stamps_rise bare.woven.history (filter (is_high m) (beyond (floor r) r.delivered)) stamps (rising-filter (is_high m) (beyond (floor r) r.delivered) log_rises);
      });
      good_at = good;
      covered = All-from_recursion (λ (e : Entry Op). covers own (id_of e.stamp) ≡ true) bare.woven.history
          (stamps_all (λ p. covers own (id_of p) ≡ true) bare.woven.history (filter (is_high m) (beyond (floor r) r.delivered)) stamps
          (all-filter (λ (e : Entry Op). covers own (id_of e.stamp) ≡ true) (is_high m) (beyond (floor r) r.delivered) log_covered));
    }

    few_sound : burden bare.ledger ≤ max_burden → IsSound m bare
    few_sound few =
        let size = sound.rows in
        let low = sound.member in
        let most = own_clock.clock.most in
        let same = own_clock.members in
        record {
          me = omega (arith, size, low);
          most = omega (arith, size, most, same);
          rows = λ k d l. subst (λ (i : ℕ). IsRow i (get_or r.known k d)) (sym size) (record { clock = truth.clocks k d l; within = λ j. subst (λ (c : Clock). count c j ≤ max_seq) (same_at r.known k (zero_clock 1) d l) (told_low k (row r.known k) (truth.told k) j) });
          held = held;
          log = subst (λ (i : ℕ). AreKept m i (beyond (floor r) r.delivered)) (sym size) (record {
            issued = all_from_contains Issued (beyond (floor r) r.delivered) (λ e c. issued_at m n ts family.honest e (inside e (in_beyond (floor r) r.delivered e c).0));
            rising = log_rises;
            apart = apart-filter (is_beyond (floor r)) r.delivered (rising_apart r.delivered (honest_part (operations ts) r.delivered family.honest.honest inside) sound.delivered_by_key);
          });
          counted = counts;
          forms = record { stamped = stamps; levels = levels };
          unstable = λ e c. (in_beyond (floor r) r.delivered e c).1;
          known = λ e c. d_knows m n ts family r there e (in_beyond (floor r) r.delivered e c).0;
          waiting = subst (λ (i : ℕ). AreKept m i r.waiting) (sym size) (record {
            issued = all_from_contains Issued r.waiting (λ e c. issued_at m n ts family.honest e (waits_inside e c));
            rising = sound.waiting_by_key;
            apart = rising_apart r.waiting (honest_part (operations ts) r.waiting family.honest.honest waits_inside) sound.waiting_by_key;
          });
          new = λ e c. false_from_ne_true (covers own (id_of e.stamp)) (λ t.
              sound.apart e (version_in m n ts family.honest r there e (waits_inside e c) (subst (λ (k : Clock). covers k (id_of e.stamp) ≡ true) truth.own t)) c);
          others = λ e c same. sound.apart e (own_in m n ts family.honest r there e (waits_inside e c) same) c;
          few = few;
        }

    ledger_is : ledger r ≡ bare.ledger
    unfolding ledger
    ledger_is = refl

    pub kept_sound : burden (ledger r) ≤ max_burden → IsSound m (kept m r)
    kept_sound few = subst (IsSound m) (sym kept_is) (few_sound (subst (λ (l : Ledger Op). burden l ≤ max_burden) ledger_is few))
