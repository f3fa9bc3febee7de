-- Other operations of an id among those that are kept and wait, and what is sent of those that are kept.
use Rattle.std.proofs.Common.{◌≡◌, ℕ, ◌<◌, ◌≤◌, Bool, true, false, List, ◌++◌, subst, sym, arith, length, Contains}
use Rattle.std.specs.Prelude.{filter}
use Rattle.std.proofs.lemmas.Bool.{both_ways}
use Rattle.std.proofs.lemmas.List.Elements.{All-contains}
use Rattle.vector_clock.specs.declared.clock.Clock.{Clock}
use Rattle.vector_clock.specs.Clock.{covers, zero_clock}
use Rattle.vector_clock.specs.Stamp.{id_of}
use Rattle.crdt_laws.specs.declared.small.Entry.{Entry}
use Rattle.crdt_laws.specs.Tower.{Meaning, IsIssued, IsStampOf}
use Rattle.crdt_laws.proofs.Filters.{apart-filter, rising-filter}
use Rattle.crdt_laws.proofs.Members.{filter_inside}
use Rattle.replica_model.specs.Replica.{meet_all}
use Rattle.replica_model.proofs.Names.{all_from_contains}
use Rattle.replica_model.proofs.Ready.{covers_on}
use Rattle.forgetting_model.specs.Kept.{Kept}
use Rattle.forgetting_model.specs.Ledger.{own_row}
use Rattle.forgetting_model.proofs.Tells.{covers_itself}
use Rattle.replica_kept.specs.Merging.{HasNoOther, HasOther, IsBatchOf}
use Rattle.replica_kept.specs.Sound.{IsRow, IsSound}
use Rattle.replica_kept.proofs.Entering.{filter_fewer}
use Rattle.replica_kept.proofs.OneId.{none_both, none_of, other_left, other_right}

module _ {State Op : Type 0} (m : Meaning State Op) (k : Kept State Op) (sound : IsSound m k) where
  abbrev log : List (Entry Op)
  log = k.ledger.log

  abbrev waiting : List (Entry Op)
  waiting = k.ledger.waiting

  abbrev own : Clock
  own = own_row k.ledger

  log_covered : (e : Entry Op) → Contains log e → covers own (id_of e.stamp) ≡ true
  log_covered e c = covers_on e.stamp.clock own (id_of e.stamp) (sound.known e c) (covers_itself e)

  module _ (e : Entry Op) (xs : List (Entry Op)) where
    pub forked_in_log : xs ≡ k.ledger.log → HasOther xs e → HasOther (k.ledger.log ++ k.ledger.waiting) e
    forked_in_log is o = other_left log waiting e (subst (λ (l : List (Entry Op)). HasOther l e) is o)

    pub forked_waiting : xs ≡ k.ledger.waiting → HasOther xs e → HasOther (k.ledger.log ++ k.ledger.waiting) e
    forked_waiting is o = other_right log waiting e (subst (λ (l : List (Entry Op)). HasOther l e) is o)

    none_waits : covers own (id_of e.stamp) ≡ true → HasNoOther waiting e
    none_waits t = none_of own false waiting e sound.new (λ f. both_ways (covers own (id_of e.stamp)) f t)

    pub same_in_log : covers (own_row k.ledger) (id_of e.stamp) ≡ true → xs ≡ k.ledger.log → HasNoOther xs e → HasNoOther (k.ledger.log ++ k.ledger.waiting) e
    same_in_log t is h = none_both log waiting e (subst (λ (l : List (Entry Op)). HasNoOther l e) is h) (none_waits t)

    pub same_waiting : covers (own_row k.ledger) (id_of e.stamp) ≡ false → xs ≡ k.ledger.waiting → HasNoOther xs e → HasNoOther (k.ledger.log ++ k.ledger.waiting) e
    same_waiting f is h = none_both log waiting e (none_of own true log e log_covered (λ t. both_ways (covers own (id_of e.stamp)) f t)) (subst (λ (l : List (Entry Op)). HasNoOther l e) is h)

    -- of what the floor covers nothing is kept
    pub forgotten : covers (own_row k.ledger) (id_of e.stamp) ≡ true → covers (meet_all k.ledger.known) (id_of e.stamp) ≡ true → HasNoOther (k.ledger.log ++ k.ledger.waiting) e
    forgotten t low = none_both log waiting e (none_of (meet_all k.ledger.known) false log e sound.unstable (λ f. both_ways (covers (meet_all k.ledger.known) (id_of e.stamp)) f low)) (none_waits t)

  -- what is sent
  module _ (doc : List ℕ) (sender : ℕ) (header : Clock) (ops : List (Entry Op)) (me : sender ≡ k.ledger.me) (own_header : header ≡ own_row k.ledger) where
    abbrev n : ℕ
    n = length k.ledger.known

    pub batch_part : (p : Entry Op → Bool) → ops ≡ filter p k.ledger.log → IsBatchOf (length k.ledger.known) (record { doc = doc; sender = sender; header = header; ops = ops })
    batch_part p is = subst (λ (l : List (Entry Op)). IsBatchOf n (record { doc = doc; sender = sender; header = header; ops = l })) (sym is) (record {
      sender = subst (λ (i : ℕ). i < n) (sym me) sound.me;
      header = subst (IsRow n) (sym own_header) (sound.rows k.ledger.me (zero_clock 1) sound.me);
      stamped = all_from_contains (λ (e : Entry Op). IsStampOf n e.stamp) (filter p log) (λ e c. (All-contains (λ (e : Entry Op). IsIssued m n e.stamp e.op) log e sound.log.issued (filter_inside p log e c)).stamp);
      rising = rising-filter p log sound.log.rising;
      apart = apart-filter p log sound.log.apart;
      few = (let l : length (filter p log) ≤ length log = filter_fewer p log in let f = sound.few in omega (arith, l, f));
    })

    pub batch_whole : ops ≡ k.ledger.log → IsBatchOf (length k.ledger.known) (record { doc = doc; sender = sender; header = header; ops = ops })
    batch_whole is = subst (λ (l : List (Entry Op)). IsBatchOf n (record { doc = doc; sender = sender; header = header; ops = l })) (sym is) (record {
      sender = subst (λ (i : ℕ). i < n) (sym me) sound.me;
      header = subst (IsRow n) (sym own_header) (sound.rows k.ledger.me (zero_clock 1) sound.me);
      stamped = all_from_contains (λ (e : Entry Op). IsStampOf n e.stamp) log (λ e c. (All-contains (λ (e : Entry Op). IsIssued m n e.stamp e.op) log e sound.log.issued c).stamp);
      rising = sound.log.rising;
      apart = sound.log.apart;
      few = (let f = sound.few in omega (arith, f));
    })
