-- What the parts of a merge know.
use Rattle.std.proofs.Common.{◌≡◌, ℕ, zero, suc, ◌+◌, ◌<◌, ◌≤◌, ◌^◌, not, List, [], ◌∷◌, ◌++◌, ap, ap₂, sym, ◌∙◌, subst, arith, length, length-append, get_or, set, fold}
use Rattle.std.specs.Prelude.{filter}
use Rattle.std.specs.List.{All}
use Rattle.vector_clock.specs.declared.clock.Clock.{Clock}
use Rattle.vector_clock.specs.Clock.{covers, join}
use Rattle.vector_clock.specs.Stamp.{IsStamp, id_of}
use Rattle.crdt_laws.specs.declared.small.Entry.{Entry}
use Rattle.crdt_laws.specs.Interleaved.{interleaved}
use Rattle.crdt_laws.specs.Sets.{AreFormed, AreIssued, IsRising, beyond, canonical, has_id, union}
use Rattle.crdt_laws.specs.Tower.{Meaning, IsLawful, IsStampOf}
use Rattle.weave_core.specs.Deliver.{Weave, deliver, trim}
use Rattle.replica_model.specs.Replica.{Batch, heard, heard_header, meet_all}
use Rattle.forgetting_model.specs.Kept.{Kept}
use Rattle.forgetting_model.specs.Ledger.{Ledger, come, own_row, raised}
use Rattle.forgetting_model.specs.Made.{kept_absorbed}
use Rattle.forgetting_model.specs.Truth.{IsClockOf}
use Rattle.forgetting_model.specs.Turns.{AreNext, IsSome, in_turn, is_next, ledger_absorbed, taken, turn}
use Rattle.history_trim.specs.declared.known.Known.{Known}
use Rattle.history_trim.specs.Rows.{AreRows, rows_of}
use Rattle.replica_kept.specs.Did.{merged_of}
use Rattle.replica_kept.specs.Held.{IsHeld}
use Rattle.replica_kept.specs.Merging.{IsBatchOf, IsFaultless}
use Rattle.replica_kept.specs.Sound.{AreKept, CoversNone, IsSameMember, IsSound, burden, max_burden}
use Rattle.replica_kept.proofs.Absorbs
use Rattle.replica_kept.proofs.Absorbs.{rows_after}
use Rattle.replica_kept.proofs.Advance.{new_past}
use Rattle.replica_kept.proofs.Coming
use Rattle.replica_kept.proofs.EditCall.{seen, size_of}
use Rattle.replica_kept.proofs.Entering.{canonical_many, entered_is, filter_fewer}

pub kept_stamps : {State Op : Type 0} (m : Meaning State Op) (n : ℕ) (ys xs : List (Entry Op)) → AreKept m n ys → xs ≡ ys → All (λ e. IsStamp e.stamp) xs
kept_stamps {Op = Op} m n ys xs h is = subst (All (λ (e : Entry Op). IsStamp e.stamp)) (sym is) (λ k d l. (h.issued k d l).stamp.stamp)

-- what is issued may stand at some stamp
pub issued_formed : {State Op : Type 0} (m : Meaning State Op) (law : IsLawful m) (n : ℕ) (ys xs : List (Entry Op)) → AreIssued m n ys → xs ≡ ys → AreFormed m xs
issued_formed {Op = Op} m law n ys xs h is = subst (AreFormed m) (sym is) (λ k d l. law.valid_well_formed (get_or ys k d).stamp (get_or ys k d).op (h k d l).valid)

-- the log and what waits, of the clock that is later
abbrev pub logged : {Op : Type 0} → Clock → List (Entry Op) → List (Entry Op) → List (Entry Op) → List (Entry Op)
logged later log waiting new = interleaved log (interleaved (filter (λ e. covers later (id_of e.stamp)) waiting) (filter (λ e. covers later (id_of e.stamp)) new))

abbrev pub after_of : {State Op : Type 0} → Meaning State Op → Kept State Op → ℕ → List Clock → Clock → List (Entry Op) → List (Entry Op) → List (Entry Op) → Kept State Op
after_of m z me rows later new ready left =
    record {
      ledger = record { doc = z.ledger.doc; me = me; log = beyond (meet_all rows) (logged later z.ledger.log z.ledger.waiting new); waiting = left; known = rows };
      woven = trim m (fold (deliver m) z.woven ready) (meet_all rows);
    }

pub after_call : {State Op : Type 0} (m : Meaning State Op) (doc : List ℕ) (kn : Known) (log waiting : List (Entry Op)) (woven : Weave State Op) (k : Kept State Op) → seen doc kn log waiting woven ≡ k
    → (me : ℕ) (rows : List Clock) (later : Clock) (new ready left l : List (Entry Op)) → l ≡ logged later log waiting new
    → (floor : Clock) → floor ≡ meet_all rows → (kl : List (Entry Op)) (w w' : Weave State Op) → kl ≡ beyond floor l → w ≡ fold (deliver m) woven ready → w' ≡ trim m w floor
    → record { ledger = record { doc = doc; me = me; log = kl; waiting = left; known = rows }; woven = w' } ≡ after_of m k me rows later new ready left
after_call {State} {Op} m doc kn log waiting woven k is me rows later new ready left l made floor f kl w w' a b c =
    let of : List (Entry Op) → Weave State Op → Kept State Op = λ z v. record { ledger = record { doc = doc; me = me; log = z; waiting = left; known = rows }; woven = v } in
    ap₂ of (a ∙ ap₂ beyond f made) (c ∙ ap₂ (trim m) b f)
    ∙ ap (λ (z : Kept State Op). after_of m z me rows later new ready left) is

-- no more turns than these
turns_few : {Op : Type 0} (k : ℕ) (d : Clock) (xs : List (Entry Op)) → length (in_turn k d xs) ≤ k
turns_few zero d xs = omega arith
turns_few {Op} (suc k) d xs = go (λ e zs. turns_few k e zs) (filter (is_next d) xs)
  where
    go : ((e : Clock) (zs : List (Entry Op)) → length (in_turn k e zs) ≤ k) → (ns : List (Entry Op)) → length (turn (λ x. in_turn k (join d x.stamp.clock) (beyond (join d x.stamp.clock) xs)) ns) ≤ suc k
    go few [] = omega arith
    go few (x ∷ ns) = let h = few (join d x.stamp.clock) (beyond (join d x.stamp.clock) xs) in omega (arith, h)

module _ {State Op : Type 0} (m : Meaning State Op) (law : IsLawful m) (kn : Known) (inv : AreRows kn) (k : Kept State Op) (me_is : kn.me ≡ k.ledger.me) (rows_are : rows_of kn ≡ k.ledger.known) (sound : IsSound m k)
    (b : Batch Op) (ok : IsBatchOf (length k.ledger.known) b) (free : IsFaultless m k.ledger b) (own : Clock) (own_is : own ≡ own_row k.ledger) (new ws cs : List (Entry Op)) (new_is : new ≡ Coming.new_of k.ledger b)
    (ws_is : ws ≡ k.ledger.waiting) (cs_is : cs ≡ new) where
  pub size : length k.ledger.known ≡ kn.n
  size = ap length (sym rows_are) ∙ size_of kn inv

  abbrev xs : List (Entry Op)
  xs = canonical (ws ++ cs)

  both : ws ++ cs ≡ k.ledger.waiting ++ Coming.new_of k.ledger b
  both = ap₂ (λ (l z : List (Entry Op)). l ++ z) ws_is (cs_is ∙ new_is)

  pub some_call : IsSome own.n own (ws ++ cs)
  some_call = subst (λ (c : Clock). IsSome c.n c (ws ++ cs)) (sym own_is) (subst (IsSome (own_row k.ledger).n (own_row k.ledger)) (sym both) (Coming.some_new m law k sound b ok free))

  pub ws_rise : IsRising ws
  ws_rise = subst IsRising (sym ws_is) sound.waiting.rising

  pub cs_rise : IsRising cs
  cs_rise = subst IsRising (sym (cs_is ∙ new_is)) (Coming.new_rises m law k sound b ok free)

  pub new_rise : IsRising new
  new_rise = subst IsRising (sym new_is) (Coming.new_rises m law k sound b ok free)

  pub new_stamps : All (λ e. IsStamp e.stamp) new
  new_stamps = subst (All (λ (e : Entry Op). IsStamp e.stamp)) (sym new_is) (Coming.new_stamps m law k sound b ok free)

  module _ (ready left : List (Entry Op)) (later : Clock) (in_turns : ready ≡ in_turn (length (canonical (ws ++ cs))) own (canonical (ws ++ cs))) (rest : left ≡ beyond later (canonical (ws ++ cs))) (up : later ≡ raised own ready) where
    pub ready_is : ready ≡ taken k.ledger b
    ready_is = in_turns ∙ ap (λ (c : Clock). in_turn (length xs) c xs) own_is ∙ Coming.taken_is m law k sound b ok free xs (ap canonical both)

    later_is : later ≡ raised (own_row k.ledger) (taken k.ledger b)
    later_is = up ∙ ap₂ raised own_is ready_is

    left_is : left ≡ beyond (raised (own_row k.ledger) (taken k.ledger b)) (come k.ledger b)
    left_is = rest ∙ ap₂ beyond later_is (ap canonical both ∙ sym (Coming.come_is m law k sound b ok free))

    pub later_call : IsClockOf kn.n later
    later_call = subst (λ (n : ℕ). IsClockOf n later) size (subst (IsClockOf (length k.ledger.known)) (sym later_is) (Coming.later_clock m law k sound b ok free))

    pub ready_issued : AreIssued m (length k.ledger.known) ready
    ready_issued = subst (AreIssued m (length k.ledger.known)) (sym ready_is) (Coming.taken_issued m law k sound b ok free)

    pub ready_next : AreNext (own_row k.ledger) ready
    ready_next = subst (AreNext (own_row k.ledger)) (sym ready_is) (Coming.taken_next m law k sound b ok free)

    pub ready_past : (before : Clock) → before ≡ meet_all k.ledger.known → CoversNone before ready
    ready_past before is = subst (λ (c : Clock). CoversNone c ready) (sym is) (new_past m law k sound ready ready_issued ready_next)

    pub stamped_call : (ops : List (Entry Op)) → ops ≡ ready → All (λ e. IsStampOf kn.n e.stamp) ops
    stamped_call ops is = subst (All (λ (e : Entry Op). IsStampOf kn.n e.stamp)) (sym is) (λ i d l. subst (λ (n : ℕ). IsStampOf n (get_or ready i d).stamp) size (ready_issued i d l).stamp)

    pub few_call : length ready + length left < 2 ^ 40
    few_call =
        let all : length xs ≡ length k.ledger.waiting + length (Coming.new_of k.ledger b) = ap (λ (l : List (Entry Op)). length (canonical l)) both ∙ canonical_many (k.ledger.waiting ++ Coming.new_of k.ledger b) ∙ length-append k.ledger.waiting (Coming.new_of k.ledger b) in
        let a : length ready ≤ length xs = subst (λ (l : List (Entry Op)). length l ≤ length xs) (sym in_turns) (turns_few (length xs) own xs) in
        let c : length left ≤ length xs = subst (λ (l : List (Entry Op)). length l ≤ length xs) (sym rest) (filter_fewer (λ (e : Entry Op). not (covers later (id_of e.stamp))) xs) in
        let e : length (Coming.new_of k.ledger b) ≤ length (beyond (own_row k.ledger) b.ops) = filter_fewer (λ (e : Entry Op). not (has_id k.ledger.waiting (id_of e.stamp))) (beyond (own_row k.ledger) b.ops) in
        let f : length (beyond (own_row k.ledger) b.ops) ≤ length b.ops = filter_fewer (λ (e : Entry Op). not (covers (own_row k.ledger) (id_of e.stamp))) b.ops in
        let few = sound.few in
        let most = ok.few in
        omega (arith, all, a, c, e, f, few, most)

    module _ (kn' : Known) (sender : ℕ) (header : Clock) (ops : List (Entry Op)) (s : sender ≡ b.sender) (h : header ≡ b.header) (o : ops ≡ ready)
        (rows' : rows_of kn' ≡ set (heard_header (heard (rows_of kn) ops) sender header later) kn.me later) (me' : kn'.me ≡ kn.me) where
      rows_is : rows_of kn' ≡ rows_after k.ledger b
      rows_is =
          rows'
          ∙ ap (λ (l : List (Entry Op)). set (heard_header (heard (rows_of kn) l) sender header later) kn.me later) (o ∙ ready_is)
          ∙ ap (λ (r : List Clock). set (heard_header (heard r (taken k.ledger b)) sender header later) kn.me later) rows_are
          ∙ ap₂ (λ (i : ℕ) (c : Clock). set (heard_header (heard k.ledger.known (taken k.ledger b)) i c later) kn.me later) s h
          ∙ ap₂ (λ (c : Clock) (i : ℕ). set (heard_header (heard k.ledger.known (taken k.ledger b)) b.sender b.header c) i c) later_is me_is

      pub count_call : (floor : Clock) (count : ℕ) → floor ≡ meet_all (rows_of kn') → count ≡ length (beyond floor k.ledger.log) + length (beyond floor ready) + length left → count ≡ burden (ledger_absorbed k.ledger b)
      count_call floor count f c =
          let g : floor ≡ meet_all (rows_after k.ledger b) = f ∙ ap meet_all rows_is in
          c ∙ Absorbs.burden_is m law k sound b ok free (length (beyond floor k.ledger.log)) (length (beyond floor ready)) (length left) (ap (λ (z : Clock). length (beyond z k.ledger.log)) g)
          (ap₂ (λ (z : Clock) (l : List (Entry Op)). length (beyond z l)) g ready_is) (ap length left_is)

      made : ℕ → List Clock → List (Entry Op) → List (Entry Op) → List (Entry Op) → Kept State Op
      made me rows log zs ls = record { ledger = record { doc = k.ledger.doc; me = me; log = beyond (meet_all rows) log; waiting = ls; known = rows }; woven = trim m (fold (deliver m) k.woven zs) (meet_all rows) }

      log_is : logged later k.ledger.log k.ledger.waiting new ≡ union k.ledger.log (taken k.ledger b)
      log_is =
          ap₂ (λ (c : Clock) (l : List (Entry Op)). logged c k.ledger.log k.ledger.waiting l) later_is new_is
          ∙ entered_is (own_row k.ledger) (raised (own_row k.ledger) (taken k.ledger b)) k.ledger.log k.ledger.waiting (Coming.new_of k.ledger b) (taken k.ledger b) (Coming.entering m law k sound b ok free)

      pub absorbed_call : (r : Kept State Op) → r ≡ after_of m k kn'.me (rows_of kn') later new ready left → r ≡ kept_absorbed m k b
      unfolding made
      absorbed_call r is =
          is
          ∙ ap (λ (l : List (Entry Op)). made kn'.me (rows_of kn') l ready left) log_is
          ∙ ap₂ (λ (i : ℕ) (rows : List Clock). made i rows (union k.ledger.log (taken k.ledger b)) ready left) (me' ∙ me_is) rows_is
          ∙ ap₂ (λ (zs ls : List (Entry Op)). made k.ledger.me (rows_after k.ledger b) (union k.ledger.log (taken k.ledger b)) zs ls) ready_is left_is
          ∙ sym (Absorbs.after_is m law k sound b ok free)

      pub did_call : (i j : ℕ) → i ≡ length ready → j ≡ length left → record { delivered = i; waiting = j } ≡ merged_of k.ledger b
      did_call i j p q =
          ap₂ (λ (d w : ℕ). record { delivered = d; waiting = w }) (p ∙ ap length ready_is)
          (q ∙ ap length left_is ∙ ap (λ (l : Ledger Op). length l.waiting) (sym (Absorbs.absorbed_ledger k.ledger b)))

      pub sound_call : (r : Kept State Op) → r ≡ kept_absorbed m k b → IsHeld m (raised (own_row k.ledger) ready) r.woven → burden (ledger_absorbed k.ledger b) ≤ max_burden → IsSound m r
      sound_call r is held few = Absorbs.absorbed_sound m law k sound b ok free r is (subst (λ (l : List (Entry Op)). IsHeld m (raised (own_row k.ledger) l) r.woven) ready_is held) few

      pub same_call : (r : Kept State Op) → r ≡ kept_absorbed m k b → IsSameMember r.ledger k.ledger
      same_call r is =
          let made = is ∙ Absorbs.after_is m law k sound b ok free in
          record {
            doc = ap (λ (z : Kept State Op). z.ledger.doc) made;
            me = ap (λ (z : Kept State Op). z.ledger.me) made;
            members = ap (λ (z : Kept State Op). length z.ledger.known) made ∙ (Absorbs.rows_are m law k sound b ok free).length;
          }
