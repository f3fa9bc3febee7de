-- What comes of a batch without a fault: what waits, and what the batch has that is new.
use Rattle.std.proofs.Common.{◌≡◌, ℕ, ◌<◌, ◌≤◌, Bool, true, false, not, List, [], ◌∷◌, ◌++◌, ap, ap₂, sym, ◌∙◌, subst, arith, length, cond, Contains, inl, inr, fold, refl, eqb, max}
use Rattle.std.specs.Prelude.{filter}
use Rattle.std.specs.List.{All}
use Rattle.std.specs.Option.{is_some}
use Rattle.std.specs.BTreeMap.{BTreeMap, get}
use Rattle.std.proofs.lemmas.Bool.{both_ways, eq-eqb, le-leb, not-true}
use Rattle.std.proofs.lemmas.List.Elements.{All-contains, Contains-append_cases}
use Rattle.vector_clock.specs.declared.clock.Clock.{Clock}
use Rattle.vector_clock.specs.declared.clock.Id.{Id}
use Rattle.vector_clock.specs.Clock.{IsAtMost, count, covers}
use Rattle.vector_clock.specs.Stamp.{IsStamp, id_of}
use Rattle.crdt_laws.specs.declared.small.Entry.{Entry}
use Rattle.crdt_laws.specs.Sets.{AreApart, AreIssued, IsRising, beyond, canonical, has_id, union}
use Rattle.crdt_laws.specs.Tower.{Meaning, IsIssued, IsLawful, IsStampOf}
use Rattle.crdt_laws.proofs.Filters.{apart-filter, rising-filter}
use Rattle.crdt_laws.proofs.Place.{rising-canonical}
use Rattle.crdt_laws.proofs.Members.{Contains-canonical, Contains-cases, filter_inside, filter_passed}
use Rattle.replica_model.specs.Replica.{Batch}
use Rattle.replica_model.proofs.Names.{all_from_contains, has_id_from}
use Rattle.replica_model.proofs.Ready.{covers_on}
use Rattle.forgetting_model.specs.Kept.{Kept}
use Rattle.forgetting_model.specs.Ledger.{Ledger, come, own_row, raised}
use Rattle.forgetting_model.specs.Truth.{IsClockOf}
use Rattle.forgetting_model.specs.Turns.{AreNext, IsSome, in_turn, taken}
use Rattle.forgetting_model.proofs.Forgets.{in_beyond}
use Rattle.forgetting_model.proofs.Raised.{raised_clock, raised_has}
use Rattle.forgetting_model.proofs.Reached.{IsEnd, end_of_turns, turns_covered}
use Rattle.forgetting_model.proofs.Rows.{AreStamped}
use Rattle.forgetting_model.proofs.Tells.{covers_itself}
use Rattle.causal_buffer.specs.Buffer.{ArePlaces, by_id}
use Rattle.causal_buffer.proofs.Whole.{some_by_key}
use Rattle.replica_kept.specs.Merging.{IsBatchOf, IsFaultless, last_of}
use Rattle.replica_kept.specs.Sound.{CoversNone, IsSound}
use Rattle.replica_kept.proofs.Edits
use Rattle.replica_kept.proofs.Entering.{IsEntering, apart_append, next_apart}

filter_same : {X : Type 0} (p q : X → Bool) → ((x : X) → p x ≡ q x) → (xs : List X) → filter p xs ≡ filter q xs
filter_same p q h [] = refl
filter_same {X} p q h (x ∷ xs) = ap₂ (λ (b : Bool) (l : List X). cond b (x ∷ l) l) (h x) (filter_same p q h xs)

-- the operations of a batch that are new
abbrev pub new_of : {Op : Type 0} → Ledger Op → Batch Op → List (Entry Op)
new_of l b = filter (λ e. not (has_id l.waiting (id_of e.stamp))) (beyond (own_row l) b.ops)

pub new_is : {Op : Type 0} (l : Ledger Op) (b : Batch Op) (places : BTreeMap Id ℕ) → ArePlaces places l.waiting → filter (λ e. not (is_some (get by_id places (id_of e.stamp)))) (beyond (own_row l) b.ops) ≡ new_of l b
new_is {Op} l b places h =
    filter_same (λ (e : Entry Op). not (is_some (get by_id places (id_of e.stamp)))) (λ e. not (has_id l.waiting (id_of e.stamp))) (λ e. ap not (h.named (id_of e.stamp))) (beyond (own_row l) b.ops)

-- the greatest number of a member is that of one of its operations at least
abbrev step : {Op : Type 0} → ℕ → ℕ → Entry Op → ℕ
step j k e = cond (eqb e.stamp.member j) (max k (count e.stamp.clock e.stamp.member)) k

step_grows : {Op : Type 0} (j k : ℕ) (x : Entry Op) → k ≤ step j k x
step_grows j k x = elim (eqb x.stamp.member j) as (λ b. k ≤ cond b (max k (count x.stamp.clock x.stamp.member)) k) [
  | true ↦ omega arith
  | false ↦ omega arith
]

steps_grow : {Op : Type 0} (j : ℕ) (xs : List (Entry Op)) (k : ℕ) → k ≤ fold (step j) k xs
steps_grow j [] k = omega arith
steps_grow j (x ∷ xs) k = let rest = steps_grow j xs (step j k x) in let here = step_grows j k x in omega (arith, rest, here)

above_from : {Op : Type 0} (j : ℕ) (xs : List (Entry Op)) (k : ℕ) (e : Entry Op) → Contains xs e → e.stamp.member ≡ j → count e.stamp.clock e.stamp.member ≤ fold (step j) k xs
above_from j [] k e c same = let l : c.0 < 0 = c.1 in absurd (omega arith)
above_from {Op} j (x ∷ xs) k e c same = elim (Contains-cases x xs e c) [
  | inl q ↦
      (let rest = steps_grow j xs (step j k x) in
      let own : eqb x.stamp.member j ≡ true = eq-eqb x.stamp.member j (ap (λ (z : Entry Op). z.stamp.member) q ∙ same) in
      let here : step j k x ≡ max k (count x.stamp.clock x.stamp.member) = ap (λ (b : Bool). cond b (max k (count x.stamp.clock x.stamp.member)) k) own in
      let it : count e.stamp.clock e.stamp.member ≡ count x.stamp.clock x.stamp.member = ap (λ (z : Entry Op). count z.stamp.clock z.stamp.member) (sym q) in
      omega (arith, rest, here, it))
  | inr i ↦ above_from j xs (step j k x) e i same
]

pub last_above : {Op : Type 0} (j : ℕ) (xs : List (Entry Op)) (e : Entry Op) → Contains xs e → e.stamp.member ≡ j → count e.stamp.clock e.stamp.member ≤ last_of j xs
last_above j xs e c same = above_from j xs 0 e c same

module _ {State Op : Type 0} (m : Meaning State Op) (law : IsLawful m) (k : Kept State Op) (sound : IsSound m k) (b : Batch Op) (ok : IsBatchOf (length k.ledger.known) b) (free : IsFaultless m k.ledger b) where
  abbrev l : Ledger Op
  l = k.ledger

  abbrev n : ℕ
  n = length k.ledger.known

  abbrev own : Clock
  own = own_row k.ledger

  abbrev Issued : Entry Op → Type 0
  Issued e = IsIssued m (length k.ledger.known) e.stamp e.op

  own_clock : IsClockOf n own
  own_clock = Edits.own_clock m law k sound

  new_inside : (e : Entry Op) → Contains (new_of k.ledger b) e → Contains b.ops e × (covers own (id_of e.stamp) ≡ false)
  new_inside e c = in_beyond own b.ops e (filter_inside (λ (e : Entry Op). not (has_id k.ledger.waiting (id_of e.stamp))) (beyond own b.ops) e c)

  pub new_uncovered : (xs : List (Entry Op)) (d : Clock) → xs ≡ new_of k.ledger b → d ≡ own_row k.ledger → CoversNone d xs
  new_uncovered xs d is same e c = ap (λ (k : Clock). covers k (id_of e.stamp)) same ∙ (new_inside e (subst (λ (l : List (Entry Op)). Contains l e) is c)).1

  new_unnamed : (e : Entry Op) → Contains (new_of k.ledger b) e → has_id k.ledger.waiting (id_of e.stamp) ≡ false
  new_unnamed e c = not-true (has_id k.ledger.waiting (id_of e.stamp)) (filter_passed (λ (e : Entry Op). not (has_id k.ledger.waiting (id_of e.stamp))) (beyond own b.ops) e c)

  pub new_rises : IsRising (new_of k.ledger b)
  new_rises = rising-filter (λ (e : Entry Op). not (has_id k.ledger.waiting (id_of e.stamp))) (beyond own b.ops) (rising-filter (λ (e : Entry Op). not (covers own (id_of e.stamp))) b.ops ok.rising)

  new_apart : AreApart (new_of k.ledger b)
  new_apart = apart-filter (λ (e : Entry Op). not (has_id k.ledger.waiting (id_of e.stamp))) (beyond own b.ops) (apart-filter (λ (e : Entry Op). not (covers own (id_of e.stamp))) b.ops ok.apart)

  batch_issued : (e : Entry Op) → Contains b.ops e → Issued e
  batch_issued e c = record {
    stamp = All-contains (λ (e : Entry Op). IsStampOf (length k.ledger.known) e.stamp) b.ops e ok.stamped c;
    valid = All-contains (λ (e : Entry Op). m.valid e.stamp e.op) b.ops e free.valid c;
  }

  pub new_issued : AreIssued m (length k.ledger.known) (new_of k.ledger b)
  new_issued = all_from_contains Issued (new_of k.ledger b) (λ e c. batch_issued e (new_inside e c).0)

  pub new_stamps : All (λ e. IsStamp e.stamp) (new_of k.ledger b)
  new_stamps = all_from_contains (λ (e : Entry Op). IsStamp e.stamp) (new_of k.ledger b) (λ e c. (batch_issued e (new_inside e c).0).stamp.stamp)

  both_issued : (e : Entry Op) → Contains (k.ledger.waiting ++ new_of k.ledger b) e → Issued e
  both_issued e c = elim (Contains-append_cases k.ledger.waiting (new_of k.ledger b) e c) [
    | inl i ↦ All-contains Issued k.ledger.waiting e sound.waiting.issued i
    | inr j ↦ batch_issued e (new_inside e j).0
  ]

  outside : (e : Entry Op) → Contains (k.ledger.waiting ++ new_of k.ledger b) e → covers own (id_of e.stamp) ≡ false
  outside e c = elim (Contains-append_cases k.ledger.waiting (new_of k.ledger b) e c) [
    | inl i ↦ sound.new e i
    | inr j ↦ (new_inside e j).1
  ]

  both_apart : AreApart (k.ledger.waiting ++ new_of k.ledger b)
  both_apart = apart_append k.ledger.waiting (new_of k.ledger b) sound.waiting.apart new_apart (λ e f c d same.
      both_ways (has_id k.ledger.waiting (id_of f.stamp)) (new_unnamed f d) (has_id_from k.ledger.waiting e (id_of f.stamp) c (sym same)))

  -- none of them is of the own member
  both_others : (e : Entry Op) → Contains (k.ledger.waiting ++ new_of k.ledger b) e → e.stamp.member ≡ k.ledger.me → ⊥
  both_others e c same = elim (Contains-append_cases k.ledger.waiting (new_of k.ledger b) e c) [
    | inl i ↦ sound.others e i same
    | inr j ↦
        (let f = new_inside e j in
        let low : count e.stamp.clock e.stamp.member ≤ last_of k.ledger.me b.ops = last_above k.ledger.me b.ops e f.0 same in
        let most : last_of k.ledger.me b.ops ≤ count own k.ledger.me = free.own in
        let here : count own e.stamp.member ≡ count own k.ledger.me = ap (count own) same in
        both_ways (covers own (id_of e.stamp)) f.1 (le-leb (count e.stamp.clock e.stamp.member) (count own e.stamp.member) (omega (arith, low, most, here))))
  ]

  some_of : IsSome n own (k.ledger.waiting ++ new_of k.ledger b)
  some_of = record { clock = own_clock; stamped = λ e c. (both_issued e c).stamp; apart = both_apart; new = outside }

  pub some_new : IsSome (own_row k.ledger).n (own_row k.ledger) (k.ledger.waiting ++ new_of k.ledger b)
  some_new = subst (λ (i : ℕ). IsSome i own (k.ledger.waiting ++ new_of k.ledger b)) (sym own_clock.members) some_of

  pub come_is : come k.ledger b ≡ canonical (k.ledger.waiting ++ new_of k.ledger b)
  unfolding union
  come_is = refl

  some : IsSome n own (come k.ledger b)
  some = subst (IsSome n own) (sym come_is) (some_by_key n own k.ledger.waiting (new_of k.ledger b) some_of)

  come_from : (e : Entry Op) → Contains (come k.ledger b) e → Contains (k.ledger.waiting ++ new_of k.ledger b) e
  come_from e c = (Contains-canonical (k.ledger.waiting ++ new_of k.ledger b) e).1 (subst (λ (xs : List (Entry Op)). Contains xs e) come_is c)

  come_has : (e : Entry Op) → Contains (k.ledger.waiting ++ new_of k.ledger b) e → Contains (come k.ledger b) e
  come_has e c = subst (λ (xs : List (Entry Op)). Contains xs e) (sym come_is) ((Contains-canonical (k.ledger.waiting ++ new_of k.ledger b) e).0 c)

  -- the turns
  pub taken_is : (xs : List (Entry Op)) → xs ≡ canonical (k.ledger.waiting ++ new_of k.ledger b) → in_turn (length xs) own xs ≡ taken k.ledger b
  taken_is xs is = ap (λ (zs : List (Entry Op)). in_turn (length zs) own zs) (is ∙ sym come_is)

  end : IsEnd own (come k.ledger b) (taken k.ledger b)
  end = end_of_turns n own (come k.ledger b) some

  taken_from : (e : Entry Op) → Contains (taken k.ledger b) e → Contains (k.ledger.waiting ++ new_of k.ledger b) e
  taken_from e c = come_from e (end.inside e c)

  pub taken_issued : AreIssued m (length k.ledger.known) (taken k.ledger b)
  taken_issued = all_from_contains Issued (taken k.ledger b) (λ e c. both_issued e (taken_from e c))

  taken_stamped : AreStamped n (taken k.ledger b)
  taken_stamped e c = (both_issued e (taken_from e c)).stamp

  pub taken_next : AreNext (own_row k.ledger) (taken k.ledger b)
  taken_next = end.next

  abbrev later : Clock
  later = raised (own_row k.ledger) (taken k.ledger b)

  pub later_clock : IsClockOf (length k.ledger.known) (raised (own_row k.ledger) (taken k.ledger b))
  later_clock = raised_clock n own (taken k.ledger b) own_clock taken_stamped

  pub taken_known : (e : Entry Op) → Contains (taken k.ledger b) e → IsAtMost e.stamp.clock later
  taken_known = raised_has n own (taken k.ledger b) own_clock taken_stamped

  taken_covered : (e : Entry Op) → Contains (taken k.ledger b) e → covers later (id_of e.stamp) ≡ true
  taken_covered = turns_covered n own (come k.ledger b) some

  log_covered : (e : Entry Op) → Contains k.ledger.log e → covers own (id_of e.stamp) ≡ true
  log_covered e c = covers_on e.stamp.clock own (id_of e.stamp) (sound.known e c) (covers_itself e)

  pub entering : IsEntering own later k.ledger.log k.ledger.waiting (new_of k.ledger b) (taken k.ledger b)
  entering = record {
    log_rises = sound.log.rising;
    ws_rises = sound.waiting.rising;
    ns_rises = new_rises;
    log_apart = sound.log.apart;
    both_apart = both_apart;
    new_apart = next_apart n own (taken k.ledger b) own_clock taken_stamped end.next;
    old = log_covered;
    outside = outside;
    inside = taken_from;
    covered = taken_covered;
    all = λ e c t. elim (end.rest e (come_has e c)) [
      | inl i ↦ i
      | inr j ↦ absurd (both_ways (covers later (id_of e.stamp)) (in_beyond later (come k.ledger b) e j).1 t)
    ];
  }

  -- what waits then
  abbrev left : List (Entry Op)
  left = beyond later (come k.ledger b)

  left_inside : (e : Entry Op) → Contains left e → Contains (k.ledger.waiting ++ new_of k.ledger b) e
  left_inside e c = come_from e (in_beyond later (come k.ledger b) e c).0

  pub left_issued : All Issued left
  left_issued = all_from_contains Issued left (λ e c. both_issued e (left_inside e c))

  pub left_rises : IsRising left
  left_rises = rising-filter (λ (e : Entry Op). not (covers later (id_of e.stamp))) (come k.ledger b) (subst IsRising (sym come_is) (rising-canonical (k.ledger.waiting ++ new_of k.ledger b) both_apart))

  pub left_apart : AreApart left
  left_apart = apart-filter (λ (e : Entry Op). not (covers later (id_of e.stamp))) (come k.ledger b) some.apart

  pub left_outside : (e : Entry Op) → Contains left e → covers later (id_of e.stamp) ≡ false
  left_outside e c = (in_beyond later (come k.ledger b) e c).1

  pub left_others : (e : Entry Op) → Contains left e → e.stamp.member ≡ k.ledger.me → ⊥
  left_others e c = both_others e (left_inside e c)
