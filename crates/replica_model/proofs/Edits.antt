-- A new operation of a member keeps the honest set in which all of that member's operations are its own.
use Rattle.std.proofs.Common.{◌≡◌, ℕ, ◌+◌, ◌<◌, ◌≤◌, true, false, List, ◌∷◌, ◌++◌, refl, ap, sym, ◌∙◌, subst, arith, Contains, length, inl, inr, ◌⊎◌}
use Rattle.std.specs.List.{Any}
use Rattle.std.proofs.Math.ListN.{length-set}
use Rattle.std.proofs.lemmas.Bool.{both_ways, false_from_ne_true, le-leb}
use Rattle.std.proofs.lemmas.List.Elements.{All-contains, Contains-append_left, Contains-append_right, Contains-append_cases}
use Rattle.vector_clock.specs.declared.clock.Clock.{Clock}
use Rattle.vector_clock.specs.declared.clock.Id.{Id}
use Rattle.vector_clock.specs.declared.stamp.Stamp.{Stamp}
use Rattle.vector_clock.specs.Clock.{IsAtMost, count, covers, max_members}
use Rattle.vector_clock.specs.Stamp.{IsAfter, id_of, is_before, same_id}
use Rattle.vector_clock.proofs.Keys.{before_covers, same_id_sym}
use Rattle.crdt_laws.specs.declared.small.Entry.{Entry}
use Rattle.crdt_laws.specs.Entry.{entry}
use Rattle.crdt_laws.specs.Sets.{IsClosed, IsHonest, IsRising, has_id, place}
use Rattle.crdt_laws.specs.Tower.{IsStampOf, IsWithin}
use Rattle.crdt_laws.proofs.Filters.{all-place}
use Rattle.crdt_laws.proofs.Members.{Contains-cases, Contains-front, Contains-more, Contains-place, at_member}
use Rattle.crdt_laws.proofs.Place.{rising-place}
use Rattle.replica_model.specs.Family.{IsSoundReplica, WaitsIn}
use Rattle.replica_model.specs.Replica.{Replica, edited, members, next_stamp, version}
use Rattle.replica_model.proofs.Names.{all_from_contains, any_from, has_id_from, named_in, same_id_is, same_id_from_ids}
use Rattle.replica_model.proofs.Pools.{each_from}
use Rattle.replica_model.proofs.Versions.{count-with_other, count-with_own, length-version, more_covers, more_knows, n-version, version_has, version_is_clock, version_knows}

-- an honest set with one more operation

before_other : (a b : Stamp) → is_before a b ≡ true → same_id a b ≡ false
unfolding is_before
before_other a b h = grind arith

pub honest_with : {Op : Type 0} (zs : List (Entry Op)) (x : Entry Op) → IsHonest zs
    → ((a : Entry Op) → Contains zs a → same_id a.stamp x.stamp ≡ false)
    → ((b : Entry Op) → Contains zs b → is_before b.stamp x.stamp ≡ true → IsAfter b.stamp.clock x.stamp)
    → ((a : Entry Op) → Contains zs a → is_before x.stamp a.stamp ≡ false) → IsHonest (x ∷ zs)
honest_with {Op} zs x honest fresh after unknown = record { same = same; known = known }
  where
    same : (a b : Entry Op) → Contains (x ∷ zs) a → Contains (x ∷ zs) b → same_id a.stamp b.stamp ≡ true → a ≡ b
    same a b c d s =
        elim (Contains-cases x zs a c) [
          | inl q ↦ elim (Contains-cases x zs b d) [
            | inl p ↦ sym q ∙ p
            | inr j ↦ absurd (both_ways (same_id b.stamp x.stamp) (fresh b j) (subst (λ (z : Entry Op). same_id b.stamp z.stamp ≡ true) (sym q) (same_id_sym a.stamp b.stamp s)))
          ]
          | inr i ↦ elim (Contains-cases x zs b d) [
            | inl p ↦ absurd (both_ways (same_id a.stamp x.stamp) (fresh a i) (subst (λ (z : Entry Op). same_id a.stamp z.stamp ≡ true) (sym p) s))
            | inr j ↦ honest.same a b i j s
          ]
        ]

    known : (a b : Entry Op) → Contains (x ∷ zs) a → Contains (x ∷ zs) b → is_before b.stamp a.stamp ≡ true → IsAfter b.stamp.clock a.stamp
    known a b c d before =
        elim (Contains-cases x zs a c) [
          | inl q ↦ elim (Contains-cases x zs b d) [
            | inl p ↦ absurd (both_ways (same_id b.stamp a.stamp) (before_other b.stamp a.stamp before)
                (same_id_from_ids b.stamp a.stamp (ap (λ (z : Entry Op). id_of z.stamp) (sym p ∙ q))))
            | inr j ↦ subst (λ (z : Entry Op). IsAfter b.stamp.clock z.stamp) q
                (after b j (subst (λ (z : Entry Op). is_before b.stamp z.stamp ≡ true) (sym q) before))
          ]
          | inr i ↦ elim (Contains-cases x zs b d) [
            | inl p ↦ absurd (both_ways (is_before x.stamp a.stamp) (unknown a i) (subst (λ (z : Entry Op). is_before z.stamp a.stamp ≡ true) (sym p) before))
            | inr j ↦ honest.known a b i j before
          ]
        ]

pub in_place : {Op : Type 0} (x : Entry Op) (l : List (Entry Op)) (e : Entry Op) → Contains (place x l) e → (x ≡ e) ⊎ Contains l e
in_place {Op} x l e c =
    let P : (Entry Op → Type 0) = λ z. (x ≡ z) ⊎ Contains l z in
    at_member P (place x l) e (all-place P x (inl refl) l (each_from P l (λ z d. inr d))) c

covers_itself : (p : Stamp) → covers p.clock (id_of p) ≡ true
covers_itself p = le-leb (count p.clock p.member) (count p.clock p.member) (omega arith)

-- the parts of an edited replica

pub delivered-edited : {Op : Type 0} (r : Replica Op) (op : Op) → (edited r op).delivered ≡ place (entry (next_stamp r) op) r.delivered
unfolding edited
delivered-edited r op = refl

pub me-edited : {Op : Type 0} (r : Replica Op) (op : Op) → (edited r op).me ≡ r.me
unfolding edited
me-edited r op = refl

pub doc-edited : {Op : Type 0} (r : Replica Op) (op : Op) → (edited r op).doc ≡ r.doc
unfolding edited
doc-edited r op = refl

-- all operations that are anywhere, and a replica that has all of its own member's

pub record MayEdit {Op : Type 0} (zs : List (Entry Op)) (n : ℕ) (r : Replica Op) : Type 0 where
  pub few : n ≤ max_members
  pub honest : IsHonest zs
  pub closed : IsClosed zs
  pub stamped : (e : Entry Op) → Contains zs e → IsStampOf n e.stamp
  pub sound : IsSoundReplica n r
  pub inside : (e : Entry Op) → Contains (r.delivered ++ r.waiting) e → Contains zs e
  pub mine : (e : Entry Op) → Contains zs e → e.stamp.member ≡ r.me → Contains r.delivered e

module _ {Op : Type 0} (zs : List (Entry Op)) (n : ℕ) (r : Replica Op) (may : MayEdit zs n r) where
  abbrev k : Clock
  k = version (members r) r.delivered

  delivered_stamped : (e : Entry Op) → Contains r.delivered e → IsStampOf (members r) e.stamp
  delivered_stamped e c = subst (λ (j : ℕ). IsStampOf j e.stamp) (sym may.sound.rows) (may.stamped e (may.inside e (Contains-append_left r.delivered r.waiting e c)))

  k_knows : (e : Entry Op) → Contains r.delivered e → IsAtMost e.stamp.clock k
  k_knows = version_knows (members r) r.delivered delivered_stamped

  wide : length k.at ≡ max_members
  wide = length-version (members r) r.delivered

  within : r.me < max_members
  within = let m = may.sound.member in let f = may.few in omega arith

  new_seq : count (next_stamp r).clock r.me ≡ count k r.me + 1
  new_seq = count-with_own k r.me (count k r.me + 1) wide within

  new_id : id_of (next_stamp r) ≡ record { member = r.me; seq = count k r.me + 1 }
  new_id = ap (λ (s : ℕ). record { member = r.me; seq = s }) new_seq

  -- no operation knows of the new id
  pub unknown : (a : Entry Op) → Contains zs a → covers a.stamp.clock (id_of (next_stamp r)) ≡ true → ⊥
  unknown a c cov =
      let found = may.closed.each a (id_of (next_stamp r)) c (let s = new_seq in omega arith) cov in
      let x = found.1 in
      let same_member : x.stamp.member ≡ r.me = ap (λ (i : Id). i.member) found.4 in
      let same_seq : count x.stamp.clock x.stamp.member ≡ count (next_stamp r).clock r.me = ap (λ (i : Id). i.seq) found.4 in
      let at_most : count x.stamp.clock x.stamp.member ≤ count k x.stamp.member = (k_knows x (may.mine x (found.0, found.2, found.3) same_member)).each x.stamp.member in
      let own : count k x.stamp.member ≡ count k r.me = ap (λ (m : ℕ). count k m) same_member in
      let s = new_seq in
      omega arith

  pub new_name : (a : Entry Op) → Contains zs a → id_of a.stamp ≡ id_of (next_stamp r) → ⊥
  new_name a c e = unknown a c (subst (λ (i : Id). covers a.stamp.clock i ≡ true) e (covers_itself a.stamp))

  fresh : (a : Entry Op) → Contains zs a → same_id a.stamp (next_stamp r) ≡ false
  fresh a c = false_from_ne_true (same_id a.stamp (next_stamp r)) (λ s. new_name a c (same_id_is a.stamp (next_stamp r) s))

  -- an id that the version covers is there, and so its operation is in
  covered_in : (b : Entry Op) → Contains zs b → 1 ≤ count b.stamp.clock b.stamp.member → covers k (id_of b.stamp) ≡ true → Contains r.delivered b
  covered_in b c counted cov =
      let found = version_has (members r) r.delivered delivered_stamped may.sound.closed (id_of b.stamp) counted cov in
      let in_delivered : Contains r.delivered found.1 = (found.0, found.2, found.3) in
      let same : found.1 ≡ b = may.honest.same found.1 b (may.inside found.1 (Contains-append_left r.delivered r.waiting found.1 in_delivered)) c
      (same_id_from_ids found.1.stamp b.stamp found.4) in
      subst (λ (z : Entry Op). Contains r.delivered z) same in_delivered

  after : (b : Entry Op) → Contains zs b → is_before b.stamp (next_stamp r) ≡ true → IsAfter b.stamp.clock (next_stamp r)
  after b c before =
      elim (more_covers k r.me wide within (id_of b.stamp) (before_covers b.stamp (next_stamp r) before)) [
        | inl q ↦ absurd (new_name b c (q ∙ sym new_id))
        | inr old ↦
            (let below = k_knows b (covered_in b c (may.stamped b c).stamp.counted old) in
            let on = more_knows k r.me wide within in
            record {
              knows = record { each = λ m. omega (arith, below.each m, on.each m) };
              new = false_from_ne_true (covers b.stamp.clock (id_of (next_stamp r))) (unknown b c);
            })
      ]

  pub honest_edited : (op : Op) → IsHonest (entry (next_stamp r) op ∷ zs)
  honest_edited op =
      honest_with zs (entry (next_stamp r) op) may.honest fresh after
      (λ a c. false_from_ne_true (is_before (next_stamp r) a.stamp) (λ t. unknown a c (before_covers (next_stamp r) a.stamp t)))

  -- within the limit the next stamp is one
  pub next_stamp_is : IsWithin (next_stamp r) → IsStampOf n (next_stamp r)
  next_stamp_is limit =
      let m = may.sound.member in
      let rows = may.sound.rows in
      let clock = version_is_clock (members r) r.delivered delivered_stamped (omega arith) (let f = may.few in omega arith) in
      let s = new_seq in
      let size : k.n ≡ n = n-version (members r) r.delivered ∙ rows in
      record {
        stamp = record {
          clock = record {
            some = clock.some;
            most = clock.most;
            wide = length-set k.at r.me (count k r.me + 1) ∙ wide;
            bounded = λ i. let b = limit.each i in omega arith;
            empty_past = λ i h. count-with_other k r.me (count k r.me + 1) i (λ q. omega arith) ∙ clock.empty_past i h;
          };
          member = omega arith;
          counted = omega arith;
        };
        members = size;
      }

  -- the edited replica

  in_edited : (op : Op) (e : Entry Op) → Contains (edited r op).delivered e → (entry (next_stamp r) op ≡ e) ⊎ Contains r.delivered e
  unfolding edited
  in_edited op e c = in_place (entry (next_stamp r) op) r.delivered e c

  pub edited_has : (op : Op) → Contains (edited r op).delivered (entry (next_stamp r) op)
  unfolding edited
  edited_has op = Contains-place (entry (next_stamp r) op) r.delivered (entry (next_stamp r) op) (Contains-front (entry (next_stamp r) op) r.delivered)

  pub edited_grows : (op : Op) (e : Entry Op) → Contains r.delivered e → Contains (edited r op).delivered e
  unfolding edited
  edited_grows op e c = Contains-place (entry (next_stamp r) op) r.delivered e (Contains-more (entry (next_stamp r) op) r.delivered e c)

  pub in_edited_all : (op : Op) (e : Entry Op) → Contains ((edited r op).delivered ++ (edited r op).waiting) e → Contains (entry (next_stamp r) op ∷ zs) e
  unfolding edited
  in_edited_all op e c =
      let x = entry (next_stamp r) op in
      elim (Contains-append_cases (place x r.delivered) r.waiting e c) [
        | inl i ↦ elim (in_place x r.delivered e i) [
          | inl q ↦ subst (λ (z : Entry Op). Contains (x ∷ zs) z) q (Contains-front x zs)
          | inr j ↦ Contains-more x zs e (may.inside e (Contains-append_left r.delivered r.waiting e j))
        ]
        | inr j ↦ Contains-more x zs e (may.inside e (Contains-append_right r.delivered r.waiting e j))
      ]

  waiting-edited : (op : Op) → (edited r op).waiting ≡ r.waiting
  unfolding edited
  waiting-edited op = refl

  edited_rises : (op : Op) → IsRising (edited r op).delivered
  unfolding edited
  edited_rises op =
      let x = entry (next_stamp r) op in
      rising-place x r.delivered
      (each_from (λ (e : Entry Op). same_id (next_stamp r) e.stamp ≡ false) r.delivered (λ e c.
      false_from_ne_true (same_id (next_stamp r) e.stamp) (λ s.
      new_name e (may.inside e (Contains-append_left r.delivered r.waiting e c)) (sym (same_id_is (next_stamp r) e.stamp s)))))
      may.sound.delivered_by_key

  edited_named : (op : Op) (i : Id) → 1 ≤ i.seq → covers (next_stamp r).clock i ≡ true → Any (λ (b : Entry Op). id_of b.stamp ≡ i) (edited r op).delivered
  edited_named op i counted cov =
      let x = entry (next_stamp r) op in
      elim (more_covers k r.me wide within i cov) [
        | inl q ↦ any_from (λ (b : Entry Op). id_of b.stamp ≡ i) (edited r op).delivered x (edited_has op) (new_id ∙ sym q)
        | inr old ↦ lift (version_has (members r) r.delivered delivered_stamped may.sound.closed i counted old)
      ]
    where
      lift : Any (λ (b : Entry Op). id_of b.stamp ≡ i) r.delivered → Any (λ (b : Entry Op). id_of b.stamp ≡ i) (edited r op).delivered
      lift f = any_from (λ (b : Entry Op). id_of b.stamp ≡ i) (edited r op).delivered f.1 (edited_grows op f.1 (f.0, f.2, f.3)) f.4

  edited_closed : (op : Op) → IsClosed (edited r op).delivered
  edited_closed op = record {
    each = λ a i c counted cov. elim (in_edited op a c) [
      | inl q ↦ edited_named op i counted (subst (λ (z : Entry Op). covers z.stamp.clock i ≡ true) (sym q) cov)
      | inr j ↦
          (let f = may.sound.closed.each a i j counted cov in
          any_from (λ (b : Entry Op). id_of b.stamp ≡ i) (edited r op).delivered f.1 (edited_grows op f.1 (f.0, f.2, f.3)) f.4)
    ];
  }

  waiting_inside : (e : Entry Op) → Contains r.waiting e → Contains zs e
  waiting_inside e c = may.inside e (Contains-append_right r.delivered r.waiting e c)

  still_absent : (op : Op) (e : Entry Op) (i : Id) → Contains r.waiting e → covers e.stamp.clock i ≡ true → has_id (r.delivered ++ r.waiting) i ≡ false
      → has_id ((edited r op).delivered ++ r.waiting) i ≡ false
  still_absent op e i c cov none =
      let all = (edited r op).delivered ++ r.waiting in
      let old = r.delivered ++ r.waiting in
      false_from_ne_true (has_id all i) (λ t.
      let found = named_in all i t in
      elim (Contains-append_cases (edited r op).delivered r.waiting found.0 found.1) [
        | inl d ↦ elim (in_edited op found.0 d) [
          | inl q ↦ unknown e (waiting_inside e c) (subst (λ (j : Id). covers e.stamp.clock j ≡ true) (sym (ap (λ (z : Entry Op). id_of z.stamp) q ∙ found.2)) cov)
          | inr j ↦ both_ways (has_id old i) none (has_id_from old found.0 i (Contains-append_left r.delivered r.waiting found.0 j) found.2)
        ]
        | inr w ↦ both_ways (has_id old i) none (has_id_from old found.0 i (Contains-append_right r.delivered r.waiting found.0 w) found.2)
      ])

  edited_waits : (op : Op) (e : Entry Op) → Contains r.waiting e → WaitsIn ((edited r op).delivered ++ r.waiting) e
  edited_waits op e c =
      let w = All-contains (WaitsIn (r.delivered ++ r.waiting)) r.waiting e may.sound.waits c in
      record {
        id = w.id;
        counted = w.counted;
        covered = w.covered;
        absent = still_absent op e w.id c w.covered w.absent;
      }

  edited_apart : (op : Op) (e : Entry Op) → Contains (edited r op).delivered e → Contains r.waiting e → ⊥
  edited_apart op e c d =
      elim (in_edited op e c) [
        | inl q ↦ new_name e (waiting_inside e d) (ap (λ (z : Entry Op). id_of z.stamp) (sym q))
        | inr j ↦ may.sound.apart e j d
      ]

  pub edited_sound : (op : Op) → IsSoundReplica n (edited r op)
  unfolding edited
  edited_sound op = record {
    member = may.sound.member;
    rows = length-set r.known r.me (version (members r) (place (entry (next_stamp r) op) r.delivered)) ∙ may.sound.rows;
    delivered_by_key = edited_rises op;
    waiting_by_key = may.sound.waiting_by_key;
    closed = edited_closed op;
    apart = edited_apart op;
    waits = all_from_contains (WaitsIn ((edited r op).delivered ++ r.waiting)) r.waiting (edited_waits op);
  }
