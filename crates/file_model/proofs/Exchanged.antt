-- Two replicas that have exchanged what they have, and a batch that is merged again.
use Rattle.std.proofs.Common.{◌≡◌, ◌⊎◌, ◌↔◌, ℕ, ◌<◌, true, List, [], ◌∷◌, ◌++◌, Option, None, Some, length, refl, ap, sym, ◌∙◌, subst, arith, inl, inr, Contains, max}
use Rattle.std.specs.Prelude.{nat_le, slice_set}
use Rattle.std.proofs.lemmas.Bool.{cases_Bool, cases_eq, cond-false, cond-true}
use Rattle.std.proofs.lemmas.List.{get_or-set_other, set-get_or}
use Rattle.std.proofs.lemmas.List.Elements.{Contains-append_cases, Contains-append_left, Contains-append_right}
use Rattle.vector_clock.specs.declared.clock.Clock.{Clock}
use Rattle.vector_clock.specs.Clock.{IsAtMost, count, covers, join, zero_clock}
use Rattle.vector_clock.specs.Stamp.{id_of}
use Rattle.vector_clock.proofs.Bounds.{at_most_antisym, at_most_refl, join_clock, join_least, join_left, join_right}
use Rattle.vector_clock.proofs.Clocks.{n-clock_by}
use Rattle.crdt_laws.specs.declared.small.Entry.{Entry}
use Rattle.crdt_laws.specs.Sets.{has_all_of}
use Rattle.crdt_laws.specs.Tower.{Meaning}
use Rattle.crdt_laws.proofs.Members.{Contains-cases, Contains-front, Contains-more, filter_inside, rising_same}
use Rattle.replica_model.specs.Family.{MayMerge, Thing, batch, replica}
use Rattle.replica_model.specs.Replica.{Replica, Batch, exported, heard, heard_header, heard_op, left_out, merged, pooled, row, version}
use Rattle.replica_model.proofs.Families.{in_exported, may_merge, sound_at}
use Rattle.replica_model.proofs.Meetings.{delivered_again, waiting_again}
use Rattle.replica_model.proofs.Merged.{delivered-merged, delivered_rises, doc-merged, me-merged, merged_grows, pooled_stamped}
use Rattle.replica_model.proofs.Pools.{in_pooled, pooled_has}
use Rattle.replica_model.proofs.Ready.{closed_ready, covers_on}
use Rattle.replica_model.proofs.Things.{in_split, no_batch, split_has, split_it}
use Rattle.forgetting_model.specs.Truth.{IsClockOf, IsTrueFamily}
use Rattle.forgetting_model.proofs.Floors.{floor_row, header_had, row_had}
use Rattle.forgetting_model.proofs.Forgets.{beyond_has}
use Rattle.forgetting_model.proofs.Rows.{AreRows, AreStamped, heard_rows, row_clock, row_set_same, stamp_clock}
use Rattle.forgetting_model.proofs.Steps.{header_at, known-merged, rows_are, rows_at, sender_low, true_exported_last, true_merged}
use Rattle.forgetting_model.proofs.Tells.{delivered_inside, delivered_stamped, version_in}
use Rattle.file_model.specs.Promises.{IsMeantFor}

none_in : {X : Type 0} (x : X) → Contains [] x → ⊥
none_in x c = absurd (omega (arith, c.1))

-- a list is split at one of its elements
pub split_at : {X : Type 0} (xs : List X) (x : X) → Contains xs x → (front : List X) × (back : List X) × (xs ≡ front ++ x ∷ back)
split_at [] x c = absurd (none_in x c)
split_at {X} (y ∷ xs) x c =
    elim (Contains-cases y xs x c) [
      | inl q ↦ ([], xs, ap (λ (z : X). z ∷ xs) q)
      | inr i ↦ (let r = split_at xs x i in (y ∷ r.0, r.1, ap (λ (l : List X). y ∷ l) r.2))
    ]

module _ {State Op : Type 0} (m : Meaning State Op) (n : ℕ) (ts : List (Thing Op)) (family : IsTrueFamily m n ts) (r s : Replica Op) (here : Contains ts (replica r)) (there : Contains ts (replica s))
    (to : Option ℕ) (meant : IsMeantFor r.me to) where
  left_known : (to : Option ℕ) → IsMeantFor r.me to → IsAtMost (left_out s to) (row s.known r.me)
  left_known None h = floor_row m n ts family s there r.me (sound_at m n ts family.honest r here).member
  left_known (Some j) h = subst (λ (i : ℕ). IsAtMost (row s.known j) (row s.known i)) h (at_most_refl (row s.known j))

  -- what an export leaves out is known to be there
  left_or_sent : (e : Entry Op) → Contains s.delivered e → Contains r.delivered e ⊎ Contains (exported s to).ops e
  unfolding exported
  left_or_sent e c =
      elim (cases_Bool (covers (left_out s to) (id_of e.stamp))) [
        | inl t ↦
            (let known = covers_on (left_out s to) (row s.known r.me) (id_of e.stamp) (left_known to meant) t in
            let had = covers_on (row s.known r.me) (version n r.delivered) (id_of e.stamp) (row_had m n ts family s there r here) known in
            inl (version_in m n ts family.honest r here e (delivered_inside m n ts family.honest s there e c) had))
        | inr f ↦ inr (beyond_has (left_out s to) s.delivered e c f)
      ]

  sent_batch : MayMerge r (exported s to)
  sent_batch =
      let us = ts ++ batch (exported s to) ∷ [] in
      may_merge m n us (true_exported_last m n ts s to family there).honest r (exported s to)
      (Contains-append_left ts (batch (exported s to) ∷ []) (replica r) here) (Contains-append_right ts (batch (exported s to) ∷ []) (batch (exported s to)) (Contains-front (batch (exported s to)) []))

  module _ (none : r.waiting ≡ []) where
    in_pool : (e : Entry Op) → Contains (pooled r (exported s to)) e → Contains r.delivered e ⊎ Contains s.delivered e
    in_pool e c =
        elim (Contains-append_cases (r.delivered ++ r.waiting) (exported s to).ops e (in_pooled r (exported s to) sent_batch e c)) [
          | inl own ↦ (elim (Contains-append_cases r.delivered r.waiting e own) [
            | inl i ↦ inl i
            | inr w ↦ absurd (none_in e (subst (λ (l : List (Entry Op)). Contains l e) none w))
          ])
          | inr sent ↦ inr (in_exported s to e sent)
        ]

    pool_has : (e : Entry Op) → Contains s.delivered e → Contains (pooled r (exported s to)) e
    pool_has e c =
        pooled_has r (exported s to) sent_batch e
        (elim (left_or_sent e c) [
          | inl i ↦ Contains-append_left (r.delivered ++ r.waiting) (exported s to).ops e (Contains-append_left r.delivered r.waiting e i)
          | inr j ↦ Contains-append_right (r.delivered ++ r.waiting) (exported s to).ops e j
        ])

    -- it has then what the two had, and nothing else
    both_had : (e : Entry Op) → Contains (merged r (exported s to)).delivered e ↔ (Contains r.delivered e ⊎ Contains s.delivered e)
    both_had e = (
      λ c. in_pool e (filter_inside (λ (e : Entry Op). has_all_of (pooled r (exported s to)) e.stamp.clock) (pooled r (exported s to)) e (subst (λ (l : List (Entry Op)). Contains l e) (delivered-merged r (exported s to)) c)),
      λ h. (elim h [
        | inl i ↦ merged_grows r (exported s to) sent_batch e i
        | inr j ↦ subst (λ (l : List (Entry Op)). Contains l e) (sym (delivered-merged r (exported s to)))
            (closed_ready (pooled r (exported s to)) s.delivered (pooled_stamped r (exported s to) sent_batch) (sound_at m n ts family.honest s there).closed pool_has e j)
      ]),
    )

swap : {A B : Type 0} → A ⊎ B → B ⊎ A
swap (inl a) = inr a
swap (inr b) = inl b

-- each has then what the other has
pub exchanged_alike : {State Op : Type 0} (m : Meaning State Op) (n : ℕ) (ts : List (Thing Op)) (family : IsTrueFamily m n ts) (r s : Replica Op) (here : Contains ts (replica r)) (there : Contains ts (replica s))
    (to from : Option ℕ) → IsMeantFor r.me to → IsMeantFor s.me from → r.waiting ≡ [] → s.waiting ≡ []
    → (merged r (exported s to)).delivered ≡ (merged s (exported r from)).delivered
exchanged_alike m n ts family r s here there to from meant_to meant_from none_r none_s =
    rising_same (merged r (exported s to)).delivered (merged s (exported r from)).delivered
    (delivered_rises r (exported s to) (sent_batch m n ts family r s here there to meant_to))
    (delivered_rises s (exported r from) (sent_batch m n ts family s r there here from meant_from))
    (λ e. (
      λ c. (both_had m n ts family s r there here from meant_from none_s e).1 (swap ((both_had m n ts family r s here there to meant_to none_r e).0 c)),
      λ c. (both_had m n ts family r s here there to meant_to none_r e).1 (swap ((both_had m n ts family s r there here from meant_from none_s e).0 c)),
    ))

-- ---- a batch that is merged again

join_in : (n : ℕ) (k l : Clock) → IsClockOf n k → IsClockOf n l → IsAtMost l k → join k l ≡ k
join_in n k l h g below =
    at_most_antisym (join k l) k (join_clock k l h.clock g.clock (h.members ∙ sym g.members)) h.clock (n-clock_by k.n (λ m. max (count k m) (count l m)))
    (join_least k l k (at_most_refl k) below) (join_left k l h.clock)

set_row : (rows : List Clock) (i : ℕ) (k : Clock) → k ≡ row rows i → slice_set rows i k ≡ rows
set_row rows i k q = ap (slice_set rows i) q ∙ set-get_or rows i (zero_clock 1)

heard_known : {Op : Type 0} (n : ℕ) (rows : List Clock) → AreRows n rows → (xs : List (Entry Op)) → AreStamped n xs
    → ((e : Entry Op) → Contains xs e → IsAtMost e.stamp.clock (row rows e.stamp.member)) → heard rows xs ≡ rows
heard_known n rows are [] stamped known = refl
heard_known {Op} n rows are (x ∷ xs) stamped known =
    let stamp = stamped x (Contains-front x xs) in
    let low : x.stamp.member < n = let l = stamp.stamp.member in let q = stamp.members in omega (arith, l, q) in
    let same : heard_op rows x ≡ rows =
    set_row rows x.stamp.member (join (row rows x.stamp.member) x.stamp.clock)
    (join_in n (row rows x.stamp.member) x.stamp.clock (row_clock n rows are x.stamp.member low) (stamp_clock n x stamp) (known x (Contains-front x xs))) in
    ap (λ (l : List Clock). heard l xs) same ∙ heard_known n rows are xs (λ e c. stamped e (Contains-more x xs e c)) (λ e c. known e (Contains-more x xs e c))

same_fields : {Op : Type 0} (d f : List ℕ) (i j : ℕ) (l k w v : List (Entry Op)) (r s : List Clock) → d ≡ f → i ≡ j → l ≡ k → w ≡ v → r ≡ s
    → ◌≡◌ {A = Replica Op} (record { doc = d; me = i; delivered = l; waiting = w; known = r }) (record { doc = f; me = j; delivered = k; waiting = v; known = s })
same_fields d f i j l k w v r s a b c e g = cc

same_replica : {Op : Type 0} (r s : Replica Op) → r.doc ≡ s.doc → r.me ≡ s.me → r.delivered ≡ s.delivered → r.waiting ≡ s.waiting → r.known ≡ s.known → r ≡ s
same_replica r s h i j k l = same_fields r.doc s.doc r.me s.me r.delivered s.delivered r.waiting s.waiting r.known s.known h i j k l

module _ {State Op : Type 0} (m : Meaning State Op) (n : ℕ) (xs ys : List (Thing Op)) (r : Replica Op) (family : IsTrueFamily m n (xs ++ replica r ∷ ys)) (b : Batch Op) (sent : Contains (xs ++ replica r ∷ ys) (batch b)) where
  abbrev s : Replica Op
  s = merged r b

  abbrev after : List (Thing Op)
  after = xs ++ replica (merged r b) ∷ ys

  next : IsTrueFamily m n (xs ++ replica (merged r b) ∷ ys)
  next = true_merged m n xs ys r family b sent

  there : Contains (xs ++ replica (merged r b) ∷ ys) (replica (merged r b))
  there = split_it xs ys (replica (merged r b))

  still : Contains (xs ++ replica (merged r b) ∷ ys) (batch b)
  still =
      elim (in_split xs ys (replica r) (batch b) sent) [
        | inl q ↦ absurd (no_batch b r (sym q))
        | inr i ↦ split_has xs ys (replica (merged r b)) (batch b) i
      ]

  may : MayMerge r b
  may = may_merge m n (xs ++ replica r ∷ ys) family.honest r b (split_it xs ys (replica r)) sent

  rows : AreRows n s.known
  rows = rows_are m n after next s there

  stamped : AreStamped n s.delivered
  stamped = delivered_stamped m n after next.honest s there

  abbrev d : Clock
  d = version n (merged r b).delivered

  own : row s.known s.me ≡ version n (merged r b).delivered
  own = (rows_at m n after next s there).own

  -- the sender's row has heard the header already, where it may be heard
  header_known : nat_le (count b.header b.sender) (count d b.sender) ≡ true → IsAtMost b.header (row s.known b.sender)
  header_known t =
      elim (cases_eq b.sender s.me) [
        | inl q ↦ subst (λ (k : Clock). IsAtMost b.header k) (sym (ap (row s.known) q ∙ own)) (header_had m n after next b s still there (sym q))
        | inr other ↦
            (let all = rows_are m n (xs ++ replica r ∷ ys) family r (split_it xs ys (replica r)) in
            let told : List Clock = heard r.known s.delivered in
            let before = heard_rows n r.known s.delivered all stamped in
            let low = sender_low m n after next b still in
            let wide = before.length in
            let heard' = heard_header told b.sender b.header d in
            let is : heard' ≡ slice_set told b.sender (join (row told b.sender) b.header) = cond-true (nat_le (count b.header b.sender) (count d b.sender)) (slice_set told b.sender (join (row told b.sender) b.header)) told t in
            let at_sender : row s.known b.sender ≡ join (row told b.sender) b.header =
            ap (λ (l : List Clock). row l b.sender) (known-merged n r b members_are)
            ∙ get_or-set_other heard' s.me b.sender d (zero_clock 1) other
            ∙ ap (λ (l : List Clock). row l b.sender) is
            ∙ row_set_same told b.sender (join (row told b.sender) b.header) (omega (arith, low, wide)) in
            subst (λ (k : Clock). IsAtMost b.header k) (sym at_sender) (join_right (row told b.sender) b.header (header_at m n after next b still).clock.clock))
      ]
    where
      members_are : length r.known ≡ n
      members_are = (sound_at m n (xs ++ replica r ∷ ys) family.honest r (split_it xs ys (replica r))).rows

  header_again : heard_header s.known b.sender b.header d ≡ s.known
  header_again =
      elim (cases_Bool (nat_le (count b.header b.sender) (count d b.sender))) [
        | inl t ↦
            cond-true (nat_le (count b.header b.sender) (count d b.sender)) (slice_set s.known b.sender (join (row s.known b.sender) b.header)) s.known t
            ∙ set_row s.known b.sender (join (row s.known b.sender) b.header)
            (join_in n (row s.known b.sender) b.header (row_clock n s.known rows b.sender (sender_low m n after next b still)) (header_at m n after next b still).clock (header_known t))
        | inr f ↦ cond-false (nat_le (count b.header b.sender) (count d b.sender)) (slice_set s.known b.sender (join (row s.known b.sender) b.header)) s.known f
      ]

  known_again : (merged s b).known ≡ s.known
  known_again =
      known-merged n s b rows.length
      ∙ ap (λ (l : List (Entry Op)). slice_set (heard_header (heard s.known l) b.sender b.header (version n l)) (merged s b).me (version n l)) (delivered_again r b may)
      ∙ ap (λ (l : List Clock). slice_set (heard_header l b.sender b.header d) (merged s b).me d) (heard_known n s.known rows s.delivered stamped (rows_at m n after next s there).heard)
      ∙ ap (λ (l : List Clock). slice_set l (merged s b).me d) header_again
      ∙ set_row s.known (merged s b).me d (sym (ap (row s.known) (me-merged s b) ∙ own))

  pub merged_again : merged (merged r b) b ≡ merged r b
  merged_again = same_replica (merged s b) s (doc-merged s b) (me-merged s b) (delivered_again r b may) (waiting_again r b may) known_again
