-- Where the next operation of each member stands.
use Rattle.std.proofs.Common.{◌≡◌, ℕ, zero, suc, ◌+◌, ◌<◌, ◌≤◌, true, List, [], ◌∷◌, Some, None, ap, sym, ◌∙◌, subst, arith, inl, inr, length, get_or, set}
use Rattle.std.specs.Prelude.{Option, max}
use Rattle.std.specs.BTreeMap.{BTreeMap, get}
use Rattle.std.proofs.lemmas.Bool.{cases_eq, cases_lt}
use Rattle.std.proofs.lemmas.List.{get_or-set_other, get_or-set_same}
use Rattle.vector_clock.specs.declared.clock.Clock.{Clock}
use Rattle.vector_clock.specs.declared.clock.Id.{Id}
use Rattle.vector_clock.specs.Clock.{count, join, max_members}
use Rattle.vector_clock.proofs.Clocks.{count-clock_by}
use Rattle.crdt_laws.specs.declared.small.Entry.{Entry}
use Rattle.crdt_laws.specs.Tower.{IsStampOf}
use Rattle.forgetting_model.specs.Turns.{is_next}
use Rattle.forgetting_model.proofs.Turns.{next_others, next_seq}
use Rattle.causal_buffer.specs.Buffer.{AreHeads, AreOf, IsPlaced, by_id}

-- an operation is found by what comes next of its member
named_next : {Op : Type 0} (places : BTreeMap Id ℕ) (slots : List (Option (Entry Op))) (d : Clock) (k : ℕ) (e : Entry Op) → IsPlaced places slots → get_or slots k None ≡ Some e → count e.stamp.clock e.stamp.member ≡ count d e.stamp.member + 1
    → get by_id places (record { member = e.stamp.member; seq = count d e.stamp.member + 1 }) ≡ Some k
named_next places slots d k e placed s seq = subst (λ (q : ℕ). get by_id places (record { member = e.stamp.member; seq = q }) ≡ Some k) seq (placed.each k e s)

pub heads_start : {Op : Type 0} (n : ℕ) (places : BTreeMap Id ℕ) (d : Clock) (slots : List (Option (Entry Op))) (heads : List ℕ) → IsPlaced places slots → AreOf n slots
    → ((j k : ℕ) → j < n → get by_id places (record { member = j; seq = count d j + 1 }) ≡ Some k → get_or heads j 0 ≡ k) → AreHeads d slots heads
heads_start n places d slots heads placed of found = record {
  each = λ k e s seq. found e.stamp.member k (let h = of.each k e s in let a = h.stamp.member in let b = h.members in omega (arith, a, b)) (named_next places slots d k e placed s seq);
}

-- what the clock counts of others than the member of x stays
join_others : {Op : Type 0} (d : Clock) (x : Entry Op) (j : ℕ) → is_next d x ≡ true → j < max_members → (j ≡ x.stamp.member → ⊥) → count (join d x.stamp.clock) j ≡ count d j
join_others d x j next low other =
    let e : count (join d x.stamp.clock) j ≡ max (count d j) (count x.stamp.clock j) = count-clock_by d.n (λ i. max (count d i) (count x.stamp.clock i)) j low in
    let b = next_others d x next j low other in
    omega (arith, e, b)

pub heads_next : {Op : Type 0} (n i : ℕ) (places : BTreeMap Id ℕ) (d later : Clock) (x : Entry Op) (old new : List (Option (Entry Op))) (heads : List ℕ) (h : ℕ) → IsStampOf n x.stamp → is_next d x ≡ true → later ≡ join d x.stamp.clock
    → AreHeads d old heads → length heads ≡ max_members → ((k : ℕ) (e : Entry Op) → get_or new k None ≡ Some e → get_or old k None ≡ Some e) → IsPlaced places new → AreOf i new
    → ((k : ℕ) → get by_id places (record { member = x.stamp.member; seq = count later x.stamp.member + 1 }) ≡ Some k → h ≡ k) → AreHeads later new (set heads x.stamp.member h)
heads_next n i places d later x old new heads h stamp next is was wide stays placed of found = record {
  each = λ k e s seq. elim (cases_eq e.stamp.member x.stamp.member) [
    | inl q ↦
        (let short : x.stamp.member < length heads = (let a = stamp.stamp.member in let b = stamp.stamp.clock.most in omega (arith, a, b, wide)) in
        let at : get by_id places (record { member = x.stamp.member; seq = count later x.stamp.member + 1 }) ≡ Some k = subst (λ (i : ℕ). get by_id places (record { member = i; seq = count later i + 1 }) ≡ Some k) q (named_next places new later k e placed s seq) in
        subst (λ (i : ℕ). get_or (set heads x.stamp.member h) i 0 ≡ k) (sym q) (get_or-set_same heads x.stamp.member h 0 short ∙ found k at))
    | inr other ↦
        (let low : e.stamp.member < max_members = (let g = of.each k e s in let a = g.stamp.member in let b = g.stamp.clock.most in omega (arith, a, b)) in
        let same : count later e.stamp.member ≡ count d e.stamp.member = ap (λ (c : Clock). count c e.stamp.member) is ∙ join_others d x e.stamp.member next low other in
        get_or-set_other heads x.stamp.member e.stamp.member h 0 other ∙ was.each k e (stays k e s) (seq ∙ ap (λ (i : ℕ). i + 1) same))
  ];
}

-- the least of the heads that may come is the least of all
pub at_head : {Op : Type 0} (d : Clock) (slots : List (Option (Entry Op))) (heads : List ℕ) (k member at : ℕ) (e : Entry Op) → AreHeads d slots heads → at ≡ get_or heads member 0 → get_or slots k None ≡ Some e → e.stamp.member ≡ member
    → count e.stamp.clock e.stamp.member ≡ count d e.stamp.member + 1 → at ≡ k
at_head d slots heads k member at e h is s m seq = is ∙ ap (λ (i : ℕ). get_or heads i 0) (sym m) ∙ h.each k e s seq

pub least_on : {Op : Type 0} (d : Clock) (slots : List (Option (Entry Op))) (heads : List ℕ) (member best next at : ℕ) → AreHeads d slots heads → at ≡ get_or heads member 0 → next ≤ best
    → ((k : ℕ) (e : Entry Op) → get_or slots k None ≡ Some e → is_next d e ≡ true → k ≡ at → next ≤ at)
    → ((k : ℕ) (e : Entry Op) → get_or slots k None ≡ Some e → e.stamp.member < member → is_next d e ≡ true → best ≤ k)
    → (k : ℕ) (e : Entry Op) → get_or slots k None ≡ Some e → e.stamp.member < member + 1 → is_next d e ≡ true → next ≤ k
least_on d slots heads member best next at h is less here old k e s m t = elim (cases_lt e.stamp.member member) [
  | inl before ↦ (let o = old k e s before t in omega (arith, o, less))
  | inr past ↦
      (let same : e.stamp.member ≡ member = omega (arith, m, past) in
      let q : at ≡ k = at_head d slots heads k member at e h is s same (next_seq d e t) in
      let l = here k e s t (sym q) in
      omega (arith, l, q))
]

-- what is left when one is taken stood there before
pub stays_left : {X : Type 0} (slots : List (Option X)) (i k : ℕ) (s : Option X) (e : X) → s ≡ None → get_or (set slots i s) k None ≡ Some e → get_or slots k None ≡ Some e
stays_left {X} slots i k s e none q = go slots i k (subst (λ (o : Option X). get_or (set slots i o) k None ≡ Some e) none q)
  where
    go : (os : List (Option X)) (i k : ℕ) → get_or (set os i None) k None ≡ Some e → get_or os k None ≡ Some e
    go [] i k q = q
    go (o ∷ os) zero zero q = absurd (let g : None ≡ Some e = q in cc)
    go (o ∷ os) zero (suc k) q = q
    go (o ∷ os) (suc i) zero q = q
    go (o ∷ os) (suc i) (suc k) q = go os i k q

pub placed_stays : {Op : Type 0} (places : BTreeMap Id ℕ) (old new : List (Option (Entry Op))) → IsPlaced places old → ((k : ℕ) (e : Entry Op) → get_or new k None ≡ Some e → get_or old k None ≡ Some e) → IsPlaced places new
placed_stays places old new h stays = record { each = λ k e s. h.each k e (stays k e s) }
