-- The first operation with a fault, and operations of one id.
use Rattle.std.proofs.Common.{◌≡◌, ℕ, suc, ◌+◌, ◌<◌, Bool, true, false, List, ◌∷◌, ◌++◌, ap, ap₂, sym, ◌∙◌, subst, length, get_or, take, drop, Some, None, Contains, eqb, cond}
use Rattle.std.specs.Prelude.{◌&&◌, max}
use Rattle.std.specs.List.{All}
use Rattle.std.specs.Option.{is_some}
use Rattle.std.specs.BTreeMap.{BTreeMap, get}
use Rattle.std.proofs.Math.Seq.{split_at}
use Rattle.std.proofs.lemmas.Bool.{and_from, and_parts, both_ways, eq-eqb, eqb-true}
use Rattle.std.proofs.lemmas.List.Elements.{All-append, All-contains, All-more, Contains-append_left, Contains-append_right, Contains-get_or}
use Rattle.std.proofs.lemmas.List.Sums.{fold_more}
use Rattle.vector_clock.specs.declared.clock.Clock.{Clock}
use Rattle.vector_clock.specs.declared.clock.Id.{Id}
use Rattle.vector_clock.specs.Clock.{count, covers}
use Rattle.vector_clock.specs.Stamp.{id_of}
use Rattle.crdt_laws.specs.declared.small.Entry.{Entry}
use Rattle.crdt_laws.specs.Sets.{AreApart}
use Rattle.crdt_laws.proofs.Interleave.{apart_one}
use Rattle.replica_model.proofs.Names.{all_from_contains, any_from, named_in, same_id_from_ids}
use Rattle.causal_buffer.specs.Buffer.{ArePlaces, by_id}
use Rattle.causal_buffer.proofs.Placed.{same_at}
use Rattle.replica_kept.specs.Merging.{HasNoOther, HasOther, IsFirst, last_of}

module _ {Op : Type 0} (xs : List (Entry Op)) (i : ℕ) (x : Entry Op) (short : i < length xs) (is : x ≡ get_or xs i x) where
  pub first_at : (P : Entry Op → Type 0) (q : Id) → All (λ e. P e → ⊥) (take i xs) → P x → q ≡ id_of x.stamp → IsFirst P xs q
  first_at P q none holds id = record {
    before = take i xs;
    first = x;
    after = drop (suc i) xs;
    all = split_at xs i x short ∙ ap (λ (z : Entry Op). take i xs ++ z ∷ drop (suc i) xs) (sym is);
    none = none;
    holds = holds;
    id = sym id;
  }

  pub all_more : (P : Entry Op → Type 0) → All P (take i xs) → P x → All P (take (i + 1) xs)
  all_more P h p = All-more P xs i x short h (subst P is p)

  pub item_inside : Contains xs x
  item_inside = subst (Contains xs) (sym is) (Contains-get_or xs i x short)

  -- the greatest number of a member
  last_step : (j : ℕ) → last_of j (take (i + 1) xs) ≡ cond (eqb x.stamp.member j) (max (last_of j (take i xs)) (count x.stamp.clock x.stamp.member)) (last_of j (take i xs))
  last_step j =
      fold_more (λ (k : ℕ) (e : Entry Op). cond (eqb e.stamp.member j) (max k (count e.stamp.clock e.stamp.member)) k) 0 xs i x short
      ∙ ap (λ (z : Entry Op). cond (eqb z.stamp.member j) (max (last_of j (take i xs)) (count z.stamp.clock z.stamp.member)) (last_of j (take i xs))) (sym is)

  pub last_own : (j : ℕ) → eqb x.stamp.member j ≡ true → last_of j (take (i + 1) xs) ≡ max (last_of j (take i xs)) (count x.stamp.clock x.stamp.member)
  last_own j t = last_step j ∙ ap (λ (b : Bool). cond b (max (last_of j (take i xs)) (count x.stamp.clock x.stamp.member)) (last_of j (take i xs))) t

  pub last_other : (j : ℕ) → eqb x.stamp.member j ≡ false → last_of j (take (i + 1) xs) ≡ last_of j (take i xs)
  last_other j f = last_step j ∙ ap (λ (b : Bool). cond b (max (last_of j (take i xs)) (count x.stamp.clock x.stamp.member)) (last_of j (take i xs))) f

-- ids that are found to be one
pub ids_same : (a b i j : Id) (r : Bool) → a ≡ i → b ≡ j → r ≡ (eqb a.member b.member && eqb a.seq b.seq) → r ≡ true → i ≡ j
ids_same a b i j r p q is t =
    let f = and_parts (eqb a.member b.member) (eqb a.seq b.seq) (sym is ∙ t) in
    sym p ∙ ap₂ (λ (j k : ℕ). record { member = j; seq = k }) (eqb-true a.member b.member f.0) (eqb-true a.seq b.seq f.1) ∙ q

pub ids_differ : (a b i j : Id) (r : Bool) → a ≡ i → b ≡ j → r ≡ (eqb a.member b.member && eqb a.seq b.seq) → r ≡ false → i ≡ j → ⊥
ids_differ a b i j r p q is t same =
    let e : a ≡ b = p ∙ same ∙ sym q in
    both_ways r t (is ∙ and_from (eqb a.member b.member) (eqb a.seq b.seq) (eq-eqb a.member b.member (ap (λ (z : Id). z.member) e)) (eq-eqb a.seq b.seq (ap (λ (z : Id). z.seq) e)))

-- one operation, of two with its id
pub other_at : {Op : Type 0} (xs : List (Entry Op)) (e f : Entry Op) → Contains xs f → id_of f.stamp ≡ id_of e.stamp → (f ≡ e → ⊥) → HasOther xs e
other_at {Op} xs e f c same other = any_from (λ (f : Entry Op). (id_of f.stamp ≡ id_of e.stamp) × (f ≡ e → ⊥)) xs f c (same, other)

pub no_other : {Op : Type 0} (xs : List (Entry Op)) (e : Entry Op) → ((f : Entry Op) → Contains xs f → id_of f.stamp ≡ id_of e.stamp → f ≡ e) → HasNoOther xs e
no_other {Op} xs e h = all_from_contains (λ (f : Entry Op). id_of f.stamp ≡ id_of e.stamp → f ≡ e) xs h

pub none_from_one : {Op : Type 0} (xs : List (Entry Op)) (e : Entry Op) → HasNoOther xs e → HasOther xs e → ⊥
none_from_one {Op} xs e h o = o.4.1 (All-contains (λ (f : Entry Op). id_of f.stamp ≡ id_of e.stamp → f ≡ e) xs o.1 h (o.0, o.2, o.3) o.4.0)

-- the operation itself is there
pub itself_there : {Op : Type 0} (xs : List (Entry Op)) (e : Entry Op) → AreApart xs → Contains xs e → HasNoOther xs e
itself_there xs e apart c = no_other xs e (λ f d same. apart_one xs f e apart d c (same_id_from_ids f.stamp e.stamp same))

-- of two lists, that cover their ids otherwise
module _ {Op : Type 0} (log ws : List (Entry Op)) (e : Entry Op) where
  pub other_left : HasOther log e → HasOther (log ++ ws) e
  other_left o = other_at (log ++ ws) e o.1 (Contains-append_left log ws o.1 (o.0, o.2, o.3)) o.4.0 o.4.1

  pub other_right : HasOther ws e → HasOther (log ++ ws) e
  other_right o = other_at (log ++ ws) e o.1 (Contains-append_right log ws o.1 (o.0, o.2, o.3)) o.4.0 o.4.1

  pub none_both : HasNoOther log e → HasNoOther ws e → HasNoOther (log ++ ws) e
  none_both h g = All-append (λ (f : Entry Op). id_of f.stamp ≡ id_of e.stamp → f ≡ e) log ws h g

-- none of an id that the clock covers otherwise
pub none_of : {Op : Type 0} (d : Clock) (b : Bool) (xs : List (Entry Op)) (e : Entry Op) → ((f : Entry Op) → Contains xs f → covers d (id_of f.stamp) ≡ b) → (covers d (id_of e.stamp) ≡ b → ⊥) → HasNoOther xs e
none_of d b xs e h other = no_other xs e (λ f c same. absurd (other (subst (λ (i : Id). covers d i ≡ b) same (h f c))))

-- where each id has its place
module _ {Op : Type 0} (xs : List (Entry Op)) (places : BTreeMap Id ℕ) (h : ArePlaces places xs) (e : Entry Op) where
  at_contains : (f : Entry Op) (c : Contains xs f) → get by_id places (id_of f.stamp) ≡ Some c.0
  at_contains f c = subst (λ (z : Entry Op). get by_id places (id_of z.stamp) ≡ Some c.0) c.2 (h.found c.0 f c.1)

  pub none_placed : get by_id places (id_of e.stamp) ≡ None → HasNoOther xs e
  none_placed none = no_other xs e (λ f c same. absurd (let g : Some c.0 ≡ None = sym (at_contains f c) ∙ ap (get by_id places) same ∙ none in cc))

  module _ (k : ℕ) (at : get by_id places (id_of e.stamp) ≡ Some k) where
    -- whatever has the id stands there
    stands : (f : Entry Op) (c : Contains xs f) → id_of f.stamp ≡ id_of e.stamp → c.0 ≡ k
    stands f c same = let g : Some c.0 ≡ Some k = sym (at_contains f c) ∙ ap (get by_id places) same ∙ at in cc

    inside : (f : Entry Op) × Contains xs f × (id_of f.stamp ≡ id_of e.stamp)
    inside = named_in xs (id_of e.stamp) (sym (h.named (id_of e.stamp)) ∙ ap is_some at)

    pub place_short : k < length xs
    place_short = subst (λ (j : ℕ). j < length xs) (stands inside.0 inside.1 inside.2) inside.1.1

    module _ (x : Entry Op) (is : x ≡ get_or xs k x) where
      all_there : (f : Entry Op) → Contains xs f → id_of f.stamp ≡ id_of e.stamp → f ≡ x
      all_there f c same = sym c.2 ∙ ap (λ (j : ℕ). get_or xs j f) (stands f c same) ∙ same_at xs k f x place_short ∙ sym is

      pub placed_same : x ≡ e → HasNoOther xs e
      placed_same one = no_other xs e (λ f c same. all_there f c same ∙ one)

      pub placed_other : (x ≡ e → ⊥) → HasOther xs e
      placed_other other =
          let f : inside.0 ≡ x = all_there inside.0 inside.1 inside.2 in
          other_at xs e x (subst (Contains xs) f inside.1) (ap (λ (z : Entry Op). id_of z.stamp) (sym f) ∙ inside.2) other
