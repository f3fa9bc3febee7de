-- What the register of one text keeps after sets in some order.
use Rattle.std.proofs.Common.{◌≡◌, ℕ, ◌<◌, true, false, List, [], ◌∷◌, Option, Some, None, Contains, refl, ap, sym, subst, ◌∙◌, ◌⊎◌, inl, inr, arith}
use Rattle.std.proofs.lemmas.Bool.{cond-true, cond-false, cond_both}
use Rattle.vector_clock.specs.Stamp.{is_below, is_less, key_of}
use Rattle.vector_clock.proofs.Keys.{key_asym, key_irreflexive}
use Rattle.crdt_laws.specs.declared.small.Entry.{Entry}
use Rattle.crdt_laws.specs.Present.{apply_all}
use Rattle.crdt_laws.proofs.Members.{Contains-front, Contains-more, Contains-cases}
use Rattle.register_crdts.specs.declared.latest.Set.{Set}
use Rattle.register_crdts.specs.Latest.{IsGreatest, latest_apply, latest_meaning, set_at}

abbrev E : Type 0
E = Entry (List ℕ)

abbrev set_of : E → Set
set_of e = set_at e.stamp e.op

abbrev AreBelow : List E → E → Type 0
AreBelow xs e = (f : E) → Contains xs f → (f ≡ e) ⊎ (is_below f.stamp e.stamp ≡ true)

-- the greatest stays
not_below : (e x : E) → (x ≡ e) ⊎ (is_below x.stamp e.stamp ≡ true) → is_below e.stamp x.stamp ≡ false
not_below e x h = elim h [
  | inl q ↦ subst (λ z. is_below e.stamp z.stamp ≡ false) (sym q) (elim (is_below e.stamp e.stamp) as (λ b. is_below e.stamp e.stamp ≡ b → b ≡ false) [
    | true ↦ λ k. absurd (key_irreflexive e.stamp k)
    | false ↦ λ k. refl
  ] refl)
  | inr k ↦ key_asym x.stamp e.stamp k
]

stays : (xs : List E) (e : E) → AreBelow xs e → apply_all latest_meaning (Some (set_of e)) xs ≡ Some (set_of e)
unfolding is_below
stays [] e h = refl
stays (x ∷ xs) e h =
    ap (λ s. apply_all latest_meaning (Some s) xs) (cond-false (is_less (key_of e.stamp) (key_of x.stamp)) (set_of x) (set_of e) (not_below e x (h x (Contains-front x xs))))
    ∙ stays xs e (λ f c. h f (Contains-more x xs f c))

-- no set is kept of which the key is not less
abbrev IsLower : Option Set → E → Type 0
IsLower None e = Unit {0}
IsLower (Some s) e = is_less s.key (key_of e.stamp) ≡ true

takes : (s : Option Set) (e : E) → IsLower s e → latest_apply s e.stamp e.op ≡ Some (set_of e)
takes None e h = refl
takes (Some s) e h = ap Some (cond-true (is_less s.key (key_of e.stamp)) (set_of e) s h)

lower : (s : Option Set) (e x : E) → IsLower s e → is_below x.stamp e.stamp ≡ true → IsLower (latest_apply s x.stamp x.op) e
unfolding is_below
lower None e x h k = k
lower (Some s) e x h k = cond_both (is_less s.key (key_of x.stamp)) (set_of x) s (λ t. is_less t.key (key_of e.stamp) ≡ true) (λ _. k) (λ _. h)

reached : (xs : List E) (e : E) (s : Option Set) → IsLower s e → AreBelow xs e → Contains xs e → apply_all latest_meaning s xs ≡ Some (set_of e)
reached [] e s low h c = (let l : c.0 < 0 = c.1 in absurd (omega arith))
reached (x ∷ xs) e s low h c =
    let rest : AreBelow xs e = λ f k. h f (Contains-more x xs f k) in
    elim (Contains-cases x xs e c) [
      | inl q ↦ here x q rest
      | inr k ↦ elim (h x (Contains-front x xs)) [
        | inl q ↦ here x q rest
        | inr below ↦ reached xs e (latest_apply s x.stamp x.op) (lower s e x low below) rest k
      ]
    ]
  where
    here : (y : E) → y ≡ e → AreBelow xs e → apply_all latest_meaning (latest_apply s y.stamp y.op) xs ≡ Some (set_of e)
    here y q rest = ap (λ z. apply_all latest_meaning (latest_apply s z.stamp z.op) xs) q ∙ ap (λ t. apply_all latest_meaning t xs) (takes s e low) ∙ stays xs e rest

pub greatest : (xs : List E) (e : E) → IsGreatest xs e → apply_all latest_meaning None xs ≡ Some (set_of e)
greatest xs e h = reached xs e None tt h.others h.member
