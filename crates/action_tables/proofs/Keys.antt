-- Objects that have as many keys as were found in them.
use Rattle.std.proofs.Common.{◌≡◌, ◌≢◌, ℕ, ◌+◌, ◌<◌, List, [], ◌∷◌, length, Contains, refl, ap, sym, ◌∙◌, ◌⊎◌, inl, inr, subst, arith, Some}
use Rattle.std.specs.List.{AllByRecursion}
use Rattle.std.specs.Ordering.{is_eq, match_ordering, nat_cmp}
use Rattle.std.specs.declared.cmp.Ordering.{Ordering}
use Rattle.std.specs.declared.cmp.Ordering.TheVariants.{Less, Equal, Greater}
use Rattle.std.specs.Cmp.Lexicographic.{slice_cmp}
use Rattle.std.proofs.lemmas.Map.Text.{is_eq-slice_cmp}
use Rattle.std.proofs.lemmas.Slice.Eq.{bytes_eq-Decides}
use Rattle.serde_json.specs.Data.{Data, null, boolean, number, string, array, object, Members, no_members, member}
use Rattle.serde_json.specs.Find.{get, get_member}
use Rattle.crdt_laws.proofs.Members.{Contains-front, Contains-more, Contains-cases, at_member}
use Rattle.action_tables.specs.TableForm.{HasKeys, keys_of}
use Rattle.action_tables.specs.TableText.{member_count}

module _ {X : Type 0} where
  -- no two are the same
  abbrev pub AreDifferent : List X → Type 0
  AreDifferent [] = Unit {0}
  AreDifferent (k ∷ ks) = AllByRecursion (λ j. k ≢ j) ks × AreDifferent ks

  -- rest has all of xs but one x
  record LacksOne (xs : List X) (x : X) (rest : List X) : Type 0 where
    size : length xs ≡ length rest + 1
    each : (y : X) → Contains xs y → (x ≡ y) ⊎ Contains rest y

  take_out : (xs : List X) (x : X) → Contains xs x → (rest : List X) × LacksOne xs x rest
  take_out [] x c = let l : c.0 < 0 = c.1 in absurd (omega arith)
  take_out (a ∷ xs) x c = elim (Contains-cases a xs x c) [
    | inl e ↦ (xs, record { size = omega arith; each = λ y k. subst (λ z. (z ≡ y) ⊎ Contains xs y) e (Contains-cases a xs y k) })
    | inr k ↦
        let r = take_out xs x k in (
          a ∷ r.0,
          record {
            size = omega (arith, r.1.size);
            each = λ y j. elim (Contains-cases a xs y j) [
              | inl q ↦ inr (subst (Contains (a ∷ r.0)) q (Contains-front a r.0))
              | inr i ↦ elim (r.1.each y i) [ inl q ↦ inl q | inr l ↦ inr (Contains-more a r.0 y l) ]
            ];
          },
        )
  ]

  others : (xs rest : List X) (x : X) → LacksOne xs x rest → (ks : List X) → AllByRecursion (λ k. x ≢ k) ks → AllByRecursion (Contains xs) ks → AllByRecursion (Contains rest) ks
  others xs rest x r [] d h = tt
  others xs rest x r (k ∷ ks) d h = (elim (r.each k h.0) [ inl q ↦ absurd (d.0 q) | inr c ↦ c ], others xs rest x r ks d.1 h.1)

  -- a list that has these different things, and no more than they are, has no other
  pub all_found : (ks xs : List X) → AreDifferent ks → AllByRecursion (Contains xs) ks → length xs ≡ length ks → (x : X) → Contains xs x → Contains ks x
  all_found [] xs d h e x c = let l : c.0 < length xs = c.1 in absurd (omega arith)
  all_found (k ∷ ks) xs d h e x c =
      let r = take_out xs k h.0 in
      elim (r.1.each x c) [
        | inl q ↦ subst (Contains (k ∷ ks)) q (Contains-front k ks)
        | inr j ↦ Contains-more k ks x (all_found ks r.0 d.1 (others xs r.0 k r.1 ks d.0 h.1) (omega (arith, r.1.size)) x j)
      ]

-- a key with a value is one of the keys
pub key_found : (k : List ℕ) (ms : Members) (d : Data) → get_member k ms ≡ Some d → Contains (keys_of ms) k
key_found k no_members d e = absurd (cc)
key_found k (member l v ms) d e = at_order (slice_cmp nat_cmp k l) refl e (key_found k ms d)
  where
    at_order : (o : Ordering) → slice_cmp nat_cmp k l ≡ o → match_ordering o (get_member k ms) (Some v) (get_member k ms) ≡ Some d
        → (get_member k ms ≡ Some d → Contains (keys_of ms) k) → Contains (l ∷ keys_of ms) k
    at_order Less s f later = Contains-more l (keys_of ms) k (later f)
    at_order Equal s f later =
        let same : k ≡ l = (bytes_eq-Decides k l).0 (sym (is_eq-slice_cmp k l) ∙ ap is_eq s) in
        subst (Contains (l ∷ keys_of ms)) (sym same) (Contains-front l (keys_of ms))
    at_order Greater s f later = Contains-more l (keys_of ms) k (later f)

-- what has a value at a key is an object
pub object_where : (k : List ℕ) (d v : Data) → get k d ≡ Some v → (ms : Members) × (d ≡ object ms)
object_where k null v e = absurd (cc)
object_where k (boolean b) v e = absurd (cc)
object_where k (number n) v e = absurd (cc)
object_where k (string s) v e = absurd (cc)
object_where k (array ds) v e = absurd (cc)
object_where k (object ms) v e = (ms, refl)

pub length-keys_of : (ms : Members) → length (keys_of ms) ≡ member_count ms
length-keys_of no_members = refl
length-keys_of (member k d ms) = omega (arith, length-keys_of ms)

-- an object with these different keys, and so many, has exactly these
pub has_keys : (keys : List (List ℕ)) (ms : Members) → AreDifferent keys → AllByRecursion (Contains (keys_of ms)) keys → member_count ms ≡ length keys → HasKeys keys (object ms)
has_keys keys ms d h e = record {
  members = ms;
  is = refl;
  each = λ key. (all_found keys (keys_of ms) d h (length-keys_of ms ∙ e) key, λ c. at_member (Contains (keys_of ms)) keys key h c);
  once = length-keys_of ms ∙ e;
}
