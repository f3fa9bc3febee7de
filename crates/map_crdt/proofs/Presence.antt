-- Which keys are present.
use Rattle.std.proofs.Common.{◌≡◌, ◌≢◌, ◌∙◌, true, ◌||◌, ℕ, List, [], ◌∷◌, ap, refl, sym, inl, inr}
use Rattle.std.proofs.lemmas.Bool.{or_left, or_right}
use Rattle.std.specs.Str.{bytes_eq}
use Rattle.map_crdt.specs.declared.keyed.KeyState.{KeyState}
use Rattle.map_crdt.specs.Keyed.{byte_order, has_key, pair, put}
use Rattle.map_crdt.specs.KeyedLaws.{equal_same, keys_eq, keys_ne, ordered, put_equal, put_greater, put_less}

module _ {S : Type 0} where
  has_first : (es : List (KeyState S)) (k : List ℕ) (v : S) → has_key (pair k v ∷ es) k ≡ true
  has_first es k v = or_left (bytes_eq k k) (has_key es k) (keys_eq k k refl)

  -- what was put at a key is present
  pub has-put : (es : List (KeyState S)) (k : List ℕ) (v : S) → has_key (put es k v) k ≡ true
  has-put [] k v = has_first [] k v
  has-put (e ∷ es) k v = elim (ordered (byte_order k e.key)) [
    | inl h ↦ ap (λ l. has_key l k) (put_less e es k v h) ∙ has_first (e ∷ es) k v
    | inr r ↦ elim r [
      | inl h ↦ ap (λ l. has_key l k) (put_equal e es k v h) ∙ has_first es k v
      | inr h ↦ ap (λ l. has_key l k) (put_greater e es k v h) ∙ or_right (bytes_eq k e.key) (has_key (put es k v) k) (has-put es k v)
    ]
  ]

  skips : (es : List (KeyState S)) (k j : List ℕ) (v : S) → j ≢ k → has_key (pair k v ∷ es) j ≡ has_key es j
  skips es k j v differ = ap (λ b. b || has_key es j) (keys_ne j k differ)

  -- and no other key has become present
  pub has-put_other : (es : List (KeyState S)) (k j : List ℕ) (v : S) → j ≢ k → has_key (put es k v) j ≡ has_key es j
  has-put_other [] k j v differ = skips [] k j v differ
  has-put_other (e ∷ es) k j v differ = elim (ordered (byte_order k e.key)) [
    | inl h ↦ ap (λ l. has_key l j) (put_less e es k v h) ∙ skips (e ∷ es) k j v differ
    | inr r ↦ elim r [
      | inl h ↦ ap (λ l. has_key l j) (put_equal e es k v h) ∙ skips es k j v differ
          ∙ sym (ap (λ b. b || has_key es j) (keys_ne j e.key (λ q. differ (q ∙ sym (equal_same k e.key h)))))
      | inr h ↦ ap (λ l. has_key l j) (put_greater e es k v h) ∙ ap (λ b. bytes_eq j e.key || b) (has-put_other es k j v differ)
    ]
  ]
