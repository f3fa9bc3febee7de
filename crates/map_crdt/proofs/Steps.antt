-- One pair more in the loops over a map.
use Rattle.std.proofs.Common.{◌≡◌, ℕ, zero, suc, ◌<◌, List, [], ◌∷◌, length, get_or, take, Less, sym, subst, ap, ◌∙◌, arith}
use Rattle.std.proofs.lemmas.List.Elements.{All-from_recursion}
use Rattle.std.specs.Ordering.{match_ordering}
use Rattle.serde_json.specs.Data.{member, no_members}
use Rattle.serde_json.specs.Data as json
use Rattle.crdt_laws.specs.Tower.{Meaning}
use Rattle.map_crdt.specs.declared.keyed.KeyState.{KeyState}
use Rattle.map_crdt.specs.Keyed.{AreRising, byte_order, members}
use Rattle.map_crdt.specs.KeyedLaws.{less_greater}

module _ {S O : Type 0} (m : Meaning S O) where
  -- a member of a greater key than all others goes last
  pub members_more : (es : List (KeyState S)) → AreRising es → (i : ℕ) (x : KeyState S) → i < length es → x ≡ get_or es i x
      → json.put x.key (m.show x.state) (members m (take i es)) ≡ members m (take (suc i) es)
  members_more [] r i x within is = absurd (omega arith)
  members_more (e ∷ es) r zero x within is = ap (λ (z : KeyState S). member z.key (m.show z.state) no_members) is
  members_more (e ∷ es) r (suc i) x within is =
      let below : byte_order e.key x.key ≡ Less =
      subst (λ (z : KeyState S). byte_order e.key z.key ≡ Less) (sym is) (All-from_recursion (λ f. byte_order e.key f.key ≡ Less) es r.0 i x (omega arith)) in
      ap (λ o. match_ordering o (member x.key (m.show x.state) (members m (e ∷ take i es))) (member e.key (m.show x.state) (members m (take i es)))
      (member e.key (m.show e.state) (json.put x.key (m.show x.state) (members m (take i es))))) (less_greater e.key x.key below)
      ∙ ap (member e.key (m.show e.state)) (members_more es r.1 i x (omega arith) is)
