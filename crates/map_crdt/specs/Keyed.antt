-- What a map from keys to states of one tower means.
use Rattle.std.specs.Prelude.{◌≡◌, ℕ, ◌≤◌, ◌⊎◌, Bool, false, if◌then◌else◌, List, [], ◌∷◌, length, map}
use Rattle.std.specs.declared.cmp.Ordering.{Ordering}
use Rattle.std.specs.declared.cmp.Ordering.TheVariants.{Less}
use Rattle.std.specs.Cmp.Lexicographic.{slice_cmp}
use Rattle.std.specs.List.{AllByRecursion, list_any}
use Rattle.std.specs.Ordering.{match_ordering, nat_cmp}
use Rattle.std.specs.Str.{IsUtf8, bytes_eq}
use Rattle.serde_json.specs.Data.{object, Members, no_members, member}
use Rattle.vector_clock.specs.declared.clock.Clock.{Clock}
use Rattle.vector_clock.specs.declared.stamp.Stamp.{Stamp}
use Rattle.crdt_laws.specs.Tower.{Meaning}
use Rattle.map_crdt.specs.declared.keyed.KeyOp.{KeyOp}
use Rattle.map_crdt.specs.declared.keyed.KeyState.{KeyState}

-- the greatest number of bytes of a key
abbrev pub max_key : ℕ
max_key = 256

-- UTF-8 of 1 to 256 bytes
pub record IsKey (k : List ℕ) : Type 0 where
  pub some : 1 ≤ length k
  pub most : length k ≤ max_key
  pub utf8 : IsUtf8 k

-- the order of keys: by bytes, a proper prefix first
abbrev pub byte_order : List ℕ → List ℕ → Ordering
byte_order = slice_cmp nat_cmp

-- the operation x on the key k
abbrev pub at_key : {O : Type 0} → List ℕ → O → KeyOp O
at_key k x = record { key = k; op = x }

module _ {S : Type 0} where
  -- the key k with its state s
  abbrev pub pair : List ℕ → S → KeyState S
  pair k s = record { key = k; state = s }

  -- strictly rising keys
  abbrev pub AreRising : List (KeyState S) → Type 0
  AreRising [] = Unit {0}
  AreRising (e ∷ es) = AllByRecursion (λ f. byte_order e.key f.key ≡ Less) es × AreRising es

  -- the map with the state s at the key k, in the place of the one there
  abbrev pub put : List (KeyState S) → List ℕ → S → List (KeyState S)
  put [] k s = pair k s ∷ []
  put (e ∷ es) k s = match_ordering (byte_order k e.key) (pair k s ∷ e ∷ es) (pair k s ∷ es) (e ∷ put es k s)

  -- whether the key k is present
  abbrev pub has_key : List (KeyState S) → List ℕ → Bool
  has_key es k = list_any (λ e. bytes_eq k e.key) es

  -- a map of which each state keeps P
  pub record IsMapOf (P : S → Type 0) (es : List (KeyState S)) : Type 0 where
    pub rising : AreRising es
    pub keys : AllByRecursion (λ e. IsKey e.key) es
    pub states : AllByRecursion (λ e. P e.state) es

module _ {S O : Type 0} (m : Meaning S O) where
  -- the state at the key k, which is the first one where the key is absent
  abbrev pub state_at : List (KeyState S) → List ℕ → S
  state_at [] k = m.init
  state_at (e ∷ es) k = if bytes_eq k e.key then e.state else state_at es k

  -- the operation x on the key k changes the state there, and makes the key present
  abbrev pub apply_at : List (KeyState S) → List ℕ → Stamp → O → List (KeyState S)
  apply_at es k p x = put es k (m.apply (state_at es k) p x)

  -- operations on different keys do not act on each other
  abbrev pub keyed_act : KeyOp O → KeyOp O → KeyOp O
  keyed_act y x = if bytes_eq y.key x.key then at_key x.key (m.act y.op x.op) else x

  -- each state settled
  abbrev pub settle_all : List (KeyState S) → Clock → List (KeyState S)
  settle_all es k = map (λ e. pair e.key (m.settle e.state k)) es

  -- each key with its state as it is shown
  abbrev pub members : List (KeyState S) → Members
  members [] = no_members
  members (e ∷ es) = member e.key (m.show e.state) (members es)

  -- the stamps that any state holds
  abbrev pub holds_any : List (KeyState S) → Stamp → Type 0
  holds_any [] p = ⊥
  holds_any (e ∷ es) p = m.holds e.state p ⊎ holds_any es p

  -- A map is at first empty. Operations have the levels that they have in the tower of the states.
  abbrev pub keyed_meaning : Meaning (List (KeyState S)) (KeyOp O)
  keyed_meaning = record {
    top = m.top;
    level = λ x. m.level x.op;
    well_formed = λ x. IsKey x.key × m.well_formed x.op;
    valid = λ p x. IsKey x.key × m.valid p x.op;
    init = [];
    apply = λ es p x. apply_at es x.key p x.op;
    act = keyed_act;
    settle = settle_all;
    show = λ es. object (members es);
    good = λ n es. IsMapOf (m.good n) es;
    good_at = λ d es. IsMapOf (m.good_at d) es;
    holds = holds_any;
    sparing = false;
    plain = m.plain;
  }
