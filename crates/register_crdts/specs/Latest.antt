-- What a register means that keeps one text: of all sets the one of the greatest key.
use Rattle.std.specs.Prelude.{◌≡◌, ◌⊎◌, ℕ, List, true, false, if◌then◌else◌, IsTrue, Option, Some, None}
use Rattle.std.specs.List.{Contains}
use Rattle.serde_json.specs.Data.{Data, null, string}
use Rattle.vector_clock.specs.declared.clock.Clock.{Clock}
use Rattle.vector_clock.specs.declared.clock.Id.{Id}
use Rattle.vector_clock.specs.declared.stamp.Key.{Key}
use Rattle.vector_clock.specs.declared.stamp.Stamp.{Stamp}
use Rattle.vector_clock.specs.Clock.{covers}
use Rattle.vector_clock.specs.Stamp.{is_below, is_less, key_of}
use Rattle.crdt_laws.specs.declared.small.Entry.{Entry}
use Rattle.crdt_laws.specs.Keys.{IsKeyOf}
use Rattle.crdt_laws.specs.Tower.{Meaning}
use Rattle.register_crdts.specs.declared.latest.Set.{Set}
use Rattle.register_crdts.specs.Text.{IsText, IsTextAt}

-- the set of this text at this stamp
abbrev pub set_at : Stamp → List ℕ → Set
set_at p x = record { key = key_of p; text = x }

-- of two sets the one of the greater key
abbrev pub later : Set → Set → Set
later a b = if is_less a.key b.key then b else a

-- the first set stays where it is the only one
abbrev pub latest_apply : Option Set → Stamp → List ℕ → Option Set
latest_apply None p x = Some (set_at p x)
latest_apply (Some s) p x = Some (later s (set_at p x))

-- the text, or null before any set
abbrev pub latest_show : Option Set → Data
latest_show None = null
latest_show (Some s) = string s.text

-- the id of the operation that has this key
abbrev pub id_of_key : Key → Id
id_of_key k = record { member = k.member; seq = k.seq }

-- a set of a document with n members
pub record IsSetOf (n : ℕ) (s : Set) : Type 0 where
  pub key : IsKeyOf n s.key
  pub text : IsText s.text

-- what is kept is a set of the document
abbrev pub latest_good : ℕ → Option Set → Type 0
latest_good n None = Unit {0}
latest_good n (Some s) = IsSetOf n s

-- and the clock covers the operation that set it
abbrev pub latest_good_at : Clock → Option Set → Type 0
latest_good_at d None = Unit {0}
latest_good_at d (Some s) = IsSetOf d.n s × IsTrue (covers d (id_of_key s.key))

-- Sets are of one level, and settling changes nothing. An operation is a text.
abbrev pub latest_meaning : Meaning (Option Set) (List ℕ)
latest_meaning = record {
  top = 1;
  level = λ _. 1;
  well_formed = IsText;
  valid = IsTextAt;
  init = None;
  apply = latest_apply;
  act = λ _ x. x;
  settle = λ s _. s;
  show = latest_show;
  good = latest_good;
  good_at = latest_good_at;
  holds = λ _ _. ⊥;
  sparing = false;
  plain = true;
}

-- e is one of the sets, and each other one has a lesser key
pub record IsGreatest (xs : List (Entry (List ℕ))) (e : Entry (List ℕ)) : Type 0 where
  pub member : Contains xs e
  pub others : (f : Entry (List ℕ)) → Contains xs f → (f ≡ e) ⊎ IsTrue (is_below f.stamp e.stamp)
