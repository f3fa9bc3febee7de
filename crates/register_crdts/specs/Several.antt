-- What a register means that keeps each text of which no later set knew.
use Rattle.std.specs.Prelude.{ℕ, List, [], Bool, not, true, false, map}
use Rattle.std.specs.List.{AllByRecursion, list_all}
use Rattle.serde_json.specs.Data.{Data, string, array}
use Rattle.serde_json.specs.View.{items_of}
use Rattle.vector_clock.specs.declared.stamp.Stamp.{Stamp}
use Rattle.vector_clock.specs.Sets.{IsRising, beyond, place}
use Rattle.vector_clock.specs.Stamp.{IsKnownTo, is_before}
use Rattle.crdt_laws.specs.declared.small.Entry.{Entry}
use Rattle.crdt_laws.specs.Tower.{Meaning, IsStampOf, IsWithin}
use Rattle.register_crdts.specs.declared.several.Held.{Held}
use Rattle.register_crdts.specs.Text.{IsText, IsTextAt}

-- the text that was set at this stamp
abbrev pub held : Stamp → List ℕ → Held
held p x = record { stamp = p; text = x }

-- a set removes those that its member knew of, and is added in its place by key
abbrev pub several_apply : List Held → Stamp → List ℕ → List Held
several_apply s p x = place (λ h. h.stamp) (held p x) (beyond (λ h. h.stamp) p.clock s)

-- a set of a document with n members
pub record IsHeldOf (n : ℕ) (h : Held) : Type 0 where
  pub stamp : IsStampOf n h.stamp
  pub within : IsWithin h.stamp
  pub text : IsText h.text

-- the sets of a document with n members, by strictly rising key
pub record IsSeveralOf (n : ℕ) (s : List Held) : Type 0 where
  pub rising : IsRising (λ h. h.stamp) s
  pub sets : AllByRecursion (IsHeldOf n) s

-- the texts by rising key
abbrev pub several_show : List Held → Data
several_show s = array (items_of (map (λ h. string h.text) s))

-- Sets are of one level, and settling changes nothing. An operation is a text. The sets that stay are no log: none is held.
abbrev pub several_meaning : Meaning (List Held) (List ℕ)
several_meaning = record {
  top = 1;
  level = λ _. 1;
  well_formed = IsText;
  valid = IsTextAt;
  init = [];
  apply = several_apply;
  act = λ _ x. x;
  settle = λ s _. s;
  show = several_show;
  good = IsSeveralOf;
  good_at = λ d s. IsSeveralOf d.n s × AllByRecursion (λ h. IsKnownTo d h.stamp) s;
  holds = λ _ _. ⊥;
  sparing = false;
  plain = true;
}

-- whether no other of the operations knew of e
abbrev pub is_unseen : List (Entry (List ℕ)) → Entry (List ℕ) → Bool
is_unseen xs e = list_all (λ f. not (is_before e.stamp f.stamp)) xs

-- the array of the texts of sets
abbrev pub texts_of : List (Entry (List ℕ)) → Data
texts_of xs = array (items_of (map (λ e. string e.op) xs))
