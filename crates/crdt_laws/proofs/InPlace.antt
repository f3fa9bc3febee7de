-- Entries that a form acts on one after another, each where it stands.
use Rattle.std.proofs.Common.{◌≡◌, ℕ, ◌+◌, ◌≤◌, ◌<◌, List, ap, sym, ◌∙◌, subst, arith, add-one, length, get_or, set}
use Rattle.std.proofs.lemmas.List.Elements.{recursion_from_All}
use Rattle.crdt_laws.specs.declared.small.Entry.{Entry}
use Rattle.crdt_laws.specs.Entry.{entry}
use Rattle.crdt_laws.specs.Present.{acted}
use Rattle.crdt_laws.specs.Sets.{AreIssued}
use Rattle.crdt_laws.specs.Tower.{Meaning, IsIssued, IsLawful}
use Rattle.crdt_laws.proofs.Changed.{changed, changed_item, changed_next, changed_stays, set_own}

module _ {State Op : Type 0} (t : Meaning State Op) (law : IsLawful t) (members : ℕ) where
  abbrev Issued : Entry Op → Type 0
  Issued e = IsIssued t members e.stamp e.op

  formed : (e : Entry Op) → Issued e → t.well_formed e.op
  formed e v = law.valid_well_formed e.stamp e.op v.valid

  pub item_issued : (f : Entry Op → Entry Op) (i : ℕ) (xs es : List (Entry Op)) (e : Entry Op) → AreIssued t members xs → es ≡ changed f i xs → i < length xs → e ≡ get_or es i e → Issued e
  item_issued f i xs es e v is m at = changed_item f Issued i xs e (recursion_from_All Issued xs v) m (at ∙ ap (λ (l : List (Entry Op)). get_or l i e) is)

  pub item_formed : (f : Entry Op → Entry Op) (i : ℕ) (xs es : List (Entry Op)) (e : Entry Op) → AreIssued t members xs → es ≡ changed f i xs → i < length xs → e ≡ get_or es i e → t.well_formed (get_or es i e).op
  item_formed f i xs es e v is m at = subst (λ (d : Entry Op). t.well_formed d.op) at (formed e (item_issued f i xs es e v is m at))

  pub next_acted : (y : Entry Op) (i : ℕ) (xs es : List (Entry Op)) (e : Entry Op) (o : Op) → es ≡ changed (acted t y) i xs → i < length xs → e ≡ get_or es i e → o ≡ t.act y.op e.op
      → set es i (entry e.stamp o) ≡ changed (acted t y) (i + 1) xs
  next_acted y i xs es e o is m at eq =
      ap (λ (l : List (Entry Op)). set l i (entry e.stamp o)) is
      ∙ changed_next (acted t y) i xs e (entry e.stamp o) m (at ∙ ap (λ (l : List (Entry Op)). get_or l i e) is) (ap (entry e.stamp) eq)
      ∙ ap (λ (k : ℕ). changed (acted t y) k xs) (sym (add-one i))

  pub next_stays : (y : Entry Op) (i : ℕ) (xs es : List (Entry Op)) (e : Entry Op) → AreIssued t members xs → Issued y → es ≡ changed (acted t y) i xs → i < length xs → e ≡ get_or es i e → t.level y.op ≤ t.level e.op
      → es ≡ changed (acted t y) (i + 1) xs
  next_stays y i xs es e v w is m at low =
      let ve = item_issued (acted t y) i xs es e v is m at in
      is
      ∙ changed_stays (acted t y) i xs e m (at ∙ ap (λ (l : List (Entry Op)). get_or l i e) is) (ap (entry e.stamp) (law.act_below y.op e.op (formed y w) (formed e ve) low))
      ∙ ap (λ (k : ℕ). changed (acted t y) k xs) (sym (add-one i))

  -- the same of the entry where it stands
  pub place_acted : (y : Entry Op) (i : ℕ) (xs es new : List (Entry Op)) (e : Entry Op) (o : Op) → es ≡ changed (acted t y) i xs → i < length xs → e ≡ get_or es i e → o ≡ t.act y.op (get_or es i e).op
      → new ≡ set es i (entry (get_or es i e).stamp o) → new ≡ changed (acted t y) (i + 1) xs
  place_acted y i xs es new e o is m at eq n = n ∙ next_acted y i xs es (get_or es i e) o is m (ap (get_or es i) at) eq

  pub place_stays : (y : Entry Op) (i : ℕ) (xs es new : List (Entry Op)) (e : Entry Op) (j k : ℕ) → AreIssued t members xs → Issued y → es ≡ changed (acted t y) i xs → i < length xs → e ≡ get_or es i e
      → j ≡ t.level y.op → k ≡ t.level (get_or es i e).op → j ≤ k → new ≡ set es i (get_or es i e) → new ≡ changed (acted t y) (i + 1) xs
  place_stays y i xs es new e j k v w is m at a b low n = n ∙ set_own es i e ∙ next_stays y i xs es (get_or es i e) v w is m (ap (get_or es i) at) (let f : t.level y.op ≤ t.level (get_or es i e).op = omega (arith, a, b, low) in f)
