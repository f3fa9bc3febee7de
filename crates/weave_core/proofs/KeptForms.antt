-- The operations of level 1 act on nothing, so those above it are enough to tell the form of the next one.
use Rattle.std.proofs.Common.{◌≡◌, ℕ, List, [], ◌∷◌, ◌++◌, cond, ap, sym, ◌∙◌, map, nat_le}
use Rattle.std.specs.List.{AllByRecursion, filter}
use Rattle.crdt_laws.specs.declared.small.Entry.{Entry}
use Rattle.crdt_laws.specs.Present.{acted, present, with_next}
use Rattle.crdt_laws.specs.Tower.{Meaning, IsIssued, IsLawful}
use Rattle.crdt_laws.proofs.Acts
use Rattle.crdt_laws.proofs.Forms
use Rattle.std.proofs.lemmas.List.Elements.{filter-append}
use Rattle.vector_clock.proofs.Ordered.{all_weaker}
use Rattle.weave_core.specs.Deliver.{is_high}
use Rattle.weave_core.proofs.Filters.{filter-map_out}
use Rattle.weave_core.proofs.Kept.{present_kept}
use Rattle.weave_core.specs.Deliver.{kept_with}

module _ {State Op : Type 0} (t : Meaning State Op) (members : ℕ) (law : IsLawful t) where
  abbrev pub Issued : Entry Op → Type 0
  Issued e = IsIssued t members e.stamp e.op

  acted-high : (y x : Entry Op) → Issued y → Issued x → is_high t (acted t y x) ≡ is_high t x
  acted-high y x v w =
      let e : t.level (t.act y.op x.op) ≡ t.level x.op = law.level-act y.op x.op (Acts.formed t members law y v) (Acts.formed t members law x w) in
      ap (λ (n : ℕ). nat_le 2 n) e

  filter-acted : (y : Entry Op) → Issued y → (fs : List (Entry Op)) → AllByRecursion Issued fs → filter (is_high t) (map (acted t y) fs) ≡ map (acted t y) (filter (is_high t) fs)
  filter-acted y v fs h = filter-map_out (is_high t) (acted t y) fs (all_weaker Issued (λ e. is_high t (acted t y e) ≡ is_high t e) (λ e w. acted-high y e v w) fs h)

  -- the kept forms once x is in are those of all forms that can act on others
  pub kept_is : (fs : List (Entry Op)) (x : Entry Op) → AllByRecursion Issued fs → Issued x → kept_with t (filter (is_high t) fs) x ≡ filter (is_high t) (with_next t fs x)
  unfolding kept_with with_next
  kept_is fs x h v =
      let y = present t fs x in
      let w : Issued y = Forms.present-issued t members law fs x h v in
      let e : present t (filter (is_high t) fs) x ≡ y = present_kept t members law x v fs in
      ap (λ (z : Entry Op). map (acted t z) (filter (is_high t) fs) ++ cond (is_high t z) (z ∷ []) []) e
      ∙ ap (λ (l : List (Entry Op)). l ++ cond (is_high t y) (y ∷ []) []) (sym (filter-acted y w fs h))
      ∙ sym (filter-append (is_high t) (map (acted t y) fs) (y ∷ []))
