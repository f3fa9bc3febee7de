-- What a text shows of a mark, once a range is put over it.
use Rattle.std.proofs.Common.{◌≡◌, ◌≢◌, ℕ, zero, suc, ◌+◌, ◌-◌, ◌≤◌, ◌<◌, ◌↔◌, inl, inr, Bool, true, false, ◌&&◌, ◌||◌, ◌==◌, List, [], ◌∷◌, ◌++◌, cond, length, get_or, take, drop, map, refl, sym, ap, ap₂, ◌∙◌, subst, arith, Contains}
use Rattle.std.specs.Prelude.{replicate}
use Rattle.std.specs.List.{All, list_any}
use Rattle.std.proofs.lemmas.Bool.Decides.{nat_tests}
use Rattle.std.proofs.lemmas.List.{drop-drop, drop-replicate, take-replicate}
use Rattle.std.proofs.lemmas.List.Elements.{All-contains, All-weaker, Contains-get_or}
use Rattle.std.proofs.lemmas.List.Folds.{list_any_none}
use Rattle.vector_clock.specs.Stamp.{is_less}
use Rattle.crdt_laws.proofs.Members.{Contains-cases, Contains-front, Contains-more}
use Rattle.list_crdt.proofs.Neighbours.{place_some}
use Rattle.rich_text.specs.declared.marked.RichCell.{RichCell}
use Rattle.rich_text.specs.declared.marks.MarkEntry.{MarkEntry}
use Rattle.rich_text.specs.declared.over.MarkRange.{MarkRange}
use Rattle.rich_text.specs.ByIndex.{IsLatest, IsRangeOver, characters, is_on, shows}
use Rattle.rich_text.specs.Marked.{IsRichText, at}
use Rattle.rich_text.specs.Marks.{AreMarks, is_lesser, joined}
use Rattle.rich_text.specs.MarksLaws.{joined-before, joined-here, joined-later, marks-head, marks-joined, marks-tail, three_ways}
use Rattle.rich_text.specs.Over.{entry_of, is_inside, marked}
use Rattle.rich_text.proofs.ByIndex.{covered_by_index}
use Rattle.rich_text.proofs.Tops.{contains_none}

-- whether an entry puts the mark on

abbrev puts : ℕ → MarkEntry → Bool
puts mark e = (e.mark == mark) && e.on

puts_own : (e : MarkEntry) → puts e.mark e ≡ e.on
puts_own e = grind (arith, nat_tests)

puts_other : (mark : ℕ) (e : MarkEntry) → (e.mark ≡ mark → ⊥) → puts mark e ≡ false
puts_other mark e h = grind (arith, nat_tests)

or_first : (a b : Bool) → b ≡ false → (a || b) ≡ a
or_first true b h = refl
or_first false b h = h

or_second : (a b : Bool) → a ≡ false → (a || b) ≡ b
or_second a b h = ap (λ x. x || b) h

-- marks above a mark say nothing of it
above_none : (mark : ℕ) (ms : List MarkEntry) → All (λ b. mark < b.mark) ms → list_any (puts mark) ms ≡ false
above_none mark ms h = list_any_none (puts mark) ms (All-weaker (λ (b : MarkEntry). mark < b.mark) (λ (b : MarkEntry). puts mark b ≡ false) (λ b l. puts_other mark b (λ e. absurd (omega (arith, l, e)))) ms h)

-- the entry of a mark says whether it is on
pub entry_decides : (ms : List MarkEntry) (e : MarkEntry) → AreMarks ms → Contains ms e → list_any (puts e.mark) ms ≡ e.on
entry_decides [] e h c = absurd (contains_none e c)
entry_decides (m ∷ ms) e h c = elim (Contains-cases m ms e c) [
  | inl q ↦ or_first (puts e.mark m) (list_any (puts e.mark) ms) (above_none e.mark ms (subst (λ (x : MarkEntry). All (λ b. x.mark < b.mark) ms) q (marks-head m ms h)))
      ∙ subst (λ (x : MarkEntry). puts e.mark x ≡ e.on) (sym q) (puts_own e)
  | inr k ↦
      (let l : m.mark < e.mark = All-contains (λ (b : MarkEntry). m.mark < b.mark) ms e (marks-head m ms h) k in
      or_second (puts e.mark m) (list_any (puts e.mark) ms) (puts_other e.mark m (λ s. absurd (omega (arith, l, s))))
      ∙ entry_decides ms e (marks-tail m ms h) k)
]

-- an entry that is joined says nothing of other marks
other_joined : (mark : ℕ) (e : MarkEntry) (ms : List MarkEntry) → (e.mark ≡ mark → ⊥) → list_any (puts mark) (joined e ms) ≡ list_any (puts mark) ms
other_joined mark e [] h = or_second (puts mark e) false (puts_other mark e h)
other_joined mark e (m ∷ ms) h =
    three_ways e.mark m.mark
    (λ k. ap (list_any (puts mark)) (joined-before e m ms k) ∙ or_second (puts mark e) (list_any (puts mark) (m ∷ ms)) (puts_other mark e h))
    (λ k. ap (list_any (puts mark)) (joined-here e m ms k) ∙ ap (λ b. b || list_any (puts mark) ms) (either (is_lesser m e) (puts_other mark e h) (puts_other mark m (λ s. h (k ∙ s)))))
    (λ k. ap (list_any (puts mark)) (joined-later e m ms k) ∙ ap (λ b. puts mark m || b) (other_joined mark e ms h))
  where
    either : (b : Bool) → puts mark e ≡ false → puts mark m ≡ false → puts mark (cond b e m) ≡ puts mark m
    either true p q = p ∙ sym q
    either false p q = refl

less_key : (a b : MarkEntry) → is_less a.key b.key ≡ true → is_lesser a b ≡ true
unfolding is_lesser
less_key a b h = grind arith

-- an entry with a greater key than that of its mark is joined
latest_joined : (e : MarkEntry) (ms : List MarkEntry) → ((x : MarkEntry) → Contains ms x → x.mark ≡ e.mark → is_less x.key e.key ≡ true) → Contains (joined e ms) e
latest_joined e [] h = Contains-front e []
latest_joined e (m ∷ ms) h =
    three_ways e.mark m.mark
    (λ k. subst (λ l. Contains l e) (sym (joined-before e m ms k)) (Contains-front e (m ∷ ms)))
    (λ k. subst (λ l. Contains l e) (sym (joined-here e m ms k ∙ ap (λ b. cond b e m ∷ ms) (less_key m e (h m (Contains-front m ms) (sym k))))) (Contains-front e ms))
    (λ k. subst (λ l. Contains l e) (sym (joined-later e m ms k)) (Contains-more m (joined e ms) e (latest_joined e ms (λ x c. h x (Contains-more m ms x c)))))

-- a character under a range

module _ (r : MarkRange) (c : RichCell) where
  outside : is_inside r c.at ≡ false → marked r c ≡ c
  outside h = ap (λ b. record { at = c.at; ch = c.ch; marks = cond b (joined (entry_of r) c.marks) c.marks }) h

  inside : is_inside r c.at ≡ true → marked r c ≡ record { at = c.at; ch = c.ch; marks = joined (entry_of r) c.marks }
  inside h = ap (λ b. record { at = c.at; ch = c.ch; marks = cond b (joined (entry_of r) c.marks) c.marks }) h

  pub shows_range : AreMarks c.marks → is_inside r c.at ≡ true → ((e : MarkEntry) → Contains c.marks e → e.mark ≡ r.mark → is_less e.key r.key ≡ true) → is_on r.mark (marked r c) ≡ r.on
  shows_range h k f =
      ap (is_on r.mark) (inside k)
      ∙ entry_decides (joined (entry_of r) c.marks) (entry_of r) (marks-joined (entry_of r) c.marks h) (latest_joined (entry_of r) c.marks f)

  shows_other : (mark : ℕ) → mark ≢ r.mark → is_on mark (marked r c) ≡ is_on mark c
  shows_other mark d = by (is_inside r c.at)
    where
      by : (b : Bool) → list_any (puts mark) (cond b (joined (entry_of r) c.marks) c.marks) ≡ list_any (puts mark) c.marks
      by true = other_joined mark (entry_of r) c.marks (λ e. d (sym e))
      by false = refl

pub others_show : (mark : ℕ) (r : MarkRange) (s : List RichCell) → mark ≢ r.mark → shows mark (map (marked r) s) ≡ shows mark s
others_show mark r [] d = refl
others_show mark r (c ∷ s) d = ap₂ (λ (b : Bool) l. b ∷ l) (shows_other r c mark d) (others_show mark r s d)

pub same_characters : (r : MarkRange) (s : List RichCell) → characters (map (marked r) s) ≡ characters s
same_characters r [] = refl
same_characters r (c ∷ s) = ap (λ l. record { at = c.at; ch = c.ch } ∷ l) (same_characters r s)

-- A list whose images change from an index on, so many of them, to one value.

module _ {X Y : Type 0} (f g : X → Y) (b : Y) where
  unchanged : (s : List X) → ((k : ℕ) (d : X) → k < length s → g (get_or s k d) ≡ f (get_or s k d)) → map g s ≡ map f s
  unchanged [] h = refl
  unchanged (x ∷ s) h = ap₂ (λ (y : Y) l. y ∷ l) (h 0 x (omega arith)) (unchanged s (λ k d l. h (suc k) d (omega (arith, l))))

  run_first : (n : ℕ) (s : List X) → n ≤ length s → ((k : ℕ) (d : X) → k < n → k < length s → g (get_or s k d) ≡ b)
      → ((k : ℕ) (d : X) → n ≤ k → k < length s → g (get_or s k d) ≡ f (get_or s k d)) → map g s ≡ replicate n b ++ drop n (map f s)
  run_first zero [] m h k = refl
  run_first zero (x ∷ s) m h k = unchanged (x ∷ s) (λ i d l. k i d (omega arith) l)
  run_first (suc n) [] m h k = absurd (omega (arith, m))
  run_first (suc n) (x ∷ s) m h k =
      ap₂ (λ (y : Y) l. y ∷ l) (h 0 x (omega arith) (omega arith))
      (run_first n s (omega (arith, m)) (λ i d l o. h (suc i) d (omega (arith, l)) (omega (arith, o))) (λ i d l o. k (suc i) d (omega (arith, l)) (omega (arith, o))))

  run_at : (i n : ℕ) (s : List X) → i + n ≤ length s → ((k : ℕ) (d : X) → k < i → k < length s → g (get_or s k d) ≡ f (get_or s k d))
      → ((k : ℕ) (d : X) → i ≤ k → k < i + n → k < length s → g (get_or s k d) ≡ b) → ((k : ℕ) (d : X) → i + n ≤ k → k < length s → g (get_or s k d) ≡ f (get_or s k d))
      → map g s ≡ take i (map f s) ++ (replicate n b ++ drop n (drop i (map f s)))
  run_at zero n [] m h j k = run_first n [] (omega (arith, m)) (λ i d l o. absurd (omega (arith, o))) (λ i d l o. absurd (omega (arith, o)))
  run_at zero n (x ∷ s) m h j k =
      run_first n (x ∷ s) (omega (arith, m)) (λ i d l o. j i d (omega arith) (omega (arith, l)) o) (λ i d l o. k i d (omega (arith, l)) o)
  run_at (suc i) n [] m h j k = absurd (omega (arith, m))
  run_at (suc i) n (x ∷ s) m h j k =
      ap₂ (λ (y : Y) l. y ∷ l) (h 0 x (omega arith) (omega arith))
      (run_at i n s (omega (arith, m)) (λ q d l o. h (suc q) d (omega (arith, l)) (omega (arith, o)))
      (λ q d l o t. j (suc q) d (omega (arith, l)) (omega (arith, o)) (omega (arith, t))) (λ q d l o. k (suc q) d (omega (arith, l)) (omega (arith, o))))

-- the indexes of a range are in the text
pub record AreInside (from to len : ℕ) : Type 0 where
  pub some : from < to
  pub within : to ≤ len

pub in_text : (s : List RichCell) (from to : ℕ) (r : MarkRange) → IsRangeOver s from to r → AreInside from to (length s)
in_text s from zero r h = absurd (let l = h.some in omega (arith, l))
in_text s from (suc j) r h = record { some = h.some; within = (let l = place_some at s j r.last h.last in omega (arith, l)) }

not_true : (b : Bool) → (b ≡ true → ⊥) → b ≡ false
not_true true h = absurd (h refl)
not_true false h = refl

module _ (number n from to : ℕ) (s : List RichCell) (r : MarkRange) (text : IsRichText number n s) (over : IsRangeOver s from to r) where
  is_covered : (k : ℕ) (d : RichCell) → k < length s → (is_inside r (get_or s k d).at ≡ true) ↔ ((from ≤ k) × (k < to))
  is_covered k d l = covered_by_index number n from to k s r d text over l

  untouched : (k : ℕ) (d : RichCell) → ((from ≤ k) × (k < to) → ⊥) → k < length s → is_on r.mark (marked r (get_or s k d)) ≡ is_on r.mark (get_or s k d)
  untouched k d f l = ap (is_on r.mark) (outside r (get_or s k d) (not_true (is_inside r (get_or s k d).at) (λ t. f ((is_covered k d l).0 t))))

  pub shows_run : IsLatest r s → shows r.mark (map (marked r) s) ≡ take from (shows r.mark s) ++ (replicate (to - from) r.on ++ drop to (shows r.mark s))
  shows_run latest =
      let size : ℕ = to - from in
      let inside = in_text s from to r over in
      let sum : from + size ≡ to = omega (arith, inside.some) in
      map_twice s
      ∙ run_at (is_on r.mark) (λ (c : RichCell). is_on r.mark (marked r c)) r.on from size s (omega (arith, inside.within, sum))
      (λ k d l m. untouched k d (λ p. absurd (omega (arith, l, p.0))) m)
      (λ k d l m o. shows_range r (get_or s k d) (text.cells k d o).marks.rising ((is_covered k d o).1 (l, omega (arith, m, sum)))
      (λ e c same. latest.each (get_or s k d) e (Contains-get_or s k d o) ((is_covered k d o).1 (l, omega (arith, m, sum))) c same))
      (λ k d l m. untouched k d (λ p. absurd (omega (arith, l, p.1, sum))) m)
      ∙ ap (λ l. take from (shows r.mark s) ++ (replicate size r.on ++ l)) (drop-drop size from (shows r.mark s) ∙ ap (λ k. drop k (shows r.mark s)) sum)
    where
      map_twice : (s : List RichCell) → shows r.mark (map (marked r) s) ≡ map (λ c. is_on r.mark (marked r c)) s
      map_twice [] = refl
      map_twice (c ∷ s) = ap (λ l. is_on r.mark (marked r c) ∷ l) (map_twice s)

  pub shows_three : IsLatest r s → r.on ≡ false → shows r.mark s ≡ replicate (length s) true
      → shows r.mark (map (marked r) s) ≡ replicate from true ++ (replicate (to - from) false ++ replicate (length s - to) true)
  shows_three latest off all =
      let inside = in_text s from to r over in
      shows_run latest
      ∙ ap₂ (λ (x y : List Bool). x ++ (replicate (to - from) r.on ++ y))
      (ap (take from) all ∙ take-replicate from (length s) true (omega (arith, inside.some, inside.within)))
      (ap (drop to) all ∙ drop-replicate to (length s) true)
      ∙ ap (λ (b : Bool). replicate from true ++ (replicate (to - from) b ++ replicate (length s - to) true)) off
