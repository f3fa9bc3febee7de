-- What a text is once letters are put into it.
use Rattle.std.proofs.Common.{◌≡◌, ℕ, zero, suc, ◌+◌, ◌≤◌, nat_le, List, [], ◌∷◌, ◌++◌, length, take, drop, map, Option, Some, Ok, refl, sym, ◌∙◌, ap, ap₂, subst, arith, append_assoc}
use Rattle.std.specs.Prelude.{insert}
use Rattle.std.proofs.lemmas.Bool.Decides.{nat_tests}
use Rattle.std.proofs.lemmas.List.{drop-map, map-append, take-append-drop, take-map}
use Rattle.std.proofs.lemmas.List.Edits.{length-insert}
use Rattle.list_crdt.specs.declared.position.Step.{Step}
use Rattle.list_crdt.specs.declared.text.Cell.{Cell}
use Rattle.list_crdt.specs.Around.{rising-with_at}
use Rattle.list_crdt.specs.Between.{AreInOrder, IsBetween, position_between}
use Rattle.list_crdt.specs.Cells.{IsRising, place, place_before, with_at}
use Rattle.list_crdt.specs.Position.{IsPosition, max_steps}
use Rattle.list_crdt.proofs.Neighbours.{inserted_between}
use Rattle.list_crdt.proofs.Next.{is_between, made_position}
use Rattle.kind_edits.specs.declared.fault.EditError.TheVariants.{PositionFull}
use Rattle.kind_edits.specs.Letters.{letters_between}
use Rattle.kind_edits.specs.Rules.{follows}
use Rattle.kind_edits.specs.Shown.{letters, spliced}
use Rattle.kind_edits.proofs.Accepting.{ok_same, was_followed, was_met}
use Rattle.kind_edits.proofs.Typing.{letter}

-- ---- letters that have found room

-- the first of them has a position that is short enough, and the others come after it
pub record AreFirst (member : ℕ) (high : Option (List Step)) (seq : ℕ) (low : Option (List Step)) (ch : ℕ) (chs : List ℕ) (cells : List Cell) : Type 0 where
  pub more : List Cell
  pub room : length (position_between member seq low high) ≤ max_steps
  pub rest : letters_between member high (seq + 1) (Some (position_between member seq low high)) chs ≡ Ok more
  pub whole : letter (position_between member seq low high) ch ∷ more ≡ cells

pub letters_first : (member : ℕ) (high : Option (List Step)) (seq : ℕ) (low : Option (List Step)) (ch : ℕ) (chs : List ℕ) (cells : List Cell)
    → letters_between member high seq low (ch ∷ chs) ≡ Ok cells → AreFirst member high seq low ch chs cells
letters_first member high seq low ch chs cells h =
    let a = position_between member seq low high in
    let met = was_met (nat_le (length a) max_steps) (PositionFull (length a)) (follows (letters_between member high (seq + 1) (Some a) chs) (λ more. Ok (letter a ch ∷ more))) cells h in
    let rest = was_followed (letters_between member high (seq + 1) (Some a) chs) (λ more. Ok (letter a ch ∷ more)) cells met.1 in
    record { more = rest.0; room = grind (arith, nat_tests, met.0); rest = rest.1; whole = ok_same (letter a ch ∷ rest.0) cells rest.2 }

-- the letters are the characters
pub letters_are : (member : ℕ) (high : Option (List Step)) (chs : List ℕ) (seq : ℕ) (low : Option (List Step)) (cells : List Cell)
    → letters_between member high seq low chs ≡ Ok cells → letters cells ≡ chs
letters_are member high [] seq low cells h = ap letters (sym (ok_same [] cells h))
letters_are member high (ch ∷ chs) seq low cells h =
    let first = letters_first member high seq low ch chs cells h in
    ap letters (sym first.whole) ∙ ap (λ (l : List ℕ). ch ∷ l) (letters_are member high chs (seq + 1) (Some (position_between member seq low high)) first.more first.rest)

-- ---- a list with one thing more

module _ {C : Type 0} where
  take_on : (s : List C) (i : ℕ) (y : C) → i ≤ length s → take (suc i) (insert s i y) ≡ take i s ++ y ∷ []
  take_on s zero y h = refl
  take_on [] (suc i) y h = absurd (omega (arith, h))
  take_on (x ∷ s) (suc i) y h = ap (λ (l : List C). x ∷ l) (take_on s i y (omega (arith, h)))

  drop_on : (s : List C) (i : ℕ) (y : C) → i ≤ length s → drop (suc i) (insert s i y) ≡ drop i s
  drop_on s zero y h = refl
  drop_on [] (suc i) y h = absurd (omega (arith, h))
  drop_on (x ∷ s) (suc i) y h = drop_on s i y (omega (arith, h))

-- a function of each of a list with others put in
pub map-spliced : {X Y : Type 0} (f : X → Y) (xs : List X) (i : ℕ) (ys : List X) → map f (spliced xs i ys) ≡ spliced (map f xs) i (map f ys)
map-spliced f xs i ys =
    map-append f (take i xs) (ys ++ drop i xs)
    ∙ ap₂ (λ a b. a ++ b) (sym (take-map f i xs)) (map-append f ys (drop i xs) ∙ ap (λ b. map f ys ++ b) (sym (drop-map f i xs)))

-- ---- letters in a text

module _ {C : Type 0} (at : C → List Step) (put : Cell → C) (put_at : (c : Cell) → at (put c) ≡ c.at) where
  -- the text with the letters, each put at its position
  abbrev pub built : List C → List Cell → List C
  built s [] = s
  built s (c ∷ cells) = built (with_at at c.at (Some (put c)) s) cells

  place_here : (s : List C) (i : ℕ) (y : C) → i ≤ length s → place at (insert s i y) i ≡ Some (at y)
  place_here s zero y h = refl
  place_here [] (suc i) y h = absurd (omega (arith, h))
  place_here (x ∷ s) (suc i) y h = place_here s i y (omega (arith, h))

  place_after : (s : List C) (i : ℕ) (y : C) → i ≤ length s → place at (insert s i y) (suc i) ≡ place at s i
  place_after s zero y h = refl
  place_after [] (suc i) y h = absurd (omega (arith, h))
  place_after (x ∷ s) (suc i) y h = place_after s i y (omega (arith, h))

  -- one letter, at its index
  module _ (member seq : ℕ) (s : List C) (i ch : ℕ) (rising : IsRising at s) (order : AreInOrder (place_before at s i) (place at s i)) (within : i ≤ length s) where
    abbrev pub next : List Step
    next = position_between member seq (place_before at s i) (place at s i)

    abbrev pub with_next : List C
    with_next = insert s i (put (letter next ch))

    between : IsBetween (place_before at s i) (place at s i) next
    between = is_between member seq (place_before at s i) (place at s i) order

    pub puts_next : with_at at next (Some (put (letter next ch))) s ≡ with_next
    puts_next = inserted_between at s rising next i (put (letter next ch)) within between

    pub rising_next : IsRising at with_next
    rising_next = subst (IsRising at) puts_next (rising-with_at at next s (Some (put (letter next ch))) (put_at (letter next ch)) rising)

    pub before_next : place_before at with_next (suc i) ≡ Some next
    before_next = place_here s i (put (letter next ch)) within ∙ ap (λ (a : List Step). Some a) (put_at (letter next ch))

    pub after_next : place at with_next (suc i) ≡ place at s i
    after_next = place_after s i (put (letter next ch)) within

    pub order_next : length next ≤ max_steps → AreInOrder (place_before at with_next (suc i)) (place at with_next (suc i))
    order_next room =
        let position : IsPosition next = made_position member seq (place_before at s i) (place at s i) next refl room order in
        subst (λ (o : Option (List Step)). AreInOrder (place_before at with_next (suc i)) o) (sym after_next)
        (subst (λ (o : Option (List Step)). AreInOrder o (place at s i)) (sym before_next) (record { low = position; high = order.high; apart = between.before }))

    pub within_next : suc i ≤ length with_next
    within_next = (let e = length-insert s i (put (letter next ch)) within in omega (arith, e, within))

  -- all of them
  pub built_is : (member : ℕ) (chs : List ℕ) (seq : ℕ) (s : List C) (i : ℕ) (cells : List Cell) → IsRising at s → AreInOrder (place_before at s i) (place at s i) → i ≤ length s
      → letters_between member (place at s i) seq (place_before at s i) chs ≡ Ok cells → built s cells ≡ spliced s i (map put cells)
  built_is member [] seq s i cells rising order within h =
      subst (λ (cells : List Cell). built s cells ≡ spliced s i (map put cells)) (ok_same [] cells h) (sym (take-append-drop i s))
  built_is member (ch ∷ chs) seq s i cells rising order within h =
      let first = letters_first member (place at s i) seq (place_before at s i) ch chs cells h in
      let a = next member seq s i ch rising order within in
      let t = with_next member seq s i ch rising order within in
      let more = first.more in
      let rest : letters_between member (place at t (suc i)) (seq + 1) (place_before at t (suc i)) chs ≡ Ok more =
      ap₂ (λ (o b : Option (List Step)). letters_between member o (seq + 1) b chs) (after_next member seq s i ch rising order within) (before_next member seq s i ch rising order within) ∙ first.rest in
      let all : built t more ≡ spliced t (suc i) (map put more) =
      built_is member chs (seq + 1) t (suc i) more (rising_next member seq s i ch rising order within) (order_next member seq s i ch rising order within first.room)
      (within_next member seq s i ch rising order within) rest in
      subst (λ (cells : List Cell). built s cells ≡ spliced s i (map put cells)) first.whole
      (ap (λ (x : List C). built x more) (puts_next member seq s i ch rising order within)
      ∙ all
      ∙ ap₂ (λ (x y : List C). x ++ (map put more ++ y)) (take_on s i (put (letter a ch)) within) (drop_on s i (put (letter a ch)) within)
      ∙ append_assoc (take i s) (put (letter a ch) ∷ []) (map put more ++ drop i s))
