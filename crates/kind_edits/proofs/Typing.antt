-- Letters are put between two positions one after another.
use Rattle.std.proofs.Common.{◌≡◌, ℕ, ◌+◌, ◌-◌, ◌≤◌, ◌<◌, Bool, true, false, nat_le, List, [], ◌∷◌, ◌++◌, length, get_or, drop, Option, Some, Result, Ok, Err, refl, sym, ◌∙◌, ap, subst, arith, append_assoc}
use Rattle.std.specs.Option.{option_or}
use Rattle.std.specs.Str.{IsUtf8, chars}
use Rattle.std.proofs.Math.Seq.{get_or-append_seam}
use Rattle.std.proofs.lemmas.Bool.Decides.{nat_tests}
use Rattle.std.proofs.lemmas.List.{append-nil, at_drop_all, at_drop_more, length-append}
use Rattle.std.proofs.lemmas.Str.{encodes-chars, length-le-encodes}
use Rattle.list_crdt.specs.declared.position.Step.{Step}
use Rattle.list_crdt.specs.declared.text.Cell.{Cell}
use Rattle.list_crdt.specs.Between.{AreInOrder, IsBetween, position_between}
use Rattle.list_crdt.specs.Position.{IsPosition, max_steps}
use Rattle.list_crdt.specs.Text.{at, place}
use Rattle.list_crdt.proofs.Neighbours.{place_within}
use Rattle.kind_edits.specs.declared.fault.EditError.{EditError}
use Rattle.kind_edits.specs.declared.fault.EditError.TheVariants.{PositionFull}
use Rattle.kind_edits.specs.Letters.{last_place, letters_between}
use Rattle.kind_edits.specs.Rules.{demands, follows}

abbrev pub letter : List Step → ℕ → Cell
letter a ch = record { at = a; ch = ch }

-- the last of letters is the one that was put last
pub last-push : (low : Option (List Step)) (cells : List Cell) (c : Cell) → last_place low (cells ++ c ∷ []) ≡ Some c.at
last-push low cells c =
    let size : length (cells ++ c ∷ []) ≡ length cells + 1 = length-append cells (c ∷ []) in
    let last : length (cells ++ c ∷ []) - 1 ≡ length cells = omega (arith, size) in
    let here : place (cells ++ c ∷ []) (length cells) ≡ Some c.at =
    place_within at (cells ++ c ∷ []) (length cells) c (omega (arith, size)) ∙ ap (λ (d : Cell). Some d.at) (get_or-append_seam cells c [] c) in
    ap (λ i. option_or (place (cells ++ c ∷ []) i) low) last ∙ ap (λ o. option_or o low) here

-- a text has no more characters than bytes
pub length-chars : (text : List ℕ) → IsUtf8 text → length (chars text) ≤ length text
length-chars text utf8 = subst (λ (bs : List ℕ). length (chars text) ≤ length bs) (encodes-chars text utf8) (length-le-encodes (chars text))

module _ (member : ℕ) (high : Option (List Step)) where
  -- one letter more, whose position has room or not
  pub letters_on : (seq : ℕ) (low : Option (List Step)) (ch : ℕ) (chs : List ℕ) → let a = position_between member seq low high in length a ≤ max_steps
      → letters_between member high seq low (ch ∷ chs) ≡ follows (letters_between member high (seq + 1) (Some a) chs) (λ cells. Ok (letter a ch ∷ cells))
  letters_on seq low ch chs room =
      let a = position_between member seq low high in
      let test : nat_le (length a) max_steps ≡ true = grind (arith, nat_tests) in
      ap (λ (t : Bool). demands t (PositionFull (length a)) (follows (letters_between member high (seq + 1) (Some a) chs) (λ cells. Ok (letter a ch ∷ cells)))) test

  pub letters_end : (seq : ℕ) (low : Option (List Step)) (ch : ℕ) (chs : List ℕ) → let a = position_between member seq low high in max_steps < length a
      → letters_between member high seq low (ch ∷ chs) ≡ Err (PositionFull (length a))
  letters_end seq low ch chs full =
      let a = position_between member seq low high in
      let test : nat_le (length a) max_steps ≡ false = grind (arith, nat_tests) in
      ap (λ (t : Bool). demands t (PositionFull (length a)) (follows (letters_between member high (seq + 1) (Some a) chs) (λ cells. Ok (letter a ch ∷ cells)))) test

  -- what letters become with others in front of them
  abbrev behind : List Cell → Result (List Cell) EditError → Result (List Cell) EditError
  behind cells r = follows r (λ more. Ok (cells ++ more))

  behind_one : (cells : List Cell) (c : Cell) (r : Result (List Cell) EditError) → behind cells (follows r (λ more. Ok (c ∷ more))) ≡ behind (cells ++ c ∷ []) r
  behind_one cells c (Ok more) = ap Ok (sym (append_assoc cells (c ∷ []) more))
  behind_one cells c (Err fault) = refl

  -- so many of the characters have their letters, and the next one has this sequence number
  pub record IsTyped (first : ℕ) (low : Option (List Step)) (chs : List ℕ) (cells : List Cell) (seq k : ℕ) : Type 0 where
    pub counted : seq ≡ first + k
    pub order : AreInOrder (last_place low cells) high
    pub rest : letters_between member high first low chs ≡ behind cells (letters_between member high seq (last_place low cells) (drop k chs))

  pub typed_none : (first : ℕ) (low : Option (List Step)) (chs : List ℕ) → AreInOrder low high → IsTyped first low chs [] first 0
  typed_none first low chs order = record { counted = omega arith; order = order; rest = same (letters_between member high first low chs) }
    where
      same : (r : Result (List Cell) EditError) → r ≡ behind [] r
      same (Ok cells) = refl
      same (Err fault) = refl

  module _ (first : ℕ) (low : Option (List Step)) (chs : List ℕ) (cells : List Cell) (seq k ch : ℕ) (typed : IsTyped first low chs cells seq k)
      (within : k < length chs) (is : ch ≡ get_or chs k ch) where
    abbrev next : List Step
    next = position_between member seq (last_place low cells) high

    left : letters_between member high first low chs ≡ behind cells (letters_between member high seq (last_place low cells) (ch ∷ drop (k + 1) chs))
    left =
        typed.rest ∙ at_drop_more (λ (ds : List ℕ). behind cells (letters_between member high seq (last_place low cells) ds)) chs k ch within
        ∙ ap (λ c. behind cells (letters_between member high seq (last_place low cells) (c ∷ drop (k + 1) chs))) (sym is)

    pub typed_more : (a : List Step) → a ≡ next → length a ≤ max_steps → IsPosition a → IsBetween (last_place low cells) high a
        → IsTyped first low chs (cells ++ letter a ch ∷ []) (seq + 1) (k + 1)
    typed_more a e room position between =
        let last : last_place low (cells ++ letter a ch ∷ []) ≡ Some a = last-push low cells (letter a ch) in
        let room' : length next ≤ max_steps = subst (λ (x : List Step). length x ≤ max_steps) e room in
        record {
          counted = (let c = typed.counted in omega (arith, c));
          order = subst (λ o. AreInOrder o high) (sym last) (record { low = position; high = typed.order.high; apart = between.before });
          rest =
              left
              ∙ ap (behind cells) (letters_on seq (last_place low cells) ch (drop (k + 1) chs) room')
              ∙ behind_one cells (letter next ch) (letters_between member high (seq + 1) (Some next) (drop (k + 1) chs))
              ∙ ap (λ x. behind (cells ++ letter x ch ∷ []) (letters_between member high (seq + 1) (Some x) (drop (k + 1) chs))) (sym e)
              ∙ ap (λ o. behind (cells ++ letter a ch ∷ []) (letters_between member high (seq + 1) o (drop (k + 1) chs))) (sym last);
        }

    pub typed_full : max_steps < length next → letters_between member high first low chs ≡ Err (PositionFull (length next))
    typed_full full = left ∙ ap (behind cells) (letters_end seq (last_place low cells) ch (drop (k + 1) chs) full)

  pub typed_all : (first : ℕ) (low : Option (List Step)) (chs : List ℕ) (cells : List Cell) (seq k : ℕ) → IsTyped first low chs cells seq k → length chs ≤ k
      → letters_between member high first low chs ≡ Ok cells
  typed_all first low chs cells seq k typed all =
      typed.rest ∙ at_drop_all (λ (ds : List ℕ). behind cells (letters_between member high seq (last_place low cells) ds)) chs k all ∙ ap Ok (append-nil cells)
