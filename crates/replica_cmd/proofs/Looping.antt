-- How the lines of a script follow one another.
use Rattle.std.proofs.Common.{◌≡◌, inl, inr, ℕ, zero, suc, Bor, drop, map, add-one, ◌+◌, ◌≤◌, ◌<◌, Bool, true, false, List, [], ◌∷◌, ◌++◌, Option, None, Some, refl, ap, ap₂, sym, ◌∙◌, arith, subst, length, get_or, take, append_assoc, ◌^◌, take_all}
use Rattle.std.proofs.lemmas.Bool.{cases_lt}
use Rattle.std.proofs.lemmas.Grind.{flat_map-append}
use Rattle.std.proofs.lemmas.List.{append-nil, length-append, take-append-le}
use Rattle.std.proofs.Math.Seq.{take-append_seam, take-append-add}
use Rattle.vector_clock.specs.declared.stamp.Stamp.{Stamp}
use Rattle.crdt_laws.specs.Tower.{IsStampOf, IsWithin}
use Rattle.lab_model.specs.declared.command.Verb.{Verb}
use Rattle.replica_cmd.proofs.Bounds.{valid_op, word_op}
use Rattle.std.specs.Prelude.{◌||◌, OnErr, Result, Ok, Err}
use Rattle.std.specs.List.{flat_map, list_any}
use Rattle.std.proofs.lemmas.List.Elements.{All-append, All-from_recursion}
use Rattle.lab_store.specs.Stream.{Appends, AppendsPart}
use Rattle.lab_model.specs.Honest.{AreFair, IsHonestLab, MakesValid}
use Rattle.lab_model.specs.Lab.{Lab, lab_run, lab_step, pair_members}
use Rattle.lab_model.proofs.Runs as model
use Rattle.replica_cmd.specs.Number.{number_op}
use Rattle.replica_cmd.specs.Run.{is_bad, run_refused, run_text, AreFairLines, ArePlayed, IsEnded, PutsTexts}
use Rattle.replica_cmd.specs.Steps.{outcome, Steps}
use Rattle.vector_clock.specs.Clock.{max_seq}
use Rattle.number_crdts.specs.Number.{number_meaning, NumberOp}

-- ---- what is put

pub nothing_put : (told : Option (List ℕ)) → Appends told told []
nothing_put None = tt
nothing_put (Some bytes) = ap Some (sym (append-nil bytes))

pub then_put : (start told after : Option (List ℕ)) (done text : List ℕ) → Appends start told done → Appends told after text → Appends start after (done ++ text)
then_put None told after done text h k = tt
then_put (Some bytes) told after done text h k =
    let k' : Appends (Some (bytes ++ done)) after text = subst (λ (o : Option (List ℕ)). Appends o after text) h k in
    k' ∙ ap Some (append_assoc bytes done text)

-- a part of a text is a part of all that begins with it
part_of : (bytes more : List ℕ) (n : ℕ) → (k : ℕ) × (take k (bytes ++ more) ≡ take n bytes)
part_of bytes more n =
    elim (cases_lt (length bytes) n) [
      | inl h ↦ (length bytes, take-append_seam bytes more ∙ sym (take_all n bytes (omega arith)))
      | inr h ↦ (n, take-append-le n bytes more (omega arith))
    ]

pub part_put : (start told after : Option (List ℕ)) (done text more : List ℕ) → Appends start told done → AppendsPart told after text → AppendsPart start after (done ++ (text ++ more))
part_put start told after done text more h k =
    let p = part_of text more k.0 in
    let whole : take (length done + p.0) (done ++ (text ++ more)) ≡ done ++ take k.0 text = take-append-add done (text ++ more) p.0 ∙ ap (λ l. done ++ l) p.1 in
    (length done + p.0, subst (Appends start after) (sym whole) (then_put start told after done (take k.0 text) h k.1))

pub none_put : (start told after : Option (List ℕ)) (done more : List ℕ) → Appends start told done → after ≡ told → AppendsPart start after (done ++ more)
none_put start told after done more h e =
    (length done, subst (Appends start after) (sym (take-append_seam done more)) (subst (λ (o : Option (List ℕ)). Appends start o done) (sym e) h))

-- ---- the texts

any_push : (p : List ℕ → Bool) (texts : List (List ℕ)) (text : List ℕ) → list_any p (texts ++ text ∷ []) ≡ (list_any p texts || p text)
any_push p [] text = or_false (p text)
  where
    or_false : (b : Bool) → (b || false) ≡ b
    or_false true = refl
    or_false false = refl
any_push p (t ∷ texts) text = ap (λ b. p t || b) (any_push p texts text) ∙ or_assoc (p t) (list_any p texts) (p text)
  where
    or_assoc : (a b c : Bool) → (a || (b || c)) ≡ ((a || b) || c)
    or_assoc true b c = refl
    or_assoc false b c = refl

pub no_texts : (told : Option (List ℕ)) → PutsTexts 0 told told false
no_texts told = record { puts = record { texts = []; put = nothing_put told; ended = λ k d l. absurd (omega arith); told = refl }; many = refl }

pub one_more : (count : ℕ) (start told after : Option (List ℕ)) (refused r : Bool) (text : List ℕ) → PutsTexts count start told refused → Appends told after text → IsEnded text → is_bad text ≡ r
    → PutsTexts (count + 1) start after (refused || r)
one_more count start told after refused r text old put ended refusal =
    let before = old.puts.texts in
    record {
      puts = record {
        texts = before ++ text ∷ [];
        put =
            subst (Appends start after) (sym (flat_map-append (λ (t : List ℕ). t) before (text ∷ []) ∙ ap (λ (l : List ℕ). flat_map (λ (t : List ℕ). t) before ++ l) (append-nil text)))
            (then_put start told after (flat_map (λ (t : List ℕ). t) before) text old.puts.put put);
        ended = All-append IsEnded before (text ∷ []) old.puts.ended (All-from_recursion IsEnded (text ∷ []) (ended, tt));
        told = ap₂ (λ a b. a || b) old.puts.told (sym refusal) ∙ sym (any_push is_bad before text);
      };
      many = length-append before (text ∷ []) ∙ ap (λ n. n + 1) old.many;
    }

-- ---- the runs

-- The lines so far led from nothing to this lab and put their texts. What is left leads on to the run of all.
pub record Follows (lines rest : List (List ℕ)) (k : ℕ) (lab : Lab NumberOp) (start told : Option (List ℕ)) (refused : Bool) : Type 0 where
  pub keeps : model.Keeps (number_meaning 0) k lab
  pub fair : AreFair (number_meaning 0) number_op lab rest
  pub done : List ℕ
  pub put : Appends start told done
  pub text : done ++ (lab_run (number_meaning 0) number_op lab rest).text ≡ run_text lines
  pub refusals : (refused || (lab_run (number_meaning 0) number_op lab rest).refused) ≡ run_refused lines
  pub last : (lab_run (number_meaning 0) number_op lab rest).lab ≡ (lab_run (number_meaning 0) number_op [] lines).lab

valid_ops : (v : Verb) (x : ℕ) → x < 2 ^ 64 → (p : Stamp) → IsStampOf pair_members p → IsWithin p → (number_meaning 0).valid p (number_op v x)
valid_ops v x h p s w = valid_op p (number_op v x) w (word_op v x h)

makes_valid : MakesValid (number_meaning 0) number_op
makes_valid = record { each = λ v x p h s w. valid_ops v x h p s w }

or_move : (a b c : Bool) → ((a || b) || c) ≡ (a || (b || c))
or_move true b c = refl
or_move false b c = refl

pub follows_start : (lines : List (List ℕ)) (told : Option (List ℕ)) → AreFairLines lines → Follows lines lines 0 [] told told false
follows_start lines told fair = record {
  keeps = model.run_from_empty (number_meaning 0) number_op makes_valid [] tt (omega arith);
  fair = fair;
  done = [];
  put = nothing_put told;
  text = refl;
  refusals = refl;
  last = refl;
}

pub follows_next : (lines : List (List ℕ)) (line : List ℕ) (rest : List (List ℕ)) (k : ℕ) (lab after : Lab NumberOp) (start told told' : Option (List ℕ)) (refused r : Bool) (text : List ℕ)
    → k + 1 ≤ max_seq → Follows lines (line ∷ rest) k lab start told refused → Steps lab after line text r → Appends told told' text → Follows lines rest (k + 1) after start told' (refused || r)
follows_next lines line rest k lab after start told told' refused r text room old steps put =
    let step = lab_step (number_meaning 0) number_op lab line in
    let e : outcome after text r ≡ step = steps.exact old.keeps.honest in
    let to_lab : after ≡ step.lab = ap (λ o. o.lab) e in
    let to_text : text ≡ step.text = ap (λ o. o.text) e in
    let to_refused : r ≡ step.refused = ap (λ o. o.refused) e in
    let goes = model.step_goes (number_meaning 0) number_op valid_ops k room lab old.keeps line old.fair.0 in
    let same : (lab_run (number_meaning 0) number_op after rest) ≡ (lab_run (number_meaning 0) number_op step.lab rest) = ap (λ l. lab_run (number_meaning 0) number_op l rest) to_lab in
    record {
      keeps = subst (model.Keeps (number_meaning 0) (k + 1)) (sym to_lab) goes;
      fair = subst (λ l. AreFair (number_meaning 0) number_op l rest) (sym to_lab) old.fair.1;
      done = old.done ++ text;
      put = then_put start told told' old.done text old.put put;
      text =
          append_assoc old.done text (lab_run (number_meaning 0) number_op after rest).text
          ∙ ap₂ (λ a b. old.done ++ (a ++ b)) to_text (ap (λ o. o.text) same) ∙ old.text;
      refusals = or_move refused r (lab_run (number_meaning 0) number_op after rest).refused ∙ ap₂ (λ a b. refused || (a || b)) to_refused (ap (λ o. o.refused) same) ∙ old.refusals;
      last = ap (λ o. o.lab) same ∙ old.last;
    }

-- all lines were run
pub follows_end : (lines : List (List ℕ)) (k : ℕ) (lab : Lab NumberOp) (start told : Option (List ℕ)) (refused : Bool) → Follows lines [] k lab start told refused → ArePlayed lines start told refused
follows_end lines k lab start told refused old = record {
  text = subst (Appends start told) (sym (append-nil old.done) ∙ old.text) old.put;
  refusals = or_false refused ∙ old.refusals;
  honest = subst (IsHonestLab (number_meaning 0)) old.last old.keeps.honest;
}
  where
    or_false : (b : Bool) → b ≡ (b || false)
    or_false true = refl
    or_false false = refl

-- the sink failed at a line, or it ran out of memory
pub follows_part : (lines : List (List ℕ)) (line : List ℕ) (rest : List (List ℕ)) (k : ℕ) (lab : Lab NumberOp) (start told after : Option (List ℕ)) (refused : Bool)
    → Follows lines (line ∷ rest) k lab start told refused → (IsHonestLab (number_meaning 0) lab → AppendsPart told after (lab_step (number_meaning 0) number_op lab line).text)
    → AppendsPart start after (run_text lines)
follows_part lines line rest k lab start told after refused old part =
    subst (AppendsPart start after) old.text
    (part_put start told after old.done (lab_step (number_meaning 0) number_op lab line).text (lab_run (number_meaning 0) number_op (lab_step (number_meaning 0) number_op lab line).lab rest).text old.put (part old.keeps.honest))

pub follows_none : (lines rest : List (List ℕ)) (k : ℕ) (lab : Lab NumberOp) (start told after : Option (List ℕ)) (refused : Bool)
    → Follows lines rest k lab start told refused → after ≡ told → AppendsPart start after (run_text lines)
follows_none lines rest k lab start told after refused old e =
    subst (AppendsPart start after) old.text (none_put start told after old.done (lab_run (number_meaning 0) number_op lab rest).text old.put e)

-- the line at an index, and the lines after it
cut_line : (xs : List (Bor (List ℕ))) (i : ℕ) (d : Bor (List ℕ)) → i < length xs
    → drop i (map (λ b. b.now) xs) ≡ (get_or xs i d).now ∷ drop (suc i) (map (λ b. b.now) xs)
cut_line [] i d l = absurd (omega arith)
cut_line (a ∷ xs) zero d l = refl
cut_line (a ∷ xs) (suc i) d l = cut_line xs i d (let w : suc i < suc (length xs) = l in omega arith)

pub next_line : (xs : List (Bor (List ℕ))) (i : ℕ) (d : Bor (List ℕ)) → i < length xs
    → drop i (map (λ b. b.now) xs) ≡ (get_or xs i d).now ∷ drop (i + 1) (map (λ b. b.now) xs)
next_line xs i d l = rw add-one (cut_line xs i d l)

pub on_err : {T E : Type 0} (r : Result T E) (P : Type 0) → P → OnErr r P
on_err (Ok x) P p = tt
on_err (Err e) P p = p
