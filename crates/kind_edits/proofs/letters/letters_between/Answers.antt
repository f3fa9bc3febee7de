use Rattle.std.proofs.Common.{◌≡◌, ◌≢◌, ◌↔◌, ℕ, ◌+◌, ◌<◌, List, [], ◌∷◌, ◌++◌, Option, Result, Err, IfErr, length, ap, refl, subst, sym, ◌∙◌, arith, rules}
use Rattle.std.specs.Option.{option_copied}
use Rattle.std.specs.Str.{chars}
use Rattle.std.proofs.lemmas.List.{length_push}
use Rattle.std.proofs.lemmas.Iterator.{YieldsList-from_chars}
use Rattle.std.proofs.lemmas.Iterator.Consumers.{YieldsList-end, YieldsList-turn}
use Rattle.list_crdt.specs.declared.position.Step.{Step}
use Rattle.list_crdt.specs.declared.text.Cell.{Cell}
use Rattle.list_crdt.specs.declared.gap.ListError.{ListError}
use Rattle.list_crdt.specs.declared.gap.ListError.TheVariants as list
use Rattle.list_crdt.specs.Between.{AreInOrder, IsBetween, position_between}
use Rattle.list_crdt.specs.Position.{IsPosition, max_steps}
use Rattle.kind_edits.specs.declared.fault.EditError.{EditError}
use Rattle.kind_edits.specs.declared.fault.EditError.TheVariants.{NoMemory, PositionFull}
use Rattle.kind_edits.specs.FaultText.{list_fault}
use Rattle.kind_edits.specs.Letters.{last_place, letters_between}
use Rattle.kind_edits.proofs.Typing.{IsTyped, length-chars, letter, typed_all, typed_full, typed_more, typed_none}
use Rattle.kind_edits.proofs.letters.letters_between.Goals as goal

pub loop-ch-init : goal.loop-ch-init
loop-ch-init c =
    subst (λ (cells : List Cell). IsTyped c.args.first.member (option_copied c.args.high) c.args.first.seq (option_copied c.args.low) (chars c.args.text.now) cells c.args.first.seq 0)
    (sym c.new-letters.ensures) (typed_none c.args.first.member (option_copied c.args.high) c.args.first.seq (option_copied c.args.low) (chars c.args.text.now) c.requires.order)

pub between-requires : goal.between-requires
between-requires c =
    let same : c.as_slice.result.now ≡ c.loop-ch.letters = c.as_slice.ensures.value ∙ c.letters.view_is in
    let below : option_copied c.last_place-below.result ≡ last_place (option_copied c.args.low) c.loop-ch.letters = c.last_place-below.ensures ∙ ap (last_place (option_copied c.args.low)) same in
    subst (λ (o : Option (List Step)). AreInOrder o (option_copied c.args.high)) (sym below) c.loop-ch.invariant.order

-- a position that is refused refuses the letters
refused : {X : Type 0} (r : Result X ListError) (t : Result (List Cell) EditError) (all : Result (List Cell) EditError) (e : ListError) (x : List Step) → r ≡ Err e → t ≡ Err (list_fault e)
    → ((k : ℕ) → (r ≡ Err (list.PositionFull k)) ↔ ((max_steps < length x) × (k ≡ length x))) → (max_steps < length x → all ≡ Err (PositionFull (length x)))
    → IfErr t (λ fault. fault ≢ NoMemory → all ≡ Err fault)
refused r t all (list.PositionFull k) x was gone full ends =
    let is = (full k).0 was in
    subst (λ (t : Result (List Cell) EditError). IfErr t (λ fault. fault ≢ NoMemory → all ≡ Err fault)) (sym gone) (λ _. ends is.0 ∙ ap (λ (n : ℕ). Err (PositionFull n)) (sym is.1))
refused r t all list.NoMemory x was gone full ends =
    subst (λ (t : Result (List Cell) EditError). IfErr t (λ fault. fault ≢ NoMemory → all ≡ Err fault)) (sym gone) (λ other. absurd (other refl))

pub returns-in_err-at-clause-refused : goal.returns-in_err-at-clause-refused
returns-in_err-at-clause-refused c =
    let first = c.args.first in
    let high = option_copied c.args.high in
    let low = option_copied c.args.low in
    let chs = chars c.args.text.now in
    let same : c.as_slice.result.now ≡ c.loop-ch.letters = c.as_slice.ensures.value ∙ c.letters.view_is in
    let below : option_copied c.last_place-below.result ≡ last_place low c.loop-ch.letters = c.last_place-below.ensures ∙ ap (last_place low) same in
    let t = YieldsList-turn (YieldsList-from_chars c.args.text.now c.utf8.text cc) c.loop-ch.yielded _ c.loop-ch.yielded_by _ _ c.in-Some.ch c.in-Some.is c.next.ensures.steps in
    let gone : c.from_residual.result ≡ Err (list_fault c.in_err-at.field-0.0) = search rules in
    let next : position_between first.member c.loop-ch.seq (option_copied c.last_place-below.result) high ≡ position_between first.member c.loop-ch.seq (last_place low c.loop-ch.letters) high =
    ap (λ o. position_between first.member c.loop-ch.seq o high) below in
    refused c.between.result c.from_residual.result (letters_between first.member high first.seq low chs) c.in_err-at.field-0.0
    (position_between first.member c.loop-ch.seq (last_place low c.loop-ch.letters) high) c.in_err-at.was gone
    (λ k. subst (λ (x : List Step). (c.between.result ≡ Err (list.PositionFull k)) ↔ ((max_steps < length x) × (k ≡ length x))) next (c.between.ensures.full k))
    (typed_full first.member high first.seq low chs c.loop-ch.letters c.loop-ch.seq (length c.loop-ch.yielded) c.in-Some.ch c.loop-ch.invariant t.0 t.1)

pub overflow_add-seq : goal.overflow_add-seq
overflow_add-seq c =
    let t = YieldsList-turn (YieldsList-from_chars c.args.text.now c.utf8.text cc) c.loop-ch.yielded _ c.loop-ch.yielded_by _ _ c.in-Some.ch c.in-Some.is c.next.ensures.steps in
    omega (arith, t.0, c.loop-ch.invariant.counted, c.requires.seq, c.requires.text, length-chars c.args.text.now c.utf8.text)

pub loop-ch-preserved : goal.loop-ch-preserved
loop-ch-preserved c =
    let first = c.args.first in
    let high = option_copied c.args.high in
    let low = option_copied c.args.low in
    let chs = chars c.args.text.now in
    let a = c.in_ok-at.at in
    let same : c.as_slice.result.now ≡ c.loop-ch.letters = c.as_slice.ensures.value ∙ c.letters.view_is in
    let below : option_copied c.last_place-below.result ≡ last_place low c.loop-ch.letters = c.last_place-below.ensures ∙ ap (last_place low) same in
    let t = YieldsList-turn (YieldsList-from_chars c.args.text.now c.utf8.text cc) c.loop-ch.yielded _ c.loop-ch.yielded_by _ _ c.in-Some.ch c.in-Some.is c.next.ensures.steps in
    let next : a ≡ position_between first.member c.loop-ch.seq (last_place low c.loop-ch.letters) high =
    c.in_ok-at.ensures.next ∙ ap (λ o. position_between first.member c.loop-ch.seq o high) below in
    let position : IsPosition a = c.in_ok-at.ensures.position in
    let between : IsBetween (last_place low c.loop-ch.letters) high a = subst (λ (o : Option (List Step)). IsBetween o high a) below c.in_ok-at.ensures.between in
    let pushed : c.push.new.self ≡ c.loop-ch.letters ++ letter a c.in-Some.ch ∷ [] = c.in_ok-push.ensures.ok in
    let size : length (c.loop-ch.yielded ++ c.in-Some.ch ∷ []) ≡ length c.loop-ch.yielded + 1 = length_push c.loop-ch.yielded c.in-Some.ch in
    let more : IsTyped first.member high first.seq low chs (c.loop-ch.letters ++ letter a c.in-Some.ch ∷ []) (c.loop-ch.seq + 1) (length c.loop-ch.yielded + 1) =
    typed_more first.member high first.seq low chs c.loop-ch.letters c.loop-ch.seq (length c.loop-ch.yielded) c.in-Some.ch c.loop-ch.invariant t.0 t.1 a next position.most position between in
    subst (λ (cells : List Cell). IsTyped first.member high first.seq low chs cells (c.loop-ch.seq + 1) (length (c.loop-ch.yielded ++ c.in-Some.ch ∷ []))) (sym pushed)
    (subst (λ (k : ℕ). IsTyped first.member high first.seq low chs (c.loop-ch.letters ++ letter a c.in-Some.ch ∷ []) (c.loop-ch.seq + 1) k) (sym size) more)

pub returns-clause-ok : goal.returns-clause-ok
returns-clause-ok c =
    let t = YieldsList-end (YieldsList-from_chars c.args.text.now c.utf8.text cc) c.loop-ch.yielded _ c.loop-ch.yielded_by _ _ c.in-None.is c.next.ensures.steps in
    typed_all c.args.first.member (option_copied c.args.high) c.args.first.seq (option_copied c.args.low) (chars c.args.text.now) c.loop-ch.letters c.loop-ch.seq (length c.loop-ch.yielded) c.loop-ch.invariant (omega (arith, t.1))
