use Rattle.std.proofs.Common.{◌≡◌, ℕ, ◌<◌, ◌≤◌, ◌↔◌, List, Result, Ok, Err, Some, length, sym, ◌∙◌, subst, rules}
use Rattle.list_crdt.specs.declared.gap.ListError.{ListError}
use Rattle.list_crdt.specs.declared.gap.ListError.TheVariants.{NoMemory, PositionFull}
use Rattle.list_crdt.specs.declared.position.Step.{Step}
use Rattle.list_crdt.specs.Between.{AreInOrder}
use Rattle.list_crdt.specs.Cells.{place, place_before}
use Rattle.list_crdt.specs.Position.{max_steps}
use Rattle.rich_text.specs.declared.marked.RichCell.{RichCell}
use Rattle.rich_text.specs.declared.marked.RichOp.TheVariants.{Insert}
use Rattle.rich_text.specs.ByIndex.{position_at}
use Rattle.rich_text.specs.Marked.{at}
use Rattle.rich_text.proofs.ByIndex.{neighbours}
use Rattle.rich_text.proofs.marked.MarkedText.insert_at.Goals as goal

pub next_at-requires-clause-order : goal.next_at-requires-clause-order
next_at-requires-clause-order c =
    let i = c.args.index in
    let same : c.as_slice-cells.result.now ≡ c.args.state.now = c.as_slice-cells.ensures.value ∙ c.state.view_is in
    subst (λ (s : List RichCell). AreInOrder (place_before at s i) (place at s i)) (sym same) (neighbours c.args.self.now.marks c.args.stamp.now.clock.n c.args.state.now c.requires.text i)

-- the answer is full just where the position is

abbrev IsFull : {X : Type 0} → Result X ListError → List Step → ℕ → Type 0
IsFull r x k = (r ≡ Err (PositionFull k)) ↔ ((max_steps < length x) × (k ≡ length x))

module _ {X Y : Type 0} (r : Result X ListError) (t : Result Y ListError) (x : List Step) (full : (k : ℕ) → IsFull r x k) (i n : ℕ) (within : i ≤ n) where
  refused : (e : ListError) → r ≡ Err e → t ≡ Err e → (k : ℕ) → (t ≡ Err (PositionFull k)) ↔ ((i ≤ n) × ((max_steps < length x) × (k ≡ length x)))
  refused e was now k = (
    λ h. (within, (full k).0 cc),
    λ h. (let f : r ≡ Err (PositionFull k) = (full k).1 h.1 in cc),
  )

  given : (y : X) → r ≡ Ok y → ((k : ℕ) → t ≡ Err (PositionFull k) → ⊥) → (k : ℕ) → (t ≡ Err (PositionFull k)) ↔ ((i ≤ n) × ((max_steps < length x) × (k ≡ length x)))
  given y was other k = (
    λ h. absurd (other k h),
    λ h. (let f : r ≡ Err (PositionFull k) = (full k).1 h.1 in absurd cc),
  )

pub returns-in_err-at-clause-full : goal.returns-in_err-at-clause-full
returns-in_err-at-clause-full c =
    let i = c.args.index in
    let same : c.as_slice-cells.result.now ≡ c.args.state.now = c.as_slice-cells.ensures.value ∙ c.state.view_is in
    let within : i ≤ length c.args.state.now = subst (λ (s : List RichCell). i ≤ length s) same (search rules) in
    let gone : c.from_residual.result ≡ Err c.in_err-at.field-0.0 = search rules in
    refused c.next_at.result c.from_residual.result (position_at c.args.stamp.now c.args.state.now i)
    (λ k. subst (λ (s : List RichCell). IsFull c.next_at.result (position_at c.args.stamp.now s i) k) same (c.next_at.ensures.full k)) i (length c.args.state.now) within
    c.in_err-at.field-0.0 c.in_err-at.was gone

pub returns-in_err-marks-clause-full : goal.returns-in_err-marks-clause-full
returns-in_err-marks-clause-full c =
    let i = c.args.index in
    let same : c.as_slice-cells.result.now ≡ c.args.state.now = c.as_slice-cells.ensures.value ∙ c.state.view_is in
    let within : i ≤ length c.args.state.now = subst (λ (s : List RichCell). i ≤ length s) same (search rules) in
    let gone : c.from_residual-in_err-marks.result ≡ Err NoMemory = search rules in
    given c.next_at.result c.from_residual-in_err-marks.result (position_at c.args.stamp.now c.args.state.now i)
    (λ k. subst (λ (s : List RichCell). IsFull c.next_at.result (position_at c.args.stamp.now s i) k) same (c.next_at.ensures.full k)) i (length c.args.state.now) within
    c.in_ok-at.at c.in_ok-at.was (λ k e. cc)

pub returns-clause-full : goal.returns-clause-full
returns-clause-full c =
    let i = c.args.index in
    let same : c.as_slice-cells.result.now ≡ c.args.state.now = c.as_slice-cells.ensures.value ∙ c.state.view_is in
    let within : i ≤ length c.args.state.now = subst (λ (s : List RichCell). i ≤ length s) same (search rules) in
    given c.next_at.result (Ok (Some (Insert c.in_ok-at.at c.args.ch c.in_ok-marks.marks))) (position_at c.args.stamp.now c.args.state.now i)
    (λ k. subst (λ (s : List RichCell). IsFull c.next_at.result (position_at c.args.stamp.now s i) k) same (c.next_at.ensures.full k)) i (length c.args.state.now) within
    c.in_ok-at.at c.in_ok-at.was (λ k e. cc)
