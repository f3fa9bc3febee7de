use Rattle.std.proofs.Common.{◌≡◌, ◌↔◌, [], List, Contains, sym, ◌∙◌, subst, ap}
use Rattle.std.proofs.lemmas.Result.{IfOk-weaker}
use Rattle.crdt_laws.specs.Present.{document_from}
use Rattle.list_crdt.specs.Cells.{IsRising}
use Rattle.weave_core.specs.Deliver.{IsRun}
use Rattle.rich_text.specs.declared.marked.RichCell.{RichCell}
use Rattle.rich_text.specs.Marked.{IsRichText, at}
use Rattle.rich_text.specs.Over.{stack_of}
use Rattle.rich_text.specs.Shown.{IsShown}
use Rattle.rich_text.proofs.Shows.{rising_shown}
use Rattle.rich_text.proofs.document.fold_document.Goals as goal

pub fold_plain-requires : goal.fold_plain-requires
fold_plain-requires c =
    let t = c.args.tower.now in
    subst (λ (s : List RichCell). IsRun (stack_of t.low.marks t.high.marks) s c.args.ops.now) (sym c.in_ok-start.ensures.ok) c.requires

pub returns-clause-shown : goal.returns-clause-shown
returns-clause-shown c =
    let t = c.args.tower.now in
    let m = stack_of t.low.marks t.high.marks in
    let xs = c.args.ops.now in
    let run = c.requires in
    let start : c.in_ok-start.start ≡ [] = c.in_ok-start.ensures.ok in
    λ honest. IfOk-weaker c.fold_plain.result _ (λ (s : List RichCell). (d : RichCell) → Contains s d ↔ IsShown xs d)
    (λ s e. subst (λ (l : List RichCell). (d : RichCell) → Contains l d ↔ IsShown xs d) (sym (e ∙ ap (λ (l : List RichCell). document_from m l xs) start))
    (rising_shown t.low.marks t.high.marks run.members t.fitting xs run.issued run.apart honest run.rising))
    c.fold_plain.ensures.document

pub returns-clause-rising : goal.returns-clause-rising
returns-clause-rising c =
    let t = c.args.tower.now in
    let run = c.requires in
    let start : c.in_ok-start.start ≡ [] = c.in_ok-start.ensures.ok in
    IfOk-weaker c.fold_plain.result (λ (s : List RichCell). IsRichText t.low.marks run.members s) (λ (s : List RichCell). IsRising at s) (λ s h. h.rising)
    (c.fold_plain.ensures.good run.members (subst (λ (s : List RichCell). IsRichText t.low.marks run.members s) (sym start) run.good) run.issued)
