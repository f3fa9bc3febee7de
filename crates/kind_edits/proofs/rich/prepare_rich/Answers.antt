use Rattle.std.proofs.Common.{◌≡◌, Ok, IfOk, length, rules}
use Rattle.forgetting_model.specs.Made.{AreValidWithin}
use Rattle.rich_text.specs.Over.{rich_meaning}
use Rattle.kind_edits.specs.RichEdit.{rich_edit}
use Rattle.kind_edits.proofs.Prepared.{answers_if, rich_order, rich_valid}
use Rattle.kind_edits.proofs.rich.prepare_rich.Goals as goal

pub insert_text-requires-clause-order : goal.insert_text-requires-clause-order
insert_text-requires-clause-order c =
    rich_order (length c.args.names.now) c.args.first.now.clock.n c.args.state.now c.in_ok-index-in-insert.index c.requires.state.text

pub returns-in_ok-index-in-insert-clause-valid : goal.returns-in_ok-index-in-insert-clause-valid
returns-in_ok-index-in-insert-clause-valid c =
    let p = c.args.first.now in
    let names = c.args.names.now in
    let s = c.args.state.now in
    let verb = c.args.verb.now in
    let rest = c.args.rest.now in
    let is : IfOk c.insert_text.result (λ ops. rich_edit p names s verb rest ≡ Ok ops) = search rules in
    answers_if (rich_edit p names s verb rest) c.insert_text.result (AreValidWithin (rich_meaning (length names)) p)
    (rich_valid p names s c.requires.stamp c.requires.state verb rest c.utf8.rest) is

pub returns-in_ok-index-in-delete-clause-valid : goal.returns-in_ok-index-in-delete-clause-valid
returns-in_ok-index-in-delete-clause-valid c =
    let p = c.args.first.now in
    let names = c.args.names.now in
    let s = c.args.state.now in
    let verb = c.args.verb.now in
    let rest = c.args.rest.now in
    let is : IfOk c.delete_at.result (λ ops. rich_edit p names s verb rest ≡ Ok ops) = search rules in
    answers_if (rich_edit p names s verb rest) c.delete_at.result (AreValidWithin (rich_meaning (length names)) p)
    (rich_valid p names s c.requires.stamp c.requires.state verb rest c.utf8.rest) is

pub returns-in_ok-words-in-mark-clause-valid : goal.returns-in_ok-words-in-mark-clause-valid
returns-in_ok-words-in-mark-clause-valid c =
    let p = c.args.first.now in
    let names = c.args.names.now in
    let s = c.args.state.now in
    let verb = c.args.verb.now in
    let rest = c.args.rest.now in
    let is : IfOk c.mark_between.result (λ ops. rich_edit p names s verb rest ≡ Ok ops) = search rules in
    answers_if (rich_edit p names s verb rest) c.mark_between.result (AreValidWithin (rich_meaning (length names)) p)
    (rich_valid p names s c.requires.stamp c.requires.state verb rest c.utf8.rest) is

pub returns-in_ok-words-in-unmark-clause-valid : goal.returns-in_ok-words-in-unmark-clause-valid
returns-in_ok-words-in-unmark-clause-valid c =
    let p = c.args.first.now in
    let names = c.args.names.now in
    let s = c.args.state.now in
    let verb = c.args.verb.now in
    let rest = c.args.rest.now in
    let is : IfOk c.mark_between-in-unmark.result (λ ops. rich_edit p names s verb rest ≡ Ok ops) = search rules in
    answers_if (rich_edit p names s verb rest) c.mark_between-in-unmark.result (AreValidWithin (rich_meaning (length names)) p)
    (rich_valid p names s c.requires.stamp c.requires.state verb rest c.utf8.rest) is
