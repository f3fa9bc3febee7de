use Rattle.std.proofs.Common.{◌≡◌, Ok, IfOk, rules}
use Rattle.forgetting_model.specs.Made.{AreValidWithin}
use Rattle.list_crdt.specs.Text.{text_meaning}
use Rattle.kind_edits.specs.PlainEdit.{text_edit}
use Rattle.kind_edits.proofs.Prepared.{answers_if, text_order, text_valid}
use Rattle.kind_edits.proofs.plain.prepare_text.Goals as goal

pub insert_text-requires-clause-order : goal.insert_text-requires-clause-order
insert_text-requires-clause-order c = text_order c.args.first.now.clock.n c.args.state.now c.in_ok-index-in-insert.index c.requires.state.text

pub returns-in_ok-index-in-insert-clause-valid : goal.returns-in_ok-index-in-insert-clause-valid
returns-in_ok-index-in-insert-clause-valid c =
    let p = c.args.first.now in
    let s = c.args.state.now in
    let verb = c.args.verb.now in
    let rest = c.args.rest.now in
    let is : IfOk c.insert_text.result (λ ops. text_edit p s verb rest ≡ Ok ops) = search rules in
    answers_if (text_edit p s verb rest) c.insert_text.result (AreValidWithin text_meaning p) (text_valid p s c.requires.stamp c.requires.state verb rest c.utf8.rest) is

pub returns-in_ok-index-in-delete-clause-valid : goal.returns-in_ok-index-in-delete-clause-valid
returns-in_ok-index-in-delete-clause-valid c =
    let p = c.args.first.now in
    let s = c.args.state.now in
    let verb = c.args.verb.now in
    let rest = c.args.rest.now in
    let is : IfOk c.delete_at.result (λ ops. text_edit p s verb rest ≡ Ok ops) = search rules in
    answers_if (text_edit p s verb rest) c.delete_at.result (AreValidWithin text_meaning p) (text_valid p s c.requires.stamp c.requires.state verb rest c.utf8.rest) is
