use Rattle.std.proofs.Common.{List, subst, sym, rules}
use Rattle.vector_clock.specs.Stamp.{id_of}
use Rattle.crdt_laws.specs.Tower.{IsIssued, Lacks}
use Rattle.list_crdt.specs.declared.text.Cell.{Cell}
use Rattle.list_crdt.specs.Text.{IsText, text_meaning}
use Rattle.list_crdt.specs.TextLaws.{text_lawful}
use Rattle.list_crdt.proofs.tests.edit.Goals as goal

pub returns : goal.returns
returns c =
    let n = c.args.stamp.now.clock.n in
    let op = c.args.op.now in
    let issued : IsIssued text_meaning n c.args.stamp.now op = search rules in
    let lacks : Lacks text_meaning c.args.state (id_of c.args.stamp.now) = search rules in
    subst (λ (s : List Cell). IsText n s) (sym c.in_ok-apply.ensures.ok) (text_lawful.good-apply n c.args.state c.args.stamp.now op c.requires.text issued lacks)
