use Rattle.std.proofs.Common.{sym, subst}
use Rattle.std.proofs.lemmas.List.Elements.{All-from_recursion}
use Rattle.vector_clock.specs.Stamp.{IsStamp}
use Rattle.crdt_laws.specs.Tower.{IsStampOf}
use Rattle.wire_core.specs.Calls.{input_of}
use Rattle.wire_core.specs.Reading.{Rules}
use Rattle.wire_core.specs.Taken.{taken_allowed, taken_rules}
use Rattle.tower_codec.specs.Observed.{log_is_stamped, logged_stamp, logged_stamp_exact, new_stamp_is}
use Rattle.tower_codec.proofs.observed.take_entry.Goals as goal

pub take_new_stamp-requires-clause-stamps : goal.take_new_stamp-requires-clause-stamps
take_new_stamp-requires-clause-stamps g c =
    let tower = c.args.tower.now in
    let coder = c.args.coder.now in
    All-from_recursion (λ e. IsStamp e.stamp) c.args.before.now (log_is_stamped (g.T.Tower.meaning tower) (g.C.Coder.op_grammar coder tower) (g.C.Coder.may_stand coder tower) (g.met.C.Coder.op_tells coder tower)
    (input_of c.args.from.now).rules c.args.d.now c.requires.clock c.requires.members c.args.before.now c.requires.before)

pub take_valid_op-requires-clause-stamp : goal.take_valid_op-requires-clause-stamp
take_valid_op-requires-clause-stamp g c =
    let from = c.args.from.now in
    let d = c.args.d.now in
    let before = c.args.before.now in
    let p = c.in_ok-stamp.stamp in
    let after = input_of c.take_new_stamp.new.from in
    let took = c.in_ok-stamp.ensures.stamp.0 in
    let allowed = taken_allowed (logged_stamp d before) (logged_stamp_exact d before) from p after c.requires.inside took in
    let rules = taken_rules (logged_stamp d before) (logged_stamp_exact d before) from p after c.requires.inside took in
    subst (λ (r : Rules). IsStampOf r.members p) (sym rules) (new_stamp_is (input_of from).rules d before p c.requires.inside.some c.requires.inside.most allowed).0

pub take_valid_op-requires-clause-within : goal.take_valid_op-requires-clause-within
take_valid_op-requires-clause-within g c =
    let from = c.args.from.now in
    let d = c.args.d.now in
    let before = c.args.before.now in
    let p = c.in_ok-stamp.stamp in
    let allowed = taken_allowed (logged_stamp d before) (logged_stamp_exact d before) from p (input_of c.take_new_stamp.new.from) c.requires.inside c.in_ok-stamp.ensures.stamp.0 in
    (new_stamp_is (input_of from).rules d before p c.requires.inside.some c.requires.inside.most allowed).1
