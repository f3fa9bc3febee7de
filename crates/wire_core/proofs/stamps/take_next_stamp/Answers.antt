use Rattle.std.proofs.Common.{◌≡◌, sym, ◌∙◌}
use Rattle.vector_clock.specs.declared.stamp.Stamp.{Stamp}
use Rattle.crdt_laws.specs.Tower.{IsStampOf}
use Rattle.wire_core.specs.declared.byte_in.ByteIn.{ByteIn}
use Rattle.wire_core.specs.Reading.{Input, Got}
use Rattle.wire_core.specs.Calls.{IsInside, input_of}
use Rattle.wire_core.specs.Small.{stamp_grammar}
use Rattle.wire_core.specs.SmallExact.{stamp_exact}
use Rattle.wire_core.specs.Taken.{stamp_allowed, taken_allowed}
use Rattle.wire_core.proofs.stamps.take_next_stamp.Goals as goal

taken_stamp : (b : ByteIn) (p : Stamp) (j : Input) → IsInside b → stamp_grammar.read (input_of b) ≡ Got p j → IsStampOf b.n p
taken_stamp b p j inside e = stamp_allowed (input_of b).rules p inside.some inside.most (taken_allowed stamp_grammar stamp_exact b p j inside e)

pub comes_next-requires-clause-stamp : goal.comes_next-requires-clause-stamp
comes_next-requires-clause-stamp g c = (taken_stamp c.args.from.now c.in_ok-stamp.stamp (input_of c.take.new.from) c.requires.inside c.in_ok-stamp.ensures.0).stamp

pub knows-requires-clause-stamp : goal.knows-requires-clause-stamp
knows-requires-clause-stamp g c = (taken_stamp c.args.from.now c.in_ok-stamp.stamp (input_of c.take.new.from) c.requires.inside c.in_ok-stamp.ensures.0).stamp

pub knows-requires-clause-members : goal.knows-requires-clause-members
knows-requires-clause-members g c = (taken_stamp c.args.from.now c.in_ok-stamp.stamp (input_of c.take.new.from) c.requires.inside c.in_ok-stamp.ensures.0).members ∙ sym c.requires.members
