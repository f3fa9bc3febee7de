use Rattle.std.proofs.Common.{◌≡◌}
use Rattle.crdt_laws.specs.Entry.{entry}
use Rattle.crdt_laws.specs.Present.{acted}
use Rattle.crdt_laws.proofs.Changed.{changed}
use Rattle.crdt_laws.proofs.present.act_on_lower.Given as goal

abbrev pub invariant-loop-e : goal.invariant-loop-e
invariant-loop-e g l = l.entries ≡ changed (acted (g.T.Tower.meaning l.tower) (entry l.stamp l.form)) l.e-index l.initial.entries
