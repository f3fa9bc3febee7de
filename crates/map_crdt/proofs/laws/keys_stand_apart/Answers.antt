use Rattle.map_crdt.specs.Keyed.{state_at}
use Rattle.map_crdt.specs.KeyedLaws.{at-put, at-put_other}
use Rattle.map_crdt.proofs.Presence.{has-put, has-put_other}
use Rattle.map_crdt.proofs.laws.keys_stand_apart.Goals as goal

pub returns-clause-here : goal.returns-clause-here
returns-clause-here g c es p x =
    let m = g.T.Tower.meaning c.args.map.now.part in at-put m es x.key (m.apply (state_at m es x.key) p x.op)

pub returns-clause-present : goal.returns-clause-present
returns-clause-present g c es p x =
    let m = g.T.Tower.meaning c.args.map.now.part in has-put es x.key (m.apply (state_at m es x.key) p x.op)

pub returns-clause-others : goal.returns-clause-others
returns-clause-others g c es p x k differ =
    let m = g.T.Tower.meaning c.args.map.now.part in at-put_other m es x.key k (m.apply (state_at m es x.key) p x.op) differ

pub returns-clause-others_present : goal.returns-clause-others_present
returns-clause-others_present g c es p x k differ =
    let m = g.T.Tower.meaning c.args.map.now.part in has-put_other es x.key k (m.apply (state_at m es x.key) p x.op) differ
