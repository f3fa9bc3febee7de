use Rattle.list_crdt.proofs.tests.shown.Goals as goal

pub show-requires : goal.show-requires
show-requires c = record { members = 2; good = c.requires }
