use Rattle.compositions.proofs.lawful.number_is_lawful.Goals as goal

pub returns : goal.returns
returns c = rw (c.number_mod.ensures.low, c.number_mod.ensures.high) at c.is_lawful.ensures
