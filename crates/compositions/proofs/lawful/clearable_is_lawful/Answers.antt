use Rattle.compositions.proofs.lawful.clearable_is_lawful.Goals as goal

pub returns : goal.returns
returns c = rw (c.clearable.ensures.low, c.clearable.ensures.high) at c.is_lawful.ensures
