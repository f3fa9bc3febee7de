use Rattle.compositions.proofs.lawful.sides_is_lawful.Goals as goal

pub returns : goal.returns
returns c =
    let is = c.sides.ensures in
    rw (is.left_low, is.left_high, is.right_low, is.right_high) at c.is_lawful.ensures
