use Rattle.std.proofs.Common.{ℕ, List, [], sym, arith}
use Rattle.flag_crdts.proofs.Rows.{flat_map_at}
use Rattle.flag_crdts.proofs.flag.entry_of.Goals as goal

pub returns : goal.returns
returns g c =
    let at = flat_map_at (λ (row : List ℕ). row) g.row.W [] c.args.rows.now c.args.row c.args.place (λ k lt. c.requires.lengths k [] lt) (omega (arith, c.told-rows, c.requires.row)) c.requires.place in
    rw (c.from.ensures, c.from-2.ensures) (sym at)
