use Rattle.std.proofs.Common.{◌∙◌, ap, length, subst, sym}
use Rattle.std.specs.List.{All}
use Rattle.vector_clock.specs.Clock.{join}
use Rattle.std.proofs.Math.ListN.{set}
use Rattle.replica_core.specs.Kept.{IsKnown}
use Rattle.replica_core.proofs.Joins.{known-join}
use Rattle.replica_core.proofs.Steps.{with_row_known}
use Rattle.replica_core.proofs.rows.heard_header.Goals as goal

pub returns-then-count-clause-known : goal.returns-then-count-clause-known
returns-then-count-clause-known c =
    let n = length c.args.rows in
    let rows = c.args.rows in
    let j = c.args.sender in
    subst (All (IsKnown n)) (sym (c.with_row.ensures ∙ ap (set rows j) (c.join-joined.ensures.made ∙ ap (λ k. join k c.args.header.now) c.row.ensures)))
    (with_row_known (IsKnown n) (known-join n) rows j c.args.header.now c.requires.rows c.requires.header c.requires.sender)
