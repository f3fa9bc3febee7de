use Rattle.std.proofs.Common.{ℕ, List, length, take, sym, ap, ◌∙◌}
use Rattle.wire_core.specs.declared.form.ClockForm.TheVariants.{Sparse}
use Rattle.wire_core.specs.Calls.{rules_of}
use Rattle.wire_core.specs.Clocks.{entries_of}
use Rattle.wire_core.specs.ClocksExact.{entries_many}
use Rattle.wire_core.proofs.clock.put_sparse.Goals as goal

pub slice_bounds-put_ops-end : goal.slice_bounds-put_ops-end
slice_bounds-put_ops-end c =
    let n = c.args.out.now.n in
    sym (ap (λ (t : List ℕ). length (take n t)) c.as_slice-entries.ensures ∙ entries_many Sparse n (rules_of c.args.out.now) (entries_of n c.args.clock.now) c.requires.0)
