use Rattle.std.proofs.Common.{◌≡◌, ◌+◌, Some, sym, ◌∙◌, ap, arith, subst}
use Rattle.replica_model.specs.Family as family
use Rattle.lab_model.specs.Lab.{thing_at}
use Rattle.replica_core.specs.Kept.{IsKeptBatch}
use Rattle.replica_cmd.specs.Things.{contents, thing_of}
use Rattle.replica_cmd.proofs.KeptLab.{kept_at, keeps_put, up_to_at, thing_up_to_more}
use Rattle.std.specs.Prelude.{codes, string_bytes}
use Rattle.std.specs.Fmt.{decimal}
use Rattle.std.proofs.Common.{◌++◌, refl, rules}
use Rattle.lab_model.specs.Text.{wrote_text}
use Rattle.replica_cmd.proofs.Stepping.{accepted_from}
use Rattle.replica_cmd.proofs.lab.Lab.export.Goals as goal
use Rattle.number_crdts.specs.Number.{number_meaning}

pub export-requires-clause-kept : goal.export-requires-clause-kept
export-requires-clause-kept c =
    rw (c.number.ensures.low, c.number.ensures.high)
    ((kept_at (contents c.args.self.now) c.args.file (family.replica c.in-Some-Replica-find.replica) c.requires.kept (sym c.in-Some-Replica-find.ensures ∙ ap (λ t. Some (thing_of t)) c.in-Some-Replica-find.field-0-is)).0)

pub returns-clause-keeps : goal.returns-clause-keeps
returns-clause-keeps c =
    let lab = contents c.args.self.now in
    let r = c.in-Some-Replica-find.replica in
    let b = c.in_ok-batch-in-Some-Replica-find.batch in
    let found : thing_at lab c.args.file ≡ Some (family.replica r) = sym c.in-Some-Replica-find.ensures ∙ ap (λ t. Some (thing_of t)) c.in-Some-Replica-find.field-0-is in
    let kept = kept_at lab c.args.file (family.replica r) c.requires.kept found in
    keeps_put lab (contents c.put.new.self) c.args.name (family.batch b) c.in_ok-format.field-0 c.in_ok-put.ensures c.requires.kept
    (subst (λ n. IsKeptBatch (number_meaning 0) n b) kept.1 (rw (c.number.ensures.low, c.number.ensures.high) at c.in_ok-batch-in-Some-Replica-find.ensures.kept))
    (λ k h. thing_up_to_more k (k + 1) (omega arith) (family.batch b) (c.in_ok-batch-in-Some-Replica-find.ensures.up_to k (up_to_at lab c.args.file (family.replica r) k h found)))

pub returns-clause-said : goal.returns-clause-said
returns-clause-said c =
    let told : string_bytes c.in_ok-format.field-0 ≡ wrote_text c.len-count.result = search rules in
    accepted_from (string_bytes c.in_ok-format.field-0) (codes "wrote " ++ decimal c.len-count.result) told refl
