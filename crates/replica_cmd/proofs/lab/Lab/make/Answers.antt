use Rattle.std.proofs.Common.{◌≡◌, ◌≢◌, ℕ, ◌+◌, ◌∙◌, ap, arith}
use Rattle.replica_model.specs.Family as family
use Rattle.replica_model.specs.Replica.{members}
use Rattle.lab_model.specs.Lab.{pair_members}
use Rattle.replica_cmd.specs.Things.{contents}
use Rattle.replica_cmd.proofs.KeptLab.{keeps_put, members-new, thing_up_to_more}
use Rattle.std.specs.Prelude.{codes, string_bytes}
use Rattle.std.proofs.Common.{refl}
use Rattle.replica_cmd.proofs.Stepping.{accepted_from}
use Rattle.replica_cmd.proofs.lab.Lab.make.Goals as goal

no_one : ◌≢◌ {A = ℕ} 0 1
no_one e = let f : ◌≡◌ {A = ℕ} 0 1 = e in omega arith

pub returns-clause-keeps : goal.returns-clause-keeps
returns-clause-keeps c =
    let r = c.in_ok-replica.replica in
    keeps_put (contents c.args.self.now) (contents c.put.new.self) c.args.file (family.replica r) c.in_ok-from_str.field-0 c.in_ok-put.ensures c.requires.kept
    (c.in_ok-replica.ensures.kept (record { low = record { modulus = 0; proper = no_one }; high = record { modulus = 0; proper = no_one }; fitting = refl; room = omega arith }), ap (λ q. members q) c.in_ok-replica.ensures.new ∙ members-new _ c.args.member pair_members)
    (λ k _. thing_up_to_more 0 (k + 1) (omega arith) (family.replica r) c.in_ok-replica.ensures.up_to)

pub returns-clause-said : goal.returns-clause-said
returns-clause-said c = accepted_from (string_bytes c.in_ok-from_str.field-0) (codes "ok") c.in_ok-from_str.ensures.ok refl
