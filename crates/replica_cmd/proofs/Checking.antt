-- What is found of a table, and said.
use Rattle.std.proofs.Common.{◌≡◌, ℕ, Bool, true, List, ◌++◌, refl, inr, ap, ◌∙◌, subst, sym}
use Rattle.std.specs.Prelude.{codes, IfOk, Result, Ok, Err, string_bytes}
use Rattle.std.specs.Fmt.{decimal}
use Rattle.action_tables.specs.Table.{ActionTable}
use Rattle.action_tables.specs.TableText.{Spells}
use Rattle.action_tables.specs.Verdict.{IsVerdict}
use Rattle.action_tables.specs.declared.table.Verdict.{Verdict}
use Rattle.action_tables.specs.declared.table.Verdict.TheVariants.{Lawful, Broken}
use Rattle.crdt_laws.specs.declared.small.NoMemory as memory
use Rattle.lab_model.specs.declared.refusal.Refusal.{Refusal}
use Rattle.lab_model.specs.Text.{refusal_text, refused_text, verdict_text}
use Rattle.replica_cmd.specs.declared.answer.Reply.{Reply}
use Rattle.replica_cmd.specs.Check.{IsFinding, is_broken}
use Rattle.replica_cmd.specs.Run.{IsSaid, is_bad}
use Rattle.replica_cmd.proofs.Stepping.{refused_is}

pub refusal_said : (cause : Refusal) (text : List ℕ) (bad : Bool) → text ≡ refused_text cause → bad ≡ true → IsSaid text bad
refusal_said cause text bad told e = record {
  ended = (codes "refused " ++ refusal_text cause, told);
  told = ap is_bad told ∙ (refused_is cause ∙ sym e);
}

said_of : (v : Verdict) → IsSaid (verdict_text v) (is_broken v)
said_of Lawful = record { ended = (codes "lawful", refl); told = refl }
said_of (Broken law a b c) = record {
  ended = (codes "broken " ++ decimal law ++ codes " " ++ decimal a ++ codes " " ++ decimal b ++ codes " " ++ decimal c, refl);
  told = refl;
}

pub verdict_said : (v : Verdict) (text : List ℕ) (bad : Bool) → text ≡ verdict_text v → bad ≡ is_broken v → IsSaid text bad
verdict_said v text bad said told =
    subst (λ b. IsSaid text b) (sym told) (subst (λ t. IsSaid t (is_broken v)) (sym said) (said_of v))

pub found_verdict : (bytes : List ℕ) (table : ActionTable) (states ops : List (List ℕ)) (v : Verdict) (r : Result Reply memory.NoMemory)
    → Spells bytes table states ops → IsVerdict table v → IfOk r (λ reply. string_bytes reply.text ≡ verdict_text v)
    → IfOk r (λ reply. reply.refused ≡ is_broken v) → IfOk r (λ reply. IsFinding bytes (string_bytes reply.text) reply.refused)
found_verdict bytes table states ops v (Ok reply) spelled found said told =
    inr (record { table = table; states = states; ops = ops; spelled = spelled; verdict = v; found = found; said = said; told = told })
found_verdict bytes table states ops v (Err e) spelled found said told = tt
