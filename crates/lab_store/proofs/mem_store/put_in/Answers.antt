use Rattle.std.proofs.Common.{◌≡◌, ap, arith, refl, subst, sym, true, ◌∙◌}
use Rattle.lab_store.specs.Files.{pairs, place_of}
use Rattle.lab_store.specs.Store.{names_differ}
use Rattle.lab_store.proofs.Names.{names_differ-with, pairs-push, pairs-set}
use Rattle.lab_store.proofs.mem_store.put_in.Goals as goal

pub returns-then-at-len-clause-ok : goal.returns-then-at-len-clause-ok
returns-then-at-len-clause-ok c =
    pairs-set c.args.name.now c.args.file.bytes c.args.files.now.items c.place_of-at.result c.args.file (c.place_of-at.ensures ∙ ap (λ l. place_of (pairs l) c.args.name.now) c.as_slice.ensures.value) (omega (arith, c.args.files.now.ok.0)) c.requires refl

pub returns-then-at-len-clause-apart : goal.returns-then-at-len-clause-apart
returns-then-at-len-clause-apart c = λ h.
    subst (λ l. names_differ l ≡ true) (sym (pairs-set c.args.name.now c.args.file.bytes c.args.files.now.items c.place_of-at.result c.args.file (c.place_of-at.ensures ∙ ap (λ l. place_of (pairs l) c.args.name.now) c.as_slice.ensures.value) (omega (arith, c.args.files.now.ok.0)) c.requires refl))
    (names_differ-with c.args.name.now c.args.file.bytes (pairs c.args.files.now.items) h)

pub returns-in_ok-push-clause-ok : goal.returns-in_ok-push-clause-ok
returns-in_ok-push-clause-ok c =
    ap pairs c.in_ok-push.ensures.items ∙ pairs-push c.args.name.now c.args.file.bytes c.args.files.now.items c.args.file (let e : c.place_of-at.result ≡ place_of (pairs c.args.files.now.items) c.args.name.now = (c.place_of-at.ensures ∙ ap (λ l. place_of (pairs l) c.args.name.now) c.as_slice.ensures.value) in omega (arith, c.args.files.now.ok.0)) c.requires refl

pub returns-in_ok-push-clause-apart : goal.returns-in_ok-push-clause-apart
returns-in_ok-push-clause-apart c = λ h.
    subst (λ l. names_differ l ≡ true) (sym (ap pairs c.in_ok-push.ensures.items ∙ pairs-push c.args.name.now c.args.file.bytes c.args.files.now.items c.args.file (let e : c.place_of-at.result ≡ place_of (pairs c.args.files.now.items) c.args.name.now = (c.place_of-at.ensures ∙ ap (λ l. place_of (pairs l) c.args.name.now) c.as_slice.ensures.value) in omega (arith, c.args.files.now.ok.0)) c.requires refl))
    (names_differ-with c.args.name.now c.args.file.bytes (pairs c.args.files.now.items) h)
