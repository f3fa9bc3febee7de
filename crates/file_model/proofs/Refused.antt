-- A text begins as those of refusals do exactly where its line was refused.
use Rattle.std.proofs.Common.{◌≡◌, ℕ, suc, zero, ◌+◌, ◌/◌, ◌%◌, ◌<◌, Bool, true, false, List, [], ◌∷◌, ◌++◌, length, not, nat_eq, nat_le, Option, None, Some, Result, Ok, Err, cond, refl, ap, sym, ◌∙◌, arith, nat_lt}
use Rattle.std.specs.Prelude.{◌&&◌, ◌||◌, ◌==◌, decimal, pos, negsuc}
use Rattle.std.specs.Fmt.{digit_glyph, digits, digits_onto}
use Rattle.std.specs.List.{All, flat_map, list_any}
use Rattle.std.specs.Option.{is_some}
use Rattle.std.proofs.lemmas.Bool.{false≢true}
use Rattle.std.proofs.lemmas.List.Concat.{flat_map-cons}
use Rattle.std.proofs.lemmas.List.Elements.{All-cons}
use Rattle.std.proofs.lemmas.Bool.Decides.{nat_tests}
use Rattle.serde_json.specs.Data.{Data, null, boolean, number, string, array, object, unsigned, negative, float}
use Rattle.vector_clock.specs.Clock.{max_seq}
use Rattle.replica_model.specs.Replica.{Batch}
use Rattle.forgetting_model.specs.Kept.{Kept}
use Rattle.forgetting_model.specs.Ledger.{ledger_exported}
use Rattle.forgetting_model.specs.Made.{kept_absorbed, kept_made}
use Rattle.forgetting_model.specs.Turns.{taken}
use Rattle.action_tables.specs.declared.table.Verdict.{Verdict}
use Rattle.action_tables.specs.declared.table.Verdict.TheVariants.{Lawful, Broken}
use Rattle.file_model.specs.declared.command.Command.{Command}
use Rattle.file_model.specs.declared.command.Command.TheVariants.{New, Edit, Show, Stat, Export, Merge, Play, Check, Gen, Upgrade}
use Rattle.file_model.specs.declared.refusal.Refusal.{Refusal}
use Rattle.file_model.specs.declared.refusal.Refusal.TheVariants.{Usage, Exists, Taken, SeqFull, Full, Large, Member, Table, Edit as EditFault}
use Rattle.file_model.specs.Document.{Documents, Format}
use Rattle.file_model.specs.Line.{command_of}
use Rattle.file_model.specs.Named.{Files, at, if_none, if_ok, put, refused_as, unless}
use Rattle.file_model.specs.Record.{member_fault, merge_fault, most_bytes, most_kept, new_record, numbers, own_seq, prepared, size}
use Rattle.file_model.specs.Sound.{AreSound}
use Rattle.file_model.specs.Step.{Effect, Outcome, answer, answer_to, batch_at, bytes_at, document_of, edit_file, effect, export_file, file_outcomes, file_run, file_step, is_other_file, meaning_of, merge_file, new_file, outcome_of, record_at, saved, schema_at, stands_alone, written}
use Rattle.file_model.specs.Text.{checked_text, delivered_text, document_text, made_text, ok_text, stat_text, tells_refusal, upgraded_text, wrote_text}

-- ---- texts that begin with another letter

-- a text that is empty or begins with another letter than `r`
abbrev pub is_other : List ℕ → Bool
is_other [] = true
is_other (b ∷ bs) = not (nat_eq 114 b)

front_false : (a b : Bool) → not a ≡ true → (a && b) ≡ false
front_false false b h = refl
front_false true b h = absurd (false≢true h)

other_tells : (text : List ℕ) → is_other text ≡ true → tells_refusal text ≡ false
other_tells [] h = refl
other_tells (b ∷ bs) h = front_false (nat_eq 114 b) _ h

append_other : (xs ys : List ℕ) → is_other xs ≡ true → is_other ys ≡ true → is_other (xs ++ ys) ≡ true
append_other [] ys h k = k
append_other (x ∷ xs) ys h k = h

glyph_other : (d : ℕ) → d < 10 → not (nat_eq 114 (digit_glyph false d)) ≡ true
glyph_other d h = grind (arith, nat_tests)

onto_other : (k n : ℕ) (acc : List ℕ) → is_other acc ≡ true → is_other (digits_onto k 10 false n acc) ≡ true
onto_other zero n acc h = h
onto_other (suc k) n acc h =
    let glyph : is_other (digit_glyph false (n % 10) ∷ acc) ≡ true = glyph_other (n % 10) (omega arith) in
    (elim (n / 10 == 0) as (λ b. is_other (cond b (digit_glyph false (n % 10) ∷ acc) (digits_onto k 10 false (n / 10) (digit_glyph false (n % 10) ∷ acc))) ≡ true) [
      | true ↦ glyph
      | false ↦ onto_other k (n / 10) (digit_glyph false (n % 10) ∷ acc) glyph
    ])

decimal_other : (n : ℕ) → is_other (decimal n) ≡ true
unfolding digits
decimal_other n = onto_other 64 n [] refl

document_other : (d : Data) → is_other (document_text d) ≡ true
document_other null = refl
document_other (boolean true) = refl
document_other (boolean false) = refl
document_other (number (unsigned n)) = append_other (decimal n) (10 ∷ []) (decimal_other n) refl
document_other (number (negative (pos n))) = append_other (decimal n) (10 ∷ []) (decimal_other n) refl
document_other (number (negative (negsuc n))) = refl
document_other (number (float x)) = refl
document_other (string s) = refl
document_other (array ds) = refl
document_other (object ms) = refl

verdict_other : (verdict : Verdict) → tells_refusal (checked_text verdict) ≡ false
verdict_other Lawful = refl
verdict_other (Broken law a b c) = refl

-- ---- what an accepted line prints

module _ {State Op : Type 0} (docs : Documents State Op) (form : Format State Op) (sound : AreSound docs) where
  abbrev Apart : Result Effect Refusal → Type 0
  Apart (Ok e) = tells_refusal e.text ≡ false
  Apart (Err cause) = Unit {0}

  ok_apart : {X : Type 0} (x : Result X Refusal) (then' : X → Result Effect Refusal) → ((v : X) → x ≡ Ok v → Apart (then' v)) → Apart (if_ok x then')
  ok_apart (Ok v) then' h = h v refl
  ok_apart (Err cause) then' h = tt

  unless_apart : (test : Bool) (cause : Refusal) (rest : Result Effect Refusal) → Apart rest → Apart (unless test cause rest)
  unless_apart true cause rest h = tt
  unless_apart false cause rest h = h

  none_apart : (o : Option Refusal) (rest : Result Effect Refusal) → Apart rest → Apart (if_none o rest)
  none_apart None rest h = h
  none_apart (Some cause) rest h = tt

  written_apart : (files : Files) (name bytes text : List ℕ) → tells_refusal text ≡ false → Apart (written docs form files name bytes text)
  written_apart files name bytes text h = unless_apart (nat_lt most_bytes (length bytes)) (Large (length bytes)) (Ok (effect (put files name bytes) text)) h

  saved_apart : (files : Files) (name : List ℕ) (k : Kept State Op) (text : List ℕ) → tells_refusal text ≡ false → Apart (saved docs form files name k text)
  saved_apart files name k text h =
      unless_apart (nat_lt most_kept (size k.ledger)) (Full (size k.ledger)) (written docs form files name (form.save k) text) (written_apart files name (form.save k) text h)

  new_apart : (files : Files) (file : List ℕ) (me : ℕ) (text : List ℕ) → Apart (new_file docs form files file me text)
  new_apart files file me text =
      unless_apart (nat_le (docs.document text).members me) (Member me) (Ok (effect (put files file (form.save (new_record (docs.document text) text me))) ok_text)) refl

  edit_apart : (files : Files) (file : List ℕ) (k : Kept State Op) (ops : List Op) → Apart (edit_file docs form files file k ops)
  edit_apart files file k ops =
      unless_apart (nat_lt max_seq (own_seq k.ledger + length ops)) (SeqFull (own_seq k.ledger)) (saved docs form files file (kept_made (meaning_of docs form k) k ops) (made_text (length ops)))
      (saved_apart files file (kept_made (meaning_of docs form k) k ops) (made_text (length ops)) refl)

  export_apart : (files : Files) (name : List ℕ) (b : Batch Op) → Apart (export_file docs form files name b)
  export_apart files name b =
      unless_apart (is_other_file docs form (at files name)) (Taken name) (written docs form files name (form.pack b) (wrote_text (length b.ops)))
      (written_apart files name (form.pack b) (wrote_text (length b.ops)) refl)

  merge_apart : (files : Files) (file : List ℕ) (k : Kept State Op) (b : Batch Op) → Apart (merge_file docs form files file k b)
  merge_apart files file k b =
      let next = kept_absorbed (meaning_of docs form k) k b in
      let text = delivered_text (length (taken k.ledger b)) (length next.ledger.waiting) in
      none_apart (merge_fault (document_of docs form k) k.ledger b) (saved docs form files file next text) (saved_apart files file next text refl)

  answer_apart : (files : Files) (command : Command) → Apart (answer docs form files command)
  answer_apart files (New file me schema) =
      unless_apart (is_some (at files file)) (Exists file) (if_ok (schema_at docs form files schema) (new_file docs form files file me))
      (ok_apart (schema_at docs form files schema) (new_file docs form files file me) (λ text q. new_apart files file me text))
  answer_apart files (Edit file field verb rest) =
      let prepare : (Kept State Op → Result (List Op) Refusal) = λ k. refused_as EditFault (prepared (document_of docs form k) k field verb rest) in
      ok_apart (record_at docs form files file) (λ k. if_ok (prepare k) (edit_file docs form files file k))
      (λ k q. ok_apart (prepare k) (edit_file docs form files file k) (λ ops p. edit_apart files file k ops))
  answer_apart files (Show file) =
      ok_apart (record_at docs form files file) (λ k. Ok (effect files (document_text ((meaning_of docs form k).show k.woven.state))))
      (λ k q. other_tells (document_text ((meaning_of docs form k).show k.woven.state)) (document_other ((meaning_of docs form k).show k.woven.state)))
  answer_apart files (Stat file) =
      ok_apart (record_at docs form files file) (λ k. Ok (effect files (stat_text (numbers (document_of docs form k) k)))) (λ k q. refl)
  answer_apart files (Export file name to) =
      let fault : (Kept State Op → Option Refusal) = λ k. member_fault (length k.ledger.known) to in
      let then' : (Kept State Op → Result Effect Refusal) = λ k. export_file docs form files name (ledger_exported k.ledger to) in
      ok_apart (record_at docs form files file) (λ k. if_none (fault k) (then' k)) (λ k q. none_apart (fault k) (then' k) (export_apart files name (ledger_exported k.ledger to)))
  answer_apart files (Merge file name) =
      let sent : (Kept State Op → Result (Batch Op) Refusal) = λ k. batch_at docs form files name k.ledger.doc in
      ok_apart (record_at docs form files file) (λ k. if_ok (sent k) (merge_file docs form files file k))
      (λ k q. ok_apart (sent k) (merge_file docs form files file k) (λ b p. merge_apart files file k b))
  answer_apart files Play = tt
  answer_apart files (Check table) =
      ok_apart (bytes_at docs form files table) (λ bytes. if_ok (refused_as Table (docs.checked bytes)) (λ verdict. Ok (effect files (checked_text verdict))))
      (λ bytes q. ok_apart (refused_as Table (docs.checked bytes)) (λ verdict. Ok (effect files (checked_text verdict))) (λ verdict p. verdict_other verdict))
  answer_apart files (Gen start members steps) = sound.generated start members steps
  answer_apart files (Upgrade file) =
      ok_apart (if_ok (bytes_at docs form files file) (form.read_old file)) (λ old. written docs form files file (form.save old.record') (upgraded_text old.version))
      (λ old q. written_apart files file (form.save old.record') (upgraded_text old.version) refl)

  line_apart : (files : Files) (in_script : Bool) (command : Option Command) → Apart (answer_to docs form files in_script command)
  line_apart files in_script None = tt
  line_apart files in_script (Some command) = unless_apart (in_script && stands_alone docs form command) Usage (answer docs form files command) (answer_apart files command)

  told : (files : Files) (x : Result Effect Refusal) → Apart x → (outcome_of docs form files x).refused ≡ tells_refusal (outcome_of docs form files x).text
  told files (Ok e) h = sym h
  told files (Err cause) h = refl

  pub line_told : (files : Files) (in_script : Bool) (line : List ℕ) → (file_step docs form files in_script line).refused ≡ tells_refusal (file_step docs form files in_script line).text
  unfolding file_step
  line_told files in_script line = told files (answer_to docs form files in_script (command_of line)) (line_apart files in_script (command_of line))

  -- ---- runs

  pub each_told : (lines : List (List ℕ)) (files : Files) → All (λ o. o.refused ≡ tells_refusal o.text) (file_outcomes docs form files lines)
  each_told [] files = λ i d h. absurd (omega (arith, h))
  each_told (line ∷ lines) files =
      let next = (file_step docs form files true line).files in
      All-cons (λ (o : Outcome docs form). o.refused ≡ tells_refusal o.text) (file_step docs form files true line) (file_outcomes docs form next lines) (line_told files true line) (each_told lines next)

  abbrev text_of : Outcome docs form → List ℕ
  text_of o = o.text

  pub run_texts : (lines : List (List ℕ)) (files : Files) → (file_run docs form files lines).text ≡ flat_map (λ o. o.text) (file_outcomes docs form files lines)
  run_texts [] files = refl
  run_texts (line ∷ lines) files =
      let first = file_step docs form files true line in
      ap (λ (t : List ℕ). first.text ++ t) (run_texts lines first.files) ∙ sym (flat_map-cons text_of first (file_outcomes docs form first.files lines))

  pub run_refused : (lines : List (List ℕ)) (files : Files) → (file_run docs form files lines).refused ≡ list_any (λ o. o.refused) (file_outcomes docs form files lines)
  run_refused [] files = refl
  run_refused (line ∷ lines) files = ap (λ (b : Bool). (file_step docs form files true line).refused || b) (run_refused lines (file_step docs form files true line).files)
