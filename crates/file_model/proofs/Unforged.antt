-- Causes for which no line is refused.
use Rattle.std.proofs.Common.{◌≡◌, ℕ, ◌+◌, Bool, true, false, List, Option, None, Some, Result, Ok, Err, length, cond, refl, ap, sym, ◌∙◌, subst}
use Rattle.std.specs.Prelude.{◌&&◌, nat_le, nat_lt, not}
use Rattle.std.specs.Option.{is_some}
use Rattle.crdt_laws.specs.declared.small.Entry.{Entry}
use Rattle.vector_clock.specs.Clock.{max_seq}
use Rattle.replica_model.specs.Family.{batch, replica}
use Rattle.replica_model.specs.Replica.{Replica, Batch}
use Rattle.forgetting_model.specs.Kept.{Kept, kept}
use Rattle.forgetting_model.specs.Ledger.{Ledger, ledger, ledger_exported, own_row}
use Rattle.forgetting_model.specs.Made.{kept_absorbed, kept_made, stamp_after}
use Rattle.forgetting_model.specs.Turns.{taken}
use Rattle.action_tables.specs.declared.named.TableFault.{TableFault}
use Rattle.action_tables.specs.declared.named.TableFault.TheVariants as tables
use Rattle.doc_schema.specs.declared.fault.SchemaError.{SchemaError}
use Rattle.doc_schema.specs.declared.fault.SchemaError.TheVariants as schemas
use Rattle.kind_edits.specs.declared.fault.EditError.{EditError}
use Rattle.kind_edits.specs.declared.fault.EditError.TheVariants as edits
use Rattle.file_model.specs.declared.command.Command.{Command}
use Rattle.file_model.specs.declared.command.Command.TheVariants.{New, Edit, Show, Stat, Export, Merge, Play, Check, Gen, Upgrade}
use Rattle.file_model.specs.declared.command.SchemaName.{SchemaName}
use Rattle.file_model.specs.declared.command.SchemaName.TheVariants.{Pair, Trio, File}
use Rattle.file_model.specs.declared.refusal.Refusal.{Refusal}
use Rattle.file_model.specs.declared.refusal.Refusal.TheVariants as why
use Rattle.file_model.specs.Document.{Document, Documents, Format, Old}
use Rattle.file_model.specs.Honest.{IsHonestLab, all_things}
use Rattle.file_model.specs.Lab.{Lab, files_of}
use Rattle.file_model.specs.Line.{command_of}
use Rattle.file_model.specs.Named.{Files, at, if_none, if_ok, or_missing, put, refused_as, unless}
use Rattle.file_model.specs.Promises.{is_forgery, is_memory}
use Rattle.file_model.specs.Record.{first, greatest_of, is_forked, member_fault, merge_fault, most_bytes, most_kept, new_record, numbers, or_else, own_seq, prepared, seq_of, size}
use Rattle.file_model.specs.Sound.{AreSound, IsBatchPlaced, IsFormat, IsOldPlaced, IsPlaced, at_batch_place, at_old_place, at_place, is_current, of_batch_version, of_old_version, of_other_document, of_version}
use Rattle.file_model.specs.Step.{Effect, answer, answer_to, batch_at, bytes_at, cause_in, cause_of, document_of, edit_file, effect, export_file, is_other_file, meaning_of, merge_file, new_file, record_at, saved, schema_at, stands_alone, written}
use Rattle.file_model.specs.Text.{checked_text, delivered_text, document_text, made_text, ok_text, stat_text, upgraded_text, wrote_text}
use Rattle.file_model.proofs.Corollaries.{fits_in}
use Rattle.file_model.proofs.Given.{if_ok_is, none_some, some_is}
use Rattle.file_model.proofs.Spelled.{doc-kept, found_in, read_replica, read_sent}

-- ---- causes that a test does not name

record IsSpared (P : Refusal → Bool) : Type 0 where
  usage : P why.Usage ≡ false
  exists : (name : List ℕ) → P (why.Exists name) ≡ false
  missing : (name : List ℕ) → P (why.Missing name) ≡ false
  taken' : (name : List ℕ) → P (why.Taken name) ≡ false
  current : (name : List ℕ) → P (why.Current name) ≡ false
  not_save : (at : ℕ) → P (why.NotSave at) ≡ false
  version : (got : ℕ) → P (why.Version got) ≡ false
  not_batch : (at : ℕ) → P (why.NotBatch at) ≡ false
  batch_version : (got : ℕ) → P (why.BatchVersion got) ≡ false
  other_document : P why.OtherDocument ≡ false
  edit : (error : EditError) → (error ≡ edits.NoMemory → ⊥) → P (why.Edit error) ≡ false
  seq_full : (seq : ℕ) → P (why.SeqFull seq) ≡ false
  full : (count : ℕ) → P (why.Full count) ≡ false
  large : (bytes : ℕ) → P (why.Large bytes) ≡ false
  member : (member : ℕ) → P (why.Member member) ≡ false
  schema : (error : SchemaError) → (error ≡ schemas.NoMemory → ⊥) → P (why.Schema error) ≡ false
  table : (fault : TableFault) → (fault ≡ tables.NoMemory → ⊥) → P (why.Table fault) ≡ false

module _ (P : Refusal → Bool) where
  -- an answer that is not refused for such a cause
  abbrev Avoids : {X : Type 0} → Result X Refusal → Type 0
  Avoids (Ok x) = Unit {0}
  Avoids (Err cause) = P cause ≡ false

  avoids : {X : Type 0} (x : Result X Refusal) → ((cause : Refusal) → x ≡ Err cause → P cause ≡ false) → Avoids x
  avoids (Ok v) h = tt
  avoids (Err cause) h = h cause refl

  avoids_ok : {X Y : Type 0} (x : Result X Refusal) (then' : X → Result Y Refusal) → Avoids x → ((v : X) → x ≡ Ok v → Avoids (then' v)) → Avoids (if_ok x then')
  avoids_ok (Ok v) then' h k = k v refl
  avoids_ok (Err cause) then' h k = h

  avoids_unless : {X : Type 0} (test : Bool) (cause : Refusal) (rest : Result X Refusal) → P cause ≡ false → Avoids rest → Avoids (unless test cause rest)
  avoids_unless true cause rest h k = h
  avoids_unless false cause rest h k = k

  avoids_none : {X : Type 0} (o : Option Refusal) (rest : Result X Refusal) → ((cause : Refusal) → o ≡ Some cause → P cause ≡ false) → Avoids rest → Avoids (if_none o rest)
  avoids_none None rest h k = k
  avoids_none (Some cause) rest h k = h cause refl

  avoids_as : {X E : Type 0} (cause : E → Refusal) (x : Result X E) → ((error : E) → x ≡ Err error → P (cause error) ≡ false) → Avoids (refused_as cause x)
  avoids_as cause (Ok v) h = tt
  avoids_as cause (Err error) h = h error refl

  avoids_missing : {X : Type 0} (name : List ℕ) (o : Option X) → P (why.Missing name) ≡ false → Avoids (or_missing name o)
  avoids_missing name None h = h
  avoids_missing name (Some x) h = tt

  placed : (n : ℕ) (cause : Refusal) → IsSpared P → IsPlaced n cause → P cause ≡ false
  placed n c spared (at_place i low) = spared.not_save i
  placed n c spared (of_version got) = spared.version got

  batch_placed : (n : ℕ) (cause : Refusal) → IsSpared P → IsBatchPlaced n cause → P cause ≡ false
  batch_placed n c spared (at_batch_place i low) = spared.not_batch i
  batch_placed n c spared (of_batch_version got) = spared.batch_version got
  batch_placed n c spared of_other_document = spared.other_document

  old_placed : (name : List ℕ) (n : ℕ) (cause : Refusal) → IsSpared P → IsOldPlaced name n cause → P cause ≡ false
  old_placed name n c spared (at_old_place i low) = spared.not_save i
  old_placed name n c spared (of_old_version got) = spared.version got
  old_placed name n c spared is_current = spared.current name

  member_spared : (n : ℕ) (to : Option ℕ) (cause : Refusal) → IsSpared P → member_fault n to ≡ Some cause → P cause ≡ false
  member_spared n None cause spared q = absurd (none_some cause q)
  member_spared n (Some j) cause spared q = by (nat_le n j) q
    where
      by : (b : Bool) → cond b (Some (why.Member j)) None ≡ Some cause → P cause ≡ false
      by true k = subst (λ (c : Refusal). P c ≡ false) (some_is (why.Member j) cause k) (spared.member j)
      by false k = absurd (none_some cause k)

  module _ {State Op : Type 0} (docs : Documents State Op) (form : Format State Op) (sound : AreSound docs) (format : IsFormat docs form) (spared : IsSpared P) (files : Files) where
    bytes_avoid : (name : List ℕ) → Avoids (bytes_at docs form files name)
    bytes_avoid name = avoids_missing name (at files name) (spared.missing name)

    record_avoids : (name : List ℕ) → Avoids (record_at docs form files name)
    record_avoids name =
        avoids_ok (bytes_at docs form files name) form.read_save (bytes_avoid name)
        (λ bytes q. avoids (form.read_save bytes) (λ cause h. placed (length bytes) cause spared (format.save_fault bytes cause h)))

    batch_avoids : (name text : List ℕ) → Avoids (batch_at docs form files name text)
    batch_avoids name text =
        avoids_ok (bytes_at docs form files name) (form.read_batch text) (bytes_avoid name)
        (λ bytes q. avoids (form.read_batch text bytes) (λ cause h. batch_placed (length bytes) cause spared (format.batch_fault text bytes cause h)))

    schema_avoids : (schema : SchemaName) → Avoids (schema_at docs form files schema)
    schema_avoids Pair = tt
    schema_avoids Trio = tt
    schema_avoids (File name) =
        avoids_ok (bytes_at docs form files name) (λ bytes. refused_as why.Schema (docs.schema_in bytes)) (bytes_avoid name)
        (λ bytes q. avoids_as why.Schema (docs.schema_in bytes) (λ error h. spared.schema error (λ is. sound.schema_enough bytes (h ∙ ap (λ (e : SchemaError). Err e) is))))

    written_avoids : (name bytes text : List ℕ) → Avoids (written docs form files name bytes text)
    written_avoids name bytes text = avoids_unless (nat_lt most_bytes (length bytes)) (why.Large (length bytes)) (Ok (effect (put files name bytes) text)) (spared.large (length bytes)) tt

    saved_avoids : (name : List ℕ) (k : Kept State Op) (text : List ℕ) → Avoids (saved docs form files name k text)
    saved_avoids name k text =
        avoids_unless (nat_lt most_kept (size k.ledger)) (why.Full (size k.ledger)) (written docs form files name (form.save k) text) (spared.full (size k.ledger)) (written_avoids name (form.save k) text)

    -- what is read as a record is of a document that has a schema
    schema_of_record : (file : List ℕ) (k : Kept State Op) → record_at docs form files file ≡ Ok k → docs.is_schema k.ledger.doc ≡ true
    schema_of_record file k q =
        let f = if_ok_is (bytes_at docs form files file) form.read_save k q in
        (format.save_allowed f.0 k f.2).schema

    module _ (merges : (file name : List ℕ) (k : Kept State Op) (b : Batch Op) (cause : Refusal) → record_at docs form files file ≡ Ok k → batch_at docs form files name k.ledger.doc ≡ Ok b
        → merge_fault (document_of docs form k) k.ledger b ≡ Some cause → P cause ≡ false) where
      answer_avoids : (command : Command) → Avoids (answer docs form files command)
      answer_avoids (New file me schema) =
          let then' : (List ℕ → Result Effect Refusal) = new_file docs form files file me in
          avoids_unless (is_some (at files file)) (why.Exists file) (if_ok (schema_at docs form files schema) then') (spared.exists file)
          (avoids_ok (schema_at docs form files schema) then' (schema_avoids schema)
          (λ text q. avoids_unless (nat_le (docs.document text).members me) (why.Member me) (Ok (effect (put files file (form.save (new_record (docs.document text) text me))) ok_text)) (spared.member me) tt))
      answer_avoids (Edit file field verb rest) =
          let prepare : (Kept State Op → Result (List Op) Refusal) = λ k. refused_as why.Edit (prepared (document_of docs form k) k field verb rest) in
          avoids_ok (record_at docs form files file) (λ k. if_ok (prepare k) (edit_file docs form files file k)) (record_avoids file)
          (λ k q. avoids_ok (prepare k) (edit_file docs form files file k)
          (avoids_as why.Edit (prepared (document_of docs form k) k field verb rest)
          (λ error h. spared.edit error (λ is. (sound.document k.ledger.doc (schema_of_record file k q)).prepared_enough k.woven.state (stamp_after (own_row k.ledger) k.ledger.me) field verb rest (h ∙ ap (λ (e : EditError). Err e) is))))
          (λ ops p. avoids_unless (nat_lt max_seq (own_seq k.ledger + length ops)) (why.SeqFull (own_seq k.ledger)) (saved docs form files file (kept_made (meaning_of docs form k) k ops) (made_text (length ops)))
          (spared.seq_full (own_seq k.ledger)) (saved_avoids file (kept_made (meaning_of docs form k) k ops) (made_text (length ops)))))
      answer_avoids (Show file) =
          avoids_ok (record_at docs form files file) (λ k. Ok (effect files (document_text ((meaning_of docs form k).show k.woven.state)))) (record_avoids file) (λ k q. tt)
      answer_avoids (Stat file) =
          avoids_ok (record_at docs form files file) (λ k. Ok (effect files (stat_text (numbers (document_of docs form k) k)))) (record_avoids file) (λ k q. tt)
      answer_avoids (Export file name to) =
          let fault : (Kept State Op → Option Refusal) = λ k. member_fault (length k.ledger.known) to in
          let then' : (Kept State Op → Result Effect Refusal) = λ k. export_file docs form files name (ledger_exported k.ledger to) in
          avoids_ok (record_at docs form files file) (λ k. if_none (fault k) (then' k)) (record_avoids file)
          (λ k q. avoids_none (fault k) (then' k) (λ cause h. member_spared (length k.ledger.known) to cause spared h)
          (let b = ledger_exported k.ledger to in
          avoids_unless (is_other_file docs form (at files name)) (why.Taken name) (written docs form files name (form.pack b) (wrote_text (length b.ops))) (spared.taken' name) (written_avoids name (form.pack b) (wrote_text (length b.ops)))))
      answer_avoids (Merge file name) =
          let sent : (Kept State Op → Result (Batch Op) Refusal) = λ k. batch_at docs form files name k.ledger.doc in
          avoids_ok (record_at docs form files file) (λ k. if_ok (sent k) (merge_file docs form files file k)) (record_avoids file)
          (λ k q. avoids_ok (sent k) (merge_file docs form files file k) (batch_avoids name k.ledger.doc)
          (λ b p.
          let next = kept_absorbed (meaning_of docs form k) k b in
          let text = delivered_text (length (taken k.ledger b)) (length next.ledger.waiting) in
          avoids_none (merge_fault (document_of docs form k) k.ledger b) (saved docs form files file next text) (λ cause h. merges file name k b cause q p h) (saved_avoids file next text)))
      answer_avoids Play = spared.usage
      answer_avoids (Check table) =
          let then' : (List ℕ → Result Effect Refusal) = λ bytes. if_ok (refused_as why.Table (docs.checked bytes)) (λ verdict. Ok (effect files (checked_text verdict))) in
          avoids_ok (bytes_at docs form files table) then' (bytes_avoid table)
          (λ bytes q. avoids_ok (refused_as why.Table (docs.checked bytes)) (λ verdict. Ok (effect files (checked_text verdict)))
          (avoids_as why.Table (docs.checked bytes) (λ fault h. spared.table fault (λ is. sound.table_enough bytes (h ∙ ap (λ (e : TableFault). Err e) is)))) (λ verdict p. tt))
      answer_avoids (Gen start members steps) = tt
      answer_avoids (Upgrade file) =
          let then' : (Old State Op → Result Effect Refusal) = λ old. written docs form files file (form.save old.record') (upgraded_text old.version) in
          avoids_ok (if_ok (bytes_at docs form files file) (form.read_old file)) then'
          (avoids_ok (bytes_at docs form files file) (form.read_old file) (bytes_avoid file)
          (λ bytes q. avoids (form.read_old file bytes) (λ cause h. old_placed file (length bytes) cause spared (format.old_fault file bytes cause h))))
          (λ old q. written_avoids file (form.save old.record') (upgraded_text old.version))

      line_avoids : (in_script : Bool) (command : Option Command) → Avoids (answer_to docs form files in_script command)
      line_avoids in_script None = spared.usage
      line_avoids in_script (Some command) = avoids_unless (in_script && stands_alone docs form command) why.Usage (answer docs form files command) spared.usage (answer_avoids command)

      cause_avoids : (in_script : Bool) (line : List ℕ) (cause : Refusal) → cause_of docs form files in_script line ≡ Some cause → P cause ≡ false
      cause_avoids in_script line cause h = by (answer_to docs form files in_script (command_of line)) (line_avoids in_script (command_of line)) h
        where
          by : (x : Result Effect Refusal) → Avoids x → cause_in docs form x ≡ Some cause → P cause ≡ false
          by (Ok e) k q = absurd (none_some cause q)
          by (Err c) k q = subst (λ (z : Refusal). P z ≡ false) (some_is c cause q) k

-- ---- forgeries

forgery_spared : IsSpared is_forgery
forgery_spared = record {
  usage = refl;
  exists = λ name. refl;
  missing = λ name. refl;
  taken' = λ name. refl;
  current = λ name. refl;
  not_save = λ at. refl;
  version = λ got. refl;
  not_batch = λ at. refl;
  batch_version = λ got. refl;
  other_document = refl;
  edit = λ error other. refl;
  seq_full = λ seq. refl;
  full = λ count. refl;
  large = λ bytes. refl;
  member = λ member. refl;
  schema = λ error other. refl;
  table = λ fault other. refl;
}

kept_fault : {State Op : Type 0} (docs : Documents State Op) (form : Format State Op) (r : Replica Op) (b : Batch Op)
    → merge_fault (document_of docs form (kept (docs.document r.doc).meaning r)) (kept (docs.document r.doc).meaning r).ledger b ≡ merge_fault (docs.document r.doc) (ledger r) b
unfolding kept ledger
kept_fault docs form r b = refl

pub never_forged : {State Op : Type 0} (docs : Documents State Op) (form : Format State Op) → AreSound docs → IsFormat docs form → (lab : Lab Op) → IsHonestLab docs form lab → (in_script : Bool) (line : List ℕ) (cause : Refusal)
    → cause_of docs form (files_of docs form lab) in_script line ≡ Some cause → is_forgery cause ≡ false
never_forged {State} {Op} docs form sound format lab honest in_script line cause h =
    cause_avoids is_forgery docs form sound format forgery_spared (files_of docs form lab) fits in_script line cause h
  where
    fits : (file name : List ℕ) (k : Kept State Op) (b : Batch Op) (cause : Refusal) → record_at docs form (files_of docs form lab) file ≡ Ok k → batch_at docs form (files_of docs form lab) name k.ledger.doc ≡ Ok b
        → merge_fault (document_of docs form k) k.ledger b ≡ Some cause → is_forgery cause ≡ false
    fits file name k b cause q p g =
        let r = read_replica docs form sound format lab honest file k q in
        let s = read_sent docs form sound format lab honest name k.ledger.doc b p in
        let same : b.doc ≡ r.0.doc = s.1 ∙ ap (λ (k : Kept State Op). k.ledger.doc) r.2 ∙ doc-kept (docs.document r.0.doc).meaning r.0 in
        let none = fits_in docs sound (all_things lab) honest.honest r.0 (found_in lab file (replica r.0) r.1) b (found_in lab name (batch b) s.0) same in
        absurd (none_some cause (sym none ∙ sym (kept_fault docs form r.0 b) ∙ ap (λ (k : Kept State Op). merge_fault (document_of docs form k) k.ledger b) (sym r.2) ∙ g))

-- ---- memory

memory_spared : IsSpared is_memory
memory_spared = record {
  usage = refl;
  exists = λ name. refl;
  missing = λ name. refl;
  taken' = λ name. refl;
  current = λ name. refl;
  not_save = λ at. refl;
  version = λ got. refl;
  not_batch = λ at. refl;
  batch_version = λ got. refl;
  other_document = refl;
  edit = edit_spared;
  seq_full = λ seq. refl;
  full = λ count. refl;
  large = λ bytes. refl;
  member = λ member. refl;
  schema = schema_spared;
  table = table_spared;
}
  where
    edit_spared : (error : EditError) → (error ≡ edits.NoMemory → ⊥) → is_memory (why.Edit error) ≡ false
    edit_spared edits.NoField other = refl
    edit_spared edits.NoVerb other = refl
    edit_spared (edits.KeyLong bytes) other = refl
    edit_spared edits.BadNumber other = refl
    edit_spared (edits.TextLong bytes) other = refl
    edit_spared (edits.IndexOut len) other = refl
    edit_spared (edits.PositionFull steps) other = refl
    edit_spared edits.NoMemory other = absurd (other refl)

    schema_spared : (error : SchemaError) → (error ≡ schemas.NoMemory → ⊥) → is_memory (why.Schema error) ≡ false
    schema_spared (schemas.Long bytes) other = refl
    schema_spared schemas.NotJson other = refl
    schema_spared (schemas.Shape field) other = refl
    schema_spared (schemas.Members n) other = refl
    schema_spared (schemas.Modulus field got) other = refl
    schema_spared (schemas.Name field) other = refl
    schema_spared (schemas.Twice field) other = refl
    schema_spared (schemas.Table field fault) other = refl
    schema_spared schemas.NoMemory other = absurd (other refl)

    table_spared : (fault : TableFault) → (fault ≡ tables.NoMemory → ⊥) → is_memory (why.Table fault) ≡ false
    table_spared tables.NotJson other = refl
    table_spared tables.Form other = refl
    table_spared tables.Name other = refl
    table_spared tables.Twice other = refl
    table_spared (tables.Shape shape) other = refl
    table_spared tables.NoMemory other = absurd (other refl)

-- what refuses a merge is no want of memory
or_else_spared : {X : Type 0} (o : Option X) (cause : X → Refusal) (next : Option Refusal) (c : Refusal) → ((x : X) → is_memory (cause x) ≡ false) → (next ≡ Some c → is_memory c ≡ false)
    → or_else o cause next ≡ Some c → is_memory c ≡ false
or_else_spared None cause next c h k q = k q
or_else_spared (Some x) cause next c h k q = subst (λ (z : Refusal). is_memory z ≡ false) (some_is (cause x) c q) (h x)

merge_spared : {State Op : Type 0} (doc : Document State Op) (l : Ledger Op) (b : Batch Op) (c : Refusal) → merge_fault doc l b ≡ Some c → is_memory c ≡ false
merge_spared {State} {Op} doc l b c q =
    or_else_spared (first (λ (e : Entry Op). not (doc.may_stand e.stamp e.op)) b.ops) (λ e. why.BadOp e.stamp.member (seq_of e))
    (cond (nat_lt (own_seq l) (greatest_of l.me b.ops)) (Some (why.Rollback (own_seq l) (greatest_of l.me b.ops))) forks) c (λ e. refl) (rolled (nat_lt (own_seq l) (greatest_of l.me b.ops))) q
  where
    forks : Option Refusal
    forks = or_else (first (is_forked doc l) b.ops) (λ e. why.Fork e.stamp.member (seq_of e)) None

    rolled : (t : Bool) → cond t (Some (why.Rollback (own_seq l) (greatest_of l.me b.ops))) (or_else (first (is_forked doc l) b.ops) (λ e. why.Fork e.stamp.member (seq_of e)) None) ≡ Some c → is_memory c ≡ false
    rolled true p = subst (λ (z : Refusal). is_memory z ≡ false) (some_is (why.Rollback (own_seq l) (greatest_of l.me b.ops)) c p) refl
    rolled false p = or_else_spared (first (is_forked doc l) b.ops) (λ e. why.Fork e.stamp.member (seq_of e)) None c (λ e. refl) (λ p. absurd (none_some c p)) p

pub never_for_memory : {State Op : Type 0} (docs : Documents State Op) (form : Format State Op) → AreSound docs → IsFormat docs form → (files : Files) (in_script : Bool) (line : List ℕ) (cause : Refusal)
    → cause_of docs form files in_script line ≡ Some cause → is_memory cause ≡ false
never_for_memory docs form sound format files in_script line cause h =
    cause_avoids is_memory docs form sound format memory_spared files (λ file name k b cause q p g. merge_spared (document_of docs form k) k.ledger b cause g) in_script line cause h
