-- What is delivered stays delivered.
use Rattle.std.proofs.Common.{◌≡◌, ℕ, Bool, true, false, List, [], ◌∷◌, Option, None, Some, Result, Ok, Err, Contains, length, not, refl, ap, sym, ◌∙◌, subst, inl, inr}
use Rattle.std.specs.Prelude.{◌&&◌}
use Rattle.std.specs.Option.{is_some}
use Rattle.std.specs.Str.{bytes_eq}
use Rattle.std.proofs.lemmas.Bool.{cases_Bool, false≢true}
use Rattle.crdt_laws.specs.declared.small.Entry.{Entry}
use Rattle.crdt_laws.specs.Entry.{entry}
use Rattle.crdt_laws.specs.Present.{document}
use Rattle.crdt_laws.proofs.Members.{Contains-more, Contains-place}
use Rattle.replica_model.specs.Family.{batch, replica}
use Rattle.replica_model.specs.Replica.{Replica, Batch, edited, exported, merged, new_replica, next_stamp}
use Rattle.replica_model.proofs.Edits.{delivered-edited, doc-edited, me-edited}
use Rattle.replica_model.proofs.Families.{may_merge}
use Rattle.replica_model.proofs.Merged.{doc-merged, me-merged, merged_grows}
use Rattle.forgetting_model.specs.Kept.{Kept, kept}
use Rattle.forgetting_model.specs.Ledger.{ledger_exported}
use Rattle.forgetting_model.specs.Made.{edited_by}
use Rattle.file_model.specs.declared.command.Command.{Command}
use Rattle.file_model.specs.declared.command.Command.TheVariants.{New, Edit, Show, Stat, Export, Merge, Play, Check, Gen, Upgrade}
use Rattle.file_model.specs.declared.command.SchemaName.{SchemaName}
use Rattle.file_model.specs.declared.refusal.Refusal.{Refusal}
use Rattle.file_model.specs.declared.refusal.Refusal.TheVariants.{Usage, Exists, Taken}
use Rattle.file_model.specs.Document.{Documents, Format}
use Rattle.file_model.specs.Folders.{replica_at, replica_of}
use Rattle.file_model.specs.Honest.{AreFair, IsHonestLab, all_things, of_document}
use Rattle.file_model.specs.Lab.{Deed, Item, Lab, act, act_on, bytes_of, deed, edit_in, files_of, first, lab_outcome, lab_run, lab_step, meaning_for, merge_in, numbers_of, on_batch, on_ok, on_old, on_replica, plain, second, thing, with_item}
use Rattle.file_model.specs.Line.{command_of}
use Rattle.file_model.specs.Named.{Files, at, if_none, if_ok}
use Rattle.file_model.specs.Promises.{IsLater}
use Rattle.file_model.specs.Record.{is_batch, member_fault}
use Rattle.file_model.specs.Sound.{AreSound, IsFormat}
use Rattle.file_model.specs.Step.{Effect, answer, answer_to, export_file, file_step, is_other_file, new_file, record_at, schema_at, stands_alone, written}
use Rattle.file_model.specs.Text.{document_text, made_text, ok_text, stat_text, upgraded_text, wrote_text}
use Rattle.file_model.proofs.Allowed.{family_of, inside_of}
use Rattle.file_model.proofs.Commands.{Matches, accepted}
use Rattle.file_model.proofs.Folders.{of_has}
use Rattle.file_model.proofs.Given.{err_ok, if_none_is, if_ok_is, none_some, some_is, unless_is}
use Rattle.file_model.proofs.Lines.{line_agrees}
use Rattle.file_model.proofs.Obeyed.{acted, answered, does}
use Rattle.file_model.proofs.Places.{at_put_other, at_put_same, same_bytes}
use Rattle.file_model.proofs.Shown.{show_text}
use Rattle.file_model.proofs.Spelled.{file_at_item, found_in, none_at}
use Rattle.file_model.proofs.Twice.{is_merged}

-- ---- later states of a replica

later_self : {Op : Type 0} (r : Replica Op) → IsLater r r
later_self r = record { doc = refl; me = refl; delivered = λ e c. c }

later_on : {Op : Type 0} (r s t : Replica Op) → IsLater r s → IsLater s t → IsLater r t
later_on r s t h k = record { doc = k.doc ∙ h.doc; me = k.me ∙ h.me; delivered = λ e c. k.delivered e (h.delivered e c) }

later_edited : {Op : Type 0} (r : Replica Op) (op : Op) → IsLater r (edited r op)
later_edited {Op} r op = record {
  doc = doc-edited r op;
  me = me-edited r op;
  delivered = λ e c.
      let x = entry (next_stamp r) op in
      subst (λ (l : List (Entry Op)). Contains l e) (sym (delivered-edited r op)) (Contains-place x r.delivered e (Contains-more x r.delivered e c));
}

later_made : {Op : Type 0} (ops : List Op) (r : Replica Op) → IsLater r (edited_by r ops)
later_made [] r = later_self r
later_made (op ∷ ops) r = later_on r (edited r op) (edited_by (edited r op) ops) (later_edited r op) (later_made ops (edited r op))

-- ---- under a name

-- a later state of the replica stands under the name
abbrev Goes : {Op : Type 0} → Lab Op → List ℕ → Replica Op → Type 0
Goes {Op} lab name r = (s : Replica Op) × (replica_at lab name ≡ Some s) × IsLater r s

module _ {Op : Type 0} (lab : Lab Op) (name : List ℕ) (r : Replica Op) (h : replica_at lab name ≡ Some r) where
  stays : Goes lab name r
  stays = (r, h, later_self r)

  -- an item is put under a name that had no replica, or an earlier state
  goes_with : (file : List ℕ) (item : Item Op) → ((q : Replica Op) → replica_at lab file ≡ Some q → (s : Replica Op) × (replica_of (Some item) ≡ Some s) × IsLater q s) → Goes (with_item lab file item) name r
  goes_with file item on_file =
      elim (cases_Bool (bytes_eq name file)) [
        | inl t ↦
            (let same = same_bytes name file t in
            let s = on_file r (ap (replica_at lab) (sym same) ∙ h) in
            (s.0, ap (λ (n : List ℕ). replica_at (with_item lab file item) n) same ∙ ap replica_of (at_put_same lab.here file item) ∙ s.1, s.2))
        | inr f ↦ (r, ap replica_of (at_put_other lab.here file name item f) ∙ h, later_self r)
      ]

  goes_ok : {X E : Type 0} (x : Result X E) (then' : X → Deed Op) → ((v : X) → Goes (then' v).lab name r) → Goes (on_ok x (deed lab []) then').lab name r
  goes_ok (Ok v) then' k = k v
  goes_ok (Err error) then' k = stays

  goes_replica : (o : Option (Item Op)) (then' : Replica Op → Deed Op) → ((q : Replica Op) → o ≡ Some (thing (replica q)) → Goes (then' q).lab name r) → Goes (on_replica o (deed lab []) then').lab name r
  goes_replica None then' k = stays
  goes_replica (Some (plain bytes)) then' k = stays
  goes_replica (Some (first t)) then' k = stays
  goes_replica (Some (second q)) then' k = stays
  goes_replica (Some (thing (batch b))) then' k = stays
  goes_replica (Some (thing (replica q))) then' k = k q refl

  goes_batch : (o : Option (Item Op)) (then' : Batch Op → Deed Op) → ((b : Batch Op) → o ≡ Some (thing (batch b)) → Goes (then' b).lab name r) → Goes (on_batch o (deed lab []) then').lab name r
  goes_batch None then' k = stays
  goes_batch (Some (plain bytes)) then' k = stays
  goes_batch (Some (first t)) then' k = stays
  goes_batch (Some (second q)) then' k = stays
  goes_batch (Some (thing (replica q))) then' k = stays
  goes_batch (Some (thing (batch b))) then' k = k b refl

  goes_old : (o : Option (Item Op)) (then' : ℕ → Replica Op → Deed Op) → ((v : ℕ) (q : Replica Op) → replica_of o ≡ Some q → Goes (then' v q).lab name r) → Goes (on_old o (deed lab []) then').lab name r
  goes_old None then' k = stays
  goes_old (Some (plain bytes)) then' k = stays
  goes_old (Some (thing t)) then' k = stays
  goes_old (Some (first (batch b))) then' k = stays
  goes_old (Some (first (replica q))) then' k = k 1 q refl
  goes_old (Some (second q)) then' k = k 2 q refl

-- ---- upgrades

module _ {State Op : Type 0} (docs : Documents State Op) (form : Format State Op) where
  -- an upgrade leaves each replica as it is
  upgrade_keeps : (lab : Lab Op) (file name : List ℕ) → replica_at (act docs form lab (Upgrade file)).lab name ≡ replica_at lab name
  upgrade_keeps lab file name = by (at lab.here file) refl
    where
      over : (q : Replica Op) → replica_of (at lab.here file) ≡ Some q → replica_at (with_item lab file (thing (replica q))) name ≡ replica_at lab name
      over q is =
          elim (cases_Bool (bytes_eq name file)) [
            | inl t ↦
                (let same = same_bytes name file t in
                ap (λ (n : List ℕ). replica_at (with_item lab file (thing (replica q))) n) same ∙ ap replica_of (at_put_same lab.here file (thing (replica q))) ∙ sym is ∙ sym (ap (replica_at lab) same))
            | inr f ↦ ap replica_of (at_put_other lab.here file name (thing (replica q)) f)
          ]

      by : (o : Option (Item Op)) → at lab.here file ≡ o → replica_at (on_old o (deed lab []) (λ version q. deed (with_item lab file (thing (replica q))) (upgraded_text version))).lab name ≡ replica_at lab name
      by None q = refl
      by (Some (plain bytes)) q = refl
      by (Some (thing t)) q = refl
      by (Some (first (batch b))) q = refl
      by (Some (first (replica s))) q = over s (ap replica_of q)
      by (Some (second s)) q = over s (ap replica_of q)

  pub upgrade_line : (lab : Lab Op) (in_script : Bool) (line file name : List ℕ) → command_of line ≡ Some (Upgrade file) → (lab_step docs form lab in_script line).refused ≡ false
      → replica_at (lab_step docs form lab in_script line).lab name ≡ replica_at lab name
  upgrade_line lab in_script line file name is ok = ap (λ (l : Lab Op). replica_at l name) (acted docs form lab in_script line (Upgrade file) is ok).0 ∙ upgrade_keeps lab file name

-- ---- each command

module _ {State Op : Type 0} (docs : Documents State Op) (form : Format State Op) (sound : AreSound docs) (format : IsFormat docs form) where
  module _ (lab : Lab Op) (honest : IsHonestLab docs form lab) (name : List ℕ) (r : Replica Op) (h : replica_at lab name ≡ Some r) where
    abbrev F : Files
    F = files_of docs form lab

    begins : (file : List ℕ) (item : Item Op) → at lab.here file ≡ Some item → is_other_file docs form (at (files_of docs form lab) file) ≡ false → is_batch (bytes_of docs form item) ≡ false → ⊥
    begins file item found other none =
        let is : is_other_file docs form (at F file) ≡ true = ap (is_other_file docs form) (file_at_item docs form sound format lab honest file item found) ∙ ap not none in
        false≢true (sym other ∙ is)

    -- no replica is where a batch may be written
    no_replica : (file : List ℕ) (o : Option (Item Op)) (q : Replica Op) → at lab.here file ≡ o → is_other_file docs form (at (files_of docs form lab) file) ≡ false → replica_of o ≡ Some q → ⊥
    no_replica file None q found other is = none_some q is
    no_replica file (Some (plain bytes)) q found other is = none_some q is
    no_replica file (Some (thing (batch b))) q found other is = none_some q is
    no_replica file (Some (first (batch b))) q found other is = none_some q is
    no_replica file (Some (thing (replica s))) q found other is = begins file (thing (replica s)) found other (format.save_begins (kept (meaning_for docs form s) s))
    no_replica file (Some (first (replica s))) q found other is = begins file (first (replica s)) found other (format.first_begins s)
    no_replica file (Some (second s)) q found other is = begins file (second s) found other (format.second_begins (kept (meaning_for docs form s) s))

    goes_export : (file sent : List ℕ) (to : Option ℕ) (e : Effect) → answer docs form (files_of docs form lab) (Export file sent to) ≡ Ok e → Goes (act docs form lab (Export file sent to)).lab name r
    goes_export file sent to e ok =
        let then' : (Kept State Op → Result Effect Refusal) = λ k. if_none (member_fault (length k.ledger.known) to) (export_file docs form F sent (ledger_exported k.ledger to)) in
        let a = if_ok_is (record_at docs form F file) then' e ok in
        let b = ledger_exported a.0.ledger to in
        let c = if_none_is (member_fault (length a.0.ledger.known) to) (export_file docs form F sent b) e a.2 in
        let d = unless_is (is_other_file docs form (at F sent)) (Taken sent) (written docs form F sent (form.pack b) (wrote_text (length b.ops))) e c.1 in
        goes_replica lab name r h (at lab.here file) (λ q. deed (with_item lab sent (thing (batch (exported q to)))) (wrote_text (length (exported q to).ops)))
        (λ q found. goes_with lab name r h sent (thing (batch (exported q to))) (λ p is. absurd (no_replica sent (at lab.here sent) p refl d.0 is)))

    goes_new : (file : List ℕ) (me : ℕ) (schema : SchemaName) (e : Effect) → answer docs form (files_of docs form lab) (New file me schema) ≡ Ok e → Goes (act docs form lab (New file me schema)).lab name r
    goes_new file me schema e ok =
        let a = unless_is (is_some (at F file)) (Exists file) (if_ok (schema_at docs form F schema) (new_file docs form F file me)) e ok in
        let none = none_at docs form sound format lab honest file (absent (at F file) a.0) in
        goes_ok lab name r h (schema_at docs form F schema) (λ text. deed (with_item lab file (thing (replica (new_replica text me (docs.document text).members)))) ok_text)
        (λ text. goes_with lab name r h file (thing (replica (new_replica text me (docs.document text).members))) (λ q is. absurd (none_some q (sym (ap replica_of none) ∙ is))))
      where
        absent : (o : Option (List ℕ)) → is_some o ≡ false → o ≡ None
        absent None k = refl
        absent (Some x) k = absurd (false≢true (sym k))

    -- a later state in the place of the replica
    goes_on : (file : List ℕ) (q s : Replica Op) → at lab.here file ≡ Some (thing (replica q)) → IsLater q s → Goes (with_item lab file (thing (replica s))) name r
    goes_on file q s found later =
        goes_with lab name r h file (thing (replica s)) (λ p is. (s, refl, subst (λ (z : Replica Op). IsLater z s) (some_is q p (sym (ap replica_of found) ∙ is)) later))

    goes_edit : (file field verb rest : List ℕ) → Goes (act docs form lab (Edit file field verb rest)).lab name r
    goes_edit file field verb rest =
        goes_replica lab name r h (at lab.here file) (edit_in docs form lab file field verb rest)
        (λ q found. goes_ok lab name r h ((docs.document q.doc).prepare (document (meaning_for docs form q) q.delivered) (next_stamp q) field verb rest)
        (λ ops. deed (with_item lab file (thing (replica (edited_by q ops)))) (made_text (length ops))) (λ ops. goes_on file q (edited_by q ops) found (later_made ops q)))

    goes_merge : (file sent : List ℕ) (e : Effect) → answer docs form (files_of docs form lab) (Merge file sent) ≡ Ok e → Goes (act docs form lab (Merge file sent)).lab name r
    goes_merge file sent e ok =
        goes_replica lab name r h (at lab.here file) (λ q. on_batch (at lab.here sent) (deed lab []) (merge_in docs form lab file q))
        (λ q found. goes_batch lab name r h (at lab.here sent) (merge_in docs form lab file q) (λ b found_b. goes_on file q (merged q b) found (merged_later q b found found_b)))
      where
        merged_later : (q : Replica Op) (b : Batch Op) → at lab.here file ≡ Some (thing (replica q)) → at lab.here sent ≡ Some (thing (batch b)) → IsLater q (merged q b)
        merged_later q b found found_b =
            let same = (is_merged docs form sound format lab honest file sent q b found found_b e ok).same in
            let there = found_in lab file (replica q) found in
            let there_b = found_in lab sent (batch b) found_b in
            let d = docs.document q.doc in
            let family = family_of docs sound (all_things lab) honest.honest q there in
            let may = may_merge d.meaning d.members (of_document q.doc (all_things lab)) family.honest q b (inside_of docs sound (all_things lab) honest.honest q there) (of_has (all_things lab) (batch b) q.doc same there_b) in
            record { doc = doc-merged q b; me = me-merged q b; delivered = merged_grows q b may }

    goes_upgrade : (file : List ℕ) → Goes (act docs form lab (Upgrade file)).lab name r
    goes_upgrade file =
        goes_old lab name r h (at lab.here file) (λ version q. deed (with_item lab file (thing (replica q))) (upgraded_text version))
        (λ version q is. goes_with lab name r h file (thing (replica q)) (λ p found. (q, refl, subst (λ (z : Replica Op). IsLater z q) (some_is q p (sym is ∙ found)) (later_self q))))

    goes_act : (command : Command) (e : Effect) → answer docs form (files_of docs form lab) command ≡ Ok e → Goes (act docs form lab command).lab name r
    goes_act (New file me schema) e ok = goes_new file me schema e ok
    goes_act (Edit file field verb rest) e ok = goes_edit file field verb rest
    goes_act (Show file) e ok = goes_replica lab name r h (at lab.here file) (λ q. deed lab (document_text ((meaning_for docs form q).show (document (meaning_for docs form q) q.delivered)))) (λ q found. stays lab name r h)
    goes_act (Stat file) e ok = goes_replica lab name r h (at lab.here file) (λ q. deed lab (stat_text (numbers_of (meaning_for docs form q) q))) (λ q found. stays lab name r h)
    goes_act (Export file sent to) e ok = goes_export file sent to e ok
    goes_act (Merge file sent) e ok = goes_merge file sent e ok
    goes_act Play e ok = stays lab name r h
    goes_act (Check table) e ok = goes_ok lab name r h (answer docs form F (Check table)) (λ e. deed lab e.text) (λ e. stays lab name r h)
    goes_act (Gen start members steps) e ok = stays lab name r h
    goes_act (Upgrade file) e ok = goes_upgrade file

    goes_outcome : (in_script : Bool) (command : Option Command) (x : Result Effect Refusal) → answer_to docs form (files_of docs form lab) in_script command ≡ x → Goes (lab_outcome docs form lab x (act_on docs form lab command)).lab name r
    goes_outcome in_script command (Err cause) ok = stays lab name r h
    goes_outcome in_script None (Ok e) ok = absurd (err_ok Usage e ok)
    goes_outcome in_script (Some command) (Ok e) ok = goes_act command e (unless_is (in_script && stands_alone docs form command) Usage (answer docs form F command) e ok).1

    later_line : (in_script : Bool) (line : List ℕ) → Goes (lab_step docs form lab in_script line).lab name r
    unfolding lab_step
    later_line in_script line = goes_outcome in_script (command_of line) (answer_to docs form F in_script (command_of line)) refl

  pub later_run : (lines : List (List ℕ)) (lab : Lab Op) → IsHonestLab docs form lab → AreFair docs form lab lines → (name : List ℕ) (r : Replica Op) → replica_at lab name ≡ Some r → Goes (lab_run docs form lab lines).lab name r
  later_run [] lab honest fair name r h = stays lab name r h
  later_run (line ∷ lines) lab honest fair name r h =
      let next = (lab_step docs form lab true line).lab in
      let s = later_line lab honest name r h true line in
      let t = later_run lines next (line_agrees docs form sound format lab honest true line fair.0).honest fair.1 name s.0 s.1 in
      (t.0, t.1, later_on r s.0 t.0 s.2 t.2)

  -- the replica stands there in the last version
  upgrade_puts : (lab : Lab Op) (file : List ℕ) (r : Replica Op) (o : Option (Item Op)) → at lab.here file ≡ o → replica_of o ≡ Some r
      → at (on_old o (deed lab []) (λ version q. deed (with_item lab file (thing (replica q))) (upgraded_text version))).lab.here file ≡ Some (thing (replica r))
  upgrade_puts lab file r None q is = absurd (none_some r is)
  upgrade_puts lab file r (Some (plain bytes)) q is = absurd (none_some r is)
  upgrade_puts lab file r (Some (thing (batch b))) q is = absurd (none_some r is)
  upgrade_puts lab file r (Some (first (batch b))) q is = absurd (none_some r is)
  upgrade_puts lab file r (Some (thing (replica s))) q is = q ∙ ap (λ (z : Replica Op). Some (thing (replica z))) (some_is s r is)
  upgrade_puts lab file r (Some (first (replica s))) q is = at_put_same lab.here file (thing (replica s)) ∙ ap (λ (z : Replica Op). Some (thing (replica z))) (some_is s r is)
  upgrade_puts lab file r (Some (second s)) q is = at_put_same lab.here file (thing (replica s)) ∙ ap (λ (z : Replica Op). Some (thing (replica z))) (some_is s r is)

  pub upgrade_shows : (lab : Lab Op) → IsHonestLab docs form lab → (in_script : Bool) (line show file : List ℕ) (r : Replica Op) → command_of line ≡ Some (Upgrade file) → command_of show ≡ Some (Show file)
      → replica_at lab file ≡ Some r → (file_step docs form (files_of docs form lab) in_script line).refused ≡ false
      → (file_step docs form (file_step docs form (files_of docs form lab) in_script line).files in_script show).text ≡ document_text ((meaning_for docs form r).show (document (meaning_for docs form r) r.delivered))
  upgrade_shows lab honest in_script line show file r is shows there ok =
      let F = files_of docs form lab in
      let a = answered docs form F in_script line (Upgrade file) is ok in
      let matches : Matches docs form (act docs form lab (Upgrade file)) a.0 = accepted docs form sound format lab honest in_script (Upgrade file) a.0 a.2 (λ f me schema text q t. absurd (no_new f me schema q)) in
      let next = (act docs form lab (Upgrade file)).lab in
      let left : (file_step docs form F in_script line).files ≡ files_of docs form next = ap (λ o. o.files) (does docs form F in_script line (Upgrade file) is a.0 refl a.2) ∙ matches.files in
      ap (λ (f : Files). (file_step docs form f in_script show).text) left
      ∙ show_text docs form sound format next matches.honest in_script show file r shows (upgrade_puts lab file r (at lab.here file) refl there)
    where
      no_new : (f : List ℕ) (me : ℕ) (schema : SchemaName) → Upgrade file ≡ New f me schema → ⊥
      no_new f me schema q = cc
