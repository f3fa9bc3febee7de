-- A batch that is merged again, by lines.
use Rattle.std.proofs.Common.{◌≡◌, ℕ, ◌+◌, Bool, false, List, [], ◌∷◌, ◌++◌, Option, Some, Result, Ok, Err, Contains, length, refl, ap, sym, ◌∙◌, subst, arith}
use Rattle.std.specs.Prelude.{nat_lt}
use Rattle.std.specs.Str.{bytes_eq}
use Rattle.std.proofs.lemmas.Bool.{cond-false, false_from_ne_true}
use Rattle.crdt_laws.specs.Tower.{Meaning}
use Rattle.replica_model.specs.Family.{Thing, batch, replica}
use Rattle.replica_model.specs.Replica.{Replica, Batch, merged}
use Rattle.replica_model.proofs.Merged.{doc-merged}
use Rattle.replica_model.proofs.Things.{batch_injective}
use Rattle.forgetting_model.specs.Kept.{Kept, kept}
use Rattle.forgetting_model.specs.Ledger.{ledger}
use Rattle.forgetting_model.specs.Made.{kept_absorbed}
use Rattle.forgetting_model.specs.Truth.{IsTrueFamily}
use Rattle.forgetting_model.specs.Turns.{taken}
use Rattle.forgetting_model.proofs.Lengths.{delivered_counts}
use Rattle.forgetting_model.proofs.Made.{kept-absorbed}
use Rattle.file_model.specs.declared.command.Command.TheVariants.{Merge, New}
use Rattle.file_model.specs.declared.command.SchemaName.{SchemaName}
use Rattle.file_model.specs.declared.refusal.Refusal.{Refusal}
use Rattle.file_model.specs.declared.refusal.Refusal.TheVariants.{Full, Large}
use Rattle.file_model.specs.Document.{Documents, Format}
use Rattle.file_model.specs.Honest.{IsHonestLab, all_things, of_document}
use Rattle.file_model.specs.Lab.{Deed, Item, Lab, act, deed, files_of, merge_in, on_batch, on_replica, thing, with_item}
use Rattle.file_model.specs.Line.{command_of}
use Rattle.file_model.specs.Named.{Files, at, if_none, if_ok, put}
use Rattle.file_model.specs.Record.{merge_fault, most_bytes, most_kept, size}
use Rattle.file_model.specs.Sound.{AreSound, IsFormat}
use Rattle.file_model.specs.Step.{Effect, answer, batch_at, effect, file_step, merge_file, saved, written}
use Rattle.file_model.specs.Text.{delivered_text}
use Rattle.file_model.proofs.Allowed.{family_of, inside_of, sound_doc}
use Rattle.file_model.proofs.Commands.{Matches, accepted}
use Rattle.file_model.proofs.Corollaries.{fits_in}
use Rattle.file_model.proofs.Exchanged.{merged_again, split_at}
use Rattle.file_model.proofs.Folders.{of_has}
use Rattle.file_model.proofs.Given.{if_none_is, if_ok_is, some_is, unless_is}
use Rattle.file_model.proofs.Obeyed.{answered, does}
use Rattle.file_model.proofs.Places.{at_put_other, at_put_same, put_there, same_bytes}
use Rattle.file_model.proofs.Spelled.{doc-kept, file_at_item, found_in, read_back, read_batch_back, read_sent}

no_batch_here : {Op : Type 0} (r : Replica Op) (b : Batch Op) → ◌≡◌ {A = Option (Item Op)} (Some (thing (replica r))) (Some (thing (batch b))) → ⊥
no_batch_here r b q = cc

other_file : {Op : Type 0} (lab : Lab Op) (file name : List ℕ) (r : Replica Op) (b : Batch Op) → at lab.here file ≡ Some (thing (replica r)) → at lab.here name ≡ Some (thing (batch b)) → bytes_eq name file ≡ false
other_file lab file name r b found found_b =
    false_from_ne_true (bytes_eq name file) (λ t. no_batch_here r b (sym found ∙ ap (at lab.here) (sym (same_bytes name file t)) ∙ found_b))

module _ {State Op : Type 0} (docs : Documents State Op) (form : Format State Op) (sound : AreSound docs) (format : IsFormat docs form) where
  -- what an accepted merge tells

  module _ (lab : Lab Op) (honest : IsHonestLab docs form lab) (file name : List ℕ) (r : Replica Op) (b : Batch Op)
      (found : at lab.here file ≡ Some (thing (replica r))) (found_b : at lab.here name ≡ Some (thing (batch b))) where
    abbrev F : Files
    F = files_of docs form lab

    abbrev m : Meaning State Op
    m = (docs.document r.doc).meaning

    abbrev n : ℕ
    n = (docs.document r.doc).members

    there : Contains (all_things lab) (replica r)
    there = found_in lab file (replica r) found

    sent : Contains (all_things lab) (batch b)
    sent = found_in lab name (batch b) found_b

    abbrev fs : List (Thing Op)
    fs = of_document r.doc (all_things lab)

    family : IsTrueFamily (docs.document r.doc).meaning (docs.document r.doc).members (of_document r.doc (all_things lab))
    family = family_of docs sound (all_things lab) honest.honest r there

    inside : Contains (of_document r.doc (all_things lab)) (replica r)
    inside = inside_of docs sound (all_things lab) honest.honest r there

    -- what is read is the replica, and then the batch
    read_by : answer docs form (files_of docs form lab) (Merge file name)
        ≡ if_ok (batch_at docs form (files_of docs form lab) name (kept m r).ledger.doc) (merge_file docs form (files_of docs form lab) file (kept m r))
    read_by =
        ap (λ (x : Result (Kept State Op) Refusal). if_ok x (λ k. if_ok (batch_at docs form F name k.ledger.doc) (merge_file docs form F file k)))
        (read_back docs form sound format lab honest file r found)

    pub record IsMerged (e : Effect) : Type 0 where
      pub same : b.doc ≡ r.doc
      pub merges : merge_file docs form (files_of docs form lab) file (kept (docs.document r.doc).meaning r) b ≡ Ok e

    pub is_merged : (e : Effect) → answer docs form (files_of docs form lab) (Merge file name) ≡ Ok e → IsMerged e
    is_merged e h =
        let k = kept m r in
        let a = if_ok_is (batch_at docs form F name k.ledger.doc) (merge_file docs form F file k) e (sym read_by ∙ h) in
        let c = read_sent docs form sound format lab honest name k.ledger.doc a.0 a.1 in
        let is : a.0 ≡ b = batch_injective a.0 b (thing_is (batch a.0) (batch b) (some_is (thing (batch a.0)) (thing (batch b)) (sym c.0 ∙ found_b))) in
        record {
          same = ap (λ (z : Batch Op). z.doc) (sym is) ∙ c.1 ∙ doc-kept m r;
          merges = subst (λ (z : Batch Op). merge_file docs form F file k z ≡ Ok e) is a.2;
        }
      where
        thing_is : (s t : Thing Op) → thing s ≡ thing t → s ≡ t
        thing_is s t q = cc

    module _ (same : b.doc ≡ r.doc) where
      p : (front : List (Thing Op)) × (back : List (Thing Op)) × (of_document r.doc (all_things lab) ≡ front ++ replica r ∷ back)
      p = split_at fs (replica r) inside

      own_family : IsTrueFamily (docs.document r.doc).meaning (docs.document r.doc).members (p.0 ++ replica r ∷ p.1)
      own_family = subst (IsTrueFamily m n) p.2 family

      own_sent : Contains (p.0 ++ replica r ∷ p.1) (batch b)
      own_sent = subst (λ (l : List (Thing Op)). Contains l (batch b)) p.2 (of_has (all_things lab) (batch b) r.doc same sent)

      absorbed : kept (docs.document r.doc).meaning (merged r b) ≡ kept_absorbed (docs.document r.doc).meaning (kept (docs.document r.doc).meaning r) b
      absorbed = kept-absorbed m (sound_doc docs sound (all_things lab) honest.honest r there).lawful n p.0 p.1 r own_family b own_sent

      counts : length (merged r b).delivered ≡ length r.delivered + length (taken (ledger r) b)
      counts = delivered_counts m n p.0 p.1 r own_family b own_sent

      again : merged (merged r b) b ≡ merged r b
      again = merged_again m n p.0 p.1 r own_family b own_sent

      -- the record is neither too large nor too long
      record Fits : Type 0 where
        few : nat_lt most_kept (size (kept (docs.document r.doc).meaning (merged r b)).ledger) ≡ false
        short : nat_lt most_bytes (length (form.save (kept (docs.document r.doc).meaning (merged r b)))) ≡ false

      -- the record that a merge saves
      saves : (files : Files) (k : Kept State Op) (text : List ℕ) (e : Effect) → saved docs form files file k text ≡ Ok e → (nat_lt most_kept (size k.ledger) ≡ false) × (nat_lt most_bytes (length (form.save k)) ≡ false)
      saves files k text e h =
          let c = unless_is (nat_lt most_kept (size k.ledger)) (Full (size k.ledger)) (written docs form files file (form.save k) text) e h in
          let d = unless_is (nat_lt most_bytes (length (form.save k))) (Large (length (form.save k))) (Ok (effect (put files file (form.save k)) text)) e c.1 in
          (c.0, d.0)

      fits : (e : Effect) → merge_file docs form (files_of docs form lab) file (kept (docs.document r.doc).meaning r) b ≡ Ok e → Fits
      unfolding kept ledger
      fits e h =
          let k = kept m r in
          let next = kept_absorbed m k b in
          let text = delivered_text (length (taken k.ledger b)) (length next.ledger.waiting) in
          let c = if_none_is (merge_fault (docs.document r.doc) k.ledger b) (saved docs form F file next text) e h in
          let d = saves F next text e c.1 in
          record {
            few = subst (λ (k : Kept State Op). nat_lt most_kept (size k.ledger) ≡ false) (sym absorbed) d.0;
            short = subst (λ (k : Kept State Op). nat_lt most_bytes (length (form.save k)) ≡ false) (sym absorbed) d.1;
          }

  -- a merge that changes nothing

  module _ (lab : Lab Op) (honest : IsHonestLab docs form lab) (file name : List ℕ) (s : Replica Op) (b : Batch Op)
      (found : at lab.here file ≡ Some (thing (replica s))) (found_b : at lab.here name ≡ Some (thing (batch b))) (same : b.doc ≡ s.doc) (still : merged s b ≡ s)
      (few : nat_lt most_kept (size (kept (docs.document s.doc).meaning s).ledger) ≡ false) (short : nat_lt most_bytes (length (form.save (kept (docs.document s.doc).meaning s))) ≡ false) where
    abbrev G : Files
    G = files_of docs form lab

    abbrev q : Meaning State Op
    q = (docs.document s.doc).meaning

    none_taken : length (taken (ledger s) b) ≡ 0
    none_taken =
        let c = counts lab honest file name s b found found_b same in
        let d : length (merged s b).delivered ≡ length s.delivered = ap (λ (r : Replica Op). length r.delivered) still in
        omega (arith, c, d)

    kept_still : kept_absorbed (docs.document s.doc).meaning (kept (docs.document s.doc).meaning s) b ≡ kept (docs.document s.doc).meaning s
    kept_still = sym (absorbed lab honest file name s b found found_b same) ∙ ap (kept q) still

    saves_still : (text : List ℕ) → saved docs form (files_of docs form lab) file (kept (docs.document s.doc).meaning s) text ≡ Ok (effect (files_of docs form lab) text)
    saves_still text =
        let k = kept q s in
        cond-false (nat_lt most_kept (size k.ledger)) (Err (Full (size k.ledger))) (written docs form G file (form.save k) text) few
        ∙ cond-false (nat_lt most_bytes (length (form.save k))) (Err (Large (length (form.save k)))) (Ok (effect (put G file (form.save k)) text)) short
        ∙ ap (λ (f : Files). Ok (effect f text)) (put_there G file (form.save k) (file_at_item docs form sound format lab honest file (thing (replica s)) found))

    merge_still : merge_file docs form (files_of docs form lab) file (kept (docs.document s.doc).meaning s) b ≡ Ok (effect (files_of docs form lab) (delivered_text 0 (length s.waiting)))
    unfolding kept ledger
    merge_still =
        let k = kept q s in
        let next = kept_absorbed q k b in
        let none = fits_in docs sound (all_things lab) honest.honest s (found_in lab file (replica s) found) b (found_in lab name (batch b) found_b) same in
        ap (λ (o : Option Refusal). if_none o (saved docs form G file next (delivered_text (length (taken k.ledger b)) (length next.ledger.waiting)))) none
        ∙ ap (λ (j : ℕ). saved docs form G file next (delivered_text j (length next.ledger.waiting))) none_taken
        ∙ ap (λ (k : Kept State Op). saved docs form G file k (delivered_text 0 (length k.ledger.waiting))) kept_still
        ∙ saves_still (delivered_text 0 (length s.waiting))

    answer_still : answer docs form (files_of docs form lab) (Merge file name) ≡ Ok (effect (files_of docs form lab) (delivered_text 0 (length s.waiting)))
    answer_still =
        read_by lab honest file name s b found found_b
        ∙ ap (λ (text : List ℕ). if_ok (batch_at docs form G name text) (merge_file docs form G file (kept q s))) (doc-kept q s ∙ sym same)
        ∙ ap (λ (x : Result (Batch Op) Refusal). if_ok x (merge_file docs form G file (kept q s))) (read_batch_back docs form sound format lab honest name b found_b)
        ∙ merge_still

  -- a merge that was accepted, and the same line again

  pub twice : (lab : Lab Op) (honest : IsHonestLab docs form lab) (in_script : Bool) (line file name : List ℕ) (r : Replica Op) (b : Batch Op) → command_of line ≡ Some (Merge file name)
      → at lab.here file ≡ Some (thing (replica r)) → at lab.here name ≡ Some (thing (batch b)) → (file_step docs form (files_of docs form lab) in_script line).refused ≡ false
      → file_step docs form (file_step docs form (files_of docs form lab) in_script line).files in_script line
      ≡ record { files = (file_step docs form (files_of docs form lab) in_script line).files; text = delivered_text 0 (length (merged r b).waiting); refused = false }
  twice lab honest in_script line file name r b is found found_b ok =
      let F = files_of docs form lab in
      let e = answered docs form F in_script line (Merge file name) is ok in
      let merges = is_merged lab honest file name r b found found_b e.0 e.2 in
      let s = merged r b in
      let next = with_item lab file (thing (replica s)) in
      let matches : Matches docs form (act docs form lab (Merge file name)) e.0 = accepted docs form sound format lab honest in_script (Merge file name) e.0 e.2 (λ f me schema text q t. absurd (no_new f me schema q)) in
      let acts : act docs form lab (Merge file name) ≡ merge_in docs form lab file r b =
      ap (λ (o : Option (Item Op)). on_replica o (deed lab []) (λ r. on_batch (at lab.here name) (deed lab []) (merge_in docs form lab file r))) found
      ∙ ap (λ (o : Option (Item Op)). on_batch o (deed lab []) (merge_in docs form lab file r)) found_b in
      let honest' : IsHonestLab docs form next = subst (λ (d : Deed Op). IsHonestLab docs form d.lab) acts matches.honest in
      let left : (file_step docs form F in_script line).files ≡ files_of docs form next =
      ap (λ o. o.files) (does docs form F in_script line (Merge file name) is e.0 refl e.2) ∙ matches.files ∙ ap (λ (d : Deed Op). files_of docs form d.lab) acts in
      let room = fits lab honest file name r b found found_b merges.same e.0 merges.merges in
      let doc = doc-merged r b in
      let again' = again lab honest file name r b found found_b merges.same in
      let found' : at next.here file ≡ Some (thing (replica s)) = at_put_same lab.here file (thing (replica s)) in
      let found_b' : at next.here name ≡ Some (thing (batch b)) = at_put_other lab.here file name (thing (replica s)) (other_file lab file name r b found found_b) ∙ found_b in
      let few' : nat_lt most_kept (size (kept (docs.document s.doc).meaning s).ledger) ≡ false = subst (λ (t : List ℕ). nat_lt most_kept (size (kept (docs.document t).meaning s).ledger) ≡ false) (sym doc) room.few in
      let short' : nat_lt most_bytes (length (form.save (kept (docs.document s.doc).meaning s))) ≡ false =
      subst (λ (t : List ℕ). nat_lt most_bytes (length (form.save (kept (docs.document t).meaning s))) ≡ false) (sym doc) room.short in
      let step = does docs form (files_of docs form next) in_script line (Merge file name) is (effect (files_of docs form next) (delivered_text 0 (length s.waiting))) refl
      (answer_still next honest' file name s b found' found_b' (merges.same ∙ sym doc) again' few' short') in
      ap (λ (f : Files). file_step docs form f in_script line) left ∙ step
      ∙ ap (λ (f : Files). record { files = f; text = delivered_text 0 (length s.waiting); refused = false }) (sym left)
    where
      no_new : (f : List ℕ) (me : ℕ) (schema : SchemaName) → Merge file name ≡ New f me schema → ⊥
      no_new f me schema q = cc
