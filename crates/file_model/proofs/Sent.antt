-- Two replicas that send each other all that they have, by lines.
use Rattle.std.proofs.Common.{◌≡◌, ℕ, Bool, true, false, List, [], ◌∷◌, Option, None, Some, Contains, length, map, refl, ap, sym, ◌∙◌, subst}
use Rattle.std.specs.Prelude.{◌||◌}
use Rattle.std.specs.List.{IsDistinct}
use Rattle.std.specs.Str.{bytes_eq}
use Rattle.std.proofs.lemmas.Map.Keys.{IsDistinct-head, IsDistinct-tail}
use Rattle.crdt_laws.specs.declared.small.Entry.{Entry}
use Rattle.replica_model.specs.Family.{batch, replica}
use Rattle.replica_model.specs.Replica.{Replica, Batch, exported, merged}
use Rattle.replica_model.proofs.Merged.{doc-merged}
use Rattle.file_model.specs.declared.command.Command.{Command}
use Rattle.file_model.specs.declared.command.Command.TheVariants.{Export, Merge, Show}
use Rattle.file_model.specs.Document.{Documents, Format}
use Rattle.file_model.specs.Honest.{AreFair, IsFairCommand, IsFairLine, IsHonestLab}
use Rattle.file_model.specs.Lab.{Item, Lab, LabOutcome, act, deed, files_of, lab_run, lab_step, merge_in, on_batch, on_replica, thing, with_item}
use Rattle.file_model.specs.Line.{command_of}
use Rattle.file_model.specs.Named.{Files, at}
use Rattle.file_model.specs.Promises.{AreExchange}
use Rattle.file_model.specs.Sound.{AreSound, IsFormat}
use Rattle.file_model.specs.Step.{Outcome, file_run, file_step}
use Rattle.file_model.specs.Text.{wrote_text}
use Rattle.file_model.proofs.Lines.{line_agrees, run_agrees}
use Rattle.file_model.proofs.Obeyed.{acted, either_false}
use Rattle.file_model.proofs.Places.{at_put_other, at_put_same, bytes_sym}
use Rattle.file_model.proofs.Promised.{exchanged_in}
use Rattle.file_model.proofs.Shown.{show_text, texts_alike}
use Rattle.file_model.proofs.Spelled.{found_in}

-- four lines with these commands
record AreFour (lines : List (List ℕ)) (a b c d : Command) : Type 0 where
  first : List ℕ
  second : List ℕ
  third : List ℕ
  fourth : List ℕ
  all : lines ≡ first ∷ second ∷ third ∷ fourth ∷ []
  first_is : command_of first ≡ Some a
  second_is : command_of second ≡ Some b
  third_is : command_of third ≡ Some c
  fourth_is : command_of fourth ≡ Some d

four : (lines : List (List ℕ)) (a b c d : Command) → map command_of lines ≡ Some a ∷ Some b ∷ Some c ∷ Some d ∷ [] → AreFour lines a b c d
four [] a b c d q = absurd (cc)
four (j ∷ []) a b c d q = absurd (cc)
four (j ∷ (k ∷ [])) a b c d q = absurd (cc)
four (j ∷ (k ∷ (l ∷ []))) a b c d q = absurd (cc)
four (j ∷ (k ∷ (l ∷ (m ∷ [])))) a b c d q = record { first = j; second = k; third = l; fourth = m; all = refl; first_is = cc; second_is = cc; third_is = cc; fourth_is = cc }
four (j ∷ (k ∷ (l ∷ (m ∷ (n ∷ lines))))) a b c d q = absurd (cc)

-- four names of which no two are one
record AreApart (a b c d : List ℕ) : Type 0 where
  ab : bytes_eq a b ≡ false
  ac : bytes_eq a c ≡ false
  ad : bytes_eq a d ≡ false
  bc : bytes_eq b c ≡ false
  bd : bytes_eq b d ≡ false
  cd : bytes_eq c d ≡ false

apart : (a b c d : List ℕ) → IsDistinct bytes_eq (a ∷ b ∷ c ∷ d ∷ []) → AreApart a b c d
apart a b c d h =
    let first = IsDistinct-head bytes_eq a (b ∷ c ∷ d ∷ []) h in
    let rest = IsDistinct-tail bytes_eq a (b ∷ c ∷ d ∷ []) h in
    let second = IsDistinct-head bytes_eq b (c ∷ d ∷ []) rest in
    let third = IsDistinct-head bytes_eq c (d ∷ []) (IsDistinct-tail bytes_eq b (c ∷ d ∷ []) rest) in
    record { ab = first.0; ac = first.1.0; ad = first.1.1.0; bc = second.0; bd = second.1.0; cd = third.0 }

module _ {State Op : Type 0} (docs : Documents State Op) (form : Format State Op) (sound : AreSound docs) (format : IsFormat docs form) where
  -- what a line leaves that is not refused
  step_to : (lab after : Lab Op) → IsHonestLab docs form lab → (line : List ℕ) (command : Command) → command_of line ≡ Some command → IsFairCommand docs form lab true (Some command)
      → (act docs form lab command).lab ≡ after → (lab_step docs form lab true line).refused ≡ false → ((lab_step docs form lab true line).lab ≡ after) × IsHonestLab docs form after
  step_to lab after honest line command is fair acts ok =
      let fair' : IsFairLine docs form lab true line = subst (IsFairCommand docs form lab true) (sym is) fair in
      let left = (acted docs form lab true line command is ok).0 ∙ acts in
      (left, subst (IsHonestLab docs form) left (line_agrees docs form sound format lab honest true line fair').honest)

  export_to : (lab : Lab Op) (file name : List ℕ) (r : Replica Op) → at lab.here file ≡ Some (thing (replica r)) → (act docs form lab (Export file name None)).lab ≡ with_item lab name (thing (batch (exported r None)))
  export_to lab file name r found =
      ap (λ (o : Option (Item Op)). (on_replica o (deed lab []) (λ r. deed (with_item lab name (thing (batch (exported r None)))) (wrote_text (length (exported r None).ops)))).lab) found

  merge_to : (lab : Lab Op) (file name : List ℕ) (r : Replica Op) (b : Batch Op) → at lab.here file ≡ Some (thing (replica r)) → at lab.here name ≡ Some (thing (batch b))
      → (act docs form lab (Merge file name)).lab ≡ with_item lab file (thing (replica (merged r b)))
  merge_to lab file name r b found found_b =
      ap (λ (o : Option (Item Op)). (on_replica o (deed lab []) (λ r. on_batch (at lab.here name) (deed lab []) (merge_in docs form lab file r))).lab) found
      ∙ ap (λ (o : Option (Item Op)). (on_batch o (deed lab []) (merge_in docs form lab file r)).lab) found_b

  module _ (lab : Lab Op) (honest : IsHonestLab docs form lab) (a b sent back : List ℕ) (r s : Replica Op) (found : at lab.here a ≡ Some (thing (replica r))) (found_s : at lab.here b ≡ Some (thing (replica s)))
      (names : AreApart a b sent back) where
    abbrev lab1 : Lab Op
    lab1 = with_item lab sent (thing (batch (exported r None)))

    abbrev lab2 : Lab Op
    lab2 = with_item lab1 back (thing (batch (exported s None)))

    abbrev lab3 : Lab Op
    lab3 = with_item lab2 b (thing (replica (merged s (exported r None))))

    abbrev lab4 : Lab Op
    lab4 = with_item lab3 a (thing (replica (merged r (exported s None))))

    s_in_1 : at lab1.here b ≡ Some (thing (replica s))
    s_in_1 = at_put_other lab.here sent b (thing (batch (exported r None))) names.bc ∙ found_s

    s_in_2 : at lab2.here b ≡ Some (thing (replica s))
    s_in_2 = at_put_other lab1.here back b (thing (batch (exported s None))) names.bd ∙ s_in_1

    sent_in_2 : at lab2.here sent ≡ Some (thing (batch (exported r None)))
    sent_in_2 = at_put_other lab1.here back sent (thing (batch (exported s None))) names.cd ∙ at_put_same lab.here sent (thing (batch (exported r None)))

    r_in_3 : at lab3.here a ≡ Some (thing (replica r))
    r_in_3 =
        at_put_other lab2.here b a (thing (replica (merged s (exported r None)))) names.ab
        ∙ at_put_other lab1.here back a (thing (batch (exported s None))) names.ad ∙ at_put_other lab.here sent a (thing (batch (exported r None))) names.ac ∙ found

    back_in_3 : at lab3.here back ≡ Some (thing (batch (exported s None)))
    back_in_3 = at_put_other lab2.here b back (thing (replica (merged s (exported r None)))) (bytes_sym b back names.bd) ∙ at_put_same lab1.here back (thing (batch (exported s None)))

    r_in_4 : at lab4.here a ≡ Some (thing (replica (merged r (exported s None))))
    r_in_4 = at_put_same lab3.here a (thing (replica (merged r (exported s None))))

    s_in_4 : at lab4.here b ≡ Some (thing (replica (merged s (exported r None))))
    s_in_4 = at_put_other lab3.here a b (thing (replica (merged r (exported s None)))) (bytes_sym a b names.ab) ∙ at_put_same lab2.here b (thing (replica (merged s (exported r None))))

    -- after the four lines

    module _ (j k l i : List ℕ) (j_is : command_of j ≡ Some (Export a sent None)) (k_is : command_of k ≡ Some (Export b back None)) (l_is : command_of l ≡ Some (Merge b sent)) (i_is : command_of i ≡ Some (Merge a back)) where
      abbrev Step : Lab Op → List ℕ → LabOutcome docs form
      Step lab line = lab_step docs form lab true line

      all_fair : AreFair docs form lab (j ∷ k ∷ l ∷ i ∷ [])
      all_fair =
          let o = (Step lab j).lab in
          let p = (Step o k).lab in
          let q = (Step p l).lab in (
            subst (IsFairCommand docs form lab true) (sym j_is) tt,
            (
              subst (IsFairCommand docs form o true) (sym k_is) tt,
              (
                subst (IsFairCommand docs form p true) (sym l_is) tt,
                (
                  subst (IsFairCommand docs form q true) (sym i_is) tt,
                  tt,
                ),
              ),
            ),
          )

      left : (lab_run docs form lab (j ∷ k ∷ l ∷ i ∷ [])).refused ≡ false → ((lab_run docs form lab (j ∷ k ∷ l ∷ i ∷ [])).lab ≡ lab4) × IsHonestLab docs form lab4
      left ok =
          let o = (Step lab j).lab in
          let p = (Step o k).lab in
          let q = (Step p l).lab in
          let x = either_false (Step lab j).refused ((Step o k).refused || ((Step p l).refused || ((Step q i).refused || false))) ok in
          let y = either_false (Step o k).refused ((Step p l).refused || ((Step q i).refused || false)) x.1 in
          let z = either_false (Step p l).refused ((Step q i).refused || false) y.1 in
          let w = either_false (Step q i).refused false z.1 in
          let one = step_to lab lab1 honest j (Export a sent None) j_is tt (export_to lab a sent r found) x.0 in
          let two = step_to lab1 lab2 one.1 k (Export b back None) k_is tt (export_to lab1 b back s s_in_1) (subst (λ (g : Lab Op). (Step g k).refused ≡ false) one.0 y.0) in
          let to_two : p ≡ lab2 = ap (λ (g : Lab Op). (Step g k).lab) one.0 ∙ two.0 in
          let three = step_to lab2 lab3 two.1 l (Merge b sent) l_is tt (merge_to lab2 b sent s (exported r None) s_in_2 sent_in_2) (subst (λ (g : Lab Op). (Step g l).refused ≡ false) to_two z.0) in
          let to_three : q ≡ lab3 = ap (λ (g : Lab Op). (Step g l).lab) to_two ∙ three.0 in
          let four' = step_to lab3 lab4 three.1 i (Merge a back) i_is tt (merge_to lab3 a back r (exported s None) r_in_3 back_in_3) (subst (λ (g : Lab Op). (Step g i).refused ≡ false) to_three w.0) in
          (ap (λ (g : Lab Op). (Step g i).lab) to_three ∙ four'.0, four'.1)

      alike : s.doc ≡ r.doc → r.waiting ≡ [] → s.waiting ≡ [] → (in_script : Bool) (show_a show_b : List ℕ) → command_of show_a ≡ Some (Show a) → command_of show_b ≡ Some (Show b)
          → (file_run docs form (files_of docs form lab) (j ∷ k ∷ l ∷ i ∷ [])).refused ≡ false
          → (file_step docs form (file_run docs form (files_of docs form lab) (j ∷ k ∷ l ∷ i ∷ [])).files in_script show_a).text
          ≡ (file_step docs form (file_run docs form (files_of docs form lab) (j ∷ k ∷ l ∷ i ∷ [])).files in_script show_b).text
      alike same none_r none_s in_script show_a show_b a_is b_is ok =
          let lines = j ∷ k ∷ l ∷ i ∷ [] in
          let agrees = (run_agrees docs form sound format lines lab honest all_fair).same in
          let ok' : (lab_run docs form lab lines).refused ≡ false = sym (ap (λ (o : Outcome docs form). o.refused) agrees) ∙ ok in
          let end = left ok' in
          let files : (file_run docs form (files_of docs form lab) lines).files ≡ files_of docs form lab4 = ap (λ (o : Outcome docs form). o.files) agrees ∙ ap (files_of docs form) end.0 in
          let r' = merged r (exported s None) in
          let s' = merged s (exported r None) in
          let sets : r'.delivered ≡ s'.delivered =
          exchanged_in docs sound form lab honest r (found_in lab a (replica r) found) s (found_in lab b (replica s) found_s) same None None none_r none_s tt tt in
          let docs_same : s'.doc ≡ r'.doc = doc-merged s (exported r None) ∙ same ∙ sym (doc-merged r (exported s None)) in
          ap (λ (f : Files). (file_step docs form f in_script show_a).text) files
          ∙ show_text docs form sound format lab4 end.1 in_script show_a a r' a_is r_in_4
          ∙ texts_alike docs form sound format lab4 end.1 r' s' (found_in lab4 a (replica r') r_in_4) (found_in lab4 b (replica s') s_in_4) docs_same
          (λ e. (λ c. subst (λ (l : List (Entry Op)). Contains l e) sets c, λ c. subst (λ (l : List (Entry Op)). Contains l e) (sym sets) c))
          ∙ sym (show_text docs form sound format lab4 end.1 in_script show_b b s' b_is s_in_4)
          ∙ sym (ap (λ (f : Files). (file_step docs form f in_script show_b).text) files)

  pub exchange_shows_alike : (lab : Lab Op) → IsHonestLab docs form lab → (a b sent back : List ℕ) (lines : List (List ℕ)) (r s : Replica Op) → AreExchange a b sent back lines
      → at lab.here a ≡ Some (thing (replica r)) → at lab.here b ≡ Some (thing (replica s)) → s.doc ≡ r.doc → r.waiting ≡ [] → s.waiting ≡ []
      → (in_script : Bool) (show_a show_b : List ℕ) → command_of show_a ≡ Some (Show a) → command_of show_b ≡ Some (Show b) → (file_run docs form (files_of docs form lab) lines).refused ≡ false
      → (file_step docs form (file_run docs form (files_of docs form lab) lines).files in_script show_a).text ≡ (file_step docs form (file_run docs form (files_of docs form lab) lines).files in_script show_b).text
  exchange_shows_alike lab honest a b sent back lines r s exchange found found_s same none_r none_s in_script show_a show_b a_is b_is ok =
      let f = four lines (Export a sent None) (Export b back None) (Merge b sent) (Merge a back) exchange.commands in
      let Run : List (List ℕ) → Outcome docs form = λ ls. file_run docs form (files_of docs form lab) ls in
      subst (λ (ls : List (List ℕ)). (file_step docs form (Run ls).files in_script show_a).text ≡ (file_step docs form (Run ls).files in_script show_b).text) (sym f.all)
      (alike lab honest a b sent back r s found found_s (apart a b sent back exchange.names) f.first f.second f.third f.fourth f.first_is f.second_is f.third_is f.fourth_is same none_r none_s
      in_script show_a show_b a_is b_is (subst (λ (ls : List (List ℕ)). (Run ls).refused ≡ false) f.all ok))
