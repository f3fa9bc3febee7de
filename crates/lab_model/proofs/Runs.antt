-- Fair lines keep a lab honest.
use Rattle.std.proofs.Common.{◌≡◌, true, ℕ, ◌+◌, ◌^◌, ◌<◌, ◌≤◌, List, [], ◌∷◌, ◌++◌, Option, None, Some, Result, Ok, Err, append_assoc, refl, ap, sym, ◌∙◌, subst, arith, Contains, length, inl, inr, ◌⊎◌, ◌↔◌, ◌≢◌}
use Rattle.std.specs.List.{All}
use Rattle.std.proofs.lemmas.Bool.{cases_eq, false≢true}
use Rattle.std.proofs.lemmas.List.{append-nil}
use Rattle.std.proofs.lemmas.List.Elements.{All-contains, All-nil, Contains-append_left}
use Rattle.vector_clock.specs.declared.stamp.Stamp.{Stamp}
use Rattle.vector_clock.specs.Clock.{count, max_members, max_seq}
use Rattle.crdt_laws.specs.declared.small.Entry.{Entry}
use Rattle.crdt_laws.specs.Entry.{entry}
use Rattle.crdt_laws.specs.Present.{document}
use Rattle.crdt_laws.specs.Sets.{IsClosed}
use Rattle.crdt_laws.specs.Tower.{IsIssued, IsStampOf, IsWithin, Meaning}
use Rattle.crdt_laws.proofs.Members.{Contains-cases}
use Rattle.replica_model.specs.Family.{MayMerge, Thing, replica, batch, replicas, operations}
use Rattle.replica_model.specs.Replica.{Replica, Batch, edited, exported, members, merged, new_replica, next_stamp, version}
use Rattle.replica_model.proofs.Edits.{doc-edited, next_stamp_is}
use Rattle.replica_model.proofs.Families.{doc-new_replica, in_family_edited, in_family_exported_last, in_family_exported_over, in_family_joined, in_family_merged, may_edit, may_merge, replica_inside, sound_at}
use Rattle.replica_model.proofs.Merged.{doc-merged}
use Rattle.replica_model.proofs.Names.{all_from_contains}
use Rattle.replica_model.proofs.Things.{in_split, split_has, split_it}
use Rattle.replica_model.proofs.Told.{delivered_alike}
use Rattle.replica_model.proofs.Versions.{count-with_other, count-with_own, length-version, version_below}
use Rattle.forgetting_model.specs.Truth.{IsTrueFamily}
use Rattle.forgetting_model.proofs.Steps.{true_edited, true_empty, true_exported_last, true_exported_over, true_joined, true_merged}
use Rattle.lab_model.specs.declared.command.Command.{Command}
use Rattle.lab_model.specs.declared.command.Command.TheVariants.{New, Edit, Show, Export, Merge, Play, Check}
use Rattle.lab_model.specs.declared.command.Verb.{Verb}
use Rattle.lab_model.specs.declared.refusal.Refusal.{Refusal}
use Rattle.lab_model.specs.Honest.{AreFair, CountAtMost, MakesValid, IsFairCommand, IsHonestLab, doc_of, things}
use Rattle.lab_model.specs.Lab.{Effect, Lab, act, act_on, edit_under, effect, export_under, lab_run, lab_step, merge_under, new_under, outcome_of, pair_members, pair_text, show_under, thing_at, with_thing}
use Rattle.lab_model.specs.Text.{document_text}
use Rattle.lab_model.specs.Line.{command_of}
use Rattle.lab_model.proofs.Commands.{IsReadable, command_readable}
use Rattle.lab_model.proofs.Places.{Stands, distinct_with, none_distinct, stands, stands_last}

-- no clock of an operation counts more than k
abbrev pub Counts : {Op : Type 0} → ℕ → List (Thing Op) → Type 0
Counts {Op} k ts = (e : Entry Op) → Contains (operations ts) e → (i : ℕ) → count e.stamp.clock i ≤ k

pub record Keeps {State Op : Type 0} (m : Meaning State Op) (k : ℕ) (lab : Lab Op) : Type 0 where
  pub honest : IsHonestLab m lab
  pub counts : Counts k (things lab)

doc-exported : {Op : Type 0} (r : Replica Op) (to : Option ℕ) → (exported r to).doc ≡ r.doc
unfolding exported
doc-exported r to = refl

-- the operations of a version and one more
pub next_below : {Op : Type 0} (r : Replica Op) (k : ℕ) → r.me < max_members → ((e : Entry Op) → Contains r.delivered e → (i : ℕ) → count e.stamp.clock i ≤ k)
    → (i : ℕ) → count (next_stamp r).clock i ≤ k + 1
next_below r k within h i =
    let v = version (members r) r.delivered in
    let wide = length-version (members r) r.delivered in
    let own : count v r.me ≤ k = version_below (members r) r.delivered r.me k (λ e c. h e c r.me) in
    elim (cases_eq i r.me) [
      | inl q ↦
          (let a = count-with_own v r.me (count v r.me + 1) wide within in
          let b : count (next_stamp r).clock i ≡ count (next_stamp r).clock r.me = ap (λ (j : ℕ). count (next_stamp r).clock j) q in
          omega (arith, a))
      | inr d ↦
          (let a = count-with_other v r.me (count v r.me + 1) i d in
          let b : count v i ≤ k = version_below (members r) r.delivered i k (λ e c. h e c i) in
          omega (arith, a))
    ]

module _ {State Op : Type 0} (m : Meaning State Op) (k : ℕ) (lab : Lab Op) where
  -- nothing changes
  stay : Keeps m k lab → Keeps m (k + 1) lab
  stay old = record { honest = old.honest; counts = λ e c i. let h = old.counts e c i in omega (arith, h) }

  -- a thing is put under a name
  put : (name : List ℕ) (s : Thing Op) (after : List (Thing Op)) → things (with_thing lab name s) ≡ after
      → ((t : Thing Op) → Contains after t → (s ≡ t) ⊎ Contains (things lab) t)
      → IsHonestLab m lab → doc_of s ≡ pair_text → IsTrueFamily m pair_members after → Counts k after → Keeps m k (with_thing lab name s)
  put name s after is among honest doc family counts = record {
    honest = record {
      names = distinct_with lab name s honest.names;
      document = all_from_contains (λ (t : Thing Op). doc_of t ≡ pair_text) (things (with_thing lab name s)) (λ t c.
          elim (among t (subst (λ (l : List (Thing Op)). Contains l t) is c)) [
            | inl q ↦ ap doc_of (sym q) ∙ doc
            | inr i ↦ All-contains (λ (t : Thing Op). doc_of t ≡ pair_text) (things lab) t honest.document i
          ]);
      family = subst (IsTrueFamily m pair_members) (sym is) family;
    };
    counts = subst (Counts k) (sym is) counts;
  }

  among_place : (name : List ℕ) (old s : Thing Op) (place : Stands lab name old) (t : Thing Op) → Contains (place.front ++ s ∷ place.back) t → (s ≡ t) ⊎ Contains (things lab) t
  among_place name old s place t c =
      elim (in_split place.front place.back s t c) [
        | inl q ↦ inl q
        | inr i ↦ inr (subst (λ (l : List (Thing Op)). Contains l t) (sym place.now) (split_has place.front place.back old t i))
      ]

  among_last : (s t : Thing Op) → Contains (things lab ++ s ∷ []) t → (s ≡ t) ⊎ Contains (things lab) t
  among_last s t c =
      elim (in_split (things lab) [] s t c) [
        | inl q ↦ inl q
        | inr i ↦ inr (subst (λ (l : List (Thing Op)). Contains l t) (append-nil (things lab)) i)
      ]

  found_in : (name : List ℕ) (t : Thing Op) → thing_at lab name ≡ Some t → Contains (things lab) t
  found_in name t h =
      let place = stands lab name t h in
      subst (λ (l : List (Thing Op)). Contains l t) (sym place.now) (split_it place.front place.back t)

  doc_at : IsHonestLab m lab → (name : List ℕ) (t : Thing Op) → thing_at lab name ≡ Some t → doc_of t ≡ pair_text
  doc_at honest name t h = All-contains (λ (t : Thing Op). doc_of t ≡ pair_text) (things lab) t honest.document (found_in name t h)

-- each command

module _ {State Op : Type 0} (m : Meaning State Op) (made : Verb → ℕ → Op)
    (valid : (v : Verb) (x : ℕ) → x < 2 ^ 64 → (p : Stamp) → IsStampOf pair_members p → IsWithin p → m.valid p (made v x))
    (k : ℕ) (room : k + 1 ≤ max_seq) (lab : Lab Op) (old : Keeps m k lab) where
  abbrev Goes : Result (Effect Op) Refusal → Type 0
  Goes r = Keeps m (k + 1) (outcome_of m made lab r).lab

  stays : Keeps m (k + 1) lab
  stays = stay m k lab old

  more : (ts : List (Thing Op)) → ((e : Entry Op) → Contains (operations ts) e → Contains (operations (things lab)) e) → Counts (k + 1) ts
  more ts part e c i = let h = old.counts e (part e c) i in omega (arith, h)

  new_goes : (file : List ℕ) (member : ℕ) (found : Option (Thing Op)) → thing_at lab file ≡ found → member < 2
      → ((e : Effect Op) → new_under m made lab file member found ≡ Ok e → All (λ r. r.me ≢ member) (replicas (things lab)))
      → Goes (new_under m made lab file member found)
  new_goes file member None at h fair =
      let s : Thing Op = replica (new_replica pair_text member pair_members) in
      let none = fair (record { lab = _; text = _ }) refl in
      let family = old.honest.family in
      put m (k + 1) lab file s (things lab ++ s ∷ []) (stands_last lab file s at) (among_last m (k + 1) lab s) old.honest
      (doc-new_replica Op pair_text member pair_members) (true_joined m pair_members (things lab) pair_text member family (omega arith) h none)
      (more (things lab ++ s ∷ []) (in_family_joined m pair_members (things lab) pair_text member family.honest h none))
  new_goes file member (Some (replica r)) at h fair = stays
  new_goes file member (Some (batch b)) at h fair = stays

  edit_replica : (file : List ℕ) (op : Op) (r : Replica Op) → thing_at lab file ≡ Some (replica r)
      → ((p : Stamp) → IsStampOf pair_members p → IsWithin p → m.valid p op) → Keeps m (k + 1) (with_thing lab file (replica (edited r op)))
  edit_replica file op r at fits =
      let place = stands lab file (replica r) at in
      let xs = place.front in
      let ys = place.back in
      let all = xs ++ replica r ∷ ys in
      let family : IsTrueFamily m pair_members all = subst (IsTrueFamily m pair_members) place.now old.honest.family in
      let counts : Counts k all = subst (Counts k) place.now old.counts in
      let here = split_it xs ys (replica r) in
      let few : pair_members ≤ max_members = omega arith in
      let may = may_edit m pair_members all family.honest few r here in
      let within : r.me < max_members = (let l = may.sound.member in omega arith) in
      let next = next_below r k within (λ e c. counts e (replica_inside m pair_members all family.honest r here e (Contains-append_left r.delivered r.waiting e c))) in
      let limit : IsWithin (next_stamp r) = record { each = λ i. let h = next i in omega (arith, room) } in
      let stamp = next_stamp_is (operations all) pair_members r may limit in
      let issued : IsIssued m pair_members (next_stamp r) op = record { stamp = stamp; valid = fits (next_stamp r) stamp limit } in
      let counts' : Counts (k + 1) (xs ++ replica (edited r op) ∷ ys) = λ e c i.
      elim (Contains-cases (entry (next_stamp r) op) (operations all) e (in_family_edited m pair_members xs ys r family.honest few op e c)) [
        | inl q ↦ subst (λ (z : Entry Op). count z.stamp.clock i ≤ k + 1) q (next i)
        | inr j ↦ (let h = counts e j i in omega (arith, h))
      ] in
      put m (k + 1) lab file (replica (edited r op)) (xs ++ replica (edited r op) ∷ ys) (place.then' (replica (edited r op)))
      (among_place m (k + 1) lab file (replica r) (replica (edited r op)) place) old.honest
      (doc-edited r op ∙ doc_at m k lab old.honest file (replica r) at)
      (true_edited m pair_members xs ys r family op limit issued.valid) counts'

  edit_goes : (file : List ℕ) (op : Op) (found : Option (Thing Op)) → thing_at lab file ≡ found
      → ((p : Stamp) → IsStampOf pair_members p → IsWithin p → m.valid p op) → Goes (edit_under m made lab file op found)
  edit_goes file op None at fits = stays
  edit_goes file op (Some (replica r)) at fits = edit_replica file op r at fits
  edit_goes file op (Some (batch b)) at fits = stays

  show_goes : (file : List ℕ) (found : Option (Thing Op)) → Goes (show_under m made lab file found)
  show_goes file None = stays
  show_goes file (Some (replica r)) = stays
  show_goes file (Some (batch b)) = stays

  export_new : (name : List ℕ) (r : Replica Op) → Contains (things lab) (replica r) → doc_of (replica r) ≡ pair_text → thing_at lab name ≡ None
      → Keeps m (k + 1) (with_thing lab name (batch (exported r None)))
  export_new name r here doc at =
      let s : Thing Op = batch (exported r None) in
      let family = old.honest.family in
      put m (k + 1) lab name s (things lab ++ s ∷ []) (stands_last lab name s at) (among_last m (k + 1) lab s) old.honest
      (doc-exported r None ∙ doc) (true_exported_last m pair_members (things lab) r None family here)
      (more (things lab ++ s ∷ []) (in_family_exported_last m pair_members (things lab) r None family.honest here))

  export_over : (name : List ℕ) (r : Replica Op) (b : Batch Op) → Contains (things lab) (replica r) → doc_of (replica r) ≡ pair_text → thing_at lab name ≡ Some (batch b)
      → Keeps m (k + 1) (with_thing lab name (batch (exported r None)))
  export_over name r b there doc at =
      let s : Thing Op = batch (exported r None) in
      let place = stands lab name (batch b) at in
      let xs = place.front in
      let ys = place.back in
      let all = xs ++ batch b ∷ ys in
      let family : IsTrueFamily m pair_members all = subst (IsTrueFamily m pair_members) place.now old.honest.family in
      let here : Contains all (replica r) = subst (λ (l : List (Thing Op)). Contains l (replica r)) place.now there in
      let counts : Counts k all = subst (Counts k) place.now old.counts in
      put m (k + 1) lab name s (xs ++ s ∷ ys) (place.then' s) (among_place m (k + 1) lab name (batch b) s place) old.honest
      (doc-exported r None ∙ doc) (true_exported_over m pair_members xs ys r b None family here)
      (λ e c i. let h = counts e (in_family_exported_over m pair_members xs ys r None b family.honest here e c) i in omega (arith, h))

  export_goes : (file name : List ℕ) (found there : Option (Thing Op)) → thing_at lab file ≡ found → thing_at lab name ≡ there
      → Goes (export_under m made lab file name found there)
  export_goes file name (Some (batch b)) there at at' = stays
  export_goes file name None None at at' = stays
  export_goes file name None (Some (replica r)) at at' = stays
  export_goes file name None (Some (batch b)) at at' = stays
  export_goes file name (Some (replica r)) (Some (replica s)) at at' = stays
  export_goes file name (Some (replica r)) None at at' =
      export_new name r (found_in m k lab file (replica r) at) (doc_at m k lab old.honest file (replica r) at) at'
  export_goes file name (Some (replica r)) (Some (batch b)) at at' =
      export_over name r b (found_in m k lab file (replica r) at) (doc_at m k lab old.honest file (replica r) at) at'

  merge_replica : (file name : List ℕ) (r : Replica Op) (b : Batch Op) → thing_at lab file ≡ Some (replica r) → Contains (things lab) (batch b)
      → Keeps m (k + 1) (with_thing lab file (replica (merged r b)))
  merge_replica file name r b at there =
      let s : Thing Op = replica (merged r b) in
      let place = stands lab file (replica r) at in
      let xs = place.front in
      let ys = place.back in
      let all = xs ++ replica r ∷ ys in
      let family : IsTrueFamily m pair_members all = subst (IsTrueFamily m pair_members) place.now old.honest.family in
      let here : Contains all (batch b) = subst (λ (l : List (Thing Op)). Contains l (batch b)) place.now there in
      let counts : Counts k all = subst (Counts k) place.now old.counts in
      put m (k + 1) lab file s (xs ++ s ∷ ys) (place.then' s) (among_place m (k + 1) lab file (replica r) s place) old.honest
      (doc-merged r b ∙ doc_at m k lab old.honest file (replica r) at)
      (true_merged m pair_members xs ys r family b here)
      (λ e c i. let h = counts e (in_family_merged m pair_members xs ys r family.honest b here e c) i in omega (arith, h))

  merge_goes : (file name : List ℕ) (found there : Option (Thing Op)) → thing_at lab file ≡ found → thing_at lab name ≡ there
      → Goes (merge_under m made lab file name found there)
  merge_goes file name (Some (batch b)) there at at' = stays
  merge_goes file name None None at at' = stays
  merge_goes file name None (Some (replica r)) at at' = stays
  merge_goes file name None (Some (batch b)) at at' = stays
  merge_goes file name (Some (replica r)) (Some (replica s)) at at' = stays
  merge_goes file name (Some (replica r)) None at at' = stays
  merge_goes file name (Some (replica r)) (Some (batch b)) at at' = merge_replica file name r b at (found_in m k lab name (batch b) at')

  command_goes : (command : Option Command) → IsReadable command → IsFairCommand m made lab command → Goes (act_on m made lab command)
  command_goes None h fair = stays
  command_goes (Some (New file member)) h fair = new_goes file member (thing_at lab file) refl h fair
  command_goes (Some (Edit file verb amount)) h fair = edit_goes file (made verb amount) (thing_at lab file) refl (valid verb amount h)
  command_goes (Some (Show file)) h fair = show_goes file (thing_at lab file)
  command_goes (Some (Export file name)) h fair = export_goes file name (thing_at lab file) (thing_at lab name) refl refl
  command_goes (Some (Merge file name)) h fair = merge_goes file name (thing_at lab file) (thing_at lab name) refl refl
  command_goes (Some Play) h fair = stays
  command_goes (Some (Check table)) h fair = stays

  pub step_goes : (line : List ℕ) → IsFairCommand m made lab (command_of line) → Keeps m (k + 1) (lab_step m made lab line).lab
  unfolding lab_step
  step_goes line fair = command_goes (command_of line) (command_readable line) fair

-- whole runs

pub lab_run-append : {State Op : Type 0} (m : Meaning State Op) (made : Verb → ℕ → Op) (lab : Lab Op) (first rest : List (List ℕ))
    → (lab_run m made lab (first ++ rest)).lab ≡ (lab_run m made (lab_run m made lab first).lab rest).lab
lab_run-append m made lab [] rest = refl
lab_run-append m made lab (line ∷ first) rest = lab_run-append m made (lab_step m made lab line).lab first rest

pub text_run-append : {State Op : Type 0} (m : Meaning State Op) (made : Verb → ℕ → Op) (lab : Lab Op) (first rest : List (List ℕ))
    → (lab_run m made lab (first ++ rest)).text ≡ (lab_run m made lab first).text ++ (lab_run m made (lab_run m made lab first).lab rest).text
text_run-append m made lab [] rest = refl
text_run-append m made lab (line ∷ first) rest =
    let step = lab_step m made lab line in
    ap (λ (t : List ℕ). step.text ++ t) (text_run-append m made step.lab first rest)
    ∙ sym (append_assoc step.text (lab_run m made step.lab first).text (lab_run m made (lab_run m made step.lab first).lab rest).text)

module _ {State Op : Type 0} (m : Meaning State Op) (made : Verb → ℕ → Op)
    (valid : (v : Verb) (x : ℕ) → x < 2 ^ 64 → (p : Stamp) → IsStampOf pair_members p → IsWithin p → m.valid p (made v x)) where
  pub run_goes : (lines : List (List ℕ)) (lab : Lab Op) (k : ℕ) → Keeps m k lab → AreFair m made lab lines → k + length lines ≤ max_seq
      → Keeps m (k + length lines) (lab_run m made lab lines).lab
  run_goes [] lab k old fair room = subst (λ (j : ℕ). Keeps m j lab) (let q : k ≡ k + 0 = omega arith in q) old
  run_goes (line ∷ lines) lab k old fair room =
      let first = step_goes m made valid k (omega arith) lab old line fair.0 in
      let rest = run_goes lines (lab_step m made lab line).lab (k + 1) first fair.1 (omega arith) in
      let q : k + 1 + length lines ≡ k + length (line ∷ lines) = omega arith in
      subst (λ (j : ℕ). Keeps m j (lab_run m made lab (line ∷ lines)).lab) q rest

-- the same for the words of clauses

module _ {State Op : Type 0} (m : Meaning State Op) (made : Verb → ℕ → Op) (valid : MakesValid m made) (lines : List (List ℕ)) where
  pub run_keeps : (lab : Lab Op) (k : ℕ) → IsHonestLab m lab → CountAtMost k lab → AreFair m made lab lines → k + length lines ≤ max_seq
      → Keeps m (k + length lines) (lab_run m made lab lines).lab
  run_keeps lab k honest counts fair room =
      let start : Keeps m k lab = record {
        honest = honest;
        counts = λ e c. All-contains (λ (e : Entry Op). (i : ℕ) → count e.stamp.clock i ≤ k) (operations (things lab)) e counts c;
      } in
      run_goes m made (λ v x h p stamp limit. valid.each v x p h stamp limit) lines lab k start fair room

  pub run_counts : (lab : Lab Op) (k : ℕ) → Keeps m k lab → CountAtMost k lab
  run_counts lab k keeps = all_from_contains (λ (e : Entry Op). (i : ℕ) → count e.stamp.clock i ≤ k) (operations (things lab)) keeps.counts

  empty_honest : IsHonestLab m []
  empty_honest = record {
    names = none_distinct;
    document = All-nil (λ (t : Thing Op). doc_of t ≡ pair_text);
    family = true_empty m pair_members;
  }

  pub run_from_empty : AreFair m made [] lines → length lines ≤ max_seq → Keeps m (0 + length lines) (lab_run m made [] lines).lab
  run_from_empty fair room = run_keeps [] 0 empty_honest (All-nil (λ (e : Entry Op). (i : ℕ) → count e.stamp.clock i ≤ 0)) fair (omega arith)

module _ {State Op : Type 0} (m : Meaning State Op) (lab : Lab Op) (honest : IsHonestLab m lab) where
  pub replica_there : (name : List ℕ) (r : Replica Op) → thing_at lab name ≡ Some (replica r) → Contains (things lab) (replica r)
  replica_there name r h = found_in m 0 lab name (replica r) h

  pub batch_there : (name : List ℕ) (b : Batch Op) → thing_at lab name ≡ Some (batch b) → Contains (things lab) (batch b)
  batch_there name b h = found_in m 0 lab name (batch b) h

  pub closed_at : (name : List ℕ) (r : Replica Op) → thing_at lab name ≡ Some (replica r) → IsClosed r.delivered
  closed_at name r h = (sound_at m pair_members (things lab) honest.family.honest r (replica_there name r h)).closed

  pub meets_at : (name other : List ℕ) (r : Replica Op) (b : Batch Op) → thing_at lab name ≡ Some (replica r) → thing_at lab other ≡ Some (batch b) → MayMerge r b
  meets_at name other r b h k = may_merge m pair_members (things lab) honest.family.honest r b (replica_there name r h) (batch_there other b k)

  -- the same operations print the same text
  pub shown_alike : (made : Verb → ℕ → Op) (name other : List ℕ) (r s : Replica Op) → thing_at lab name ≡ Some (replica r) → thing_at lab other ≡ Some (replica s)
      → ((e : Entry Op) → Contains r.delivered e ↔ Contains s.delivered e) → act m made lab (Show name) ≡ act m made lab (Show other)
  shown_alike made name other r s h k same =
      let q = delivered_alike m pair_members (things lab) honest.family.honest r s (replica_there name r h) (replica_there other s k) same in
      ap (show_under m made lab name) h
      ∙ ap (λ (l : List (Entry Op)). Ok (effect lab (document_text (m.show (document m l))))) q
      ∙ sym (ap (show_under m made lab other) k)

-- a refusal changes nothing

refused_result : {State Op : Type 0} (m : Meaning State Op) (made : Verb → ℕ → Op) (lab : Lab Op) (r : Result (Effect Op) Refusal)
    → (outcome_of m made lab r).refused ≡ true → (outcome_of m made lab r).lab ≡ lab
refused_result m made lab (Ok e) h = absurd (false≢true h)
refused_result m made lab (Err cause) h = refl

pub refused_stays : {State Op : Type 0} (m : Meaning State Op) (made : Verb → ℕ → Op) (lab : Lab Op) (line : List ℕ)
    → (lab_step m made lab line).refused ≡ true → (lab_step m made lab line).lab ≡ lab
unfolding lab_step
refused_stays m made lab line h = refused_result m made lab (act_on m made lab (command_of line)) h

-- the next stamp of a replica of a lab is one of the document, within the limit
pub next_stamp_at : {State Op : Type 0} (m : Meaning State Op) (k : ℕ) (lab : Lab Op) → Keeps m k lab → k + 1 ≤ max_seq
    → (name : List ℕ) (r : Replica Op) → thing_at lab name ≡ Some (replica r) → IsStampOf pair_members (next_stamp r) × IsWithin (next_stamp r)
next_stamp_at m k lab keeps room name r h =
    let ts = things lab in
    let family = keeps.honest.family.honest in
    let here = replica_there m lab keeps.honest name r h in
    let few : pair_members ≤ max_members = omega arith in
    let may = may_edit m pair_members ts family few r here in
    let within : r.me < max_members = (let l = may.sound.member in omega arith) in
    let next = next_below r k within (λ e c. keeps.counts e (replica_inside m pair_members ts family r here e (Contains-append_left r.delivered r.waiting e c))) in
    let limit : IsWithin (next_stamp r) = record { each = λ i. let b = next i in omega (arith, room) } in
    (next_stamp_is (operations ts) pair_members r may limit, limit)
