-- How calls end.
use Rattle.std.proofs.Common.{◌≡◌, ◌⊎◌, inl, inr, subst, ℕ, ◌≤◌, ◌<◌, Bool, true, false, List, Option, Some, refl, sym, arith, length}
use Rattle.std.specs.Prelude.{◌==◌, None, IfOk, IsErrOf, IsOk, OnErr, Result, Ok, Err}
use Rattle.lab_store.specs.Stream.{Appends, AppendsPart}
use Rattle.lab_model.specs.Line.{command_of_words, lines_of}
use Rattle.lab_model.specs.declared.command.Command.{Command}
use Rattle.lab_model.specs.declared.command.Command.TheVariants.{New, Edit, Show, Export, Merge, Play, Check}
use Rattle.lab_model.specs.Text.{refused_text}
use Rattle.lab_model.specs.declared.refusal.Refusal.TheVariants.{Unbuilt}
use Rattle.replica_cmd.specs.declared.stop.Stop.{Stop}
use Rattle.replica_cmd.specs.declared.stop.Stop.TheVariants as stop
use Rattle.lab_store.specs.Store.{IsLonger, file_at}
use Rattle.replica_cmd.specs.Check.{PutsFinding, PutsPart}
use Rattle.replica_cmd.specs.Reading.{most_bytes, most_file_bytes}
use Rattle.replica_cmd.specs.Run.{run_text, AreFairLines, ArePlayed, ChecksTable, Does, Ends, IsRun, PlaysScript, Puts, PutsTexts, RefusesWords}
use Rattle.replica_cmd.specs.Status.{status_of}
use Rattle.replica_cmd.proofs.Looping.{nothing_put}

-- which statuses are which

abbrev Is : ℕ → ℕ → Type 0
Is s a = s ≡ a

abbrev One : ℕ → ℕ → ℕ → Type 0
One s a b = (s ≡ a) ⊎ (s ≡ b)

not_0_3_6 : One 0 3 6 → ⊥
not_0_3_6 (inl e) = omega arith
not_0_3_6 (inr e) = omega arith

not_0_4_7 : One 0 4 7 → ⊥
not_0_4_7 (inl e) = omega arith
not_0_4_7 (inr e) = omega arith

not_2_3_6 : One 2 3 6 → ⊥
not_2_3_6 (inl e) = omega arith
not_2_3_6 (inr e) = omega arith

not_2_4_7 : One 2 4 7 → ⊥
not_2_4_7 (inl e) = omega arith
not_2_4_7 (inr e) = omega arith

not_3_0_2 : One 3 0 2 → ⊥
not_3_0_2 (inl e) = omega arith
not_3_0_2 (inr e) = omega arith

not_3_4_7 : One 3 4 7 → ⊥
not_3_4_7 (inl e) = omega arith
not_3_4_7 (inr e) = omega arith

not_4_0_2 : One 4 0 2 → ⊥
not_4_0_2 (inl e) = omega arith
not_4_0_2 (inr e) = omega arith

not_4_3_6 : One 4 3 6 → ⊥
not_4_3_6 (inl e) = omega arith
not_4_3_6 (inr e) = omega arith

not_6_0_2 : One 6 0 2 → ⊥
not_6_0_2 (inl e) = omega arith
not_6_0_2 (inr e) = omega arith

not_6_4_7 : One 6 4 7 → ⊥
not_6_4_7 (inl e) = omega arith
not_6_4_7 (inr e) = omega arith

not_7_0_2 : One 7 0 2 → ⊥
not_7_0_2 (inl e) = omega arith
not_7_0_2 (inr e) = omega arith

not_7_3_6 : One 7 3 6 → ⊥
not_7_3_6 (inl e) = omega arith
not_7_3_6 (inr e) = omega arith

not_run_3 : Ends 3 ⊎ Is 3 6 → ⊥
not_run_3 (inl e) = not_3_0_2 e
not_run_3 (inr e) = omega arith

not_run_4 : Ends 4 ⊎ Is 4 6 → ⊥
not_run_4 (inl e) = not_4_0_2 e
not_run_4 (inr e) = omega arith

not_run_7 : Ends 7 ⊎ Is 7 6 → ⊥
not_run_7 (inl e) = not_7_0_2 e
not_run_7 (inr e) = omega arith

not_long_0 : Is 0 7 → ⊥
not_long_0 e = omega arith

not_long_2 : Is 2 7 → ⊥
not_long_2 e = omega arith

not_long_3 : Is 3 7 → ⊥
not_long_3 e = omega arith

not_long_4 : Is 4 7 → ⊥
not_long_4 e = omega arith

not_long_6 : Is 6 7 → ⊥
not_long_6 e = omega arith

abbrev stopped : Stop → Result Bool Stop
stopped e = Err e

source_others : (stopped stop.Source ≡ stopped stop.Sink) ⊎ (stopped stop.Source ≡ stopped stop.NoMemory) → ⊥
source_others (inl e) = cc
source_others (inr e) = cc

store_others : (stopped stop.Store ≡ stopped stop.Sink) ⊎ (stopped stop.Store ≡ stopped stop.NoMemory) → ⊥
store_others (inl e) = cc
store_others (inr e) = cc

long_others : (stopped stop.Long ≡ stopped stop.Sink) ⊎ (stopped stop.Long ≡ stopped stop.NoMemory) → ⊥
long_others (inl e) = cc
long_others (inr e) = cc

false_true : {P : Type 0} → false ≡ true → P
false_true e = cc

-- ---- what holds whatever the words are

pub statuses_of : (r : Result Bool Stop) → let s = status_of r in Ends s ⊎ ((s ≡ 3) ⊎ ((s ≡ 4) ⊎ ((s ≡ 6) ⊎ (s ≡ 7))))
statuses_of (Ok false) = inl (inl refl)
statuses_of (Ok true) = inl (inr refl)
statuses_of (Err stop.NoMemory) = inr (inl refl)
statuses_of (Err stop.Source) = inr (inr (inl refl))
statuses_of (Err stop.Store) = inr (inr (inl refl))
statuses_of (Err stop.Sink) = inr (inr (inr (inl refl)))
statuses_of (Err stop.Long) = inr (inr (inr (inr refl)))

module _ (before after : Option (List ℕ)) where
  pub nothing_of : (r : Result Bool Stop) → (IsErrOf r stop.Source ⊎ (IsErrOf r stop.Store ⊎ IsErrOf r stop.Long) → after ≡ before)
      → (status_of r ≡ 4) ⊎ (status_of r ≡ 7) → after ≡ before
  nothing_of (Ok false) same h = absurd (not_0_4_7 h)
  nothing_of (Ok true) same h = absurd (not_2_4_7 h)
  nothing_of (Err stop.NoMemory) same h = absurd (not_3_4_7 h)
  nothing_of (Err stop.Source) same h = same (inl refl)
  nothing_of (Err stop.Store) same h = same (inr (inl refl))
  nothing_of (Err stop.Sink) same h = absurd (not_6_4_7 h)
  nothing_of (Err stop.Long) same h = same (inr (inr refl))

  pub refusals_of : (r : Result Bool Stop) → IfOk r (λ bad. Puts before after bad) → Ends (status_of r) → Puts before after (status_of r == 2)
  refusals_of (Ok false) puts h = puts
  refusals_of (Ok true) puts h = puts
  refusals_of (Err stop.NoMemory) puts h = absurd (not_3_0_2 h)
  refusals_of (Err stop.Source) puts h = absurd (not_4_0_2 h)
  refusals_of (Err stop.Store) puts h = absurd (not_4_0_2 h)
  refusals_of (Err stop.Sink) puts h = absurd (not_6_0_2 h)
  refusals_of (Err stop.Long) puts h = absurd (not_7_0_2 h)

-- ---- the lines of the source were run, or the call was stopped

module _ (left before after : Option (List ℕ)) where
  abbrev Played : Bool → Type 0
  Played refused = (script : List ℕ) → left ≡ Some script → AreFairLines (lines_of script) → ArePlayed (lines_of script) before after refused

  abbrev Each : Bool → Type 0
  Each bad = (script : List ℕ) → left ≡ Some script → PutsTexts (length (lines_of script)) before after bad

  abbrev Part : Type 0
  Part = (script : List ℕ) → left ≡ Some script → AreFairLines (lines_of script) → AppendsPart before after (run_text (lines_of script))

  abbrev Short : Type 0
  Short = (script : List ℕ) → left ≡ Some script → length script ≤ most_bytes

  abbrev Long : Type 0
  Long = (script : List ℕ) → left ≡ Some script → most_bytes < length script

  play_ended : (refused : Bool) → Played refused → Each refused → Short → PlaysScript left before after (status_of (Ok refused))
  play_ended false played each short = record {
    played = λ script e fair h. played script e fair;
    each = λ script e h. each script e;
    part = λ script e fair h. absurd (not_0_3_6 h);
    short = λ script e h. short script e;
    long = λ script e h. absurd (not_long_0 h);
  }
  play_ended true played each short = record {
    played = λ script e fair h. played script e fair;
    each = λ script e h. each script e;
    part = λ script e fair h. absurd (not_2_3_6 h);
    short = λ script e h. short script e;
    long = λ script e h. absurd (not_long_2 h);
  }

  play_without_memory : Part → PlaysScript left before after 3
  play_without_memory part = record {
    played = λ script e fair h. absurd (not_3_0_2 h);
    each = λ script e h. absurd (not_3_0_2 h);
    part = λ script e fair h. part script e fair;
    short = λ script e h. absurd (not_run_3 h);
    long = λ script e h. absurd (not_long_3 h);
  }

  pub play_ends : (r : Result Bool Stop) → IfOk r Played → IfOk r Each → (IsErrOf r stop.Sink ⊎ IsErrOf r stop.NoMemory → Part) → (IsOk r ⊎ IsErrOf r stop.Sink → Short)
      → (IsErrOf r stop.Long → Long) → PlaysScript left before after (status_of r)
  play_ends (Ok refused) played each part short long = play_ended refused played each (short (inl refl))
  play_ends (Err stop.NoMemory) played each part short long = play_without_memory (part (inr refl))
  play_ends (Err stop.Source) played each part short long = record {
    played = λ script e fair h. absurd (not_4_0_2 h);
    each = λ script e h. absurd (not_4_0_2 h);
    part = λ script e fair h. absurd (not_4_3_6 h);
    short = λ script e h. absurd (not_run_4 h);
    long = λ script e h. absurd (not_long_4 h);
  }
  play_ends (Err stop.Store) played each part short long = record {
    played = λ script e fair h. absurd (not_4_0_2 h);
    each = λ script e h. absurd (not_4_0_2 h);
    part = λ script e fair h. absurd (not_4_3_6 h);
    short = λ script e h. absurd (not_run_4 h);
    long = λ script e h. absurd (not_long_4 h);
  }
  play_ends (Err stop.Sink) played each part short long = record {
    played = λ script e fair h. absurd (not_6_0_2 h);
    each = λ script e h. absurd (not_6_0_2 h);
    part = λ script e fair h. part (inl refl) script e fair;
    short = λ script e h. short (inr refl) script e;
    long = λ script e h. absurd (not_long_6 h);
  }
  play_ends (Err stop.Long) played each part short long = record {
    played = λ script e fair h. absurd (not_7_0_2 h);
    each = λ script e h. absurd (not_7_0_2 h);
    part = λ script e fair h. absurd (not_7_3_6 h);
    short = λ script e h. absurd (not_run_7 h);
    long = λ script e h. long refl script e;
  }

-- ---- a table was checked, or the call was stopped

module _ (files : Option (List (List ℕ × List ℕ))) (table : List ℕ) (before after : Option (List ℕ)) where
  abbrev Found : Bool → Type 0
  Found bad = (all : List (List ℕ × List ℕ)) → files ≡ Some all → PutsFinding (file_at all table) table before after bad

  abbrev FoundPart : Type 0
  FoundPart = (all : List (List ℕ × List ℕ)) → files ≡ Some all → PutsPart (file_at all table) table before after

  abbrev ShortFile : Type 0
  ShortFile = (all : List (List ℕ × List ℕ)) (bytes : List ℕ) → files ≡ Some all → file_at all table ≡ Some bytes → length bytes ≤ most_file_bytes

  check_ended : (bad : Bool) → Found bad → ShortFile → ChecksTable files table before after (status_of (Ok bad))
  check_ended false found short = record {
    found = λ all e h. found all e;
    part = λ all e h. absurd (let k : 0 ≡ 6 = h in omega arith);
    nothing = λ h. absurd (let k : 0 ≡ 3 = h in omega arith);
    short = λ all bytes e f h. short all bytes e f;
    long = λ h. absurd (not_long_0 h);
  }
  check_ended true found short = record {
    found = λ all e h. found all e;
    part = λ all e h. absurd (let k : 2 ≡ 6 = h in omega arith);
    nothing = λ h. absurd (let k : 2 ≡ 3 = h in omega arith);
    short = λ all bytes e f h. short all bytes e f;
    long = λ h. absurd (not_long_2 h);
  }

  check_without_memory : after ≡ before → ChecksTable files table before after 3
  check_without_memory same = record {
    found = λ all e h. absurd (not_3_0_2 h);
    part = λ all e h. absurd (let k : 3 ≡ 6 = h in omega arith);
    nothing = λ h. same;
    short = λ all bytes e f h. absurd (not_run_3 h);
    long = λ h. absurd (not_long_3 h);
  }

  check_failed : ChecksTable files table before after 4
  check_failed = record {
    found = λ all e h. absurd (not_4_0_2 h);
    part = λ all e h. absurd (let k : 4 ≡ 6 = h in omega arith);
    nothing = λ h. absurd (let k : 4 ≡ 3 = h in omega arith);
    short = λ all bytes e f h. absurd (not_run_4 h);
    long = λ h. absurd (not_long_4 h);
  }

  pub check_ends : (r : Result Bool Stop) → IfOk r Found → (IsErrOf r stop.Sink → FoundPart) → (IsOk r ⊎ IsErrOf r stop.Sink → ShortFile)
      → (IsErrOf r stop.Long → IsLonger files table most_file_bytes)
      → (IsErrOf r stop.NoMemory ⊎ (IsErrOf r stop.Store ⊎ IsErrOf r stop.Long) → after ≡ before) → ChecksTable files table before after (status_of r)
  check_ends (Ok bad) found part short long same = check_ended bad found (short (inl refl))
  check_ends (Err stop.NoMemory) found part short long same = check_without_memory (same (inl refl))
  check_ends (Err stop.Source) found part short long same = check_failed
  check_ends (Err stop.Store) found part short long same = check_failed
  check_ends (Err stop.Sink) found part short long same = record {
    found = λ all e h. absurd (not_6_0_2 h);
    part = λ all e h. part refl all e;
    nothing = λ h. absurd (let k : 6 ≡ 3 = h in omega arith);
    short = λ all bytes e f h. short (inr refl) all bytes e f;
    long = λ h. absurd (not_long_6 h);
  }
  check_ends (Err stop.Long) found part short long same = record {
    found = λ all e h. absurd (not_7_0_2 h);
    part = λ all e h. absurd (let k : 7 ≡ 6 = h in omega arith);
    nothing = λ h. absurd (let k : 7 ≡ 3 = h in omega arith);
    short = λ all bytes e f h. absurd (not_run_7 h);
    long = λ h. long refl;
  }

-- ---- the words were refused, or that was stopped

module _ (before after : Option (List ℕ)) where
  refused_without_memory : RefusesWords before after 3
  refused_without_memory = record { refused = λ h. absurd (not_3_0_2 h); unread = λ h. not_3_4_7 h }

  pub refusal_ends : (r : Result Bool Stop) → IfOk r (λ refused. Appends before after (refused_text Unbuilt)) → IfOk r (λ refused. refused ≡ true)
      → OnErr r ((r ≡ Err stop.Sink) ⊎ (r ≡ Err stop.NoMemory)) → RefusesWords before after (status_of r)
  refusal_ends (Ok false) put refused others = false_true refused
  refusal_ends (Ok true) put refused others = record { refused = λ h. (refl, put); unread = λ h. not_2_4_7 h }
  refusal_ends (Err stop.NoMemory) put refused others = refused_without_memory
  refusal_ends (Err stop.Sink) put refused others = record { refused = λ h. absurd (not_6_0_2 h); unread = λ h. not_6_4_7 h }
  refusal_ends (Err stop.Source) put refused others = absurd (source_others others)
  refusal_ends (Err stop.Store) put refused others = absurd (store_others others)
  refusal_ends (Err stop.Long) put refused others = absurd (long_others others)

-- ---- it ran out of memory where the words were read

nothing_put_part : (told : Option (List ℕ)) (text : List ℕ) → AppendsPart told told text
nothing_put_part told text = (0, nothing_put told)

pub without_memory : (words : List (List ℕ)) (left : Option (List ℕ)) (files : Option (List (List ℕ × List ℕ))) (told : Option (List ℕ))
    → IsRun words left files told told 3
without_memory words left files told = record {
  statuses = inr (inl refl);
  does = does (command_of_words words);
  nothing = λ h. refl;
  refusals = λ h. absurd (not_3_0_2 h);
}
  where
    does : (command : Option Command) → Does command left files told told 3
    does (Some Play) = play_without_memory left told told (λ script e fair. nothing_put_part told (run_text (lines_of script)))
    does (Some (Check table)) = check_without_memory files table told told refl
    does (Some (New file member)) = refused_without_memory told told
    does (Some (Edit file verb amount)) = refused_without_memory told told
    does (Some (Show file)) = refused_without_memory told told
    does (Some (Export file batch)) = refused_without_memory told told
    does (Some (Merge file batch)) = refused_without_memory told told
    does None = refused_without_memory told told

pub runs_without_memory : (words : List (List ℕ)) (left : Option (List ℕ)) (files : Option (List (List ℕ × List ℕ))) (told : Option (List ℕ))
    → (r : Result Bool Stop) → r ≡ Err stop.NoMemory → IsRun words left files told told (status_of r)
runs_without_memory words left files told r e = subst (λ s. IsRun words left files told told (status_of s)) (sym e) (without_memory words left files told)

-- ---- the words were read

pub run_of : (words : List (List ℕ)) (left : Option (List ℕ)) (files : Option (List (List ℕ × List ℕ))) (before after : Option (List ℕ)) (command : Option Command)
    → command ≡ command_of_words words → (r : Result Bool Stop) → Does command left files before after (status_of r)
    → (IsErrOf r stop.Source ⊎ (IsErrOf r stop.Store ⊎ IsErrOf r stop.Long) → after ≡ before) → IfOk r (λ bad. Puts before after bad)
    → IsRun words left files before after (status_of r)
run_of words left files before after command e r done same puts = record {
  statuses = statuses_of r;
  does = subst (λ command. Does command left files before after (status_of r)) e done;
  nothing = nothing_of before after r same;
  refusals = refusals_of before after r puts;
}

-- a refusal of words that is stopped is stopped by the sink, or where it ran out of memory
pub refusal_same : (before after : Option (List ℕ)) (r : Result Bool Stop) → OnErr r ((r ≡ Err stop.Sink) ⊎ (r ≡ Err stop.NoMemory))
    → IsErrOf r stop.Source ⊎ (IsErrOf r stop.Store ⊎ IsErrOf r stop.Long) → after ≡ before
refusal_same before after (Ok bad) others (inl h) = cc
refusal_same before after (Ok bad) others (inr (inl h)) = cc
refusal_same before after (Ok bad) others (inr (inr h)) = cc
refusal_same before after (Err stop.NoMemory) others (inl h) = cc
refusal_same before after (Err stop.NoMemory) others (inr (inl h)) = cc
refusal_same before after (Err stop.NoMemory) others (inr (inr h)) = cc
refusal_same before after (Err stop.Sink) others (inl h) = cc
refusal_same before after (Err stop.Sink) others (inr (inl h)) = cc
refusal_same before after (Err stop.Sink) others (inr (inr h)) = cc
refusal_same before after (Err stop.Source) others h = absurd (source_others others)
refusal_same before after (Err stop.Store) others h = absurd (store_others others)
refusal_same before after (Err stop.Long) others h = absurd (long_others others)

-- other commands than the two are refused
pub others_refused : (command : Command) → (command ≡ Play → ⊥) → ((table : List ℕ) → command ≡ Check table → ⊥) → (left : Option (List ℕ))
    → (files : Option (List (List ℕ × List ℕ))) (before after : Option (List ℕ)) (s : ℕ) → RefusesWords before after s → Does (Some command) left files before after s
others_refused Play other not_check left files before after s h = absurd (other refl)
others_refused (Check table) other not_check left files before after s h = absurd (not_check table refl)
others_refused (New file member) other not_check left files before after s h = h
others_refused (Edit file verb amount) other not_check left files before after s h = h
others_refused (Show file) other not_check left files before after s h = h
others_refused (Export file batch) other not_check left files before after s h = h
others_refused (Merge file batch) other not_check left files before after s h = h
