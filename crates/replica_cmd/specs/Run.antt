-- What a call of the program does, as the outside sees it.
use Rattle.std.specs.Prelude.{◌≡◌, ◌⊎◌, ◌==◌, ◌||◌, ℕ, ◌≤◌, ◌<◌, List, [], ◌∷◌, ◌++◌, Bool, false, Option, None, Some, codes, length, nat_eq}
use Rattle.std.specs.List.{All, flat_map, list_any, starts_with}
use Rattle.lab_store.specs.Store.{IsLonger, file_at}
use Rattle.lab_store.specs.Stream.{Appends, AppendsPart}
use Rattle.lab_model.specs.Honest.{AreFair, IsHonestLab}
use Rattle.lab_model.specs.Lab.{lab_run}
use Rattle.lab_model.specs.Line.{command_of_words, lines_of}
use Rattle.lab_model.specs.declared.command.Command.{Command}
use Rattle.lab_model.specs.declared.command.Command.TheVariants.{New, Edit, Show, Export, Merge, Play, Check}
use Rattle.lab_model.specs.Text.{refused_text}
use Rattle.lab_model.specs.declared.refusal.Refusal.TheVariants.{Unbuilt}
use Rattle.replica_cmd.specs.Number.{number_op}
use Rattle.replica_cmd.specs.Check.{PutsFinding, PutsPart}
use Rattle.replica_cmd.specs.Reading.{most_bytes, most_file_bytes}
use Rattle.number_crdts.specs.Number.{number_meaning}

-- a text is that of a refusal, or says that a table is broken
abbrev pub is_bad : List ℕ → Bool
is_bad text = starts_with nat_eq text (codes "refused ") || starts_with nat_eq text (codes "broken ")

-- a text ends with a line feed
abbrev pub IsEnded : List ℕ → Type 0
IsEnded text = (front : List ℕ) × (text ≡ front ++ 10 ∷ [])

-- a whole text, and whether it is a bad one
pub record IsSaid (text : List ℕ) (bad : Bool) : Type 0 where
  pub ended : IsEnded text
  pub told : is_bad text ≡ bad

-- the text of a line that is accepted
pub record IsAccepted (text : List ℕ) : Type 0 where
  pub ended : IsEnded text
  pub accepted : is_bad text ≡ false

-- Texts were put, each ending with a line feed, and the flag says whether one of them is a bad one.
pub record Puts (before after : Option (List ℕ)) (bad : Bool) : Type 0 where
  pub texts : List (List ℕ)
  pub put : Appends before after (flat_map (λ text. text) texts)
  pub ended : All IsEnded texts
  pub told : bad ≡ list_any is_bad texts

-- and so many were put
pub record PutsTexts (count : ℕ) (before after : Option (List ℕ)) (bad : Bool) : Type 0 where
  pub puts : Puts before after bad
  pub many : length puts.texts ≡ count

-- the text of lines that are run from nothing, and whether one of them is refused
abbrev pub run_text : List (List ℕ) → List ℕ
run_text lines = (lab_run (number_meaning 0) number_op [] lines).text

abbrev pub run_refused : List (List ℕ) → Bool
run_refused lines = (lab_run (number_meaning 0) number_op [] lines).refused

-- the lines make no second replica of a member
abbrev pub AreFairLines : List (List ℕ) → Type 0
AreFairLines lines = AreFair (number_meaning 0) number_op [] lines

-- The lines were run: they put the text that the definition gives, and leave an honest lab, so that what each replica has
-- delivered is causally closed.
pub record ArePlayed (lines : List (List ℕ)) (before after : Option (List ℕ)) (refused : Bool) : Type 0 where
  pub text : Appends before after (run_text lines)
  pub refusals : refused ≡ run_refused lines
  pub honest : IsHonestLab (number_meaning 0) (lab_run (number_meaning 0) number_op [] lines).lab

-- the two ways in which a call ends that has run all of its lines
abbrev pub Ends : ℕ → Type 0
Ends status = (status ≡ 0) ⊎ (status ≡ 2)

-- What a call with the one word play does, where the source had these bytes left and the sink told these before and after it.
pub record PlaysScript (left before after : Option (List ℕ)) (status : ℕ) : Type 0 where
  -- fair lines of a whole script put the text of their run, and part of it where it ran out of memory or the sink failed
  pub played : (script : List ℕ) → left ≡ Some script → AreFairLines (lines_of script) → Ends status
      → ArePlayed (lines_of script) before after (status == 2)
  pub part : (script : List ℕ) → left ≡ Some script → AreFairLines (lines_of script) → (status ≡ 3) ⊎ (status ≡ 6)
      → AppendsPart before after (run_text (lines_of script))
  -- fair or not, each line of a whole script puts one text
  pub each : (script : List ℕ) → left ≡ Some script → Ends status → PutsTexts (length (lines_of script)) before after (status == 2)
  -- a script that is run is short, and one that is too long is not
  pub short : (script : List ℕ) → left ≡ Some script → Ends status ⊎ (status ≡ 6) → length script ≤ most_bytes
  pub long : (script : List ℕ) → left ≡ Some script → status ≡ 7 → most_bytes < length script

-- What a call with the word check and the name of a file does, where the store had these files.
pub record ChecksTable (files : Option (List (List ℕ × List ℕ))) (table : List ℕ) (before after : Option (List ℕ)) (status : ℕ) : Type 0 where
  -- it puts what is found, with status 2 exactly where that is a fault or a broken law, and part of it where the sink failed
  pub found : (all : List (List ℕ × List ℕ)) → files ≡ Some all → Ends status → PutsFinding (file_at all table) table before after (status == 2)
  pub part : (all : List (List ℕ × List ℕ)) → files ≡ Some all → status ≡ 6 → PutsPart (file_at all table) table before after
  -- where it ran out of memory it puts nothing
  pub nothing : status ≡ 3 → after ≡ before
  -- a file that is looked at is short, and one that is too long is not
  pub short : (all : List (List ℕ × List ℕ)) (bytes : List ℕ) → files ≡ Some all → file_at all table ≡ Some bytes → Ends status ⊎ (status ≡ 6)
      → length bytes ≤ most_file_bytes
  pub long : status ≡ 7 → IsLonger files table most_file_bytes

-- What a call with other words does: they are refused.
pub record RefusesWords (before after : Option (List ℕ)) (status : ℕ) : Type 0 where
  pub refused : Ends status → (status ≡ 2) × Appends before after (refused_text Unbuilt)
  pub unread : (status ≡ 4) ⊎ (status ≡ 7) → ⊥

-- the command is a check
abbrev pub IsCheck : Option Command → Type 0
IsCheck command = (table : List ℕ) × (command ≡ Some (Check table))

-- what a call does by the command that its words are
abbrev pub Does : Option Command → Option (List ℕ) → Option (List (List ℕ × List ℕ)) → Option (List ℕ) → Option (List ℕ) → ℕ → Type 0
Does (Some Play) left files before after status = PlaysScript left before after status
Does (Some (Check table)) left files before after status = ChecksTable files table before after status
Does (Some (New file member)) left files before after status = RefusesWords before after status
Does (Some (Edit file verb amount)) left files before after status = RefusesWords before after status
Does (Some (Show file)) left files before after status = RefusesWords before after status
Does (Some (Export file batch)) left files before after status = RefusesWords before after status
Does (Some (Merge file batch)) left files before after status = RefusesWords before after status
Does None left files before after status = RefusesWords before after status

-- What the outside sees of a call with these words: the bytes that the source had and the files that the store had, where
-- they told them, the bytes that the sink told before and after it, and the status.
pub record IsRun (words : List (List ℕ)) (left : Option (List ℕ)) (files : Option (List (List ℕ × List ℕ))) (before after : Option (List ℕ)) (status : ℕ) : Type 0 where
  -- no other statuses come
  pub statuses : Ends status ⊎ ((status ≡ 3) ⊎ ((status ≡ 4) ⊎ ((status ≡ 6) ⊎ (status ≡ 7))))
  -- the words are a command, or none
  pub does : Does (command_of_words words) left files before after status
  -- nothing is put where the source or the store failed, or what they have is too long
  pub nothing : (status ≡ 4) ⊎ (status ≡ 7) → after ≡ before
  -- whatever the words, the lines and the files are, the status is 2 exactly where a text is a bad one
  pub refusals : Ends status → Puts before after (status == 2)
