-- How a script is cut into lines, and which command a line is.
use Rattle.std.specs.Prelude.{ℕ, ◌+◌, ◌-◌, ◌*◌, ◌^◌, List, [], ◌∷◌, Bool, false, not, ◌&&◌, ◌||◌, ◌==◌, nat_le, nat_lt, Option, None, Some, codes, filter, fold, length, map, option_and_then, if◌then◌else◌}
use Rattle.std.specs.Char.{is_ascii_alphanumeric, is_ascii_digit}
use Rattle.std.specs.List.{list_all, slice_split}
use Rattle.std.specs.Str.{bytes_eq}
use Rattle.std.specs.Str.Lines.{strip_carriage_return}
use Rattle.lab_model.specs.declared.command.Command.{Command}
use Rattle.lab_model.specs.declared.command.Command.TheVariants.{New, Edit, Show, Export, Merge, Play, Check}
use Rattle.lab_model.specs.declared.command.Verb.{Verb}
use Rattle.lab_model.specs.declared.command.Verb.TheVariants.{Add, Mul}

-- ---- scripts

-- whether a line is run: it is not empty and no comment
abbrev pub is_run : List ℕ → Bool
is_run [] = false
is_run (b ∷ bs) = not (b == 35)

-- The lines of a script that are run: the pieces between line feeds, each without a carriage return at its end.
abbrev pub lines_of : List ℕ → List (List ℕ)
lines_of script = filter is_run (map strip_carriage_return (slice_split (λ b. b == 10) script))

-- ---- words

-- a letter, a digit, a dot, a low line or a dash
abbrev pub is_name_byte : ℕ → Bool
is_name_byte b = is_ascii_alphanumeric b || ((b == 46) || ((b == 95) || (b == 45)))

abbrev pub is_file_name : List ℕ → Bool
is_file_name [] = false
is_file_name (b ∷ bs) = is_ascii_alphanumeric b && (nat_le (length bs) 63 && list_all is_name_byte bs)

-- decimal digits, of which the first is 0 only where it is the one digit
abbrev pub is_number : List ℕ → Bool
is_number [] = false
is_number (b ∷ bs) = if b == 48 then length bs == 0 else list_all is_ascii_digit (b ∷ bs)

abbrev pub value_of : List ℕ → ℕ
value_of digits = fold (λ n b. 10 * n + (b - 48)) 0 digits

-- the number that digits spell, where it is below the limit
abbrev pub number_below : ℕ → List ℕ → Option ℕ
number_below limit digits = if is_number digits && nat_lt (value_of digits) limit then Some (value_of digits) else None

-- the residue modulo 2^64 of a number that is taken away
abbrev pub negative : ℕ → Option ℕ
negative n = if n == 0 then None else Some (2 ^ 64 - n)

-- The residue that a signed number stands for: digits up to 2^63 - 1, or a minus and digits from 1 to 2^63.
abbrev pub residue_of : List ℕ → Option ℕ
residue_of [] = None
residue_of (b ∷ digits) =
    if b == 45 then option_and_then negative (number_below (2 ^ 63 + 1) digits) else number_below (2 ^ 63) (b ∷ digits)

-- ---- commands

abbrev pub member_of : List ℕ → Option ℕ
member_of word = if bytes_eq word (codes "0") then Some 0 else if bytes_eq word (codes "1") then Some 1 else None

abbrev pub verb_of : List ℕ → Option Verb
verb_of word = if bytes_eq word (codes "add") then Some Add else if bytes_eq word (codes "mul") then Some Mul else None

abbrev pub new_of : List ℕ → Option ℕ → Option Command
new_of file None = None
new_of file (Some member) = Some (New file member)

abbrev pub edit_of : List ℕ → Option Verb → Option ℕ → Option Command
edit_of file None amount = None
edit_of file (Some verb) None = None
edit_of file (Some verb) (Some amount) = Some (Edit file verb amount)

-- the command of these words
abbrev pub command_of_words : List (List ℕ) → Option Command
command_of_words (verb ∷ []) = if bytes_eq verb (codes "play") then Some Play else None
command_of_words (verb ∷ file ∷ []) =
    if is_file_name file
    then (if bytes_eq verb (codes "show") then Some (Show file) else if bytes_eq verb (codes "check") then Some (Check file) else None)
    else None
command_of_words (verb ∷ file ∷ batch ∷ []) =
    if is_file_name file && is_file_name batch
    then (if bytes_eq verb (codes "export") then Some (Export file batch) else if bytes_eq verb (codes "merge") then Some (Merge file batch) else None)
    else None
command_of_words (verb ∷ file ∷ member ∷ schema ∷ []) =
    if bytes_eq verb (codes "new") && (is_file_name file && bytes_eq schema (codes "@pair")) then new_of file (member_of member) else None
command_of_words (verb ∷ file ∷ field ∷ action ∷ number ∷ []) =
    if bytes_eq verb (codes "edit") && (is_file_name file && bytes_eq field (codes "n"))
    then edit_of file (verb_of action) (residue_of number)
    else None
command_of_words _ = None

-- The command that a line is, where it is one: its words stand between single spaces.
unfoldable pub command_of : List ℕ → Option Command
command_of line = command_of_words (slice_split (λ b. b == 32) line)
