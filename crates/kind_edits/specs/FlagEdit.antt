-- What an edit of a flag stands for.
use Rattle.std.specs.Prelude.{ℕ, List, codes, length, ◌==◌, if◌then◌else◌, Result, Ok, Err}
use Rattle.std.specs.Str.{bytes_eq}
use Rattle.kind_edits.specs.declared.fault.EditError.{EditError}
use Rattle.kind_edits.specs.declared.fault.EditError.TheVariants.{NoVerb}
use Rattle.kind_edits.specs.Rules.{demands}

-- `on` or `off`, with nothing after it, where these are the operations that switch on and off
abbrev pub switch_edit : ℕ → ℕ → List ℕ → List ℕ → Result ℕ EditError
switch_edit on off verb rest =
    demands (length rest == 0) NoVerb (
    if bytes_eq verb (codes "on") then Ok on else if bytes_eq verb (codes "off") then Ok off else Err NoVerb)

-- On a flag on which on wins, operation 2 switches on and 1 off.
abbrev pub on_flag_edit : List ℕ → List ℕ → Result ℕ EditError
on_flag_edit = switch_edit 2 1

-- On a flag on which off wins, operation 1 switches on and 2 off.
abbrev pub off_flag_edit : List ℕ → List ℕ → Result ℕ EditError
off_flag_edit = switch_edit 1 2
