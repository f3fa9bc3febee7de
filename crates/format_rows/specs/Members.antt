-- The rules of a document of one member.
use Rattle.wire_core.specs.declared.form.ClockForm.TheVariants.{Sparse}
use Rattle.wire_core.specs.Reading.{Rules}

abbrev pub one_member : Rules
one_member = record { members = 1; form = Sparse }
