-- The status of a call.
use Rattle.std.specs.Prelude.{ℕ, Bool, true, false, Result, Ok, Err}
use Rattle.replica_cmd.specs.declared.stop.Stop.{Stop}
use Rattle.replica_cmd.specs.declared.stop.Stop.TheVariants as stop

abbrev pub status_of : Result Bool Stop → ℕ
status_of (Ok false) = 0
status_of (Ok true) = 2
status_of (Err stop.NoMemory) = 3
status_of (Err stop.Source) = 4
status_of (Err stop.Store) = 4
status_of (Err stop.Sink) = 6
status_of (Err stop.Long) = 7
