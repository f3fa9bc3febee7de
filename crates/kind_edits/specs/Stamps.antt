-- What a member had before an operation of its own.
use Rattle.std.specs.Prelude.{◌-◌}
use Rattle.vector_clock.specs.declared.clock.Clock.{Clock}
use Rattle.vector_clock.specs.declared.stamp.Stamp.{Stamp}
use Rattle.vector_clock.specs.Clock.{count, with_entry}

-- what the operation's member had before it: all that the operation knows of, but for the operation itself
abbrev pub clock_before : Stamp → Clock
clock_before p = with_entry p.clock p.member (count p.clock p.member - 1)
