-- Operations of the own member, and the ledger after them, where their member's row changes once.
use Rattle.std.specs.Prelude.{ℕ, ◌+◌, List, length, slice_set}
use Rattle.vector_clock.specs.declared.clock.Clock.{Clock}
use Rattle.vector_clock.specs.Clock.{count, with_entry}
use Rattle.crdt_laws.specs.declared.small.Entry.{Entry}
use Rattle.crdt_laws.specs.Tower.{Meaning}
use Rattle.forgetting_model.specs.Kept.{Kept, kept_with}
use Rattle.forgetting_model.specs.Ledger.{Ledger, own_row, trimmed}
use Rattle.forgetting_model.specs.Made.{entries_from, made, placed, stamp_after}

-- operations of the member me, the first of which comes next after the clock
abbrev pub next_entries : {Op : Type 0} → Clock → ℕ → List Op → List (Entry Op)
next_entries d me ops = entries_from (stamp_after d me) ops

-- the own entry of the clock raised by so many
abbrev pub with_more : Clock → ℕ → ℕ → Clock
with_more d me i = with_entry d me (count d me + i)

abbrev pub own_entries : {Op : Type 0} → Ledger Op → List Op → List (Entry Op)
own_entries l ops = made l ops

abbrev pub ledger_own : {Op : Type 0} → Ledger Op → List Op → Ledger Op
ledger_own l ops = trimmed l (placed l.log (own_entries l ops)) l.waiting (slice_set l.known l.me (with_more (own_row l) l.me (length ops)))

abbrev pub kept_own : {State Op : Type 0} → Meaning State Op → Kept State Op → List Op → Kept State Op
kept_own m k ops = kept_with m k (ledger_own k.ledger ops) (own_entries k.ledger ops)
