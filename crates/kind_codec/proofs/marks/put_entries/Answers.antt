use Rattle.std.proofs.Common.{false, [], get_or, ap, sym, subst}
use Rattle.wire_core.specs.Reading.{Rules}
use Rattle.wire_core.specs.Calls.{rules_of}
use Rattle.wire_core.specs.Entries.{each_put}
use Rattle.wire_core.specs.Loop.{allowed_at}
use Rattle.rich_text.specs.declared.marks.MarkEntry.{MarkEntry}
use Rattle.kind_codec.specs.Marks.{bytes_of, entry_grammar, entry_parts}
use Rattle.kind_codec.proofs.marks.put_entries.Goals as goal

-- an entry, where any will do
any_entry : MarkEntry
any_entry = record { mark = 0; key = record { sum = 0; member = 0; seq = 0 }; on = false }

pub put_entry-requires : goal.put_entry-requires
unfolding any_entry
put_entry-requires c =
    let of = entry_grammar c.args.marks in
    let i = c.loop-entry.entry-index in
    let here = allowed_at of (rules_of c.args.out.now) c.args.entries.now [] i any_entry c.requires.1 c.loop-entry-test.true in
    subst (λ (r : Rules). (entry_parts c.args.marks).allows r (bytes_of (get_or c.args.entries.now i any_entry))) (sym (ap rules_of c.loop-entry.invariant)) here.0.0

pub loop-entry-preserved : goal.loop-entry-preserved
loop-entry-preserved c =
    each_put (entry_grammar c.args.marks) c.args.out.now c.loop-entry.out c.put_entry.new.out c.args.entries.now c.loop-entry.entry-index _ c.loop-entry-test.true c.loop-entry.invariant c.in_ok-put_entry.ensures
