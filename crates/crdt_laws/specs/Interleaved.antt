-- Two lists by rising key as one.
use Rattle.std.specs.Prelude.{List, [], ◌∷◌, if◌then◌else◌}
use Rattle.vector_clock.specs.Stamp.{is_below}
use Rattle.crdt_laws.specs.declared.small.Entry.{Entry}

-- x and then xs with ys, where `rest` interleaves xs with any list. Of two entries with one key the first stays.
abbrev pub interleaved_from : {Op : Type 0} → Entry Op → List (Entry Op) → (List (Entry Op) → List (Entry Op)) → List (Entry Op) → List (Entry Op)
interleaved_from x xs rest [] = x ∷ xs
interleaved_from x xs rest (y ∷ ys) =
    if is_below x.stamp y.stamp then x ∷ rest (y ∷ ys) else (if is_below y.stamp x.stamp then y ∷ interleaved_from x xs rest ys else x ∷ rest ys)

-- the entries of both lists, of the lesser key first, each key once
abbrev pub interleaved : {Op : Type 0} → List (Entry Op) → List (Entry Op) → List (Entry Op)
interleaved [] ys = ys
interleaved (x ∷ xs) ys = interleaved_from x xs (interleaved xs) ys
