-- Values of texts, whole numbers, arrays and objects, whose keys rise: their compact text is read again as them.
use Rattle.std.specs.Prelude.{◌≡◌, ℕ, suc, ◌-◌, ◌^◌, ◌<◌, ◌≤◌, ◌||◌, Bool, true, false, List, [], ◌∷◌, ◌++◌, length, get_or, Option, Some, option_map, option_and_then, decimal}
use Rattle.std.specs.Cmp.Lexicographic.{slice_cmp}
use Rattle.std.specs.Ordering.{nat_cmp, match_ordering, ordering_reverse}
use Rattle.std.specs.declared.cmp.Ordering.{Ordering}
use Rattle.std.specs.declared.cmp.Ordering.TheVariants.{Less, Equal, Greater}
use Rattle.std.specs.Str.{IsUtf8}
use Rattle.std.proofs.Common.{refl, ap, sym, ◌∙◌, append-nil, arith}
use Rattle.std.proofs.lemmas.Bool.{lt-ltb}
use Rattle.std.proofs.lemmas.Cmp.{nat_list_cmp_total}
use Rattle.std.proofs.lemmas.Fmt.{decimal_is_IsNumeral}
use Rattle.std.proofs.lemmas.Str.{IsUtf8-append, IsUtf8-nil}
use Rattle.std.proofs.lemmas.Str.Parse.{digit_at}
use Rattle.json.specs.Json as json
use Rattle.json.specs.Print.{quoted}
use Rattle.json.specs.Lex.{tokens}
use Rattle.json.specs.Token.{Token}
use Rattle.json.specs.Tree as tree
use Rattle.json.specs.Tree.{json_tokens}
use Rattle.json.proofs.Printed.Decimals.{IsNumber-decimal}
use Rattle.json.proofs.Printed.Tokens.{tokens-print}
use Rattle.json.proofs.Printed.Trees.{ArePrintable-json_tokens, value-json_tokens}
use Rattle.json.proofs.Printed.Utf8.{IsUtf8-are_ascii, IsUtf8-quoted, are_ascii}
use Rattle.serde_json.specs.Data.{Num, unsigned, negative, float, Data, null, boolean, number, string, array, object, Items, no_items, item, Members, no_members, member, put}
use Rattle.serde_json.specs.Read.{of_json, of_items, of_members, max_depth, read}
use Rattle.serde_json.specs.Written.{comma_if, compact_text, has_float, items_have_float, items_outline, items_text, members_have_float, members_outline, members_text, outline}
use Rattle.serde_json.proofs.Numbers.{number_of-decimal}
use Rattle.serde_json.proofs.Texts.{print-outline}

-- the order of keys
abbrev pub IsBelow : List ℕ → List ℕ → Type 0
IsBelow k l = slice_cmp nat_cmp k l ≡ Less

-- the key is below each of the members'
abbrev pub BelowAll : List ℕ → Members → Type 0
BelowAll k no_members = Unit {0}
BelowAll k (member l d ms) = IsBelow k l × BelowAll k ms

abbrev pub IsRising : Members → Type 0
IsRising no_members = Unit {0}
IsRising (member k d ms) = BelowAll k ms × IsRising ms

abbrev pub IsWhole : Num → Type 0
IsWhole (unsigned n) = n < 2 ^ 64
IsWhole (negative z) = ⊥
IsWhole (float x) = ⊥

-- such a value, which nests no deeper than n
abbrev mutual
  pub IsPlain : ℕ → Data → Type 0
  IsPlain n null = ⊥
  IsPlain n (boolean b) = ⊥
  IsPlain n (number x) = IsWhole x
  IsPlain n (string s) = IsUtf8 s
  IsPlain n (array ds) = (1 ≤ n) × ArePlain (n - 1) ds
  IsPlain n (object ms) = (1 ≤ n) × IsRising ms × HavePlain (n - 1) ms

  pub ArePlain : ℕ → Items → Type 0
  ArePlain n no_items = Unit {0}
  ArePlain n (item d ds) = IsPlain n d × ArePlain n ds

  pub HavePlain : ℕ → Members → Type 0
  HavePlain n no_members = Unit {0}
  HavePlain n (member k d ms) = IsUtf8 k × IsPlain n d × HavePlain n ms

-- ---- no number is a float

neither : (a b : Bool) → a ≡ false → b ≡ false → (a || b) ≡ false
neither a b h k = rw (h, k) refl

mutual
  pub no_float : (n : ℕ) (d : Data) → IsPlain n d → has_float d ≡ false
  no_float n null h = absurd h
  no_float n (boolean b) h = absurd h
  no_float n (number (unsigned m)) h = refl
  no_float n (number (negative z)) h = absurd h
  no_float n (number (float x)) h = absurd h
  no_float n (string s) h = refl
  no_float n (array ds) h = no_float_items (n - 1) ds h.1
  no_float n (object ms) h = no_float_members (n - 1) ms h.2

  no_float_items : (n : ℕ) (ds : Items) → ArePlain n ds → items_have_float ds ≡ false
  no_float_items n no_items h = refl
  no_float_items n (item d ds) h = neither (has_float d) (items_have_float ds) (no_float n d h.0) (no_float_items n ds h.1)

  no_float_members : (n : ℕ) (ms : Members) → HavePlain n ms → members_have_float ms ≡ false
  no_float_members n no_members h = refl
  no_float_members n (member k d ms) h = neither (has_float d) (members_have_float ms) (no_float n d h.1) (no_float_members n ms h.2)

-- ---- the text is UTF-8

ascii_digits : (ds : List ℕ) → ((i : ℕ) → i < length ds → (48 ≤ get_or ds i 0) × (get_or ds i 0 ≤ 57)) → IsUtf8 ds
ascii_digits [] h = IsUtf8-nil
ascii_digits (d ∷ ds) h =
    let first = h 0 (omega arith) in
    IsUtf8-append (d ∷ []) ds (IsUtf8-are_ascii (d ∷ []) (rw (lt-ltb d 128 (omega (arith, first.1))) refl)) (ascii_digits ds (λ i l. h (suc i) (omega arith)))

utf8_decimal : (n : ℕ) → n < 2 ^ 64 → IsUtf8 (decimal n)
utf8_decimal n h = ascii_digits (decimal n) (λ i l. digit_at (decimal n) i (decimal_is_IsNumeral n h).0.1 l)

utf8_comma : (later : Bool) → IsUtf8 (comma_if later)
utf8_comma true = IsUtf8-are_ascii (44 ∷ []) refl
utf8_comma false = IsUtf8-nil

utf8_after : (x : ℕ) (xs : List ℕ) → are_ascii (x ∷ []) ≡ true → IsUtf8 xs → IsUtf8 (x ∷ xs)
utf8_after x xs h u = IsUtf8-append (x ∷ []) xs (IsUtf8-are_ascii (x ∷ []) h) u

mutual
  pub utf8_text : (n : ℕ) (d : Data) → IsPlain n d → IsUtf8 (compact_text d)
  utf8_text n null h = absurd h
  utf8_text n (boolean b) h = absurd h
  utf8_text n (number (unsigned m)) h = utf8_decimal m h
  utf8_text n (number (negative z)) h = absurd h
  utf8_text n (number (float x)) h = absurd h
  utf8_text n (string s) h = IsUtf8-quoted s h
  utf8_text n (array ds) h = utf8_after 91 (items_text false ds) refl (utf8_items (n - 1) false ds h.1)
  utf8_text n (object ms) h = utf8_after 123 (members_text false ms) refl (utf8_members (n - 1) false ms h.2)

  utf8_items : (n : ℕ) (later : Bool) (ds : Items) → ArePlain n ds → IsUtf8 (items_text later ds)
  utf8_items n later no_items h = IsUtf8-are_ascii (93 ∷ []) refl
  utf8_items n later (item d ds) h =
      IsUtf8-append (comma_if later) (compact_text d ++ items_text true ds) (utf8_comma later)
      (IsUtf8-append (compact_text d) (items_text true ds) (utf8_text n d h.0) (utf8_items n true ds h.1))

  utf8_members : (n : ℕ) (later : Bool) (ms : Members) → HavePlain n ms → IsUtf8 (members_text later ms)
  utf8_members n later no_members h = IsUtf8-are_ascii (125 ∷ []) refl
  utf8_members n later (member k d ms) h =
      IsUtf8-append (comma_if later) (quoted k ++ 58 ∷ (compact_text d ++ members_text true ms)) (utf8_comma later)
      (IsUtf8-append (quoted k) (58 ∷ (compact_text d ++ members_text true ms)) (IsUtf8-quoted k h.0)
      (utf8_after 58 (compact_text d ++ members_text true ms) refl
      (IsUtf8-append (compact_text d) (members_text true ms) (utf8_text n d h.1) (utf8_members n true ms h.2))))

-- ---- the tokens are read

mutual
  numbers : (n : ℕ) (d : Data) → IsPlain n d → tree.HasNumbers (outline d)
  numbers n null h = absurd h
  numbers n (boolean b) h = absurd h
  numbers n (number (unsigned m)) h = IsNumber-decimal m h
  numbers n (number (negative z)) h = absurd h
  numbers n (number (float x)) h = absurd h
  numbers n (string s) h = tt
  numbers n (array ds) h = numbers_in_items (n - 1) ds h.1
  numbers n (object ms) h = numbers_in_members (n - 1) ms h.2

  numbers_in_items : (n : ℕ) (ds : Items) → ArePlain n ds → tree.ItemsHaveNumbers (items_outline ds)
  numbers_in_items n no_items h = tt
  numbers_in_items n (item d ds) h = (numbers n d h.0, numbers_in_items n ds h.1)

  numbers_in_members : (n : ℕ) (ms : Members) → HavePlain n ms → tree.MembersHaveNumbers (members_outline ms)
  numbers_in_members n no_members h = tt
  numbers_in_members n (member k d ms) h = (numbers n d h.1, numbers_in_members n ms h.2)

mutual
  shallow : (n : ℕ) (d : Data) → IsPlain n d → tree.depth (outline d) ≤ n
  shallow n null h = absurd h
  shallow n (boolean b) h = absurd h
  shallow n (number x) h = omega arith
  shallow n (string s) h = omega arith
  shallow n (array ds) h = omega (arith, h.0, shallow_items (n - 1) ds h.1)
  shallow n (object ms) h = omega (arith, h.0, shallow_members (n - 1) ms h.2)

  shallow_items : (n : ℕ) (ds : Items) → ArePlain n ds → tree.items_depth (items_outline ds) ≤ n
  shallow_items n no_items h = omega arith
  shallow_items n (item d ds) h = omega (arith, shallow n d h.0, shallow_items n ds h.1)

  shallow_members : (n : ℕ) (ms : Members) → HavePlain n ms → tree.members_depth (members_outline ms) ≤ n
  shallow_members n no_members h = omega arith
  shallow_members n (member k d ms) h = omega (arith, shallow n d h.1, shallow_members n ms h.2)

-- ---- members go in one after another

-- members, and then others
abbrev onto : Members → Members → Members
onto no_members ms = ms
onto (member k d found) ms = member k d (onto found ms)

onto-onto : (a b c : Members) → onto (onto a b) c ≡ onto a (onto b c)
onto-onto no_members b c = refl
onto-onto (member k d a) b c = ap (member k d) (onto-onto a b c)

onto-none : (found : Members) → onto found no_members ≡ found
onto-none no_members = refl
onto-none (member k d found) = ap (member k d) (onto-none found)

-- each of the members' keys is below this one
abbrev AllBelow : Members → List ℕ → Type 0
AllBelow no_members k = Unit {0}
AllBelow (member l d found) k = IsBelow l k × AllBelow found k

-- the keys of the first are below those of the second
abbrev AreApart : Members → Members → Type 0
AreApart found no_members = Unit {0}
AreApart found (member k d ms) = AllBelow found k × AreApart found ms

put_last : (k : List ℕ) (d : Data) (found : Members) → AllBelow found k → put k d found ≡ onto found (member k d no_members)
put_last k d no_members h = refl
put_last k d (member l e found) h =
    let above : slice_cmp nat_cmp k l ≡ Greater = nat_list_cmp_total.antisymm k l ∙ ap ordering_reverse h.0 in
    rw above (ap (member l e) (put_last k d found h.1))

one_more : (found : Members) (k l : List ℕ) (d : Data) → AllBelow found l → IsBelow k l → AllBelow (onto found (member k d no_members)) l
one_more no_members k l d h b = (b, tt)
one_more (member m e found) k l d h b = (h.0, one_more found k l d h.1 b)

still_apart : (found : Members) (k : List ℕ) (d : Data) (ms : Members) → AreApart found ms → BelowAll k ms → AreApart (onto found (member k d no_members)) ms
still_apart found k d no_members h b = tt
still_apart found k d (member l e ms) h b = (one_more found k l d h.0 b.0, still_apart found k d ms h.1 b.1)

none_before : (ms : Members) → AreApart no_members ms
none_before no_members = tt
none_before (member k d ms) = (tt, none_before ms)

mutual
  read_outline : (n : ℕ) (d : Data) → IsPlain n d → of_json (outline d) ≡ Some d
  read_outline n null h = absurd h
  read_outline n (boolean b) h = absurd h
  read_outline n (number (unsigned m)) h = ap (option_map number) (number_of-decimal m h)
  read_outline n (number (negative z)) h = absurd h
  read_outline n (number (float x)) h = absurd h
  read_outline n (string s) h = refl
  read_outline n (array ds) h = ap (option_map array) (read_items (n - 1) ds h.1)
  read_outline n (object ms) h = ap (option_map object) (read_members (n - 1) no_members ms h.2 h.1 (none_before ms))

  read_items : (n : ℕ) (ds : Items) → ArePlain n ds → of_items (items_outline ds) ≡ Some ds
  read_items n no_items h = refl
  read_items n (item d ds) h =
      ap (option_and_then (λ e. option_map (item e) (of_items (items_outline ds)))) (read_outline n d h.0)
      ∙ ap (option_map (item d)) (read_items n ds h.1)

  read_members : (n : ℕ) (found ms : Members) → HavePlain n ms → IsRising ms → AreApart found ms
      → of_members (members_outline ms) found ≡ Some (onto found ms)
  read_members n found no_members h r a = ap Some (sym (onto-none found))
  read_members n found (member k d ms) h r a =
      ap (option_and_then (λ e. of_members (members_outline ms) (put k e found))) (read_outline n d h.1)
      ∙ ap (of_members (members_outline ms)) (put_last k d found a.0)
      ∙ read_members n (onto found (member k d no_members)) ms h.2 r.1 (still_apart found k d ms a.1 r.0)
      ∙ ap Some (onto-onto found (member k d no_members) ms)

-- what is written is read again
pub read_text : (n : ℕ) (d : Data) → n ≤ max_depth → IsPlain n d → read (compact_text d) ≡ Some d
read_text n d low h =
    let j = outline d in
    let last : Option (json.Json × List Token) → Option json.Json = option_and_then (λ p. json.if_last p.0 p.1) in
    ap (λ text. option_and_then of_json (last (json.value max_depth (tokens text)))) (sym (print-outline d))
    ∙ ap (λ ts. option_and_then of_json (last (json.value max_depth ts))) (tokens-print (json_tokens j) (ArePrintable-json_tokens j (numbers n d h)) ∙ sym (append-nil (json_tokens j)))
    ∙ ap (λ r. option_and_then of_json (last r)) (value-json_tokens j max_depth [] (omega (arith, low, shallow n d h)))
    ∙ read_outline n d h

-- ---- members that are put in

still_below : (l k : List ℕ) (d : Data) (ms : Members) → IsBelow l k → BelowAll l ms → BelowAll l (put k d ms)
still_below l k d no_members b h = (b, tt)
still_below l k d (member m e ms) b h = at_order (slice_cmp nat_cmp k m) (still_below l k d ms b h.1)
  where
    at_order : (o : Ordering) → BelowAll l (put k d ms)
        → BelowAll l (match_ordering o (member k d (member m e ms)) (member m d ms) (member m e (put k d ms)))
    at_order Less rest = (b, h)
    at_order Equal rest = h
    at_order Greater rest = (h.0, rest)

below_more : (k l : List ℕ) (ms : Members) → IsBelow k l → BelowAll l ms → BelowAll k ms
below_more k l no_members b h = tt
below_more k l (member m e ms) b h = (nat_list_cmp_total.trans k l m b h.0, below_more k l ms b h.1)

pub rising_put : (k : List ℕ) (d : Data) (ms : Members) → IsRising ms → IsRising (put k d ms)
rising_put k d no_members h = (tt, tt)
rising_put k d (member l e ms) h = at_order (slice_cmp nat_cmp k l) refl (rising_put k d ms h.1)
  where
    at_order : (o : Ordering) → slice_cmp nat_cmp k l ≡ o → IsRising (put k d ms)
        → IsRising (match_ordering o (member k d (member l e ms)) (member l d ms) (member l e (put k d ms)))
    at_order Less is rest = ((is, below_more k l ms is h.0), h)
    at_order Equal is rest = h
    at_order Greater is rest =
        (still_below l k d ms (nat_list_cmp_total.antisymm l k ∙ ap ordering_reverse is) h.0, rest)

pub plain_put : (n : ℕ) (k : List ℕ) (d : Data) (ms : Members) → IsUtf8 k → IsPlain n d → HavePlain n ms → HavePlain n (put k d ms)
plain_put n k d no_members u p h = (u, p, tt)
plain_put n k d (member l e ms) u p h = at_order (slice_cmp nat_cmp k l) (plain_put n k d ms u p h.2)
  where
    at_order : (o : Ordering) → HavePlain n (put k d ms)
        → HavePlain n (match_ordering o (member k d (member l e ms)) (member l d ms) (member l e (put k d ms)))
    at_order Less rest = (u, p, h)
    at_order Equal rest = (h.0, p, h.2)
    at_order Greater rest = (h.0, h.1, rest)
