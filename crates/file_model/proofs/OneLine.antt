-- Each command is read from its line, and a line that is read as a command is the line of that command.
use Rattle.std.proofs.Common.{◌≡◌, ◌⊎◌, ◌==◌, Bool, true, false, ℕ, ◌≤◌, ◌<◌, List, [], ◌∷◌, ◌++◌, Option, None, Some, nat_le, not, codes, length, cond, sym, ◌∙◌, ap, ap₂, append_assoc, refl, subst, arith, inl, inr}
use Rattle.std.specs.Prelude.{◌&&◌, ◌^◌}
use Rattle.std.specs.Char.{is_ascii_alphanumeric}
use Rattle.std.specs.Fmt.{decimal}
use Rattle.std.specs.List.{join_with_byte, list_all, slice_split}
use Rattle.std.specs.Str.{bytes_eq}
use Rattle.std.proofs.lemmas.Bool.{and_parts, cases_Bool, cond-true, false≢true, leb-true}
use Rattle.std.proofs.lemmas.Bool.Decides.{nat_tests}
use Rattle.std.proofs.lemmas.Fmt.{digits_value-decimal}
use Rattle.std.proofs.lemmas.List.Splits.{join_with_byte-slice_split}
use Rattle.kind_edits.specs.Spelled.{is_numeral, value_of}
use Rattle.kind_edits.proofs.Reading.{own, printed}
use Rattle.kind_edits.proofs.Spellings.{numeral-decimal}
use Rattle.file_model.specs.declared.command.Command.{Command}
use Rattle.file_model.specs.declared.command.Command.TheVariants.{New, Edit, Show, Stat, Export, Merge, Play, Check, Gen, Upgrade}
use Rattle.file_model.specs.declared.command.SchemaName.{SchemaName}
use Rattle.file_model.specs.declared.command.SchemaName.TheVariants.{Pair, Trio, File}
use Rattle.file_model.specs.Line.{command_of, command_of_words, edit_of, four_of, has_line, is_bare, is_file_name, is_name_byte, is_schema_name, is_text, is_word, last_of, line_of, name_of, number_of, schema_of, schema_word, three_of, two_of, with_part, words_of}
use Rattle.file_model.proofs.Given.{none_some, some_is}
use Rattle.file_model.proofs.Pieces.{all_weaker, both_true, decimal_visible, is_space, is_spaceless, is_visible, name_visible, pieces_spaceless, split_all, split_words, text_parts, text_words, visible_spaceless, visible_text}
use Rattle.file_model.proofs.Places.{same_bytes}
use Rattle.file_model.proofs.Words.{text_command, text_none}

-- ---- a line is read as its command

spoken_line : (word : List ℕ) (words : List (List ℕ)) → list_all is_text (word ∷ words) ≡ true → list_all is_spaceless (word ∷ words) ≡ true
    → command_of (join_with_byte 32 (word ∷ words)) ≡ command_of_words (word ∷ words)
spoken_line word words h k = sym (text_command (join_with_byte 32 (word ∷ words)) (text_words word words h)) ∙ ap command_of_words (split_all word words k)

plain_line : (word : List ℕ) (words : List (List ℕ)) → list_all is_visible (word ∷ words) ≡ true → command_of (join_with_byte 32 (word ∷ words)) ≡ command_of_words (word ∷ words)
plain_line word words h =
    spoken_line word words (all_weaker is_visible is_text visible_text (word ∷ words) h) (all_weaker is_visible is_spaceless visible_spaceless (word ∷ words) h)

seen_and : (a : List ℕ) (words : List (List ℕ)) → is_visible a ≡ true → list_all is_visible words ≡ true → list_all is_visible (a ∷ words) ≡ true
seen_and a words h k = both_true (is_visible a) (list_all is_visible words) h k

seen_name : (a : List ℕ) (words : List (List ℕ)) → is_file_name a ≡ true → list_all is_visible words ≡ true → list_all is_visible (a ∷ words) ≡ true
seen_name a words h k = seen_and a words (name_visible a h) k

seen_number : (n : ℕ) (words : List (List ℕ)) → n < 2 ^ 64 → list_all is_visible words ≡ true → list_all is_visible (decimal n ∷ words) ≡ true
seen_number n words h k = seen_and (decimal n) words (decimal_visible n h) k

with_is : {X : Type 0} (o : Option X) (x : X) (then' : X → Option Command) → o ≡ Some x → with_part o then' ≡ then' x
with_is o x then' q = ap (λ o. with_part o then') q

name_read : (a : List ℕ) → is_file_name a ≡ true → name_of a ≡ Some a
name_read a h = cond-true (is_file_name a) (Some a) None h

number_read : (least most n : ℕ) → least ≤ n → n ≤ most → n < 2 ^ 64 → number_of least most (decimal n) ≡ Some n
number_read least most n low high small =
    let numeral : is_numeral (decimal n) ≡ true = numeral-decimal n small in
    let value : value_of (decimal n) ≡ n = digits_value-decimal own n small in
    let test : (is_numeral (decimal n) && (nat_le least (value_of (decimal n)) && nat_le (value_of (decimal n)) most)) ≡ true = grind (arith, nat_tests) in
    cond-true (is_numeral (decimal n) && (nat_le least (value_of (decimal n)) && nat_le (value_of (decimal n)) most)) (Some (value_of (decimal n))) None test ∙ ap Some value

no_at : (b : ℕ) → is_ascii_alphanumeric b ≡ true → (b == 64) ≡ false
no_at b h = grind (arith, nat_tests)

no_built_in : (a built : List ℕ) → is_file_name a ≡ true → bytes_eq a (64 ∷ built) ≡ false
no_built_in [] built h = absurd (false≢true h)
no_built_in (b ∷ a) built h = ap (λ (t : Bool). t && bytes_eq a built) (no_at b (and_parts (is_ascii_alphanumeric b) (nat_le (length a) 63 && list_all is_name_byte a) h).0)

schema_read : (schema : SchemaName) → is_schema_name schema ≡ true → schema_of (schema_word schema) ≡ Some schema
schema_read Pair h = refl
schema_read Trio h = refl
schema_read (File name) h =
    ap₂ (λ (a b : Bool). cond a (Some Pair) (cond b (Some Trio) (cond (is_file_name name) (Some (File name)) None)))
    (no_built_in name (codes "pair") h) (no_built_in name (codes "trio") h)
    ∙ cond-true (is_file_name name) (Some (File name)) None h

schema_visible : (schema : SchemaName) → is_schema_name schema ≡ true → is_visible (schema_word schema) ≡ true
schema_visible Pair h = refl
schema_visible Trio h = refl
schema_visible (File name) h = name_visible name h

low : (n most : ℕ) → nat_le n most ≡ true → n ≤ most
low n most h = leb-true n most h

-- the command of one name, and of two

with_name : (a : List ℕ) (make : List ℕ → Command) → is_file_name a ≡ true → with_part (name_of a) (λ f. Some (make f)) ≡ Some (make a)
with_name a make h = with_is (name_of a) a (λ f. Some (make f)) (name_read a h)

with_names : (a b : List ℕ) (make : List ℕ → List ℕ → Command) → is_file_name a ≡ true → is_file_name b ≡ true → with_part (name_of a) (λ f. with_part (name_of b) (λ g. Some (make f g))) ≡ Some (make a b)
with_names a b make h k = with_is (name_of a) a (λ f. with_part (name_of b) (λ g. Some (make f g))) (name_read a h) ∙ with_name b (make a) k

-- an edit

record IsEdit (file field verb : List ℕ) : Type 0 where
  name : is_file_name file ≡ true
  field_text : is_text field ≡ true
  field_some : not (length field == 0) ≡ true
  field_spaceless : is_spaceless field ≡ true
  verb_text : is_text verb ≡ true
  verb_some : not (length verb == 0) ≡ true
  verb_spaceless : is_spaceless verb ≡ true

edit_parts : (file field verb rest : List ℕ) → has_line (Edit file field verb rest) ≡ true → IsEdit file field verb × (is_text rest ≡ true)
edit_parts file field verb rest h =
    let a = and_parts (is_file_name file) (is_word field && (is_word verb && is_text rest)) h in
    let b = and_parts (is_word field) (is_word verb && is_text rest) a.1 in
    let c = and_parts (is_word verb) (is_text rest) b.1 in
    let f = and_parts (is_text field) (not (length field == 0) && is_spaceless field) b.0 in
    let g = and_parts (not (length field == 0)) (is_spaceless field) f.1 in
    let v = and_parts (is_text verb) (not (length verb == 0) && is_spaceless verb) c.0 in
    let w = and_parts (not (length verb == 0)) (is_spaceless verb) v.1 in
    (record { name = a.0; field_text = f.0; field_some = g.0; field_spaceless = g.1; verb_text = v.0; verb_some = w.0; verb_spaceless = w.1 }, c.1)

edit_spaceless : (file field verb : List ℕ) → IsEdit file field verb → list_all is_spaceless (codes "edit" ∷ file ∷ field ∷ verb ∷ []) ≡ true
edit_spaceless file field verb e =
    both_true (is_spaceless file) (is_spaceless field && (is_spaceless verb && true)) (visible_spaceless file (name_visible file e.name))
    (both_true (is_spaceless field) (is_spaceless verb && true) e.field_spaceless (both_true (is_spaceless verb) true e.verb_spaceless refl))

edit_text : (file field verb : List ℕ) (more : List (List ℕ)) → IsEdit file field verb → list_all is_text more ≡ true → list_all is_text (codes "edit" ∷ file ∷ field ∷ verb ∷ more) ≡ true
edit_text file field verb more e h =
    both_true (is_text (codes "edit")) (is_text file && (is_text field && (is_text verb && list_all is_text more))) (visible_text (codes "edit") refl)
    (both_true (is_text file) (is_text field && (is_text verb && list_all is_text more)) (visible_text file (name_visible file e.name))
    (both_true (is_text field) (is_text verb && list_all is_text more) e.field_text (both_true (is_text verb) (list_all is_text more) e.verb_text h)))

edit_is : (file field verb : List ℕ) (rest : List (List ℕ)) → IsEdit file field verb → edit_of file field verb rest ≡ Some (Edit file field verb (join_with_byte 32 rest))
edit_is file field verb rest e =
    cond-true (is_file_name file && (not (length field == 0) && not (length verb == 0))) (Some (Edit file field verb (join_with_byte 32 rest))) None
    (both_true (is_file_name file) (not (length field == 0) && not (length verb == 0)) e.name (both_true (not (length field == 0)) (not (length verb == 0)) e.field_some e.verb_some))

bare_read : (file field verb : List ℕ) → IsEdit file field verb → command_of (line_of (Edit file field verb [])) ≡ Some (Edit file field verb [])
bare_read file field verb e =
    spoken_line (codes "edit") (file ∷ field ∷ verb ∷ []) (edit_text file field verb [] e refl) (edit_spaceless file field verb e) ∙ edit_is file field verb [] e

rest_read : (file field verb rest : List ℕ) → IsEdit file field verb → is_text rest ≡ true
    → command_of (join_with_byte 32 (codes "edit" ∷ file ∷ field ∷ verb ∷ rest ∷ [])) ≡ Some (Edit file field verb rest)
rest_read file field verb rest e h =
    let front : List (List ℕ) = codes "edit" ∷ file ∷ field ∷ verb ∷ [] in
    let line = join_with_byte 32 (codes "edit" ∷ file ∷ field ∷ verb ∷ rest ∷ []) in
    sym (text_command line (text_words (codes "edit") (file ∷ field ∷ verb ∷ rest ∷ []) (edit_text file field verb (rest ∷ []) e (both_true (is_text rest) true h refl))))
    ∙ ap command_of_words (split_words front rest (edit_spaceless file field verb e))
    ∙ edit_is file field verb (slice_split is_space rest) e
    ∙ ap (λ (r : List ℕ). Some (Edit file field verb r)) (join_with_byte-slice_split 32 rest)

pub read_again : (command : Command) → has_line command ≡ true → command_of (line_of command) ≡ Some command
read_again (New file member schema) h =
    let a = and_parts (is_file_name file) (nat_le member 99 && is_schema_name schema) h in
    let b = and_parts (nat_le member 99) (is_schema_name schema) a.1 in
    let high = low member 99 b.0 in
    let make : (List ℕ → ℕ → SchemaName → Option Command) = λ f m s. Some (New f m s) in
    plain_line (codes "new") (file ∷ decimal member ∷ schema_word schema ∷ [])
    (seen_name file (decimal member ∷ schema_word schema ∷ []) a.0 (seen_number member (schema_word schema ∷ []) (omega (arith, high)) (seen_and (schema_word schema) [] (schema_visible schema b.1) refl)))
    ∙ with_is (name_of file) file (λ f. with_part (number_of 0 99 (decimal member)) (λ m. with_part (schema_of (schema_word schema)) (make f m))) (name_read file a.0)
    ∙ with_is (number_of 0 99 (decimal member)) member (λ m. with_part (schema_of (schema_word schema)) (make file m)) (number_read 0 99 member (omega arith) high (omega (arith, high)))
    ∙ with_is (schema_of (schema_word schema)) schema (make file member) (schema_read schema b.1)
read_again (Edit file field verb []) h = bare_read file field verb (edit_parts file field verb [] h).0
read_again (Edit file field verb (b ∷ rest)) h = let e = edit_parts file field verb (b ∷ rest) h in rest_read file field verb (b ∷ rest) e.0 e.1
read_again (Show file) h = plain_line (codes "show") (file ∷ []) (seen_name file [] h refl) ∙ with_name file Show h
read_again (Stat file) h = plain_line (codes "stat") (file ∷ []) (seen_name file [] h refl) ∙ with_name file Stat h
read_again (Export file batch None) h =
    let a = and_parts (is_file_name file) (is_file_name batch) h in
    plain_line (codes "export") (file ∷ batch ∷ []) (seen_name file (batch ∷ []) a.0 (seen_name batch [] a.1 refl)) ∙ with_names file batch (λ f b. Export f b None) a.0 a.1
read_again (Export file batch (Some to)) h =
    let a = and_parts (is_file_name file) (is_file_name batch && nat_le to 99) h in
    let b = and_parts (is_file_name batch) (nat_le to 99) a.1 in
    let high = low to 99 b.1 in
    let make : (List ℕ → List ℕ → ℕ → Option Command) = λ f g j. Some (Export f g (Some j)) in
    plain_line (codes "export") (file ∷ batch ∷ decimal to ∷ [])
    (seen_name file (batch ∷ decimal to ∷ []) a.0 (seen_name batch (decimal to ∷ []) b.0 (seen_number to [] (omega (arith, high)) refl)))
    ∙ with_is (name_of file) file (λ f. with_part (name_of batch) (λ g. with_part (number_of 0 99 (decimal to)) (make f g))) (name_read file a.0)
    ∙ with_is (name_of batch) batch (λ g. with_part (number_of 0 99 (decimal to)) (make file g)) (name_read batch b.0)
    ∙ with_is (number_of 0 99 (decimal to)) to (make file batch) (number_read 0 99 to (omega arith) high (omega (arith, high)))
read_again (Merge file batch) h =
    let a = and_parts (is_file_name file) (is_file_name batch) h in
    plain_line (codes "merge") (file ∷ batch ∷ []) (seen_name file (batch ∷ []) a.0 (seen_name batch [] a.1 refl)) ∙ with_names file batch Merge a.0 a.1
read_again Play h = plain_line (codes "play") [] refl
read_again (Check table) h = plain_line (codes "check") (table ∷ []) (seen_name table [] h refl) ∙ with_name table Check h
read_again (Gen start members steps) h =
    let a = and_parts (nat_le start 65535) ((nat_le 2 members && nat_le members 8) && (nat_le 1 steps && nat_le steps 100000)) h in
    let b = and_parts (nat_le 2 members && nat_le members 8) (nat_le 1 steps && nat_le steps 100000) a.1 in
    let m = and_parts (nat_le 2 members) (nat_le members 8) b.0 in
    let s = and_parts (nat_le 1 steps) (nat_le steps 100000) b.1 in
    let start_high = low start 65535 a.0 in
    let members_high = low members 8 m.1 in
    let steps_high = low steps 100000 s.1 in
    let make : (ℕ → ℕ → ℕ → Option Command) = λ x y z. Some (Gen x y z) in
    plain_line (codes "gen") (decimal start ∷ decimal members ∷ decimal steps ∷ [])
    (seen_number start (decimal members ∷ decimal steps ∷ []) (omega (arith, start_high)) (seen_number members (decimal steps ∷ []) (omega (arith, members_high)) (seen_number steps [] (omega (arith, steps_high)) refl)))
    ∙ with_is (number_of 0 65535 (decimal start)) start (λ x. with_part (number_of 2 8 (decimal members)) (λ y. with_part (number_of 1 100000 (decimal steps)) (make x y)))
    (number_read 0 65535 start (omega arith) start_high (omega (arith, start_high)))
    ∙ with_is (number_of 2 8 (decimal members)) members (λ y. with_part (number_of 1 100000 (decimal steps)) (make start y))
    (number_read 2 8 members (low 2 members m.0) members_high (omega (arith, members_high)))
    ∙ with_is (number_of 1 100000 (decimal steps)) steps (make start members) (number_read 1 100000 steps (low 1 steps s.0) steps_high (omega (arith, steps_high)))
read_again (Upgrade file) h = plain_line (codes "upgrade") (file ∷ []) (seen_name file [] h refl) ∙ with_name file Upgrade h

-- an edit without a rest is also read where a space follows its verb

last_space : (a b c d : List ℕ) → (a ++ 32 ∷ (b ++ 32 ∷ (c ++ 32 ∷ d))) ++ 32 ∷ [] ≡ a ++ 32 ∷ (b ++ 32 ∷ (c ++ 32 ∷ (d ++ 32 ∷ [])))
last_space a b c d = simp append_assoc

pub read_bare : (command : Command) → has_line command ≡ true → is_bare command ≡ true → command_of (line_of command ++ 32 ∷ []) ≡ Some command
read_bare (New file member schema) h q = absurd (false≢true q)
read_bare (Edit file field verb []) h q = ap command_of (last_space (codes "edit") file field verb) ∙ rest_read file field verb [] (edit_parts file field verb [] h).0 (visible_text [] refl)
read_bare (Edit file field verb (b ∷ rest)) h q = absurd (false≢true q)
read_bare (Show file) h q = absurd (false≢true q)
read_bare (Stat file) h q = absurd (false≢true q)
read_bare (Export file batch to) h q = absurd (false≢true q)
read_bare (Merge file batch) h q = absurd (false≢true q)
read_bare Play h q = absurd (false≢true q)
read_bare (Check table) h q = absurd (false≢true q)
read_bare (Gen start members steps) h q = absurd (false≢true q)
read_bare (Upgrade file) h q = absurd (false≢true q)

-- ---- what is read is a command's line

choose : {X : Type 0} (b : Bool) (v n : X) → cond b (Some v) None ≡ Some n → (b ≡ true) × (v ≡ n)
choose true v n h = (refl, cc)
choose false v n h = absurd (none_some n h)

with_part_is : {X : Type 0} (o : Option X) (then' : X → Option Command) (c : Command) → with_part o then' ≡ Some c → (x : X) × (o ≡ Some x) × (then' x ≡ Some c)
with_part_is None then' c h = absurd (none_some c h)
with_part_is (Some x) then' c h = (x, refl, h)

name_is : (a v : List ℕ) → name_of a ≡ Some v → (is_file_name a ≡ true) × (a ≡ v)
name_is a v h = choose (is_file_name a) a v h

record IsNumber (least most : ℕ) (word : List ℕ) (n : ℕ) : Type 0 where
  low : nat_le least n ≡ true
  high : nat_le n most ≡ true
  spelled : word ≡ decimal n

number_is : (least most : ℕ) (word : List ℕ) (n : ℕ) → most < 2 ^ 64 → number_of least most word ≡ Some n → IsNumber least most word n
number_is least most word n small h =
    let range = nat_le least (value_of word) && nat_le (value_of word) most in
    let a = choose (is_numeral word && range) (value_of word) n h in
    let b = and_parts (is_numeral word) range a.0 in
    let c = and_parts (nat_le least (value_of word)) (nat_le (value_of word) most) b.1 in
    let high = leb-true (value_of word) most c.1 in
    record {
      low = subst (λ (k : ℕ). nat_le least k ≡ true) a.1 c.0;
      high = subst (λ (k : ℕ). nat_le k most ≡ true) a.1 c.1;
      spelled = sym (printed word b.0 (omega (arith, high, small))) ∙ ap decimal a.1;
    }

schema_is : (a : List ℕ) (schema : SchemaName) → schema_of a ≡ Some schema → (is_schema_name schema ≡ true) × (a ≡ schema_word schema)
schema_is a schema h = by (bytes_eq a (codes "@pair")) (bytes_eq a (codes "@trio")) (λ t. same_bytes a (codes "@pair") t) (λ t. same_bytes a (codes "@trio") t) h
  where
    by : (p t : Bool) → (p ≡ true → a ≡ codes "@pair") → (t ≡ true → a ≡ codes "@trio")
        → cond p (Some Pair) (cond t (Some Trio) (cond (is_file_name a) (Some (File a)) None)) ≡ Some schema → (is_schema_name schema ≡ true) × (a ≡ schema_word schema)
    by true t f g k = subst (λ (s : SchemaName). (is_schema_name s ≡ true) × (a ≡ schema_word s)) (some_is Pair schema k) (refl, f refl)
    by false true f g k = subst (λ (s : SchemaName). (is_schema_name s ≡ true) × (a ≡ schema_word s)) (some_is Trio schema k) (refl, g refl)
    by false false f g k =
        let n = choose (is_file_name a) (File a) schema k in
        subst (λ (s : SchemaName). (is_schema_name s ≡ true) × (a ≡ schema_word s)) n.1 (n.0, refl)

-- the words are those of the command
record Found (words : List (List ℕ)) (command : Command) : Type 0 where
  has : has_line command ≡ true
  words_are : words ≡ words_of command

found : (words : List (List ℕ)) (command other : Command) → Some other ≡ Some command → has_line other ≡ true → words ≡ words_of other → Found words command
found words command other q h w = subst (Found words) (some_is other command q) (record { has = h; words_are = w })

one_name : (verb a : List ℕ) (make : List ℕ → Command) (command : Command) → ((f : List ℕ) → is_file_name f ≡ true → has_line (make f) ≡ true) → ((f : List ℕ) → verb ∷ f ∷ [] ≡ words_of (make f))
    → with_part (name_of a) (λ f. Some (make f)) ≡ Some command → Found (verb ∷ a ∷ []) command
one_name verb a make command has words h =
    let n = with_part_is (name_of a) (λ f. Some (make f)) command h in
    let is = name_is a n.0 n.1 in
    found (verb ∷ a ∷ []) command (make n.0) n.2 (has n.0 (subst (λ (f : List ℕ). is_file_name f ≡ true) is.1 is.0)) (ap (λ (f : List ℕ). verb ∷ f ∷ []) is.1 ∙ words n.0)

abbrev one : List ℕ → (List ℕ → Command) → Option Command
one a make = with_part (name_of a) (λ f. Some (make f))

abbrev two : List ℕ → List ℕ → (List ℕ → List ℕ → Command) → Option Command
two a b make = with_part (name_of a) (λ f. with_part (name_of b) (λ g. Some (make f g)))

two_found : (verb a : List ℕ) (command : Command) → two_of verb a ≡ Some command → Found (verb ∷ a ∷ []) command
two_found verb a command h =
    by (bytes_eq verb (codes "show")) (bytes_eq verb (codes "stat")) (bytes_eq verb (codes "check")) (bytes_eq verb (codes "upgrade"))
    (λ t. same_bytes verb (codes "show") t) (λ t. same_bytes verb (codes "stat") t) (λ t. same_bytes verb (codes "check") t) (λ t. same_bytes verb (codes "upgrade") t) h
  where
    by : (s t k u : Bool) → (s ≡ true → verb ≡ codes "show") → (t ≡ true → verb ≡ codes "stat") → (k ≡ true → verb ≡ codes "check") → (u ≡ true → verb ≡ codes "upgrade")
        → cond s (one a Show) (cond t (one a Stat) (cond k (one a Check) (cond u (one a Upgrade) None))) ≡ Some command → Found (verb ∷ a ∷ []) command
    by true t k u fs ft fk fu g = one_name verb a Show command (λ f i. i) (λ f. ap (λ (v : List ℕ). v ∷ f ∷ []) (fs refl)) g
    by false true k u fs ft fk fu g = one_name verb a Stat command (λ f i. i) (λ f. ap (λ (v : List ℕ). v ∷ f ∷ []) (ft refl)) g
    by false false true u fs ft fk fu g = one_name verb a Check command (λ f i. i) (λ f. ap (λ (v : List ℕ). v ∷ f ∷ []) (fk refl)) g
    by false false false true fs ft fk fu g = one_name verb a Upgrade command (λ f i. i) (λ f. ap (λ (v : List ℕ). v ∷ f ∷ []) (fu refl)) g
    by false false false false fs ft fk fu g = absurd (none_some command g)

two_names : (verb a b : List ℕ) (make : List ℕ → List ℕ → Command) (command : Command) → ((f g : List ℕ) → (is_file_name f && is_file_name g) ≡ true → has_line (make f g) ≡ true)
    → ((f g : List ℕ) → verb ∷ f ∷ g ∷ [] ≡ words_of (make f g)) → with_part (name_of a) (λ f. with_part (name_of b) (λ g. Some (make f g))) ≡ Some command → Found (verb ∷ a ∷ b ∷ []) command
two_names verb a b make command has words h =
    let n = with_part_is (name_of a) (λ f. with_part (name_of b) (λ g. Some (make f g))) command h in
    let o = with_part_is (name_of b) (λ g. Some (make n.0 g)) command n.2 in
    let i = name_is a n.0 n.1 in
    let j = name_is b o.0 o.1 in
    found (verb ∷ a ∷ b ∷ []) command (make n.0 o.0) o.2
    (has n.0 o.0 (both_true (is_file_name n.0) (is_file_name o.0) (subst (λ (f : List ℕ). is_file_name f ≡ true) i.1 i.0) (subst (λ (f : List ℕ). is_file_name f ≡ true) j.1 j.0)))
    (ap₂ (λ (f g : List ℕ). verb ∷ f ∷ g ∷ []) i.1 j.1 ∙ words n.0 o.0)

three_found : (verb a b : List ℕ) (command : Command) → three_of verb a b ≡ Some command → Found (verb ∷ a ∷ b ∷ []) command
three_found verb a b command h =
    by (bytes_eq verb (codes "export")) (bytes_eq verb (codes "merge")) (λ t. same_bytes verb (codes "export") t) (λ t. same_bytes verb (codes "merge") t) h
  where
    by : (e m : Bool) → (e ≡ true → verb ≡ codes "export") → (m ≡ true → verb ≡ codes "merge")
        → cond e (two a b (λ f g. Export f g None)) (cond m (two a b Merge) None) ≡ Some command → Found (verb ∷ a ∷ b ∷ []) command
    by true m fe fm g = two_names verb a b (λ f g. Export f g None) command (λ f g i. i) (λ f g. ap (λ (v : List ℕ). v ∷ f ∷ g ∷ []) (fe refl)) g
    by false true fe fm g = two_names verb a b Merge command (λ f g i. i) (λ f g. ap (λ (v : List ℕ). v ∷ f ∷ g ∷ []) (fm refl)) g
    by false false fe fm g = absurd (none_some command g)

new_found : (verb a b c : List ℕ) (command : Command) → verb ≡ codes "new"
    → with_part (name_of a) (λ f. with_part (number_of 0 99 b) (λ m. with_part (schema_of c) (λ s. Some (New f m s)))) ≡ Some command → Found (verb ∷ a ∷ b ∷ c ∷ []) command
new_found verb a b c command v h =
    let n = with_part_is (name_of a) (λ f. with_part (number_of 0 99 b) (λ m. with_part (schema_of c) (λ s. Some (New f m s)))) command h in
    let m = with_part_is (number_of 0 99 b) (λ m. with_part (schema_of c) (λ s. Some (New n.0 m s))) command n.2 in
    let s = with_part_is (schema_of c) (λ s. Some (New n.0 m.0 s)) command m.2 in
    let i = name_is a n.0 n.1 in
    let j = number_is 0 99 b m.0 (omega arith) m.1 in
    let k = schema_is c s.0 s.1 in
    found (verb ∷ a ∷ b ∷ c ∷ []) command (New n.0 m.0 s.0) s.2
    (both_true (is_file_name n.0) (nat_le m.0 99 && is_schema_name s.0) (subst (λ (f : List ℕ). is_file_name f ≡ true) i.1 i.0) (both_true (nat_le m.0 99) (is_schema_name s.0) j.high k.0))
    (ap (λ (x : List ℕ). x ∷ a ∷ b ∷ c ∷ []) v ∙ ap (λ (x : List ℕ). codes "new" ∷ x ∷ b ∷ c ∷ []) i.1
    ∙ ap (λ (x : List ℕ). codes "new" ∷ n.0 ∷ x ∷ c ∷ []) j.spelled ∙ ap (λ (x : List ℕ). codes "new" ∷ n.0 ∷ decimal m.0 ∷ x ∷ []) k.1)

export_found : (verb a b c : List ℕ) (command : Command) → verb ≡ codes "export"
    → with_part (name_of a) (λ f. with_part (name_of b) (λ g. with_part (number_of 0 99 c) (λ to. Some (Export f g (Some to))))) ≡ Some command → Found (verb ∷ a ∷ b ∷ c ∷ []) command
export_found verb a b c command v h =
    let n = with_part_is (name_of a) (λ f. with_part (name_of b) (λ g. with_part (number_of 0 99 c) (λ to. Some (Export f g (Some to))))) command h in
    let o = with_part_is (name_of b) (λ g. with_part (number_of 0 99 c) (λ to. Some (Export n.0 g (Some to)))) command n.2 in
    let t = with_part_is (number_of 0 99 c) (λ to. Some (Export n.0 o.0 (Some to))) command o.2 in
    let i = name_is a n.0 n.1 in
    let j = name_is b o.0 o.1 in
    let k = number_is 0 99 c t.0 (omega arith) t.1 in
    found (verb ∷ a ∷ b ∷ c ∷ []) command (Export n.0 o.0 (Some t.0)) t.2
    (both_true (is_file_name n.0) (is_file_name o.0 && nat_le t.0 99) (subst (λ (f : List ℕ). is_file_name f ≡ true) i.1 i.0)
    (both_true (is_file_name o.0) (nat_le t.0 99) (subst (λ (f : List ℕ). is_file_name f ≡ true) j.1 j.0) k.high))
    (ap (λ (x : List ℕ). x ∷ a ∷ b ∷ c ∷ []) v ∙ ap₂ (λ (x y : List ℕ). codes "export" ∷ x ∷ y ∷ c ∷ []) i.1 j.1 ∙ ap (λ (x : List ℕ). codes "export" ∷ n.0 ∷ o.0 ∷ x ∷ []) k.spelled)

gen_found : (verb a b c : List ℕ) (command : Command) → verb ≡ codes "gen"
    → with_part (number_of 0 65535 a) (λ x. with_part (number_of 2 8 b) (λ y. with_part (number_of 1 100000 c) (λ z. Some (Gen x y z)))) ≡ Some command → Found (verb ∷ a ∷ b ∷ c ∷ []) command
gen_found verb a b c command v h =
    let x = with_part_is (number_of 0 65535 a) (λ x. with_part (number_of 2 8 b) (λ y. with_part (number_of 1 100000 c) (λ z. Some (Gen x y z)))) command h in
    let y = with_part_is (number_of 2 8 b) (λ y. with_part (number_of 1 100000 c) (λ z. Some (Gen x.0 y z))) command x.2 in
    let z = with_part_is (number_of 1 100000 c) (λ z. Some (Gen x.0 y.0 z)) command y.2 in
    let i = number_is 0 65535 a x.0 (omega arith) x.1 in
    let j = number_is 2 8 b y.0 (omega arith) y.1 in
    let k = number_is 1 100000 c z.0 (omega arith) z.1 in
    found (verb ∷ a ∷ b ∷ c ∷ []) command (Gen x.0 y.0 z.0) z.2
    (both_true (nat_le x.0 65535) ((nat_le 2 y.0 && nat_le y.0 8) && (nat_le 1 z.0 && nat_le z.0 100000)) i.high
    (both_true (nat_le 2 y.0 && nat_le y.0 8) (nat_le 1 z.0 && nat_le z.0 100000) (both_true (nat_le 2 y.0) (nat_le y.0 8) j.low j.high) (both_true (nat_le 1 z.0) (nat_le z.0 100000) k.low k.high)))
    (ap (λ (w : List ℕ). w ∷ a ∷ b ∷ c ∷ []) v ∙ ap (λ (w : List ℕ). codes "gen" ∷ w ∷ b ∷ c ∷ []) i.spelled
    ∙ ap₂ (λ (w u : List ℕ). codes "gen" ∷ decimal x.0 ∷ w ∷ u ∷ []) j.spelled k.spelled)

four_found : (verb a b c : List ℕ) (command : Command) → four_of verb a b c ≡ Some command → Found (verb ∷ a ∷ b ∷ c ∷ []) command
four_found verb a b c command h =
    by (bytes_eq verb (codes "new")) (bytes_eq verb (codes "export")) (bytes_eq verb (codes "gen"))
    (λ t. same_bytes verb (codes "new") t) (λ t. same_bytes verb (codes "export") t) (λ t. same_bytes verb (codes "gen") t) h
  where
    by : (n e g : Bool) → (n ≡ true → verb ≡ codes "new") → (e ≡ true → verb ≡ codes "export") → (g ≡ true → verb ≡ codes "gen")
        → cond n (with_part (name_of a) (λ f. with_part (number_of 0 99 b) (λ m. with_part (schema_of c) (λ s. Some (New f m s)))))
        (cond e (with_part (name_of a) (λ f. with_part (name_of b) (λ g. with_part (number_of 0 99 c) (λ to. Some (Export f g (Some to))))))
        (cond g (with_part (number_of 0 65535 a) (λ x. with_part (number_of 2 8 b) (λ y. with_part (number_of 1 100000 c) (λ z. Some (Gen x y z))))) None)) ≡ Some command
        → Found (verb ∷ a ∷ b ∷ c ∷ []) command
    by true e g fn fe fg k = new_found verb a b c command (fn refl) k
    by false true g fn fe fg k = export_found verb a b c command (fe refl) k
    by false false true fn fe fg k = gen_found verb a b c command (fg refl) k
    by false false false fn fe fg k = absurd (none_some command k)

-- ---- and of edits

-- the line is that of the command, or one space longer where the command is an edit without a rest
pub record IsLineOf (line : List ℕ) (command : Command) : Type 0 where
  pub has : has_line command ≡ true
  pub spelled : (line ≡ line_of command) ⊎ ((is_bare command ≡ true) × (line ≡ line_of command ++ 32 ∷ []))

line_found : (words : List (List ℕ)) (command : Command) → Found words command → IsLineOf (join_with_byte 32 words) command
line_found words command f = record { has = f.has; spelled = inl (ap (join_with_byte 32) f.words_are) }

edit_spelled : (file field verb : List ℕ) (rest : List (List ℕ))
    → (join_with_byte 32 (codes "edit" ∷ file ∷ field ∷ verb ∷ rest) ≡ line_of (Edit file field verb (join_with_byte 32 rest)))
    ⊎ ((is_bare (Edit file field verb (join_with_byte 32 rest)) ≡ true)
    × (join_with_byte 32 (codes "edit" ∷ file ∷ field ∷ verb ∷ rest) ≡ line_of (Edit file field verb (join_with_byte 32 rest)) ++ 32 ∷ []))
edit_spelled file field verb [] = inl refl
edit_spelled file field verb ([] ∷ []) = inr (refl, sym (last_space (codes "edit") file field verb))
edit_spelled file field verb ((b ∷ word) ∷ []) = inl refl
edit_spelled file field verb ([] ∷ (next ∷ rest)) = inl refl
edit_spelled file field verb ((b ∷ word) ∷ (next ∷ rest)) = inl refl

-- the parts of such a line are text
record AreParts (field verb : List ℕ) (rest : List (List ℕ)) : Type 0 where
  field_text : is_text field ≡ true
  verb_text : is_text verb ≡ true
  rest_text : is_text (join_with_byte 32 rest) ≡ true

edit_texts : (file field verb : List ℕ) (rest : List (List ℕ)) → is_text (join_with_byte 32 (codes "edit" ∷ file ∷ field ∷ verb ∷ rest)) ≡ true → AreParts field verb rest
edit_texts file field verb [] h =
    let a = text_parts (codes "edit") (file ++ 32 ∷ (field ++ 32 ∷ verb)) h in
    let b = text_parts file (field ++ 32 ∷ verb) a.1 in
    let c = text_parts field verb b.1 in
    record { field_text = c.0; verb_text = c.1; rest_text = visible_text [] refl }
edit_texts file field verb (next ∷ rest) h =
    let more = join_with_byte 32 (next ∷ rest) in
    let a = text_parts (codes "edit") (file ++ 32 ∷ (field ++ 32 ∷ (verb ++ 32 ∷ more))) h in
    let b = text_parts file (field ++ 32 ∷ (verb ++ 32 ∷ more)) a.1 in
    let c = text_parts field (verb ++ 32 ∷ more) b.1 in
    let d = text_parts verb more c.1 in
    record { field_text = c.0; verb_text = d.0; rest_text = d.1 }

edit_found : (file field verb : List ℕ) (rest : List (List ℕ)) (command : Command) → list_all is_spaceless (file ∷ field ∷ verb ∷ rest) ≡ true
    → is_text (join_with_byte 32 (codes "edit" ∷ file ∷ field ∷ verb ∷ rest)) ≡ true → edit_of file field verb rest ≡ Some command
    → IsLineOf (join_with_byte 32 (codes "edit" ∷ file ∷ field ∷ verb ∷ rest)) command
edit_found file field verb rest command spaceless text h =
    let some = not (length field == 0) && not (length verb == 0) in
    let r = join_with_byte 32 rest in
    let p = choose (is_file_name file && some) (Edit file field verb r) command h in
    let a = and_parts (is_file_name file) some p.0 in
    let b = and_parts (not (length field == 0)) (not (length verb == 0)) a.1 in
    let s = and_parts (is_spaceless file) (is_spaceless field && (is_spaceless verb && list_all is_spaceless rest)) spaceless in
    let t = and_parts (is_spaceless field) (is_spaceless verb && list_all is_spaceless rest) s.1 in
    let u = and_parts (is_spaceless verb) (list_all is_spaceless rest) t.1 in
    let texts = edit_texts file field verb rest text in
    let word : ((w : List ℕ) → is_text w ≡ true → not (length w == 0) ≡ true → is_spaceless w ≡ true → is_word w ≡ true) = λ w i j k.
    both_true (is_text w) (not (length w == 0) && is_spaceless w) i (both_true (not (length w == 0)) (is_spaceless w) j k) in
    subst (IsLineOf (join_with_byte 32 (codes "edit" ∷ file ∷ field ∷ verb ∷ rest))) p.1 (record {
      has =
          both_true (is_file_name file) (is_word field && (is_word verb && is_text r)) a.0
          (both_true (is_word field) (is_word verb && is_text r) (word field texts.field_text b.0 t.0)
          (both_true (is_word verb) (is_text r) (word verb texts.verb_text b.1 u.0) texts.rest_text));
      spelled = edit_spelled file field verb rest;
    })

more_found : (verb a b c : List ℕ) (rest : List (List ℕ)) (command : Command) → list_all is_spaceless (verb ∷ a ∷ b ∷ c ∷ rest) ≡ true
    → is_text (join_with_byte 32 (verb ∷ a ∷ b ∷ c ∷ rest)) ≡ true → (e : Bool) → (e ≡ true → verb ≡ codes "edit")
    → cond e (edit_of a b c rest) (last_of verb a b c rest) ≡ Some command → IsLineOf (join_with_byte 32 (verb ∷ a ∷ b ∷ c ∷ rest)) command
more_found verb a b c rest command spaceless text true is h =
    let s = and_parts (is_spaceless verb) (list_all is_spaceless (a ∷ b ∷ c ∷ rest)) spaceless in
    subst (λ (v : List ℕ). IsLineOf (join_with_byte 32 (v ∷ a ∷ b ∷ c ∷ rest)) command) (sym (is refl))
    (edit_found a b c rest command s.1 (subst (λ (v : List ℕ). is_text (join_with_byte 32 (v ∷ a ∷ b ∷ c ∷ rest)) ≡ true) (is refl) text) h)
more_found verb a b c [] command spaceless text false is h = line_found (verb ∷ a ∷ b ∷ c ∷ []) command (four_found verb a b c command h)
more_found verb a b c (d ∷ rest) command spaceless text false is h = absurd (none_some command h)

words_found : (words : List (List ℕ)) (command : Command) → list_all is_spaceless words ≡ true → is_text (join_with_byte 32 words) ≡ true → command_of_words words ≡ Some command
    → IsLineOf (join_with_byte 32 words) command
words_found [] command spaceless text h = absurd (none_some command h)
words_found (verb ∷ []) command spaceless text h =
    let p = choose (bytes_eq verb (codes "play")) Play command h in
    line_found (verb ∷ []) command (found (verb ∷ []) command Play (ap Some p.1) refl (ap (λ (v : List ℕ). v ∷ []) (same_bytes verb (codes "play") p.0)))
words_found (verb ∷ (a ∷ [])) command spaceless text h = line_found (verb ∷ a ∷ []) command (two_found verb a command h)
words_found (verb ∷ (a ∷ (b ∷ []))) command spaceless text h = line_found (verb ∷ a ∷ b ∷ []) command (three_found verb a b command h)
words_found (verb ∷ (a ∷ (b ∷ (c ∷ rest)))) command spaceless text h =
    more_found verb a b c rest command spaceless text (bytes_eq verb (codes "edit")) (λ t. same_bytes verb (codes "edit") t) h

pub read_is : (line : List ℕ) (command : Command) → command_of line ≡ Some command → IsLineOf line command
read_is line command h =
    elim (cases_Bool (is_text line)) [
      | inl t ↦
          (let whole = join_with_byte-slice_split 32 line in
          let text = subst (λ (l : List ℕ). is_text l ≡ true) (sym whole) t in
          subst (λ (l : List ℕ). IsLineOf l command) whole (words_found (slice_split is_space line) command (pieces_spaceless line) text (text_command line t ∙ h)))
      | inr f ↦ absurd (none_some command (text_none line f ∙ h))
    ]
