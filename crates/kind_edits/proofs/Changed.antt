-- What texts are after their edits.
use Rattle.std.proofs.Common.{◌≡◌, ℕ, suc, ◌+◌, ◌≤◌, ◌<◌, ◌^◌, Bool, true, false, nat_le, List, [], ◌∷◌, ◌++◌, length, get_or, take, drop, map, codes, Option, Some, Result, Ok, Err, IfOk, IfErr, IsOkAnd, refl, sym, ◌∙◌, ap, ap₂, subst, arith}
use Rattle.std.specs.Prelude.{encode_utf8_all, remove}
use Rattle.std.specs.Fmt.{decimal}
use Rattle.std.specs.Str.{chars}
use Rattle.std.proofs.lemmas.Bool.Decides.{nat_tests}
use Rattle.std.proofs.lemmas.List.{drop-map, map-append, take-map}
use Rattle.serde_json.specs.Data.{Data, string}
use Rattle.vector_clock.specs.declared.stamp.Stamp.{Stamp}
use Rattle.vector_clock.specs.Clock.{count}
use Rattle.crdt_laws.specs.Present.{apply_all}
use Rattle.forgetting_model.specs.Made.{entries_from, stamp_then}
use Rattle.list_crdt.specs.declared.position.Step.{Step}
use Rattle.list_crdt.specs.declared.text.Cell.{Cell}
use Rattle.list_crdt.specs.declared.text.TextOp.{TextOp}
use Rattle.list_crdt.specs.declared.text.TextOp.TheVariants as plain_op
use Rattle.list_crdt.specs.Between.{position_between}
use Rattle.list_crdt.specs.Position.{max_steps}
use Rattle.list_crdt.specs.Text as plain
use Rattle.list_crdt.specs.Text.{IsText, text_meaning}
use Rattle.list_crdt.proofs.Neighbours.{place_within, removed_at}
use Rattle.register_crdts.specs.Text.{max_text}
use Rattle.kind_edits.specs.Accepted.{IsFull}
use Rattle.kind_edits.specs.declared.fault.EditError.{EditError}
use Rattle.kind_edits.specs.declared.fault.EditError.TheVariants.{IndexOut, PositionFull}
use Rattle.kind_edits.specs.Forms.{delete_words, insert_words}
use Rattle.kind_edits.specs.Letters.{letters_between}
use Rattle.kind_edits.specs.PlainEdit.{insert_of, text_delete, text_edit, text_insert}
use Rattle.kind_edits.specs.Rules.{demands, follows, reads}
use Rattle.kind_edits.specs.Shown.{letters, spliced}
use Rattle.kind_edits.proofs.Built.{built, built_is, letters_are, map-spliced}
use Rattle.kind_edits.proofs.Prepared.{follows_if, text_order}
use Rattle.kind_edits.proofs.Typing.{letter}
use Rattle.kind_edits.proofs.Wording.{delete_reads, insert_reads}

-- ---- texts

-- how characters are shown
abbrev pub text_data : List ℕ → Data
text_data l = string (encode_utf8_all l)

text_inserts : (p : Stamp) (s : List Cell) (l : List Cell) → apply_all text_meaning s (entries_from p (map insert_of l)) ≡ built plain.at (λ c. letter c.at c.ch) (λ c. refl) s l
text_inserts p s [] = refl
text_inserts p s (c ∷ l) = text_inserts (stamp_then p) (plain.edited s (plain_op.Insert c.at c.ch)) l

-- the state of the text after an insert has the letters at the index
pub text_inserted : (n : ℕ) (p : Stamp) (s : List Cell) (i : ℕ) (chs : List ℕ) → IsText n s
    → IfOk (text_insert p s i chs) (λ ops. text_meaning.show (apply_all text_meaning s (entries_from p ops)) ≡ text_data (spliced (letters s) i chs))
text_inserted n p s i chs text =
    by (nat_le i (length s)) refl
  where
    P : List TextOp → Type 0
    P ops = text_meaning.show (apply_all text_meaning s (entries_from p ops)) ≡ text_data (spliced (letters s) i chs)

    got : i ≤ length s → (l : List Cell) → letters_between p.member (plain.place s i) (count p.clock p.member) (plain.place_before s i) chs ≡ Ok l → P (map insert_of l)
    got within l e =
        let put : Cell → Cell = λ c. letter c.at c.ch in
        let state : built plain.at put (λ c. refl) s l ≡ spliced s i (map put l) =
        built_is plain.at put (λ c. refl) p.member chs (count p.clock p.member) s i l text.rising (text_order n s i text) within e in
        ap text_data (ap letters (text_inserts p s l ∙ state)
        ∙ map-spliced (λ (c : Cell). c.ch) s i (map put l)
        ∙ ap (λ (x : List ℕ). spliced (letters s) i x) (chars_of l ∙ letters_are p.member (plain.place s i) chs (count p.clock p.member) (plain.place_before s i) l e))
      where
        chars_of : (l : List Cell) → map (λ c. c.ch) (map (λ c. letter c.at c.ch) l) ≡ letters l
        chars_of [] = refl
        chars_of (c ∷ l) = ap (λ (x : List ℕ). c.ch ∷ x) (chars_of l)

    by : (t : Bool) → nat_le i (length s) ≡ t
        → IfOk (demands t (IndexOut (length s)) (follows (letters_between p.member (plain.place s i) (count p.clock p.member) (plain.place_before s i) chs) (λ l. Ok (map insert_of l)))) P
    by true e =
        let within : i ≤ length s = grind (arith, nat_tests, e) in
        follows_if (letters_between p.member (plain.place s i) (count p.clock p.member) (plain.place_before s i) chs) _ P (λ l f. got within l f)
    by false e = tt

-- ---- the steps of the rules

pub if_holds : {Op : Type 0} (r : Result Op EditError) (op : Op) (P : Op → Type 0) → r ≡ Ok op → P op → IsOkAnd r P
if_holds {Op = Op} r op P e h = subst (λ (r : Result Op EditError). IsOkAnd r P) (sym e) h

pub follow_on : {Op X : Type 0} (r : Result X EditError) (x : X) (next : X → Result Op EditError) → r ≡ Ok x → follows r next ≡ next x
follow_on {X = X} r x next e = ap (λ (r : Result X EditError). follows r next) e

pub errs_if : {Op X : Type 0} (r : Result X EditError) (next : X → Result Op EditError) (Q : EditError → Type 0) → IfErr r Q → ((x : X) → IfErr (next x) Q) → IfErr (follows r next) Q
errs_if (Ok x) next Q h f = f x
errs_if (Err fault) next Q h f = h

-- an insert's words are read, and then its letters are put in
insert_edit : (p : Stamp) (s : List Cell) (i : ℕ) (t : List ℕ) → i < 2 ^ 32 → 1 ≤ length t → length t ≤ max_text
    → text_edit p s (codes "insert") (decimal i ++ 32 ∷ t) ≡ text_insert p s i (chars t)
insert_edit p s i t low some most =
    follow_on (insert_words (decimal i ++ 32 ∷ t)) (i, t) (λ parts. text_insert p s parts.0 (chars parts.1))
    (insert_reads (decimal i ++ 32 ∷ t) i t (record { counted = low; some = some; most = most; spelled = refl }))

pub text_shown : (n : ℕ) (p : Stamp) (s : List Cell) (i : ℕ) (t : List ℕ) → IsText n s → i < 2 ^ 32 → 1 ≤ length t → length t ≤ max_text
    → IfOk (text_edit p s (codes "insert") (decimal i ++ 32 ∷ t))
    (λ ops. text_meaning.show (apply_all text_meaning s (entries_from p ops)) ≡ text_data (spliced (letters s) i (chars t)))
text_shown n p s i t text low some most =
    subst (λ (r : Result (List TextOp) EditError). IfOk r (λ ops. text_meaning.show (apply_all text_meaning s (entries_from p ops)) ≡ text_data (spliced (letters s) i (chars t))))
    (sym (insert_edit p s i t low some most)) (text_inserted n p s i (chars t) text)

-- letters are refused only where a position would have too many steps
pub letters_full : (member : ℕ) (high : Option (List Step)) (chs : List ℕ) (seq : ℕ) (low : Option (List Step)) → IfErr (letters_between member high seq low chs) IsFull
letters_full member high [] seq low = tt
letters_full member high (ch ∷ chs) seq low =
    by (nat_le (length a) max_steps) refl (letters_full member high chs (seq + 1) (Some a))
  where
    a : List Step
    a = position_between member seq low high

    by : (t : Bool) → nat_le (length a) max_steps ≡ t → IfErr (letters_between member high (seq + 1) (Some a) chs) IsFull
        → IfErr (demands t (PositionFull (length a)) (follows (letters_between member high (seq + 1) (Some a) chs) (λ l. Ok (letter a ch ∷ l)))) IsFull
    by true e h = errs_if (letters_between member high (seq + 1) (Some a) chs) (λ l. Ok (letter a ch ∷ l)) IsFull h (λ l. tt)
    by false e h = record { steps = length a; more = grind (arith, nat_tests, e); is = refl }

pub demand_met : {Op : Type 0} (test : Bool) (fault : EditError) (next : Result Op EditError) → test ≡ true → demands test fault next ≡ next
demand_met {Op = Op} test fault next e = ap (λ (t : Bool). demands {Op = Op} t fault next) e

pub text_full : (p : Stamp) (s : List Cell) (i : ℕ) (t : List ℕ) → i < 2 ^ 32 → i ≤ length s → 1 ≤ length t → length t ≤ max_text
    → IfErr (text_edit p s (codes "insert") (decimal i ++ 32 ∷ t)) IsFull
text_full p s i t low within some most =
    let test : nat_le i (length s) ≡ true = grind (arith, nat_tests, within) in
    let r : Result (List Cell) EditError = letters_between p.member (plain.place s i) (count p.clock p.member) (plain.place_before s i) (chars t) in
    let next : List Cell → Result (List TextOp) EditError = λ l. Ok (map insert_of l) in
    subst (λ (r : Result (List TextOp) EditError). IfErr r IsFull)
    (sym (insert_edit p s i t low some most ∙ demand_met (nat_le i (length s)) (IndexOut (length s)) (follows r next) test))
    (errs_if r next IsFull (letters_full p.member (plain.place s i) (chars t) (count p.clock p.member) (plain.place_before s i)) (λ l. tt))

-- ---- deletes

pub read_there : {Op X : Type 0} (o : Option X) (x : X) (fault : EditError) (next : X → Result Op EditError) → o ≡ Some x → reads o fault next ≡ next x
read_there {X = X} o x fault next e = ap (λ (o : Option X). reads o fault next) e

map-removed : {X Y : Type 0} (f : X → Y) (xs : List X) (i : ℕ) → map f (remove xs i) ≡ remove (map f xs) i
map-removed f xs i = map-append f (take i xs) (drop (suc i) xs) ∙ ap₂ (λ a b. a ++ b) (sym (take-map f i xs)) (sym (drop-map f (suc i) xs))

pub text_removed : (n : ℕ) (p : Stamp) (s : List Cell) (i : ℕ) → IsText n s → i < 2 ^ 32 → i < length s
    → IsOkAnd (text_edit p s (codes "delete") (decimal i)) (λ ops. text_meaning.show (apply_all text_meaning s (entries_from p ops)) ≡ text_data (remove (letters s) i))
text_removed n p s i text low within =
    let d : Cell = letter [] 0 in
    let a : List Step = (get_or s i d).at in
    let here : plain.place s i ≡ Some a = place_within plain.at s i d within in
    let edit : text_edit p s (codes "delete") (decimal i) ≡ Ok (plain_op.Delete a ∷ []) =
    follow_on (delete_words (decimal i)) i (text_delete s) (delete_reads (decimal i) i low refl)
    ∙ read_there (plain.place s i) a (IndexOut (length s)) (λ at. Ok (plain_op.Delete at ∷ [])) here in
    if_holds (text_edit p s (codes "delete") (decimal i)) (plain_op.Delete a ∷ []) (λ ops. text_meaning.show (apply_all text_meaning s (entries_from p ops)) ≡ text_data (remove (letters s) i)) edit
    (ap text_data (ap letters (removed_at plain.at s text.rising a i here) ∙ map-removed (λ (c : Cell). c.ch) s i))
