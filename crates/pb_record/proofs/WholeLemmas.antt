-- Lemmas on what was asked and on records as wholes.
use Rattle.std.proofs.Common.{◌≡◌, ℕ, List, [], ◌∷◌, ◌++◌, refl, sym, ◌∙◌, ap, subst, Option, Some, None, Result, Ok, Err, codes, ◌↔◌}
use Rattle.std.specs.Prelude.{MatchOption, IfOk}
use Rattle.std.specs.Str.{IsUtf8}
use Rattle.std.specs.List.{AllByRecursion, concat}
use Rattle.std.proofs.lemmas.List.{append_assoc, append_cancel_left}
use Rattle.pb_record.specs.Grammar.{line, number, block, listed, both, files, input_bytes, asked_bytes, bytes_by, record_bytes}
use Rattle.pb_record.specs.Parts.{IsAny, IsNumber, IsUtf8Path, AreFiles, AreBoth, ArePairs, IsInput, IsAsked, AreNeeded, Says}
use Rattle.pb_record.specs.Reading.{BeginsWith, StandsNone, IsSpelling}
use Rattle.pb_record.specs.Whole.{AskedParts, asked_of, NumberedParts, numbered_of, CopiedParts, copied_of, Files}
use Rattle.pb_record.specs.declared.recorded_command.RecordedCommand.{RecordedCommand}
use Rattle.pb_record.specs.declared.record.Record.{Record}
use Rattle.pb_record.specs.declared.record.Needed.{Needed}
use Rattle.pb_record.specs.declared.record.Needed.TheVariants.{Copies, Numbers}
use Rattle.pb_record.proofs.NumberLemmas.{number_spelling}
use Rattle.pb_record.proofs.BlockLemmas.{block_spelling}
use Rattle.pb_record.proofs.PartLemmas.{both_spelling, list_spelling, spelling_by, none_by}
use Rattle.pb_record.proofs.InputLemmas.{clash, pairs_spelling, files_spelling, input_spelling}

-- what was asked

abbrev pub asked_spelled : AskedParts → List ℕ
asked_spelled = both block (both (listed block) (both block (both (listed (both block block)) (both block (both block (both block (listed block)))))))

abbrev pub AreAsked : AskedParts → Type 0
AreAsked = AreBoth IsUtf8 (AreBoth (AllByRecursion IsUtf8) (AreBoth IsUtf8Path (AreBoth ArePairs (AreBoth IsUtf8Path (AreBoth IsUtf8Path (AreBoth IsAny (AllByRecursion IsUtf8Path)))))))

abbrev asked_parts : RecordedCommand → AskedParts
asked_parts a = (a.program, (a.words, (a.folder, (a.pairs, (a.out, (a.target, (a.toolchain, a.reads)))))))

texts_spelling : IsSpelling (listed block)
texts_spelling = list_spelling block block_spelling

asked_parts_spelling : IsSpelling asked_spelled
asked_parts_spelling =
    both_spelling _ _ block_spelling (both_spelling _ _ texts_spelling (both_spelling _ _ block_spelling (both_spelling _ _ pairs_spelling
    (both_spelling _ _ block_spelling (both_spelling _ _ block_spelling (both_spelling _ _ block_spelling texts_spelling))))))

pub asked_spelling : IsSpelling asked_bytes
asked_spelling = spelling_by asked_spelled asked_bytes asked_parts asked_of (λ a. refl) (λ a. refl) asked_parts_spelling

pub asked_stands : {text rest : List ℕ} (p : AskedParts) → BeginsWith AreAsked asked_spelled text p rest → BeginsWith IsAsked asked_bytes text (asked_of p) rest
asked_stands (program, (words, (folder, (pairs, (out, (target, (toolchain, reads))))))) there = record {
  is = record {
    program = there.is.0;
    words = there.is.1.0;
    folder = there.is.1.1.0;
    pairs = there.is.1.1.1.0;
    out = there.is.1.1.1.1.0;
    target = there.is.1.1.1.1.1.0;
    reads = there.is.1.1.1.1.1.1.1;
  };
  here = there.here;
}

pub not_asked : {text : List ℕ} → StandsNone AreAsked asked_spelled text → StandsNone IsAsked asked_bytes text
not_asked none = none_by IsAsked asked_bytes asked_parts
    (λ a is. (is.program, (is.words, (is.folder, (is.pairs, (is.out, (is.target, (tt, is.reads)))))))) (λ a. refl) none

-- records

abbrev pub numbered_spelled : NumberedParts → List ℕ
numbered_spelled = both number (both block (both asked_bytes (both (listed input_bytes) (both (listed (both block number)) (both block block)))))

abbrev pub AreNumbered : NumberedParts → Type 0
AreNumbered = AreBoth IsNumber (AreBoth IsUtf8 (AreBoth IsAsked (AreBoth (AllByRecursion IsInput) (AreBoth (AllByRecursion (AreBoth IsUtf8 IsNumber)) (AreBoth IsAny IsAny)))))

abbrev pub copied_spelled : CopiedParts → List ℕ
copied_spelled = both block (both asked_bytes (both (listed input_bytes) (both (listed (both block files)) (both block block))))

abbrev pub AreCopied : CopiedParts → Type 0
AreCopied = AreBoth IsUtf8 (AreBoth IsAsked (AreBoth (AllByRecursion IsInput) (AreBoth (AllByRecursion (AreBoth IsUtf8 AreFiles)) (AreBoth IsAny IsAny))))

pub numbered_spelling : IsSpelling numbered_spelled
numbered_spelling =
    both_spelling _ _ number_spelling (both_spelling _ _ block_spelling (both_spelling _ _ asked_spelling (both_spelling _ _ (list_spelling _ input_spelling)
    (both_spelling _ _ (list_spelling _ (both_spelling _ _ block_spelling number_spelling)) (both_spelling _ _ block_spelling block_spelling)))))

pub copied_spelling : IsSpelling copied_spelled
copied_spelling =
    both_spelling _ _ block_spelling (both_spelling _ _ asked_spelling (both_spelling _ _ (list_spelling _ input_spelling)
    (both_spelling _ _ (list_spelling _ (both_spelling _ _ block_spelling files_spelling)) (both_spelling _ _ block_spelling block_spelling))))

-- six parts and an end, from the left or from the right
regroup6 : (a b c d e f end : List ℕ) → (a ++ (b ++ (c ++ (d ++ (e ++ f))))) ++ end ≡ a ++ (b ++ (c ++ (d ++ (e ++ (f ++ end)))))
regroup6 a b c d e f end = simp append_assoc

regroup7 : (a b c d e f g end : List ℕ) → (a ++ (b ++ (c ++ (d ++ (e ++ (f ++ g)))))) ++ end ≡ a ++ (b ++ (c ++ (d ++ (e ++ (f ++ (g ++ end))))))
regroup7 a b c d e f g end = simp append_assoc

pub numbered_bytes : (p : NumberedParts) → record_bytes (numbered_of p) ≡ line (codes "record 2") ++ (numbered_spelled p ++ line (codes "end"))
unfolding record_bytes
numbered_bytes (own, (key, (asked, (inputs, (needs, (stdout, stderr)))))) = ap (λ t. line (codes "record 2") ++ t)
    (sym (regroup7 (number own) (block key) (asked_bytes asked) (listed input_bytes inputs) (listed (both block number) needs) (block stdout) (block stderr) (line (codes "end"))))

pub copied_bytes : (p : CopiedParts) → record_bytes (copied_of p) ≡ line (codes "record 1") ++ (copied_spelled p ++ line (codes "end"))
unfolding record_bytes
copied_bytes (key, (asked, (inputs, (copies, (stdout, stderr))))) = ap (λ t. line (codes "record 1") ++ t)
    (sym (regroup6 (block key) (asked_bytes asked) (listed input_bytes inputs) (listed (both block files) copies) (block stdout) (block stderr) (line (codes "end"))))

-- a part is the whole text before its end

pub is_whole : {A : Type 0} {P : A → Type 0} {f : A → List ℕ} {text : List ℕ} {x : A} (end rest : List ℕ) → BeginsWith P f text x rest → rest ≡ end → P x × (text ≡ f x ++ end)
is_whole {f = f} {x = x} end rest there e = (there.is, there.here ∙ ap (λ t. f x ++ t) e)

pub not_whole : {A : Type 0} {P : A → Type 0} {f : A → List ℕ} {text : List ℕ} {x : A} (end rest : List ℕ) → IsSpelling f → BeginsWith P f text x rest → (rest ≡ end → ⊥) → (y : A) → P y → text ≡ f y ++ end → ⊥
not_whole {x = x} end rest spelling there other y is e = other (spelling.apart x y rest end (sym there.here ∙ e)).1

pub none_whole : {A : Type 0} {P : A → Type 0} {f : A → List ℕ} {text : List ℕ} (end : List ℕ) → StandsNone P f text → (y : A) → P y → text ≡ f y ++ end → ⊥
none_whole end none y is e = none.never y end (record { is = is; here = e })

-- a record of format 2 behind its first line

pub says_numbered : {text : List ℕ} (p : NumberedParts) → AreNumbered p × (text ≡ numbered_spelled p ++ line (codes "end")) → Says (line (codes "record 2") ++ text) (numbered_of p)
says_numbered (own, (key, (asked, (inputs, (needs, (stdout, stderr)))))) (are, e) = record {
  is = record { key = are.1.0; asked = are.1.1.0; inputs = are.1.1.1.0; needed = (are.0, are.1.1.1.1.0) };
  same = ap (λ t. line (codes "record 2") ++ t) e ∙ sym (numbered_bytes (own, (key, (asked, (inputs, (needs, (stdout, stderr)))))));
}

-- the parts of a record of format 2
abbrev numbered_parts : Record → ℕ → List (List ℕ × ℕ) → NumberedParts
numbered_parts r own needs = (own, (r.key, (r.asked, (r.inputs, (needs, (r.stdout, r.stderr))))))

abbrev copied_parts : Record → List (List ℕ × Files) → CopiedParts
copied_parts r copies = (r.key, (r.asked, (r.inputs, (copies, (r.stdout, r.stderr)))))

-- a record by its format
abbrev record_by : Record → Needed → Record
record_by r needed = record r { needed = needed }

pub bytes_numbered : (r : Record) (own : ℕ) (needs : List (List ℕ × ℕ)) → bytes_by r (Numbers own needs) ≡ line (codes "record 2") ++ (numbered_spelled (numbered_parts r own needs) ++ line (codes "end"))
unfolding record_bytes
bytes_numbered r own needs = numbered_bytes (numbered_parts r own needs)

pub bytes_copied : (r : Record) (copies : List (List ℕ × Files)) → bytes_by r (Copies copies) ≡ line (codes "record 1") ++ (copied_spelled (copied_parts r copies) ++ line (codes "end"))
unfolding record_bytes
bytes_copied r copies = copied_bytes (copied_parts r copies)

pub lines_apart : {x y : List ℕ} → line (codes "record 2") ++ x ≡ line (codes "record 2") ++ y → x ≡ y
lines_apart e = append_cancel_left (line (codes "record 2")) _ _ e

first_lines_apart : {x y : List ℕ} → line (codes "record 1") ++ x ≡ line (codes "record 1") ++ y → x ≡ y
first_lines_apart e = append_cancel_left (line (codes "record 1")) _ _ e

-- the formats differ in their first line
pub formats_apart : {A : Type 0} (x y : List ℕ) → line (codes "record 1") ++ x ≡ line (codes "record 2") ++ y → A
formats_apart x y e = clash 49 50 (10 ∷ x) (10 ∷ y) refl (append_cancel_left (codes "record ") _ _ e)

not_numbered_by : (r : Record) (needed : Needed) (text : List ℕ) → ((p : NumberedParts) → AreNumbered p → text ≡ numbered_spelled p ++ line (codes "end") → ⊥)
    → IsUtf8 r.key → IsAsked r.asked → AllByRecursion IsInput r.inputs → AreNeeded needed → line (codes "record 2") ++ text ≡ bytes_by r needed → ⊥
not_numbered_by r (Numbers own needs) text none key asked inputs needed e =
    none (numbered_parts r own needs) (needed.0, (key, (asked, (inputs, (needed.1, (tt, tt)))))) (lines_apart (e ∙ bytes_numbered r own needs))
not_numbered_by r (Copies copies) text none key asked inputs needed e = formats_apart _ text (sym (e ∙ bytes_copied r copies))

pub not_numbered : {text : List ℕ} → ((p : NumberedParts) → AreNumbered p → text ≡ numbered_spelled p ++ line (codes "end") → ⊥) → (r : Record) → Says (line (codes "record 2") ++ text) r → ⊥
unfolding record_bytes
not_numbered {text = text} none r says = not_numbered_by r r.needed text none says.is.key says.is.asked says.is.inputs says.is.needed says.same

pub says_copied : {text : List ℕ} (p : CopiedParts) → AreCopied p × (text ≡ copied_spelled p ++ line (codes "end")) → Says (line (codes "record 1") ++ text) (copied_of p)
says_copied (key, (asked, (inputs, (copies, (stdout, stderr))))) (are, e) = record {
  is = record { key = are.0; asked = are.1.0; inputs = are.1.1.0; needed = are.1.1.1.0 };
  same = ap (λ t. line (codes "record 1") ++ t) e ∙ sym (copied_bytes (key, (asked, (inputs, (copies, (stdout, stderr))))));
}

not_copied_by : (r : Record) (needed : Needed) (text : List ℕ) → ((p : CopiedParts) → AreCopied p → text ≡ copied_spelled p ++ line (codes "end") → ⊥)
    → IsUtf8 r.key → IsAsked r.asked → AllByRecursion IsInput r.inputs → AreNeeded needed → line (codes "record 1") ++ text ≡ bytes_by r needed → ⊥
not_copied_by r (Numbers own needs) text none key asked inputs needed e = formats_apart text _ (e ∙ bytes_numbered r own needs)
not_copied_by r (Copies copies) text none key asked inputs needed e =
    none (copied_parts r copies) (key, (asked, (inputs, (needed, (tt, tt))))) (first_lines_apart (e ∙ bytes_copied r copies))

pub not_copied : {text : List ℕ} → ((p : CopiedParts) → AreCopied p → text ≡ copied_spelled p ++ line (codes "end") → ⊥) → (r : Record) → Says (line (codes "record 1") ++ text) r → ⊥
unfolding record_bytes
not_copied {text = text} none r says = not_copied_by r r.needed text none says.is.key says.is.asked says.is.inputs says.is.needed says.same

no_format_by : (r : Record) (needed : Needed) (text : List ℕ) → ((rest : List ℕ) → text ≡ line (codes "record 2") ++ rest → ⊥) → ((rest : List ℕ) → text ≡ line (codes "record 1") ++ rest → ⊥) → text ≡ bytes_by r needed → ⊥
no_format_by r (Numbers own needs) text two one e = two _ (e ∙ bytes_numbered r own needs)
no_format_by r (Copies copies) text two one e = one _ (e ∙ bytes_copied r copies)

pub no_format : (text : List ℕ) → ((rest : List ℕ) → text ≡ line (codes "record 2") ++ rest → ⊥) → ((rest : List ℕ) → text ≡ line (codes "record 1") ++ rest → ⊥) → (r : Record) → Says text r → ⊥
unfolding record_bytes
no_format text two one r says = no_format_by r r.needed text two one says.same

-- what a record begins with says which record it is

apart_by : (r s : Record) (n m : Needed) (rest more : List ℕ) → bytes_by r n ++ rest ≡ bytes_by s m ++ more → (record_by r n ≡ record_by s m) × (rest ≡ more)
apart_by r s (Numbers own needs) (Numbers own' needs') rest more e =
    let p = numbered_parts r own needs in
    let q = numbered_parts s own' needs' in
    let both-sides = lines_apart (sym (append_assoc (line (codes "record 2")) (numbered_spelled p ++ line (codes "end")) rest ∙ refl) ∙ ap (λ t. t ++ rest) (sym (bytes_numbered r own needs)) ∙ e ∙ ap (λ t. t ++ more) (bytes_numbered s own' needs') ∙ append_assoc (line (codes "record 2")) (numbered_spelled q ++ line (codes "end")) more) in
    let cut = numbered_spelling.apart p q (line (codes "end") ++ rest) (line (codes "end") ++ more) (sym (append_assoc (numbered_spelled p) (line (codes "end")) rest) ∙ both-sides ∙ append_assoc (numbered_spelled q) (line (codes "end")) more) in
    (ap numbered_of cut.0, append_cancel_left (line (codes "end")) rest more cut.1)
apart_by r s (Numbers own needs) (Copies copies) rest more e =
    formats_apart _ _ (sym (ap (λ t. t ++ rest) (sym (bytes_numbered r own needs)) ∙ e ∙ ap (λ t. t ++ more) (bytes_copied s copies)))
apart_by r s (Copies copies) (Numbers own needs) rest more e =
    formats_apart _ _ (ap (λ t. t ++ rest) (sym (bytes_copied r copies)) ∙ e ∙ ap (λ t. t ++ more) (bytes_numbered s own needs))
apart_by r s (Copies copies) (Copies copies') rest more e =
    let p = copied_parts r copies in
    let q = copied_parts s copies' in
    let both-sides = first_lines_apart (sym (append_assoc (line (codes "record 1")) (copied_spelled p ++ line (codes "end")) rest ∙ refl) ∙ ap (λ t. t ++ rest) (sym (bytes_copied r copies)) ∙ e ∙ ap (λ t. t ++ more) (bytes_copied s copies') ∙ append_assoc (line (codes "record 1")) (copied_spelled q ++ line (codes "end")) more) in
    let cut = copied_spelling.apart p q (line (codes "end") ++ rest) (line (codes "end") ++ more) (sym (append_assoc (copied_spelled p) (line (codes "end")) rest) ∙ both-sides ∙ append_assoc (copied_spelled q) (line (codes "end")) more) in
    (ap copied_of cut.0, append_cancel_left (line (codes "end")) rest more cut.1)

pub record_apart : (r s : Record) (rest more : List ℕ) → record_bytes r ++ rest ≡ record_bytes s ++ more → (r ≡ s) × (rest ≡ more)
unfolding record_bytes
record_apart r s rest more e = apart_by r s r.needed s.needed rest more e

pub record_told : (r s : Record) → record_bytes r ≡ record_bytes s → r ≡ s
record_told r s e = (record_apart r s [] [] (ap (λ t. t ++ []) e)).0

-- the reading of a text, of what was found

pub reads : (text : List ℕ) (found : Option Record) → MatchOption found ((r : Record) → Says text r → ⊥) (λ r. Says text r) → (r : Record) → (found ≡ Some r) ↔ Says text r
reads text None none r = ((λ e. cc), (λ says. absurd (none r says)))
reads text (Some s) says r = ((λ e. let same : s ≡ r = cc in subst (Says text) same says), (λ other. ap Some (record_told s r (sym says.same ∙ other.same))))

-- what was written, by the format

pub written_by : (r : Record) (needed : Needed) (old new : List ℕ) → r.needed ≡ needed → new ≡ old ++ bytes_by r needed → new ≡ old ++ record_bytes r
unfolding record_bytes
written_by r needed old new e written = written ∙ ap (λ n. old ++ bytes_by r n) (sym e)

-- what was put in pieces, by the format

put_numbered : (r : Record) (own : ℕ) (needs : List (List ℕ × ℕ)) (text : List ℕ) → r.needed ≡ Numbers own needs → AreNumbered (numbered_parts r own needs)
    → text ≡ line (codes "record 2") ++ (numbered_spelled (numbered_parts r own needs) ++ line (codes "end")) → Says text r
put_numbered r own needs text is are e =
    let says = says_numbered (numbered_parts r own needs) (are, refl) in
    subst (λ t. Says t r) (sym e) (subst (λ s. Says (line (codes "record 2") ++ (numbered_spelled (numbered_parts r own needs) ++ line (codes "end"))) s) (ap (record_by r) (sym is)) says)

put_copied : (r : Record) (copies : List (List ℕ × Files)) (text : List ℕ) → r.needed ≡ Copies copies → AreCopied (copied_parts r copies)
    → text ≡ line (codes "record 1") ++ (copied_spelled (copied_parts r copies) ++ line (codes "end")) → Says text r
put_copied r copies text is are e =
    let says = says_copied (copied_parts r copies) (are, refl) in
    subst (λ t. Says t r) (sym e) (subst (λ s. Says (line (codes "record 1") ++ (copied_spelled (copied_parts r copies) ++ line (codes "end"))) s) (ap (record_by r) (sym is)) says)

pub pieces_numbered : {E : Type 0} (r : Record) (own : ℕ) (needs : List (List ℕ × ℕ)) (result : Result (List (List ℕ)) E) → r.needed ≡ Numbers own needs
    → IfOk result (λ pieces. AreNumbered (numbered_parts r own needs) × (concat pieces ≡ line (codes "record 2") ++ (numbered_spelled (numbered_parts r own needs) ++ line (codes "end"))))
    → IfOk result (λ pieces. Says (concat pieces) r)
pieces_numbered r own needs (Ok pieces) is ensures = put_numbered r own needs (concat pieces) is ensures.0 ensures.1
pieces_numbered r own needs (Err e) is ensures = tt

pub pieces_copied : {E : Type 0} (r : Record) (copies : List (List ℕ × Files)) (result : Result (List (List ℕ)) E) → r.needed ≡ Copies copies
    → IfOk result (λ pieces. AreCopied (copied_parts r copies) × (concat pieces ≡ line (codes "record 1") ++ (copied_spelled (copied_parts r copies) ++ line (codes "end"))))
    → IfOk result (λ pieces. Says (concat pieces) r)
pieces_copied r copies (Ok pieces) is ensures = put_copied r copies (concat pieces) is ensures.0 ensures.1
pieces_copied r copies (Err e) is ensures = tt
