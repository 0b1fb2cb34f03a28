-- Lemmas for the laws of records.
use Rattle.std.proofs.Common.{◌≡◌, ◌<◌, ◌+◌, ◌^◌, ℕ, zero, suc, List, [], ◌∷◌, ◌++◌, length, take, drop, refl, sym, ◌∙◌, ap, subst, arith, Option, Some, None, codes, get_or, map}
use Rattle.std.specs.Int.Digits.{digits_of}
use Rattle.std.proofs.lemmas.Int.Digits.{first_digits_of, length-digits_of_step}
use Rattle.std.proofs.lemmas.List.{append_assoc, append_cancel_left, append-nil, take-append-drop, length-drop}
use Rattle.pb_record.specs.Grammar.{line, decimals, number, record_bytes, bytes_by}
use Rattle.pb_record.specs.Parts.{IsRecord, AreNeeded, Says, ReadsAs, FindsAsReading}
use Rattle.pb_record.specs.Laws as law
use Rattle.pb_record.specs.declared.record.Record.{Record}
use Rattle.pb_record.specs.declared.record.Needed.{Needed}
use Rattle.pb_record.specs.declared.record.Needed.TheVariants.{Copies, Numbers}
use Rattle.pb_record.proofs.NumberLemmas.{number_spelling}
use Rattle.pb_record.proofs.InputLemmas.{clash}
use Rattle.pb_record.proofs.WholeLemmas.{record_apart, record_told, formats_apart, bytes_copied}

pub first_parts : law.FirstPartsSayNothing
first_parts n r s less says =
    let cut : record_bytes s ++ drop n (record_bytes r) ≡ record_bytes r ++ [] = ap (λ t. t ++ drop n (record_bytes r)) (sym says.same) ∙ take-append-drop n (record_bytes r) ∙ sym (append-nil (record_bytes r)) in
    let parts = record_apart s r (drop n (record_bytes r)) [] cut in
    let len = ap length parts.1 in
    absurd (omega (arith, len, length-drop n (record_bytes r)))

pub more_bytes : law.MoreBytesSayNothing
more_bytes r s b more says =
    let parts = record_apart r s (b ∷ more) [] (says.same ∙ sym (append-nil (record_bytes s))) in
    cc

pub only_records : law.OnlyRecordsAreSaid
only_records r s says = subst IsRecord (sym (record_told r s says.same)) says.is

-- how the digits of a number begin
first_of_map : (ds : List ℕ) → 0 < length ds → 0 < get_or ds 0 0 → 48 < get_or (map (λ d. 48 + d) ds) 0 0
first_of_map [] some first = absurd (omega arith)
first_of_map (d ∷ ds) some first = omega arith

digits_some : (n : ℕ) → 0 < n → 0 < length (digits_of 10 n)
digits_some n some = omega (arith, length-digits_of_step 10 n (omega arith) some)

first_digit : (n : ℕ) → 0 < n → 48 < get_or (decimals n) 0 0
first_digit zero some = absurd (omega arith)
first_digit (suc n) some = first_of_map (digits_of 10 (suc n)) (digits_some (suc n) some) (first_digits_of 10 (suc n) (omega arith) some)

lead : (ds rest more : List ℕ) (d : ℕ) → 48 < get_or ds 0 0 → ds ++ rest ≡ d ∷ more → 48 < d
lead [] rest more d first e = absurd (omega arith)
lead (c ∷ ds) rest more d first e = let same : c ≡ d = cc in omega arith

-- the first byte of a number
first_byte : (n : ℕ) (rest more : List ℕ) (d : ℕ) → 0 < n → number n ++ rest ≡ d ∷ more → 48 < d
unfolding number
first_byte n rest more d some e = lead (decimals n) (10 ∷ rest) more d (first_digit n some) (sym (append_assoc (decimals n) (10 ∷ []) rest) ∙ e)

zero_number : (rest : List ℕ) → number 0 ++ rest ≡ 48 ∷ 10 ∷ rest
unfolding number
zero_number rest = refl

pub no_zero_leads : law.NoZeroLeads
no_zero_leads zero d rest more e = (refl, let same : 48 ∷ 10 ∷ rest ≡ 48 ∷ d ∷ more = sym (zero_number rest) ∙ e in cc)
no_zero_leads (suc n) d rest more e = absurd (omega (arith, first_byte (suc n) rest (d ∷ more) 48 (omega arith) e))

pub numbers_have_digits : law.NumbersHaveDigits
numbers_have_digits zero rest more = λ e. clash 48 10 (10 ∷ rest) more refl (sym (zero_number rest) ∙ e)
numbers_have_digits (suc n) rest more = λ e. absurd (omega (arith, first_byte (suc n) rest more 10 (omega arith) e))

-- the run number behind the first line
own_number : (r : Record) (needed : Needed) (rest : List ℕ) → AreNeeded needed → line (codes "record 2") ++ rest ≡ bytes_by r needed → (own : ℕ) × (more : List ℕ) × (own < 2 ^ 64) × (rest ≡ number own ++ more)
own_number r (Numbers own needs) rest are e = (own, _, are.0, append_cancel_left (line (codes "record 2")) _ _ e)
own_number r (Copies copies) rest are e = formats_apart _ rest (sym (e ∙ bytes_copied r copies))

said_number : (r : Record) (rest : List ℕ) → Says (line (codes "record 2") ++ rest) r → (own : ℕ) × (more : List ℕ) × (own < 2 ^ 64) × (rest ≡ number own ++ more)
unfolding record_bytes
said_number r rest says = own_number r r.needed rest says.is.needed says.same

pub record_zero : law.NoZeroLeadsRecord
record_zero r d more says = let told = said_number r (48 ∷ d ∷ more) says in (no_zero_leads told.0 d told.1 more (sym told.3)).1

pub record_digits : law.RecordNumbersHaveDigits
record_digits r more says = let told = said_number r (10 ∷ more) says in numbers_have_digits told.0 told.1 more (sym told.3)

pub record_fits : law.RecordNumbersFit
record_fits r n more says =
    let told = said_number r (number n ++ more) says in
    let same : n ≡ told.0 = (number_spelling.apart n told.0 more told.1 told.3).0 in
    subst (λ k. k < 2 ^ 64) (sym same) told.2

-- readings

pub one_reading : law.HasOneReading
one_reading text None None reads others = refl
one_reading text None (Some s) reads others = (reads s).1 ((others s).0 refl)
one_reading text (Some r) other reads others = sym ((others r).1 ((reads r).0 refl))

pub read_so : (text : List ℕ) (found : Option Record) → ReadsAs text found → (read : List ℕ → Option Record) → FindsAsReading read → found ≡ read text
read_so text found reads read readings = one_reading text found (read text) reads (readings text)

pub reads_back : {text : List ℕ} {r : Record} → Says text r → (read : List ℕ → Option Record) → FindsAsReading read → read text ≡ Some r
reads_back {text = text} {r = r} says read readings = (readings text r).1 says

-- a first part reads as none
none_said : (found : Option Record) → ((s : Record) → found ≡ Some s → ⊥) → found ≡ None
none_said None bad = refl
none_said (Some s) bad = absurd (bad s refl)

pub reads_torn : {text : List ℕ} {r : Record} → Says text r → (read : List ℕ → Option Record) → FindsAsReading read → (n : ℕ) → n < length text → read (take n text) ≡ None
reads_torn {text = text} {r = r} says read readings n less =
    none_said (read (take n text)) (λ s e. first_parts n r s (subst (λ t. n < length t) says.same less) (subst (λ t. Says (take n t) s) says.same ((readings (take n text) s).0 e)))
