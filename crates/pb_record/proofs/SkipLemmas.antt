-- Lemmas on parts that are passed over, and on the run numbers behind them.
use Rattle.std.proofs.Common.{◌≡◌, ◌+◌, ℕ, List, [], ◌∷◌, ◌++◌, refl, sym, ◌∙◌, ap, subst, Option, Some, None, Result, Ok, Err, Bor, codes}
use Rattle.std.specs.Prelude.{MatchOption, IfOk, option_map}
use Rattle.std.specs.Str.{IsUtf8}
use Rattle.std.specs.List.{AllByRecursion, flat_map}
use Rattle.std.proofs.lemmas.List.{append_assoc}
use Rattle.pb_record.specs.Grammar.{line, number, block, listed, both, files, input_bytes, asked_bytes}
use Rattle.pb_record.specs.Numbers.{AreNumbersOf, SaysNumbers, numbers_of}
use Rattle.pb_record.specs.Parts.{IsAny, IsNumber, AreFiles, AreBoth, IsInput, IsAsked, Says}
use Rattle.pb_record.specs.Reading.{BeginsWith, StandsNone, StandsSome, IsSpelling, HasCount}
use Rattle.pb_record.specs.Whole.{NumberedParts, CopiedParts, numbered_of, copied_of, RestParts, rest_spelled, AreRest, IsRest, EndsInNeeds, IsEnd, Files}
use Rattle.pb_record.specs.declared.recorded_command.RecordedCommand.{RecordedCommand}
use Rattle.pb_record.specs.declared.numbers.Numbers.{Numbers}
use Rattle.pb_record.specs.declared.record.Input.{Input}
use Rattle.pb_record.specs.declared.record.Record.{Record}
use Rattle.pb_record.proofs.LawLemmas.{reads_back}
use Rattle.pb_record.proofs.NumberLemmas.{number_spelling}
use Rattle.pb_record.proofs.BlockLemmas.{block_spelling}
use Rattle.pb_record.proofs.InputLemmas.{files_spelling, input_spelling}
use Rattle.pb_record.proofs.PartLemmas.{both_spelling, list_spelling, stands_both, stands_list, none_second, none_items, one_more}
use Rattle.pb_record.proofs.WholeLemmas.{asked_spelling, numbered_spelled, AreNumbered, copied_spelled, not_numbered, says_numbered, not_copied, says_copied}

-- a part passed over, as one that is read

pub some_as : {A B : Type 0} {P : A → Type 0} {f : A → List ℕ} {text rest more : List ℕ} (R : B → Type 0) (g : B → List ℕ) (k : A → B)
    → ((x : A) → BeginsWith P f text x rest → BeginsWith R g more (k x) rest) → StandsSome P f text rest → StandsSome R g more rest
some_as R g k to some = record { part = k some.part; stands = to some.part some.stands }

pub some_both : {A B : Type 0} {P : A → Type 0} {Q : B → Type 0} {f : A → List ℕ} {g : B → List ℕ} {text mid rest : List ℕ}
    → StandsSome P f text mid → StandsSome Q g mid rest → StandsSome (AreBoth P Q) (both f g) text rest
some_both one two = record { part = (one.part, two.part); stands = stands_both one.stands two.stands }

pub both_skipped : {A B E : Type 0} {P : A → Type 0} {f : A → List ℕ} {text mid : List ℕ} (Q : B → Type 0) (g : B → List ℕ) (r : Result (Option (Bor (List ℕ))) E) → IsSpelling f → StandsSome P f text mid
    → IfOk r (λ found. MatchOption found (StandsNone Q g mid) (λ rest. StandsSome Q g mid rest.now))
    → IfOk r (λ found. MatchOption found (StandsNone (AreBoth P Q) (both f g) text) (λ rest. StandsSome (AreBoth P Q) (both f g) text rest.now))
both_skipped Q g (Err e) spelling one told = tt
both_skipped Q g (Ok None) spelling one told = none_second spelling one.stands told
both_skipped Q g (Ok (Some rest)) spelling one told = some_both one told

pub some_list : {A : Type 0} {P : A → Type 0} {Q : ℕ → Type 0} {text mid rest : List ℕ} {n : ℕ} (f : A → List ℕ)
    → BeginsWith Q number text n mid → StandsSome (HasCount P n) (flat_map f) mid rest → StandsSome (AllByRecursion P) (listed f) text rest
some_list f count some = record { part = some.part; stands = stands_list f count some.stands }

pub some_none : {A : Type 0} (P : A → Type 0) (f : A → List ℕ) (text : List ℕ) → StandsSome (HasCount P 0) (flat_map f) text text
some_none P f text = record { part = []; stands = record { is = (tt, refl); here = refl } }

pub some_more : {A : Type 0} {P : A → Type 0} {f : A → List ℕ} {text mid rest : List ℕ} {n : ℕ}
    → StandsSome (HasCount P n) (flat_map f) text mid → StandsSome P f mid rest → StandsSome (HasCount P (n + 1)) (flat_map f) text rest
some_more so_far next = record { part = so_far.part ++ next.part ∷ []; stands = one_more _ so_far.stands next.stands refl }

-- a list that is passed over item by item
pub list_skipped : {A E : Type 0} {text mid : List ℕ} {n : ℕ} (P : A → Type 0) (f : A → List ℕ) (r : Result (Option (Bor (List ℕ))) E) → BeginsWith IsNumber number text n mid
    → IfOk r (λ found. MatchOption found (StandsNone (HasCount P n) (flat_map f) mid) (λ rest. StandsSome (HasCount P n) (flat_map f) mid rest.now))
    → IfOk r (λ found. MatchOption found (StandsNone (AllByRecursion P) (listed f) text) (λ rest. StandsSome (AllByRecursion P) (listed f) text rest.now))
list_skipped P f (Err e) count told = tt
list_skipped P f (Ok None) count told = none_items f count told
list_skipped P f (Ok (Some rest)) count told = some_list f count told

-- behind the key of a record of format 2

front_spelling : IsSpelling (both asked_bytes (listed input_bytes))
front_spelling = both_spelling _ _ asked_spelling (list_spelling _ input_spelling)

pub needs_spelling : IsSpelling (listed (both block number))
needs_spelling = list_spelling _ (both_spelling _ _ block_spelling number_spelling)

abbrev AreNeeds : List (List ℕ × ℕ) → Type 0
AreNeeds = AllByRecursion (AreBoth IsUtf8 IsNumber)

abbrev AreFront : RecordedCommand × List Input → Type 0
AreFront = AreBoth IsAsked (AllByRecursion IsInput)

-- the text of a rest: its front, its needs, its streams
cut_rest : (p : RestParts) (text : List ℕ) → text ≡ rest_spelled p ++ line (codes "end") → text ≡ both asked_bytes (listed input_bytes) p.0 ++ (listed (both block number) p.1.0 ++ (both block block p.1.1 ++ line (codes "end")))
cut_rest (front, (needs, streams)) text e = e ∙ append_assoc (both asked_bytes (listed input_bytes) front) _ _ ∙ ap (λ t. both asked_bytes (listed input_bytes) front ++ t) (append_assoc (listed (both block number) needs) _ _)

pub no_front : {text : List ℕ} → StandsNone AreFront (both asked_bytes (listed input_bytes)) text → (p : RestParts) → IsRest text p → ⊥
no_front {text = text} none p is = none.never p.0 _ (record { is = is.0.0; here = cut_rest p text is.1 })

module _ {text mid : List ℕ} (front : StandsSome AreFront (both asked_bytes (listed input_bytes)) text mid) where
  mid_of : (p : RestParts) → IsRest text p → mid ≡ listed (both block number) p.1.0 ++ (both block block p.1.1 ++ line (codes "end"))
  mid_of p is = (front_spelling.apart front.part p.0 mid _ (sym front.stands.here ∙ cut_rest p text is.1)).1

  pub no_needs : StandsNone AreNeeds (listed (both block number)) mid → (p : RestParts) → IsRest text p → ⊥
  no_needs none p is = none.never p.1.0 _ (record { is = is.0.1.0; here = mid_of p is })

  pub no_end : (needs : List (List ℕ × ℕ)) (rest : List ℕ) → BeginsWith AreNeeds (listed (both block number)) mid needs rest → (IsEnd rest → ⊥) → (p : RestParts) → IsRest text p → ⊥
  no_end needs rest there bad p is = bad (record { streams = p.1.1; is = (needs_spelling.apart needs p.1.0 rest _ (sym there.here ∙ mid_of p is)).1 })

  pub has_needs : (needs : List (List ℕ × ℕ)) (rest : List ℕ) → BeginsWith AreNeeds (listed (both block number)) mid needs rest → IsEnd rest → EndsInNeeds text needs
  has_needs needs rest there end = record {
    parts = (front.part, (needs, end.streams));
    is = (
      (front.stands.is, (there.is, (tt, tt))),
      front.stands.here
          ∙ ap (λ t. both asked_bytes (listed input_bytes) front.part ++ t) (there.here ∙ ap (λ t. listed (both block number) needs ++ t) end.is)
          ∙ sym (cut_rest (front.part, (needs, end.streams)) _ refl),
    );
    same = refl;
  }

-- two streams, and the last line

pub is_ended : {text rest : List ℕ} → StandsSome (AreBoth IsAny IsAny) (both block block) text rest → rest ≡ line (codes "end") → IsEnd text
is_ended some e = record { streams = some.part; is = some.stands.here ∙ ap (λ t. both block block some.part ++ t) e }

pub ends_so : {text rest : List ℕ} → StandsSome (AreBoth IsAny IsAny) (both block block) text rest → IsEnd text → rest ≡ line (codes "end")
ends_so {rest = rest} some end = ((both_spelling _ _ block_spelling block_spelling).apart some.part end.streams rest (line (codes "end")) (sym some.stands.here ∙ end.is)).1

pub not_ended : {text : List ℕ} → StandsNone (AreBoth IsAny IsAny) (both block block) text → IsEnd text → ⊥
not_ended none end = none.never end.streams (line (codes "end")) (record { is = (tt, tt); here = end.is })

-- a record of format 2: its number and its key, and what is behind them

abbrev AreHead : ℕ × List ℕ → Type 0
AreHead = AreBoth IsNumber IsUtf8

head_spelling : IsSpelling (both number block)
head_spelling = both_spelling _ _ number_spelling block_spelling

abbrev rest_of : NumberedParts → RestParts
rest_of (own, (key, (asked, (inputs, (needs, streams))))) = ((asked, inputs), (needs, streams))

abbrev head_of : NumberedParts → ℕ × List ℕ
head_of (own, (key, rest)) = (own, key)

regrouped : (a b c d e f end : List ℕ) → (a ++ (b ++ (c ++ (d ++ (e ++ f))))) ++ end ≡ (a ++ b) ++ (((c ++ d) ++ (e ++ f)) ++ end)
regrouped a b c d e f end = simp append_assoc

numbered_grouped : (p : NumberedParts) → numbered_spelled p ++ line (codes "end") ≡ both number block (head_of p) ++ (rest_spelled (rest_of p) ++ line (codes "end"))
numbered_grouped (own, (key, (asked, (inputs, (needs, streams))))) = regrouped (number own) (block key) (asked_bytes asked) (listed input_bytes inputs) (listed (both block number) needs) (both block block streams) (line (codes "end"))

are_rest : (p : NumberedParts) → AreNumbered p → AreRest (rest_of p)
are_rest (own, (key, (asked, (inputs, (needs, streams))))) are = ((are.1.1.0, are.1.1.1.0), (are.1.1.1.1.0, are.1.1.1.1.1))

are_head : (p : NumberedParts) → AreNumbered p → AreHead (head_of p)
are_head (own, (key, rest)) are = (are.0, are.1.0)

pub no_head : {text : List ℕ} → StandsNone AreHead (both number block) text → (r : Record) → Says (line (codes "record 2") ++ text) r → ⊥
no_head none = not_numbered (λ p are e. none.never (head_of p) _ (record { is = are_head p are; here = e ∙ numbered_grouped p }))

pub no_rest : {text rest : List ℕ} {head : ℕ × List ℕ} → BeginsWith AreHead (both number block) text head rest → ((p : RestParts) → IsRest rest p → ⊥) → (r : Record) → Says (line (codes "record 2") ++ text) r → ⊥
no_rest {rest = rest} {head = head} there none = not_numbered (λ p are e. none (rest_of p) (are_rest p are, (head_spelling.apart head (head_of p) rest _ (sym there.here ∙ e ∙ numbered_grouped p)).1))

says_by : {text rest key : List ℕ} {own : ℕ} (p : RestParts) → BeginsWith AreHead (both number block) text (own, key) rest → IsRest rest p → SaysNumbers (line (codes "record 2") ++ text) (record { key = key; numbered = Some (own, p.1.0) })
says_by {key = key} {own = own} ((asked, inputs), (needs, streams)) there is =
    let parts : NumberedParts = (own, (key, (asked, (inputs, (needs, streams))))) in
    record {
      kept = numbered_of parts;
      says = says_numbered parts ((there.is.0, (there.is.1, (is.0.0.0, (is.0.0.1, (is.0.1.0, is.0.1.1))))), there.here ∙ ap (λ t. both number block (own, key) ++ t) is.1 ∙ sym (numbered_grouped parts));
      same = refl;
    }

pub says_needs : {text rest key : List ℕ} {own : ℕ} {needs : List (List ℕ × ℕ)} → BeginsWith AreHead (both number block) text (own, key) rest → EndsInNeeds rest needs
    → SaysNumbers (line (codes "record 2") ++ text) (record { key = key; numbered = Some (own, needs) })
says_needs {text = text} {key = key} {own = own} there has =
    subst (λ n. SaysNumbers (line (codes "record 2") ++ text) (record { key = key; numbered = Some (own, n) })) (sym has.same) (says_by has.parts there has.is)

-- a record of format 1: its key, and what is behind it

abbrev BehindParts : Type 0
BehindParts = RecordedCommand × (List Input × (List (List ℕ × Files) × (List ℕ × List ℕ)))

abbrev behind_spelled : BehindParts → List ℕ
behind_spelled = both asked_bytes (both (listed input_bytes) (both (listed (both block files)) (both block block)))

abbrev AreBehind : BehindParts → Type 0
AreBehind = AreBoth IsAsked (AreBoth (AllByRecursion IsInput) (AreBoth (AllByRecursion (AreBoth IsUtf8 AreFiles)) (AreBoth IsAny IsAny)))

copied_cut : (p : CopiedParts) → copied_spelled p ++ line (codes "end") ≡ block p.0 ++ (behind_spelled p.1 ++ line (codes "end"))
copied_cut (key, behind) = append_assoc (block key) (behind_spelled behind) (line (codes "end"))

pub no_key : {text : List ℕ} → StandsNone IsUtf8 block text → (r : Record) → Says (line (codes "record 1") ++ text) r → ⊥
no_key none = not_copied (λ p are e. none.never p.0 _ (record { is = are.0; here = e ∙ copied_cut p }))

module _ {text rest key : List ℕ} (there : BeginsWith IsUtf8 block text key rest) where
  rest_copied : (p : CopiedParts) → text ≡ copied_spelled p ++ line (codes "end") → rest ≡ behind_spelled p.1 ++ line (codes "end")
  rest_copied p e = (block_spelling.apart key p.0 rest _ (sym there.here ∙ e ∙ copied_cut p)).1

  pub no_behind : StandsNone AreBehind behind_spelled rest → (r : Record) → Says (line (codes "record 1") ++ text) r → ⊥
  no_behind none = not_copied (λ p are e. none.never p.1 (line (codes "end")) (record { is = are.1; here = rest_copied p e }))

  pub not_last : (last : List ℕ) → IsSpelling behind_spelled → StandsSome AreBehind behind_spelled rest last → (last ≡ line (codes "end") → ⊥) → (r : Record) → Says (line (codes "record 1") ++ text) r → ⊥
  not_last last spelling some bad = not_copied (λ p are e. bad (spelling.apart some.part p.1 last (line (codes "end")) (sym some.stands.here ∙ rest_copied p e)).1)

  pub says_key : (last : List ℕ) (p : BehindParts) → BeginsWith AreBehind behind_spelled rest p last → last ≡ line (codes "end") → SaysNumbers (line (codes "record 1") ++ text) (record { key = key; numbered = None })
  says_key last (asked, (inputs, (copies, streams))) stands e =
      let parts : CopiedParts = (key, (asked, (inputs, (copies, streams)))) in
      record {
        kept = copied_of parts;
        says = says_copied parts ((there.is, stands.is), there.here ∙ ap (λ t. block key ++ t) (stands.here ∙ ap (λ t. behind_spelled (asked, (inputs, (copies, streams))) ++ t) e) ∙ sym (copied_cut parts));
        same = refl;
      }

pub behind_spelling : IsSpelling behind_spelled
behind_spelling = both_spelling _ _ asked_spelling (both_spelling _ _ (list_spelling _ input_spelling) (both_spelling _ _ (list_spelling _ (both_spelling _ _ block_spelling files_spelling)) (both_spelling _ _ block_spelling block_spelling)))

-- the numbers of the record that a text is

none_read : (found : Option Record) → ((r : Record) → found ≡ Some r → ⊥) → None ≡ option_map numbers_of found
none_read None bad = refl
none_read (Some r) bad = absurd (bad r refl)

pub numbers_read : (text : List ℕ) (found : Option Numbers) → MatchOption found ((r : Record) → Says text r → ⊥) (λ numbers. SaysNumbers text numbers) → AreNumbersOf text found
numbers_read text None none read readings = none_read (read text) (λ r e. none r ((readings text r).0 e))
numbers_read text (Some numbers) says read readings = ap Some says.same ∙ ap (option_map numbers_of) (sym (reads_back says.says read readings))
