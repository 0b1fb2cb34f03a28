-- What is read of a text is read of its lines.
use Rattle.std.proofs.Common.{◌≡◌, ◌<◌, ◌+◌, ◌∙◌, ℕ, zero, suc, true, List, [], ◌∷◌, ◌++◌, Result, Ok, Err, Some, refl, sym, ap, subst, slice_get, arith}
use Rattle.std.specs.Prelude.{is_ok}
use Rattle.std.specs.List.{AllZip, flat_map}
use Rattle.pb_data.specs.UnlessOom.{◌>>=◌, lifted}
use Rattle.pb_directive.specs.DepInfo.{each_once, info_from, joined, line_info, nothing}
use Rattle.pb_directive.specs.Directives.{directives_from, directives_of, line_directives}
use Rattle.pb_directive.specs.Faults.{fault_at}
use Rattle.pb_directive.specs.Lines.{lines_of}
use Rattle.pb_directive.specs.declared.dep_info.DepInfo.{DepInfo}
use Rattle.pb_directive.specs.declared.directive.Directive.{Directive}
use Rattle.pb_directive.specs.declared.fault.LineFault.{LineFault}
use Rattle.pb_directive.specs.declared.fault.Problem.{Problem}
use Rattle.pb_command_laws.specs.Texts as texts
use Rattle.pb_command_laws.specs.Texts.{LinesAreRead, InfosAreRead, OutputsAreRead}

-- the parts, one after another
abbrev pub all_of : {T U : Type 0} → U → (T → U → U) → List T → U
all_of nothing join [] = nothing
all_of nothing join (part ∷ parts) = join part (all_of nothing join parts)

module _ {T U : Type 0} (read : List ℕ → Result T Problem) where
  -- lines of which the first has this number
  data From (all : List T → U) (number : ℕ) (lines : List (List ℕ)) : Result U LineFault → Type 0 where
    each : (parts : List T) (are : AllZip (λ line part. read line ≡ Ok part) lines parts) → From all number lines (Ok (all parts))
    first : (index k : ℕ) (is : k ≡ index + number) (line : List ℕ) (problem : Problem) (there : slice_get lines index ≡ Some line) (wrong : read line ≡ Err problem)
        (before : (n : ℕ) (other : List ℕ) → n < index → slice_get lines n ≡ Some other → is_ok (read other) ≡ true) → From all number lines (Err (fault_at k problem))

  from_one : (all : List T → U) (lines : List (List ℕ)) (answer : Result U LineFault) → From all 1 lines answer → LinesAreRead read all lines answer
  from_one all lines _ (each parts are) = texts.each parts are
  from_one all lines _ (first index k is line problem there wrong before) =
      subst (λ n. LinesAreRead read all lines (Err (fault_at n problem))) (sym is) (texts.first index line problem there wrong before)

  -- put on the parts of the whole
  put : {V : Type 0} (put_on : U → V) (all : List T → U) (lines : List (List ℕ)) (answer : Result U LineFault) → LinesAreRead read all lines answer → LinesAreRead read (λ parts. put_on (all parts)) lines (answer >>= (λ u. Ok (put_on u)))
  put put_on all lines _ (texts.each parts are) = texts.each parts are
  put put_on all lines _ (texts.first index line problem there wrong before) = texts.first index line problem there wrong before

  module _ (nothing : U) (join : T → U → U) (fold : ℕ → List (List ℕ) → Result U LineFault) (base : (number : ℕ) → fold number [] ≡ Ok nothing)
      (step : (number : ℕ) (line : List ℕ) (lines : List (List ℕ)) → fold number (line ∷ lines) ≡ lifted (fault_at number) (read line) >>= (λ here. fold (number + 1) lines >>= (λ more. Ok (join here more)))) where
    abbrev all : List T → U
    all = all_of nothing join

    one_more : (number : ℕ) (line : List ℕ) (lines : List (List ℕ)) (part : T) → read line ≡ Ok part → (rest : Result U LineFault) → From all (number + 1) lines rest → From all number (line ∷ lines) (rest >>= (λ more. Ok (join part more)))
    one_more number line lines part reads _ (each parts are) = each (part ∷ parts) (reads, are)
    one_more number line lines part reads _ (first index k is other problem there wrong before) = first (suc index) k (omega arith) other problem there wrong ok_before
      where
        ok_before : (n : ℕ) (other : List ℕ) → n < suc index → slice_get (line ∷ lines) n ≡ Some other → is_ok (read other) ≡ true
        ok_before zero other low at = let same : line ≡ other = cc in ap (λ l. is_ok (read l)) (sym same) ∙ ap is_ok reads
        ok_before (suc n) other low at = before n other (omega arith) at

    abbrev onward : ℕ → List (List ℕ) → Result T Problem → Result U LineFault
    onward number lines r = lifted (fault_at number) r >>= (λ here. fold (number + 1) lines >>= (λ more. Ok (join here more)))

    all_from : (number : ℕ) (lines : List (List ℕ)) → From all number lines (fold number lines)
    all_from number [] = subst (From all number []) (sym (base number)) (each [] tt)
    all_from number (line ∷ lines) = by (all_from (number + 1) lines) (read line) refl
      where
        by : From all (number + 1) lines (fold (number + 1) lines) → (r : Result T Problem) → read line ≡ r → From all number (line ∷ lines) (fold number (line ∷ lines))
        by rest (Ok part) reads =
            subst (From all number (line ∷ lines)) (sym (step number line lines ∙ ap (onward number lines) reads)) (one_more number line lines part reads (fold (number + 1) lines) rest)
        by rest (Err problem) wrong =
            subst (From all number (line ∷ lines)) (sym (step number line lines ∙ ap (onward number lines) wrong)) (first zero number (omega arith) line problem refl wrong (λ n other low at. absurd (omega arith)))

    pub are_read : (lines : List (List ℕ)) → LinesAreRead read all lines (fold 1 lines)
    are_read lines = from_one all lines (fold 1 lines) (all_from 1 lines)

-- all parts of an output, and of dep-info

same_all : {T U : Type 0} (read : List ℕ → Result T Problem) (all other : List T → U) (lines : List (List ℕ)) (answer : Result U LineFault) → ((parts : List T) → all parts ≡ other parts) → LinesAreRead read all lines answer → LinesAreRead read other lines answer
same_all read all other lines _ same (texts.each parts are) = subst (λ u. LinesAreRead read other lines (Ok u)) (sym (same parts)) (texts.each parts are)
same_all read all other lines _ same (texts.first index line problem there wrong before) = texts.first index line problem there wrong before

said_all : (parts : List (List Directive)) → all_of [] (λ here more. here ++ more) parts ≡ flat_map (λ said. said) parts
said_all [] = refl
said_all (part ∷ parts) = ap (λ more. part ++ more) (said_all parts)

pub outputs_are_read : OutputsAreRead
outputs_are_read bytes =
    same_all line_directives (all_of [] (λ here more. here ++ more)) (flat_map (λ said. said)) (lines_of bytes) (directives_of bytes) said_all
    (are_read line_directives [] (λ here more. here ++ more) directives_from (λ number. refl) (λ number line lines. refl) (lines_of bytes))

abbrev names_of : List DepInfo → DepInfo
names_of infos = record { words = flat_map (λ (info : DepInfo). info.words) infos; variables = flat_map (λ (info : DepInfo). info.variables) infos }

named_all : (infos : List DepInfo) → all_of nothing joined infos ≡ names_of infos
named_all [] = refl
named_all (info ∷ infos) = ap (joined info) (named_all infos)

pub infos_are_read : InfosAreRead
infos_are_read bytes =
    put line_info each_once names_of (lines_of bytes) (info_from 1 (lines_of bytes))
    (same_all line_info (all_of nothing joined) names_of (lines_of bytes) (info_from 1 (lines_of bytes)) named_all
    (are_read line_info nothing joined info_from (λ number. refl) (λ number line lines. refl) (lines_of bytes)))
