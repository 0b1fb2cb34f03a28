-- An answer is judged just so.
use borrow.Author.Tests.{ltb-false}
use Rattle.std.proofs.Common.{suc, ◌==◌, inl, inr, ◌≡◌, ◌<◌, ◌⊎◌, ◌∙◌, ℕ, Bool, true, false, ◌||◌, if◌then◌else◌, codes, List, [], ◌∷◌, ◌++◌, Option, Some, None, pos, Result, Ok, Err, length, refl, sym, ap, subst, arith}
use Rattle.std.proofs.lemmas.Bool.Decides.{Decides-int_eq, Decides-ltb, nat_tests}
use Rattle.std.specs.Prelude.{filter, map, not}
use Rattle.std.specs.List.{find, flat_map, list_any}
use Rattle.std.specs.Option.{option_to_list}
use Rattle.std.specs.Ordering.{int_eq}
use Rattle.std.specs.Result.{result_ok}
use Rattle.pb_command.proofs.Ordered.{first_off, second_off}
use Rattle.pb_command_reply.specs.Answers.{answered_by, compile_answered, ended_fault, info_in, info_inputs, inherited, inputs_of, is_covered, is_error, is_foreign, is_source, is_too_long, path_or_none, path_said, paths_from, read_info, read_or_none, rerun_inputs, run_answered, said_in, said_inputs, unless_error, unless_fault, unless_foreign}
use Rattle.pb_data.specs.UnlessOom.{◌>>=◌, lifted}
use Rattle.pb_data.specs.OrderedSet.{once}
use Rattle.pb_directive.specs.DepInfo.{dep_info_of}
use Rattle.pb_directive.specs.Directives.{directives_of}
use Rattle.pb_directive.specs.declared.dep_info.DepInfo.{DepInfo}
use Rattle.pb_directive.specs.declared.directive.Directive.{Directive}
use Rattle.pb_directive.specs.declared.fault.LineFault.{LineFault}
use Rattle.pb_place_types.specs.Paths.{is_at_or_below, joined}
use Rattle.pb_place_types.specs.declared.command.Command.{Command}
use Rattle.pb_place_types.specs.declared.command.Ended.{Ended}
use Rattle.pb_place_types.specs.declared.path.PathFault.{PathFault}
use Rattle.pb_command_types.specs.Targets.{folder_of, is_run}
use Rattle.pb_command_types.specs.declared.checked_reply.CheckedReply.{CheckedReply}
use Rattle.pb_command_types.specs.declared.fault.UnitFault.{UnitFault}
use Rattle.pb_command_types.specs.declared.fault.UnitFault.TheVariants as unit_fault
use Rattle.pb_record.specs.declared.record.InputName.{InputName}
use Rattle.pb_record.specs.declared.record.InputName.TheVariants.{Path, Variable}
use Rattle.pb_unit.specs.declared.unit.What.{What}
use Rattle.pb_unit.specs.declared.unit.What.TheVariants.{Lib, Bin, Script, Run}
use Rattle.pb_command_laws.specs.Compiles.{asked}
use Rattle.pb_command_laws.specs.Judged as words
use Rattle.pb_command_laws.specs.Judged.{EndedWell, HasInfo, IsShort, ReportsInputs, IsAnswer, AnswersSay, paths_said}
use Rattle.pb_command_laws.proofs.Asking.{asked_errors, asked_none, errors_asked, none_asked, paths_asked, variables_asked}

no_zero : (n : ℕ) → (suc n == 0) ≡ false
no_zero n = grind (arith, nat_tests)

-- how long a text is

pub short_so : (bytes : List ℕ) → IsShort bytes → is_too_long bytes ≡ false
short_so bytes short = by (is_too_long bytes) refl
  where
    by : (b : Bool) → is_too_long bytes ≡ b → is_too_long bytes ≡ false
    by true long = let more : 4194304 < length bytes = (Decides-ltb 4194304 (length bytes)).0 long in absurd (omega arith)
    by false is = is

pub so_short : (bytes : List ℕ) → is_too_long bytes ≡ false → IsShort bytes
so_short bytes is = omega (arith, ltb-false)

pub both_so : (e : Ended) → IsShort e.stdout → IsShort e.stderr → (is_too_long e.stdout || is_too_long e.stderr) ≡ false
both_so e out err = λ i. short_so e.stdout out i || short_so e.stderr err i

pub so_both : (e : Ended) → (is_too_long e.stdout || is_too_long e.stderr) ≡ false → IsShort e.stdout × IsShort e.stderr
so_both e is = (so_short e.stdout (first_off (is_too_long e.stdout) (is_too_long e.stderr) is), so_short e.stderr (second_off (is_too_long e.stdout) (is_too_long e.stderr) is))

long_so : (e : Ended) → (IsShort e.stdout × IsShort e.stderr → ⊥) → (is_too_long e.stdout || is_too_long e.stderr) ≡ true
long_so e never = by (is_too_long e.stdout || is_too_long e.stderr) refl
  where
    by : (b : Bool) → (is_too_long e.stdout || is_too_long e.stderr) ≡ b → (is_too_long e.stdout || is_too_long e.stderr) ≡ true
    by true is = is
    by false is = absurd (never (so_both e is))

-- the paths that texts say
path_is : (folder text : List ℕ) → words.path_said folder text ≡ path_said folder text
unfolding path_said
path_is folder text = by (joined folder text)
  where
    by : (r : Result (List ℕ) PathFault) → option_to_list (result_ok r) ≡ path_or_none r
    by (Ok path) = refl
    by (Err fault) = refl

each_is : (folder : List ℕ) (texts : List (List ℕ)) → flat_map (path_said folder) texts ≡ flat_map (words.path_said folder) texts
each_is folder [] = refl
each_is folder (text ∷ texts) = (λ i. sym (path_is folder text) i ++ each_is folder texts i)

pub paths_are : (folder : List ℕ) (texts : List (List ℕ)) → paths_from folder texts ≡ paths_said folder texts
paths_are folder texts = ap once (each_is folder texts)

abbrev pub Answer : Type 0
Answer = Result CheckedReply UnitFault

module _ (what : What) (c : Command) (folder : List ℕ) (e : Ended) (dep_info : Option (List ℕ)) where
  abbrev pub answer : Answer
  answer = unless_fault (ended_fault e) (answered_by what c folder e dep_info)

  -- how it ended
  abbrev long : Bool
  long = is_too_long e.stdout || is_too_long e.stderr

  abbrev by_status : Option UnitFault
  by_status = if int_eq e.status (pos 0) then None else Some (unit_fault.Status e.status)

  well_so : EndedWell e → answer ≡ answered_by what c folder e dep_info
  well_so well =
      ap (λ o. unless_fault o (answered_by what c folder e dep_info))
      (ap (λ b. if b then Some unit_fault.OutputTooLong else by_status) (both_so e well.0 well.1) ∙ ap (λ b. if b then None else Some (unit_fault.Status e.status)) ((Decides-int_eq e.status (pos 0)).1 well.2))

  kind_so : answered_by what c folder e dep_info ≡ (if is_run what then run_answered c folder e else compile_answered c dep_info)
  kind_so = by what
    where
      by : (w : What) → answered_by w c folder e dep_info ≡ (if is_run w then run_answered c folder e else compile_answered c dep_info)
      by Lib = refl
      by (Bin name) = refl
      by Script = refl
      by Run = refl

  compile_so : is_run what ≡ false → answered_by what c folder e dep_info ≡ compile_answered c dep_info
  compile_so is = kind_so ∙ ap (λ b. if b then run_answered c folder e else compile_answered c dep_info) is

  run_so : is_run what ≡ true → answered_by what c folder e dep_info ≡ run_answered c folder e
  run_so is = kind_so ∙ ap (λ b. if b then run_answered c folder e else compile_answered c dep_info) is

  -- what it tells
  info_so : (info : DepInfo) → HasInfo dep_info info → read_info dep_info ≡ Ok info
  info_so info (bytes, there, short, read) = ap read_info there ∙ ap (λ b. if b then Err unit_fault.NoDepInfo else info_in bytes) (short_so bytes short) ∙ ap read_or_none read

  said_so : (said : List Directive) → directives_of e.stdout ≡ Ok said → list_any is_error said ≡ false → said_in e ≡ Ok said
  said_so said read fine = ap (λ (r : Result (List Directive) LineFault). lifted unit_fault.Directive r >>= unless_error) read ∙ ap (λ b. if b then Err unit_fault.ScriptError else Ok said) fine

  abbrev with_inputs : Option (List Directive) → List (List ℕ) → List (List ℕ) → Answer
  with_inputs said paths variables = inputs_of c paths variables >>= (λ inputs. Ok record { directives = said; inputs = inputs })

  abbrev named_paths : List (List ℕ) → List (List ℕ) → List (List ℕ)
  named_paths paths variables = if length (paths ++ variables) == 0 then folder ∷ [] else paths_said folder paths

  rerun_so : (paths variables : List (List ℕ)) → rerun_inputs c folder paths variables ≡ inputs_of c (named_paths paths variables) (once variables)
  rerun_so [] [] = refl
  rerun_so [] (name ∷ names) = ap (λ b. inputs_of c (if b then folder ∷ [] else []) (once (name ∷ names))) (sym (no_zero (length names)))
  rerun_so (path ∷ paths) names =
      ap (λ said. inputs_of c said (once names)) (paths_are folder (path ∷ paths))
      ∙ ap (λ b. inputs_of c (if b then folder ∷ [] else paths_said folder (path ∷ paths)) (once names)) (sym (no_zero (length (paths ++ names))))

  told_so : (said : Option (List Directive)) (paths variables : List (List ℕ)) → ReportsInputs what c folder e dep_info said paths variables → answered_by what c folder e dep_info ≡ with_inputs said paths variables
  told_so _ _ _ (words.compile is info read) =
      compile_so is ∙ ap (λ (r : Result DepInfo UnitFault). r >>= (λ i. info_inputs c i >>= (λ inputs. Ok record { directives = None; inputs = inputs }))) (info_so info read)
      ∙ ap (λ paths. inputs_of c paths (inherited c info.variables) >>= (λ inputs. Ok record { directives = None; inputs = inputs })) (paths_are c.folder info.words)
  told_so _ _ _ (words.run is said read fine) =
      run_so is ∙ ap (λ (r : Result (List Directive) UnitFault). r >>= (λ s. said_inputs c folder s >>= (λ inputs. Ok record { directives = Some s; inputs = inputs }))) (said_so said read (asked_none said fine))
      ∙ (λ i. rerun_inputs c folder (paths_asked said i) (variables_asked said i) >>= (λ inputs. Ok record { directives = Some said; inputs = inputs }))
      ∙ ap (λ r. r >>= (λ inputs. Ok record { directives = Some said; inputs = inputs })) (rerun_so (asked (codes "rerun-if-changed") said) (asked (codes "rerun-if-env-changed") said))

  -- the inputs
  abbrev inputs_are : List (List ℕ) → List (List ℕ) → List InputName
  inputs_are paths variables = map Path (filter (λ path. not (is_at_or_below c.target path)) paths) ++ map Variable variables

  inputs_so : (paths variables : List (List ℕ)) → find (words.is_foreign c) paths ≡ None → inputs_of c paths variables ≡ Ok (inputs_are paths variables)
  unfolding is_covered is_foreign is_source
  inputs_so paths variables none = ap (λ o. unless_foreign o (filter (λ path. not (is_at_or_below c.target path)) paths) >>= (λ sources. Ok (map Path sources ++ map Variable variables))) none

  foreign_so : (paths variables : List (List ℕ)) (path : List ℕ) → find (words.is_foreign c) paths ≡ Some path → inputs_of c paths variables ≡ Err (unit_fault.ForeignInput path)
  unfolding is_covered is_foreign is_source
  foreign_so paths variables path foreign = ap (λ o. unless_foreign o (filter (λ path. not (is_at_or_below c.target path)) paths) >>= (λ sources. Ok (map Path sources ++ map Variable variables))) foreign

  abbrev InfoView : Type 0
  InfoView = ((info : DepInfo) × HasInfo dep_info info) ⊎ ((read_info dep_info ≡ Err unit_fault.NoDepInfo) × ((info : DepInfo) → HasInfo dep_info info → ⊥))

  same_bytes : (bytes : List ℕ) → dep_info ≡ Some bytes → (info : DepInfo) (is : HasInfo dep_info info) → bytes ≡ is.0
  same_bytes bytes at info is = let both : Some bytes ≡ Some is.0 = sym at ∙ is.1 in cc

  info_view : InfoView
  info_view = by dep_info refl
    where
      by_read : (bytes : List ℕ) → dep_info ≡ Some bytes → is_too_long bytes ≡ false → (r : Result DepInfo LineFault) → dep_info_of bytes ≡ r → InfoView
      by_read bytes at short (Ok info) read = inl (info, (bytes, at, so_short bytes short, read))
      by_read bytes at short (Err fault) read =
          inr (
            ap read_info at ∙ ap (λ b. if b then Err unit_fault.NoDepInfo else info_in bytes) short ∙ ap read_or_none read,
            λ info is. (let other : Err fault ≡ Ok info = sym read ∙ ap dep_info_of (same_bytes bytes at info is) ∙ is.3 in cc),
          )

      by_length : (bytes : List ℕ) → dep_info ≡ Some bytes → (b : Bool) → is_too_long bytes ≡ b → InfoView
      by_length bytes at true long =
          inr (
            ap read_info at ∙ ap (λ b. if b then Err unit_fault.NoDepInfo else info_in bytes) long,
            λ info is. (let other : true ≡ false = sym long ∙ ap is_too_long (same_bytes bytes at info is) ∙ short_so is.0 is.2 in cc),
          )
      by_length bytes at false short = by_read bytes at short (dep_info_of bytes) refl

      by : (o : Option (List ℕ)) → dep_info ≡ o → InfoView
      by None at = inr (ap read_info at, λ info is. (let other : None ≡ Some is.0 = sym at ∙ is.1 in cc))
      by (Some bytes) at = by_length bytes at (is_too_long bytes) refl

  -- each case is the answer
  pub answer_so : (a : Answer) → IsAnswer what c folder e dep_info a → answer ≡ a
  answer_so _ (words.too_long is) = ap (λ b. unless_fault (if b then Some unit_fault.OutputTooLong else by_status) (answered_by what c folder e dep_info)) (long_so e is)
  answer_so _ (words.status short is) =
      ap (λ b. unless_fault (if b then Some unit_fault.OutputTooLong else by_status) (answered_by what c folder e dep_info)) (both_so e short.0 short.1) ∙ by (int_eq e.status (pos 0)) refl
    where
      by : (b : Bool) → int_eq e.status (pos 0) ≡ b → unless_fault (if b then None else Some (unit_fault.Status e.status)) (answered_by what c folder e dep_info) ≡ Err (unit_fault.Status e.status)
      by true at = absurd (is ((Decides-int_eq e.status (pos 0)).0 at))
      by false at = refl
  answer_so _ (words.no_dep_info well is none) =
      well_so well ∙ compile_so is ∙ ap (λ (r : Result DepInfo UnitFault). r >>= (λ i. info_inputs c i >>= (λ inputs. Ok record { directives = None; inputs = inputs }))) (unread none)
    where
      unread : ((info : DepInfo) → HasInfo dep_info info → ⊥) → read_info dep_info ≡ Err unit_fault.NoDepInfo
      unread none = elim info_view [ inl i ↦ absurd (none i.0 i.1) | inr bad ↦ bad.0 ]
  answer_so _ (words.bad_line well is fault read) =
      well_so well ∙ run_so is
      ∙ ap (λ (r : Result (List Directive) LineFault). (lifted unit_fault.Directive r >>= unless_error) >>= (λ s. said_inputs c folder s >>= (λ inputs. Ok record { directives = Some s; inputs = inputs }))) read
  answer_so _ (words.script_error well is said read some) =
      well_so well ∙ run_so is
      ∙ ap (λ (r : Result (List Directive) LineFault). (lifted unit_fault.Directive r >>= unless_error) >>= (λ s. said_inputs c folder s >>= (λ inputs. Ok record { directives = Some s; inputs = inputs }))) read
      ∙ ap (λ b. (if b then Err unit_fault.ScriptError else Ok said) >>= (λ s. said_inputs c folder s >>= (λ inputs. Ok record { directives = Some s; inputs = inputs }))) (asked_errors said some)
  answer_so _ (words.refused well said paths variables told path foreign) =
      well_so well ∙ told_so said paths variables told ∙ ap (λ r. r >>= (λ inputs. Ok record { directives = said; inputs = inputs })) (foreign_so paths variables path foreign)
  answer_so _ (words.good well paths variables answered told none inputs) =
      well_so well ∙ told_so answered.directives paths variables told ∙ ap (λ r. r >>= (λ inputs. Ok record { directives = answered.directives; inputs = inputs })) (inputs_so paths variables none)
      ∙ ap (λ inputs. Ok record { directives = answered.directives; inputs = inputs }) (sym inputs)

  -- and one of the cases is there
  abbrev pub Is : Answer → Type 0
  Is a = IsAnswer what c folder e dep_info a

  found : (a : Answer) → Is a → Is answer
  found a is = subst Is (sym (answer_so a is)) is

  by_inputs : EndedWell e → (said : Option (List Directive)) (paths variables : List (List ℕ)) → ReportsInputs what c folder e dep_info said paths variables → Is answer
  by_inputs well said paths variables told = by (find (words.is_foreign c) paths) refl
    where
      by : (o : Option (List ℕ)) → find (words.is_foreign c) paths ≡ o → Is answer
      by None at = found _ (words.good well paths variables (record { directives = said; inputs = inputs_are paths variables }) told at refl)
      by (Some path) at = found _ (words.refused well said paths variables told path at)

  by_lines : EndedWell e → is_run what ≡ true → (said : List Directive) → directives_of e.stdout ≡ Ok said → list_any is_error said ≡ false → Is answer
  by_lines well is said read fine = by_inputs well (Some said) _ _ (words.run is said read (none_asked said fine))

  by_said : EndedWell e → is_run what ≡ true → (r : Result (List Directive) LineFault) → directives_of e.stdout ≡ r → Is answer
  by_said well is (Err fault) read = found _ (words.bad_line well is fault read)
  by_said well is (Ok said) read = by (list_any is_error said) refl
    where
      by : (b : Bool) → list_any is_error said ≡ b → Is answer
      by true some = found _ (words.script_error well is said read (errors_asked said some))
      by false fine = by_lines well is said read fine

  by_kind : EndedWell e → (b : Bool) → is_run what ≡ b → Is answer
  by_kind well true is = by_said well is (directives_of e.stdout) refl
  by_kind well false is = elim info_view [
    | inl i ↦ by_inputs well None _ _ (words.compile is i.0 i.1)
    | inr bad ↦ found _ (words.no_dep_info well is bad.1)
  ]

  by_end : long ≡ false → (b : Bool) → int_eq e.status (pos 0) ≡ b → Is answer
  by_end short true at = by_kind ((so_both e short).0, (so_both e short).1, (Decides-int_eq e.status (pos 0)).0 at) (is_run what) refl
  by_end short false at = found _ (words.status (so_both e short) (λ same. (let other : true ≡ false = sym ((Decides-int_eq e.status (pos 0)).1 same) ∙ at in cc)))

  by_length : (b : Bool) → long ≡ b → Is answer
  by_length true is = found _ (words.too_long (λ both. (let other : true ≡ false = sym is ∙ both_so e both.0 both.1 in cc)))
  by_length false short = by_end short (int_eq e.status (pos 0)) refl

  pub answer_view : Is answer
  answer_view = by_length long refl

pub answers_say : AnswersSay
answers_say project u c e dep_info a = (
  λ same. subst (IsAnswer u.unit.what c (folder_of project u) e dep_info) same (answer_view u.unit.what c (folder_of project u) e dep_info),
  answer_so u.unit.what c (folder_of project u) e dep_info a,
)
