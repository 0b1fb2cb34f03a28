-- The small compiler is honest on the runs of scripts, and so on the command of every unit.
use Rattle.std.proofs.Common.{◌≡◌, ℕ, ◌++◌, ◌⊎◌, inl, inr, Bool, true, false, cond, codes, List, [], ◌∷◌, length, Option, Some, None, unwrap_or, Ok, Err, IfSome, refl, sym, ◌∙◌, ap, subst}
use Rattle.std.specs.FinMap as finite
use Rattle.std.specs.List.{AllByRecursion, flat_map, list_any}
use Rattle.std.specs.Option.{option_or}
use Rattle.std.proofs.lemmas.List.Elements.{recursion_from_All}
use Rattle.pb_data.specs.UnlessOom.{lifted}
use Rattle.pb_data.specs.OrderedSet.{is_mentioned, once}
use Rattle.pb_data.specs.Table.{value_at, table_of}
use Rattle.pb_data.proofs.MentionLemmas.{is_mentioned-once}
use Rattle.pb_directive.specs.Directives.{directives_of}
use Rattle.pb_directive.specs.declared.directive.Directive.{Directive}
use Rattle.pb_graph.proofs.Membership.{all_at}
use Rattle.pb_manifest_types.specs.Letters.{is_name}
use Rattle.pb_place_types.specs.Paths.{is_absolute, is_path, joined, parsed}
use Rattle.pb_place_types.specs.World.{World}
use Rattle.pb_place_types.specs.declared.command.Command.{Command}
use Rattle.pb_place_types.proofs.PathLemmas.{parsed_path}
use Rattle.pb_unit.specs.declared.plan.Planned.{Planned}
use Rattle.pb_unit.specs.declared.unit.What.{What}
use Rattle.pb_unit.specs.declared.unit.What.TheVariants as what
use Rattle.pb_workspace_types.specs.Settled.{IsPackage}
use Rattle.pb_workspace_types.specs.declared.package.Entry.{Entry}
use Rattle.pb_workspace_types.specs.declared.package.Package.{Package}
use Rattle.pb_command_reply.specs.Answers.{ended_fault, path_or_none, path_said, paths_from, changed_path, changed_variable, is_error, unless_error, said_in, marked_inputs, rerun_inputs, said_inputs, run_answered, answered_by, answered_of}
use Rattle.pb_command.specs.Command.{script_path, run_words, run_of, command_by, command_for}
use Rattle.pb_command_environment.specs.Pairs.{composed}
use Rattle.pb_command_types.specs.Targets.{package_of, package_folder, folder_of, script_source, script_file, needed, is_run, is_script, dep_info_by, dep_info_of, source_by, crate_name_of}
use Rattle.pb_command_types.specs.declared.checked_reply.CheckedReply.{CheckedReply}
use Rattle.pb_command_types.specs.declared.fault.UnitFault.{UnitFault}
use Rattle.pb_command_types.specs.declared.fault.UnitFault.TheVariants as unit_fault
use Rattle.pb_command_types.specs.declared.project.Project.{Project}
use Rattle.pb_command_types.specs.declared.project.Setup.{Setup}
use Rattle.pb_command.specs.Judge.{ended_by, replied_files, file_at}
use Rattle.pb_mini.specs.Answer.{request_of, answered, replied_if}
use Rattle.pb_mini.specs.Honesty.{SameFile, SameValue, SameAt, GivenBelow, is_below_some, names_if, names_of_image}
use Rattle.pb_mini.specs.Lines.{lines_of}
use Rattle.pb_mini.specs.Lookups as looked
use Rattle.pb_mini.specs.Script.{full_path, image_run}
use Rattle.pb_mini.specs.declared.request.Request.TheVariants.{Run}
use Rattle.pb_mini.proofs.HonestyLemmas.{honest}
use Rattle.pb_mini_laws.proofs.Agreeing.{SameInput, SameAround}
use Rattle.pb_mini_laws.specs.Honest.{small_compiler, CanTellOf, CanTell, RunsAlone, IsSmall, IsOfProject}
use Rattle.pb_mini_laws.specs.Said.{CanBeSaid, declared_in_image}
use Rattle.pb_mini_laws.proofs.Agreeing.{same_paths, same_variables}
use Rattle.pb_mini_laws.proofs.Compiling.{on_compiles, same_ok, unless}
use Rattle.pb_mini_laws.proofs.Declaring.{PathSaid, VariableSaid, run_declares, itself}
use Rattle.pb_mini_laws.proofs.Saying.{lifted_ok}
use Rattle.pb_mini_laws.proofs.Folding.{base, set_value, begins_at}
use Rattle.pb_mini_laws.proofs.Libraries.{made_below, needed_reached}
use Rattle.pb_mini_laws.proofs.Mentioning.{among_each}
use Rattle.pb_mini_laws.proofs.Named.{said_is_path}
use Rattle.pb_mini_laws.proofs.Parsing.{opened}

-- ---- the words of a run

words_cases : (runner : List (List ℕ)) (script : List ℕ) → RunsAlone runner → (run_words runner script ≡ []) ⊎ (run_words runner script ≡ codes "--run" ∷ script ∷ [])
words_cases [] script alone = inl refl
words_cases (program ∷ words) script alone = inr (ap (λ ws. ws ++ script ∷ []) alone)

-- ---- its lines

-- lines that tell of no error are what was said
not_an_error : (lines said : List Directive) → unless_error lines ≡ Ok said → lines ≡ said
not_an_error lines said is = by (list_any is_error lines) is
  where
    by : (r : Bool) → cond r (Err unit_fault.ScriptError) (Ok lines) ≡ Ok said → lines ≡ said
    by true is = absurd (cc)
    by false is = cc

-- ---- its inputs

-- where something was declared, the inputs are what was declared
marked : (c : Command) (folder : List ℕ) (paths names : List (List ℕ)) (text : List ℕ) → (is_mentioned paths text ≡ true) ⊎ (is_mentioned names text ≡ true) → rerun_inputs c folder paths names ≡ marked_inputs c folder paths names
marked c folder [] [] text (inl is) = absurd (cc)
marked c folder [] [] text (inr is) = absurd (cc)
marked c folder [] (name ∷ names) text is = refl
marked c folder (path ∷ paths) names text is = refl

all_of : {A : Type 0} (P Q : A → Type 0) (xs : List A) → ((x : A) → P x → Q x) → AllByRecursion P xs → AllByRecursion Q xs
all_of P Q [] each all = tt
all_of P Q (x ∷ xs) each all = (each x all.0, all_of P Q xs each all.1)

module _ (setup : Setup) (project : Project) (u : Planned) (done : List (Option (List Directive))) (p : Package) (is_of : IsOfProject project u) (runs : u.unit.what ≡ what.Run) where
  abbrev c : Command
  c = run_of setup project u done p

  abbrev script : List ℕ
  script = script_path project u

  -- the script lies in a folder that is read
  script_below : (path : List ℕ) → looked.path_of script ≡ Some path → is_below_some c.reads path ≡ true
  script_below path is = by (script_file project u) refl is
    where
      by : (file : Option (List ℕ)) → script_file project u ≡ file → looked.path_of (script_source file) ≡ Some path → is_below_some c.reads path ≡ true
      by None there is = absurd (cc)
      by (Some file) there is =
          let (below, absolute) = made_below project u is_of (needed is_script project u u.unit.package) file (needed_reached project u is_of is_script u.unit.package) there in
          let read : Ok path ≡ parsed file = sym (said_is_path (parsed file) path is) in
          let both : Ok path ≡ Ok file = read ∙ parsed_path file absolute in
          let same : file ≡ path = cc in
          ap (is_below_some c.reads) (sym same) ∙ below

  -- a relative path begins at the package's folder
  begins : value_at base (table_of c.pairs) ≡ Some p.folder
  begins = set_value (composed setup project u done p) base ∙ begins_at setup project u done p runs

  path_there : (v : World) (text : List ℕ) → joined p.folder text ≡ parsed (full_path (table_of c.pairs) v text)
  path_there v text = ap (λ folder. parsed (cond (is_absolute text) text (unwrap_or folder [] ++ 47 ∷ text))) (sym (ap (λ o. option_or o (finite.get v.variables base)) begins))

  module _ (v w : World) (said : List Directive) (a : CheckedReply) (found : said_inputs c p.folder said ≡ Ok a.inputs) (same : AllByRecursion (SameInput v w) a.inputs) (folders : SameAround c v w) where
    abbrev paths : List (List ℕ)
    paths = flat_map changed_path said

    abbrev names : List (List ℕ)
    names = flat_map changed_variable said

    among_said : (text path : List ℕ) → looked.path_of (full_path (table_of c.pairs) v text) ≡ Some path → is_mentioned (path_said p.folder text) path ≡ true
    unfolding path_said
    among_said text path leads = ap (λ r. is_mentioned (path_or_none r) path) (path_there v text ∙ said_is_path (parsed (full_path (table_of c.pairs) v text)) path leads) ∙ itself path

    path_same : (path : List ℕ) → PathSaid (table_of c.pairs) v said path → SameFile v w path
    path_same path (text, is, leads) =
        same_paths c v w folders (paths_from p.folder paths) (once names) a.inputs (sym (marked c p.folder paths names text (inl is)) ∙ found) same path
        (is_mentioned-once (flat_map (path_said p.folder) paths) path ∙ among_each (path_said p.folder) paths text path is (among_said text path leads))

    variable_same : (variable : List ℕ × Option (List ℕ)) → VariableSaid (table_of c.pairs) v said variable → SameValue (table_of c.pairs) v w variable
    variable_same variable (inl is) none =
        let unset : Some p.folder ≡ None = sym begins ∙ ap (λ n. value_at n (table_of c.pairs)) (sym is) ∙ none in
        absurd (cc)
    variable_same variable (inr is) none =
        same_variables c v w folders (paths_from p.folder paths) (once names) a.inputs (sym (marked c p.folder paths names variable.0 (inr is)) ∙ found) same variable.0 (is_mentioned-once names variable.0 ∙ is)

    image_same : (image : Option (List ℕ)) → AllByRecursion CanBeSaid (declared_in_image (table_of c.pairs) v image) → directives_of (image_run (table_of c.pairs) v image).stdout ≡ Ok said
        → SameAt (names_of_image (table_of c.pairs) v image) (table_of c.pairs) v w
    image_same None can is = record { files = tt; variables = tt }
    image_same (Some bytes) can is =
        let declares = run_declares (table_of c.pairs) v (lines_of bytes) can said is in
        record {
          files = all_of (PathSaid (table_of c.pairs) v said) (SameFile v w) _ path_same declares.paths;
          variables = all_of (VariableSaid (table_of c.pairs) v said) (SameValue (table_of c.pairs) v w) _ variable_same declares.variables;
        }

    run_again : request_of c.words ≡ Ok (Run script) → CanTell c v → directives_of (small_compiler c v).stdout ≡ Ok said → small_compiler c w ≡ small_compiler c v
    run_again asked tell is =
        honest c v w
        (λ request other. let both : Ok request ≡ Ok (Run script) = sym other ∙ asked in let equal : Run script ≡ request = cc in subst (GivenBelow c.reads) equal script_below)
        (subst (λ r. SameAt (names_if r (table_of c.pairs) v) (table_of c.pairs) v w) (sym asked)
        (image_same (looked.file_at v (looked.path_of script)) (subst (λ r. CanTellOf r c v) asked tell) (ap (λ r. directives_of (replied_if r (table_of c.pairs) v).stdout) (sym asked) ∙ is)))
        folders.below

  -- what is found in a good reply to a run
  pub on_runs : RunsAlone setup.runner → (v w : World) (a : CheckedReply) → run_answered c p.folder (ended_by (small_compiler c v)) ≡ Ok a → CanTell c v → AllByRecursion (SameInput v w) a.inputs → SameAround c v w
      → small_compiler c w ≡ small_compiler c v
  on_runs alone v w a found tell same folders = by (words_cases setup.runner script alone)
    where
      by : (run_words setup.runner script ≡ []) ⊎ (run_words setup.runner script ≡ codes "--run" ∷ script ∷ []) → small_compiler c w ≡ small_compiler c v
      by (inl none) = ap (λ ws. answered ws c.pairs w) none ∙ sym (ap (λ ws. answered ws c.pairs v) none)
      by (inr words) =
          let (said, both, is_1) = opened (said_in (ended_by (small_compiler c v))) _ a found in
          let (lines, one, other) = opened (lifted unit_fault.Directive (directives_of (small_compiler c v).stdout)) unless_error said both in
          let first : lifted unit_fault.Directive (directives_of (small_compiler c v).stdout) ≡ Ok said = one ∙ ap Ok (not_an_error lines said other) in
          let (inputs, second, is_2) = opened (said_inputs c p.folder said) _ a is_1 in
          let whole : record { directives = Some said; inputs = inputs } ≡ a = same_ok {E = UnitFault} _ a _ refl is_2 in
          run_again v w said a (second ∙ ap (λ (x : CheckedReply). Ok x.inputs) whole) same folders (ap request_of words) tell (lifted_ok unit_fault.Directive (directives_of (small_compiler c v).stdout) said first)

-- ---- every unit

module _ (setup : Setup) (project : Project) (u : Planned) (done : List (Option (List Directive))) (v : World) (small : IsSmall setup) (is_of : IsOfProject project u) where
  -- the keys of its package's entries are names
  its_keys : (p : Package) → package_of project u ≡ Some p → AllByRecursion (λ (entry : Entry). is_name entry.key ≡ true) p.entries
  its_keys p there = recursion_from_All _ p.entries (all_at (IsPackage (length project.workspace.packages)) project.workspace.packages u.unit.package p is_of.settled.packages there).entry_keys

  -- the unit's package is there
  of_package : (p : Package) → package_of project u ≡ Some p → (w : What) → u.unit.what ≡ w → CanTell (command_by w setup project u done p) v → (other : World) (a : CheckedReply)
      → answered_by w (command_by w setup project u done p) (folder_of project u) (ended_by (small_compiler (command_by w setup project u done p) v)) (file_at (dep_info_of project u) (replied_files u.out (small_compiler (command_by w setup project u done p) v))) ≡ Ok a
      → AllByRecursion (SameInput v other) a.inputs → SameAround (command_by w setup project u done p) v other
      → small_compiler (command_by w setup project u done p) other ≡ small_compiler (command_by w setup project u done p) v
  of_package p there what.Lib is tell other a found same folders =
      on_compiles setup project u done p is_of small.flags (subst (λ o. IfSome o (λ q. is_path (source_by q u.unit.what) ≡ true)) there (is_of.source (ap is_run is)))
      (its_keys p there) v other a (ap (λ k. dep_info_by k u.out (crate_name_of project u)) is) found tell same folders
  of_package p there (what.Bin name) is tell other a found same folders =
      on_compiles setup project u done p is_of small.flags (subst (λ o. IfSome o (λ q. is_path (source_by q u.unit.what) ≡ true)) there (is_of.source (ap is_run is)))
      (its_keys p there) v other a (ap (λ k. dep_info_by k u.out (crate_name_of project u)) is) found tell same folders
  of_package p there what.Script is tell other a found same folders =
      on_compiles setup project u done p is_of small.flags (subst (λ o. IfSome o (λ q. is_path (source_by q u.unit.what) ≡ true)) there (is_of.source (ap is_run is)))
      (its_keys p there) v other a (ap (λ k. dep_info_by k u.out (crate_name_of project u)) is) found tell same folders
  of_package p there what.Run is tell other a found same folders =
      on_runs setup project u done p is_of is small.runner v other a (ap (λ folder. run_answered (run_of setup project u done p) folder (ended_by (small_compiler (run_of setup project u done p) v))) (sym (ap (package_folder project.workspace.root) there)) ∙ found) tell same folders

  pub by_owner : (owner : Option Package) → package_of project u ≡ owner → CanTell (command_for setup project u done owner) v → (other : World) (a : CheckedReply)
      → answered_of project u (command_for setup project u done owner) (ended_by (small_compiler (command_for setup project u done owner) v)) (file_at (dep_info_of project u) (replied_files u.out (small_compiler (command_for setup project u done owner) v))) ≡ Ok a
      → AllByRecursion (SameInput v other) a.inputs → SameAround (command_for setup project u done owner) v other
      → small_compiler (command_for setup project u done owner) other ≡ small_compiler (command_for setup project u done owner) v
  by_owner None there tell other a found same folders = refl
  by_owner (Some p) there tell other a found same folders =
      of_package p there u.unit.what refl tell other a
      (unless (ended_fault (ended_by (small_compiler (command_by u.unit.what setup project u done p) v)))
      (answered_by u.unit.what (command_by u.unit.what setup project u done p) (folder_of project u) (ended_by (small_compiler (command_by u.unit.what setup project u done p) v))
      (file_at (dep_info_of project u) (replied_files u.out (small_compiler (command_by u.unit.what setup project u done p) v)))) a found) same folders
