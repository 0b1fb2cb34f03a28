-- Nothing but the names that were read counts, and the dep-info spells them.
use Rattle.std.proofs.Common.{◌≡◌, ℕ, ◌+◌, Bool, true, false, cond, List, [], ◌∷◌, ◌++◌, Option, Some, None, Result, Ok, Err, refl, sym, ◌∙◌, ap, subst, codes}
use Rattle.std.proofs.lemmas.Slice.Eq.{bytes_eq-Decides}
use Rattle.std.specs.List.{AllByRecursion}
use Rattle.std.specs.Option.{option_or, option_and_then, option_map}
use Rattle.std.specs.Str.{bytes_eq}
use Rattle.std.specs.FinMap as finite
use Rattle.pb_data.specs.Table.{value_at, table_of}
use Rattle.pb_data.proofs.MentionLemmas.{mentioned_all-once}
use Rattle.pb_place_types.specs.Paths.{is_absolute, below}
use Rattle.pb_place_types.specs.World.{World}
use Rattle.pb_place_types.specs.declared.child.Reply.{Reply}
use Rattle.pb_place_types.specs.declared.command.Command.{Command}
use Rattle.pb_mini.specs.Answer.{request_of, replied_if}
use Rattle.pb_mini.specs.Compile.{text_of, text_at, source_effects, effects_of, replied, image_file}
use Rattle.pb_mini.specs.Diagnostics.{has_error}
use Rattle.pb_mini.specs.DepInfo.{dep_info_text}
use Rattle.pb_mini.specs.Effects.{no_names, joined_names, no_effects, joined, reads, names_once}
use Rattle.pb_mini.specs.Honesty.{names_by, names_in, names_after, names_of_lines, names_of_image, names_if, variable_read, base_read, is_below_some, SameFile, SameValue, SameAt, SameBelow, GivenBelow, AnswersHonestly, later_of, file_named, each_once, TellsNames}
use Rattle.pb_mini.specs.Lines.{lines_of, word_in, rest_of}
use Rattle.pb_mini.specs.Lookups.{path_of, path_from, file_at, value_of}
use Rattle.pb_mini.specs.Scope.{scope_of, libraries_of}
use Rattle.pb_mini.specs.Script.{Step, Writes, Ends, below_text, full_path, text_read, was_read, shown, deed_of, step_by, step_in, step_of, before, after_step, lines_run, image_run}
use Rattle.pb_mini.specs.Verbs.{library_path, used, variable_in, variable_at, variable_of, expanded, include_path, asks_for, included_lines, included, include_effect, told, verb_of, is_passed_over, line_meant, effect_by, effect_meant, effect_of, effects_from}
use Rattle.pb_mini.specs.declared.command_line.CommandLine.{CommandLine}
use Rattle.pb_mini.specs.declared.command_line.CommandLineFault.{CommandLineFault}
use Rattle.pb_mini.specs.declared.dep_info.Names.{Names}
use Rattle.pb_mini.specs.declared.effects.Effects.{Effects}
use Rattle.pb_mini.specs.declared.request.Request.{Request}
use Rattle.pb_mini.specs.declared.request.Request.TheVariants.{Version, Run, Compile}
use Rattle.pb_mini.specs.declared.scope.Scope.{Scope}
use Rattle.pb_mini.specs.declared.script.Deed.{Deed}
use Rattle.pb_mini.specs.declared.script.Deed.TheVariants.{Print, Show, Read, Put, Exit, Skip}
use Rattle.pb_mini.specs.declared.verbs.Verb.{Verb}
use Rattle.pb_mini.specs.declared.verbs.Verb.TheVariants.{Use, Include, Env, Warn, Fail, Copied, Unknown}

-- ---- names of two parts

all_split : {A : Type 0} (P : A → Type 0) (xs ys : List A) → AllByRecursion P (xs ++ ys) → AllByRecursion P xs × AllByRecursion P ys
all_split P [] ys all = (tt, all)
all_split P (x ∷ xs) ys all = let rest = all_split P xs ys all.1 in ((all.0, rest.0), rest.1)

same_first : (a b : Names) (pairs : List (List ℕ × List ℕ)) (v w : World) → SameAt (joined_names a b) pairs v w → SameAt a pairs v w
same_first a b pairs v w same = record {
  files = (all_split (SameFile v w) a.paths b.paths same.files).0;
  variables = (all_split (SameValue pairs v w) a.variables b.variables same.variables).0;
}

same_second : (a b : Names) (pairs : List (List ℕ × List ℕ)) (v w : World) → SameAt (joined_names a b) pairs v w → SameAt b pairs v w
same_second a b pairs v w same = record {
  files = (all_split (SameFile v w) a.paths b.paths same.files).1;
  variables = (all_split (SameValue pairs v w) a.variables b.variables same.variables).1;
}

-- ---- one name

same_value : (pairs : List (List ℕ × List ℕ)) (v w : World) (name : List ℕ) → (value_at name pairs ≡ None → finite.get w.variables name ≡ finite.get v.variables name)
    → value_of pairs w name ≡ value_of pairs v name
same_value pairs v w name same = by (value_at name pairs) same
  where
    by : (r : Option (List ℕ)) → (r ≡ None → finite.get w.variables name ≡ finite.get v.variables name) → option_or r (finite.get w.variables name) ≡ option_or r (finite.get v.variables name)
    by None given = given refl
    by (Some value) given = refl

same_file : (pairs : List (List ℕ × List ℕ)) (v w : World) (path : Option (List ℕ)) → SameAt (reads path).names pairs v w → file_at w path ≡ file_at v path
same_file pairs v w None same = refl
same_file pairs v w (Some path) same = same.files.0

-- ---- lines of a source

module _ (scope : Scope) (v w : World) where
  abbrev Same : Names → Type 0
  Same names = SameAt names scope.pairs v w

  abbrev Given : Type 0
  Given = (name : List ℕ) → file_at w (library_path scope name) ≡ file_at v (library_path scope name)

  same_variable : (found : Option (List ℕ)) → Same (asks_for (option_map (variable_at scope.pairs v) found)).names → option_map (variable_at scope.pairs w) found ≡ option_map (variable_at scope.pairs v) found
  same_variable None same = refl
  same_variable (Some name) same = λ i. Some (name, same_value scope.pairs v w name same.variables.0 i)

  same_include : (number : ℕ) (path : List ℕ) → Same (include_effect scope v number path).names → include_effect scope w number path ≡ include_effect scope v number path
  same_include number path same =
      (λ i. included number path (variable i) (place i) (file_at w (place i))) ∙ ap (included number path (variable_of scope.pairs v path) (include_path scope v path)) found
    where
      variable : variable_of scope.pairs w path ≡ variable_of scope.pairs v path
      variable = same_variable (variable_in path) (same_first (asks_for (variable_of scope.pairs v path)).names (joined (reads (include_path scope v path)) (included_lines number path (file_at v (include_path scope v path)))).names scope.pairs v w same)

      place : include_path scope w path ≡ include_path scope v path
      place = ap (λ found. path_from scope.folder (expanded path found)) variable

      found : file_at w (include_path scope v path) ≡ file_at v (include_path scope v path)
      found =
          same_file scope.pairs v w (include_path scope v path)
          (same_first (reads (include_path scope v path)).names (included_lines number path (file_at v (include_path scope v path))).names scope.pairs v w
          (same_second (asks_for (variable_of scope.pairs v path)).names (joined (reads (include_path scope v path)) (included_lines number path (file_at v (include_path scope v path)))).names scope.pairs v w same))

  same_by : Given → (verb : Verb) (number : ℕ) (line rest : List ℕ) → Same (effect_by verb scope v number line rest).names → effect_by verb scope w number line rest ≡ effect_by verb scope v number line rest
  same_by given Use number line rest same = ap (used number line rest) (given rest)
  same_by given Include number line rest same = same_include number rest same
  same_by given Env number line rest same = ap (told rest) (same_value scope.pairs v w rest same.variables.0)
  same_by given Warn number line rest same = refl
  same_by given Fail number line rest same = refl
  same_by given Copied number line rest same = refl
  same_by given Unknown number line rest same = refl

  same_meant : Given → (number : ℕ) (line : List ℕ) → Same (effect_meant scope v number line).names → effect_meant scope w number line ≡ effect_meant scope v number line
  same_meant given number line = by (is_passed_over line)
    where
      by : (r : Bool) → Same (cond r no_effects (effect_by (verb_of (word_in line)) scope v number line (rest_of line))).names
          → cond r no_effects (effect_by (verb_of (word_in line)) scope w number line (rest_of line)) ≡ cond r no_effects (effect_by (verb_of (word_in line)) scope v number line (rest_of line))
      by true same = refl
      by false same = same_by given (verb_of (word_in line)) number line (rest_of line) same

  same_lines : Given → (before : ℕ) (lines : List (List ℕ)) → Same (effects_from scope v before lines).names → effects_from scope w before lines ≡ effects_from scope v before lines
  same_lines given before [] same = refl
  same_lines given before (line ∷ lines) same =
      let here = same_meant given (before + 1) (line_meant scope.conditions line) (same_first (effect_of scope v (before + 1) line).names (effects_from scope v (before + 1) lines).names scope.pairs v w same) in
      let later = same_lines given (before + 1) lines (same_second (effect_of scope v (before + 1) line).names (effects_from scope v (before + 1) lines).names scope.pairs v w same) in
      (λ i. joined (here i) (later i))

-- ---- a compile

module _ (line : CommandLine) (pairs : List (List ℕ × List ℕ)) (v w : World) where
  same_source : ((name : List ℕ) → file_at w (option_and_then path_of (value_at name (libraries_of line.externs))) ≡ file_at v (option_and_then path_of (value_at name (libraries_of line.externs))))
      → (source text : Option (List ℕ)) → SameAt (source_effects line pairs v source text).names pairs v w → source_effects line pairs w source text ≡ source_effects line pairs v source text
  same_source given None text same = refl
  same_source given (Some source) None same = refl
  same_source given (Some source) (Some text) same = same_lines (scope_of line pairs source) v w given 0 (lines_of text) same

  same_effects : ((name : List ℕ) → file_at w (option_and_then path_of (value_at name (libraries_of line.externs))) ≡ file_at v (option_and_then path_of (value_at name (libraries_of line.externs))))
      → SameAt (effects_of line pairs v).names pairs v w → effects_of line pairs w ≡ effects_of line pairs v
  same_effects given same =
      let here : text_at w (path_of line.source) ≡ text_at v (path_of line.source) = ap (option_and_then text_of) (same_file pairs v w (path_of line.source)
      (same_first (reads (path_of line.source)).names (source_effects line pairs v (path_of line.source) (text_at v (path_of line.source))).names pairs v w same)) in
      let later = same_source given (path_of line.source) (text_at v (path_of line.source))
      (same_second (reads (path_of line.source)).names (source_effects line pairs v (path_of line.source) (text_at v (path_of line.source))).names pairs v w same) in
      ap (λ text. joined (reads (path_of line.source)) (source_effects line pairs w (path_of line.source) text)) here ∙ ap (joined (reads (path_of line.source))) later

-- ---- a run

module _ (pairs : List (List ℕ × List ℕ)) (v w : World) where
  same_full : (path : List ℕ) → SameAt (base_read pairs v path) pairs v w → full_path pairs w path ≡ full_path pairs v path
  same_full path = by (is_absolute path)
    where
      by : (r : Bool) → SameAt (cond r no_names (variable_read (codes "CARGO_MANIFEST_DIR") (value_of pairs v (codes "CARGO_MANIFEST_DIR")))) pairs v w
          → cond r path (below_text (value_of pairs w (codes "CARGO_MANIFEST_DIR")) path) ≡ cond r path (below_text (value_of pairs v (codes "CARGO_MANIFEST_DIR")) path)
      by true same = refl
      by false same = ap (λ folder. below_text folder path) (same_value pairs v w (codes "CARGO_MANIFEST_DIR") same.variables.0)

  same_text : (path : List ℕ) → SameAt (joined_names (base_read pairs v path) (reads (path_of (full_path pairs v path))).names) pairs v w → text_read pairs w path ≡ text_read pairs v path
  same_text path same =
      ap (λ p. text_at w (path_of p)) (same_full path (same_first (base_read pairs v path) (reads (path_of (full_path pairs v path))).names pairs v w same))
      ∙ ap (option_and_then text_of) (same_file pairs v w (path_of (full_path pairs v path)) (same_second (base_read pairs v path) (reads (path_of (full_path pairs v path))).names pairs v w same))

  same_step_by : (deed : Deed) (rest : List ℕ) → SameAt (names_by deed pairs v rest) pairs v w → step_by deed pairs w rest ≡ step_by deed pairs v rest
  same_step_by Print rest same = refl
  same_step_by Show rest same = ap (shown rest) (same_value pairs v w rest same.variables.0)
  same_step_by Read rest same = ap (was_read rest) (same_text rest same)
  same_step_by Put rest same = refl
  same_step_by Exit rest same = refl
  same_step_by Skip rest same = refl

  same_step : (line : Option (List ℕ)) → SameAt (names_in pairs v line) pairs v w → step_in pairs w line ≡ step_in pairs v line
  same_step None same = refl
  same_step (Some line) same = same_step_by (deed_of (word_in line)) (rest_of line) same

  same_after : (step : Step) (names : Names) (a b : Reply) → (SameAt names pairs v w → a ≡ b) → SameAt (names_after step names) pairs v w → after_step step a ≡ after_step step b
  same_after (Writes output) names a b later same = ap (before output) (later same)
  same_after (Ends status) names a b later same = refl

  same_run : (lines : List (List ℕ)) → SameAt (names_of_lines pairs v lines) pairs v w → lines_run pairs w lines ≡ lines_run pairs v lines
  same_run [] same = refl
  same_run (line ∷ lines) same =
      ap (λ step. after_step step (lines_run pairs w lines)) (same_step (text_of line) (same_first (names_in pairs v (text_of line)) (names_after (step_of pairs v line) (names_of_lines pairs v lines)) pairs v w same))
      ∙ same_after (step_of pairs v line) (names_of_lines pairs v lines) (lines_run pairs w lines) (lines_run pairs v lines) (same_run lines)
      (same_second (names_in pairs v (text_of line)) (names_after (step_of pairs v line) (names_of_lines pairs v lines)) pairs v w same)

  same_image : (image : Option (List ℕ)) → SameAt (names_of_image pairs v image) pairs v w → image_run pairs w image ≡ image_run pairs v image
  same_image None same = refl
  same_image (Some bytes) same = same_run (lines_of bytes) same

-- ---- the files that a request is given

module _ (folders : List (List ℕ)) (v w : World) (below : SameBelow folders v w) where
  given_file : (path : Option (List ℕ)) → ((p : List ℕ) → path ≡ Some p → is_below_some folders p ≡ true) → file_at w path ≡ file_at v path
  given_file None lies = refl
  given_file (Some path) lies = below path (lies path refl)

  given_library : (line : CommandLine) → GivenBelow folders (Compile line) → (name : List ℕ)
      → file_at w (option_and_then path_of (value_at name (libraries_of line.externs))) ≡ file_at v (option_and_then path_of (value_at name (libraries_of line.externs)))
  given_library line lies name = by (value_at name (libraries_of line.externs)) (lies name)
    where
      by : (r : Option (List ℕ)) → ((file path : List ℕ) → r ≡ Some file → path_of file ≡ Some path → is_below_some folders path ≡ true) → file_at w (option_and_then path_of r) ≡ file_at v (option_and_then path_of r)
      by None inside = refl
      by (Some file) inside = given_file (path_of file) (λ path is. inside file path refl is)

  same_reply : (pairs : List (List ℕ × List ℕ)) (said : Result Request CommandLineFault) → ((request : Request) → said ≡ Ok request → GivenBelow folders request) → SameAt (names_if said pairs v) pairs v w
      → replied_if said pairs w ≡ replied_if said pairs v
  same_reply pairs (Err e) lies same = refl
  same_reply pairs (Ok Version) lies same = refl
  same_reply pairs (Ok (Run image)) lies same =
      ap (image_run pairs w) (given_file (path_of image) (lies (Run image) refl)) ∙ same_image pairs v w (file_at v (path_of image)) same
  same_reply pairs (Ok (Compile line)) lies same =
      ap (λ effects. replied line (names_once effects)) (same_effects line pairs v w (given_library line (lies (Compile line) refl)) same)

pub honest : (c : Command) (v w : World) → AnswersHonestly c v w
honest c v w lies same below = same_reply c.reads v w below (table_of c.pairs) (request_of c.words) lies same

-- ---- telling

-- what stands last is what stands
last_stands : (name bytes : List ℕ) (files : List (List ℕ × List ℕ)) → file_named name (files ++ (name, bytes) ∷ []) ≡ Some bytes
last_stands name bytes [] = ap (λ b. cond b (Some bytes) None) ((bytes_eq-Decides name name).1 refl)
last_stands name bytes (file ∷ files) = ap (later_of (cond (bytes_eq file.0 name) (Some file.1) None)) (last_stands name bytes files)

spelled_once : (e : Effects) → (names_once e).names ≡ each_once e.names
spelled_once e = λ i. record { paths = mentioned_all-once e.names.paths i; variables = table_of e.names.variables }

told_once : (line : CommandLine) (e : Effects) → file_named line.dep_info (replied line (names_once e)).files ≡ Some (dep_info_text (below line.out_dir line.image) (each_once e.names))
told_once line e =
    last_stands line.dep_info (dep_info_text (below line.out_dir line.image) (names_once e).names) (image_file line (has_error (names_once e).diagnostics) (names_once e).image)
    ∙ ap (λ names. Some (dep_info_text (below line.out_dir line.image) names)) (spelled_once e)

pub tells : (words : List (List ℕ)) (pairs : List (List ℕ × List ℕ)) (w : World) (line : CommandLine) → TellsNames words pairs w line
tells words pairs w line is =
    subst (λ said. file_named line.dep_info (replied_if said (table_of pairs) w).files ≡ Some (dep_info_text (below line.out_dir line.image) (each_once (names_if said (table_of pairs) w)))) (sym is)
    (told_once line (effects_of line (table_of pairs) w))
