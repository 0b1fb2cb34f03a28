-- Which variables a run has.
use Rattle.std.proofs.Common.{◌≡◌, ◌||◌, ℕ, Bool, true, false, cond, if◌then◌else◌, codes, List, [], ◌∷◌, ◌++◌, map, Option, Some, None, Result, Ok, Err, unwrap_or, refl, sym, ◌∙◌, ap, subst}
use Rattle.std.specs.List.{AllByRecursion, IsDistinct, flat_map, list_any}
use Rattle.std.specs.Option.{option_and_then, option_map_or, option_or}
use Rattle.std.specs.Result.{result_unwrap_or}
use Rattle.std.specs.Str.{bytes_eq}
use Rattle.std.proofs.lemmas.Slice.Eq.{bytes_eq-Decides}
use Rattle.pb_data.specs.Truth.{truth_text}
use Rattle.pb_data.proofs.MentionLemmas.{once-IsDistinct}
use Rattle.pb_data.proofs.TableLemmas.{names-table_of, value-table_of}
use Rattle.pb_data.specs.OrderedSet.{is_mentioned}
use Rattle.pb_data.specs.Table.{value_at, names_of, last_value}
use Rattle.pb_directive.specs.Metadata.{in_capitals, passed, dep_pairs}
use Rattle.pb_directive.specs.declared.directive.Directive.{Directive}
use Rattle.pb_feature_types.specs.Features.{features_at}
use Rattle.pb_workspace_types.specs.declared.package.Package.{Package}
use Rattle.pb_profile.specs.Line.{Seen, checked_line}
use Rattle.pb_profile_keys.specs.Keys.{opt_level, debug}
use Rattle.pb_profile_keys.specs.Setting.{spelled}
use Rattle.pb_profile_keys.specs.declared.setting.Word.{Word}
use Rattle.pb_profile_keys.specs.declared.setting.Word.TheVariants as word
use Rattle.pb_profile.specs.declared.fault.ProfileFault.{ProfileFault}
use Rattle.pb_unit.specs.declared.plan.Planned.{Planned}
use Rattle.pb_unit.specs.declared.unit.What.{What}
use Rattle.pb_unit.specs.declared.unit.What.TheVariants.{Run}
use Rattle.pb_command_types.specs.Targets.{package_of, unit_at, is_run, said_at}
use Rattle.pb_command_types.specs.declared.project.Project.{Project}
use Rattle.pb_command_types.specs.declared.project.Setup.{Setup}
use Rattle.pb_command_environment.specs.Pairs.{links_pairs, feature_name, feature_pair, triple_of, is_debugged, released_text, platform_pairs, compiler_pairs, linked_pairs, links_in, passed_by, passed_at, passed_pairs, run_pairs, own_pairs}
use Rattle.pb_command_laws.specs.Compiles.{row}
use Rattle.pb_command_laws.specs.Variables.{package_table, debug_text, links_of_run, handed_on, run_table, RunsHave}
use Rattle.pb_command_laws.proofs.Having.{value_is}
use Rattle.pb_command_laws.proofs.Lasting.{from_behind, last-append, last_behind, last_none}
use Rattle.pb_command_laws.proofs.Pairs.{Pair}

abbrev Lines : Type 0
Lines = List (Option (List Directive))

-- ---- metadata

-- as the code keeps it, in a table
abbrev tabled_on : Option (List ℕ) → List Directive → List Pair
tabled_on links said = option_map_or (λ links. dep_pairs links said) links []

abbrev passed_on : Option (List ℕ) → List Directive → List Pair
passed_on links said = option_map_or (λ links. passed links said) links []

-- of names that stand once each value is the last
unnamed : (x : List ℕ) (names : List (List ℕ)) → AllByRecursion (λ y. bytes_eq x y ≡ false) names → is_mentioned names x ≡ false
unnamed x [] all = refl
unnamed x (y ∷ names) all = ap (λ r. r || is_mentioned names x) all.0 ∙ unnamed x names all.1

last_of_once : (name : List ℕ) (pairs : List Pair) → IsDistinct bytes_eq (names_of pairs) → value_at name pairs ≡ last_value name pairs
unfolding IsDistinct
last_of_once name [] apart = refl
last_of_once name (pair ∷ pairs) apart = by (bytes_eq name pair.0) refl (last_of_once name pairs apart.1)
  where
    by : (r : Bool) → bytes_eq name pair.0 ≡ r → value_at name pairs ≡ last_value name pairs → cond r (Some pair.1) (value_at name pairs) ≡ cond r (Some (unwrap_or (last_value name pairs) pair.1)) (last_value name pairs)
    by true is rest =
        let off : is_mentioned (names_of pairs) name ≡ false = subst (λ n. is_mentioned (names_of pairs) n ≡ false) (sym ((bytes_eq-Decides name pair.0).0 is)) (unnamed pair.0 (names_of pairs) apart.0) in
        ap (λ l. Some (unwrap_or l pair.1)) (sym (last_none name pairs off))
    by false is rest = rest

tabled_last : (links : Option (List ℕ)) (said : List Directive) (name : List ℕ) → last_value name (tabled_on links said) ≡ last_value name (passed_on links said)
tabled_last None said name = refl
tabled_last (Some links) said name =
    sym (last_of_once name (dep_pairs links said) (subst (IsDistinct bytes_eq) (sym (names-table_of (passed links said))) (once-IsDistinct (names_of (passed links said)))))
    ∙ value-table_of (passed links said) name

module _ (project : Project) (done : Lines) where
  same_links : (p : Option Package) (said : List Directive) → linked_pairs (links_in p) said ≡ tabled_on (option_and_then (λ (p : Package). p.links) p) said
  same_links None said = refl
  same_links (Some p) said = of p.links
    where
      of : (links : Option (List ℕ)) → linked_pairs links said ≡ tabled_on links said
      of None = refl
      of (Some links) = refl

  same_index : (index : ℕ) → passed_at project done index ≡ tabled_on (option_and_then (links_of_run project) (unit_at project index)) (said_at done index)
  unfolding passed_at
  same_index index = by (unit_at project index)
    where
      by : (u : Option Planned) → passed_by project u (said_at done index) ≡ tabled_on (option_and_then (links_of_run project) u) (said_at done index)
      by None = refl
      by (Some u) = kind (is_run u.unit.what)
        where
          kind : (r : Bool) → cond r (linked_pairs (links_in (package_of project u)) (said_at done index)) [] ≡ tabled_on (cond r (option_and_then (λ (p : Package). p.links) (package_of project u)) None) (said_at done index)
          kind true = same_links (package_of project u) (said_at done index)
          kind false = refl

  handed_last : (indices : List ℕ) (name : List ℕ) → last_value name (flat_map (passed_at project done) indices) ≡ last_value name (flat_map (handed_on project done) indices)
  handed_last [] name = refl
  handed_last (index ∷ indices) name =
      let links = option_and_then (links_of_run project) (unit_at project index) in
      last-append name (passed_at project done index) (flat_map (passed_at project done) indices)
      ∙ (λ i. option_or (handed_last indices name i) ((ap (last_value name) (same_index index) ∙ tabled_last links (said_at done index) name) i))
      ∙ sym (last-append name (handed_on project done index) (flat_map (handed_on project done) indices))

-- ---- features, settings, what the package links

same_features : (names : List (List ℕ)) → map feature_pair names ≡ map (λ name. (codes "CARGO_FEATURE_" ++ in_capitals name, codes "1")) names
unfolding feature_name
same_features names = refl

links_row : (links : Option (List ℕ)) → links_pairs links ≡ row (codes "CARGO_MANIFEST_LINKS") links
links_row None = refl
links_row (Some links) = refl

truth : (debug : Word) → truth_text (is_debugged debug) ≡ debug_text debug
truth word.Zero = refl
truth _ = refl

released : (line : Result (List Seen) ProfileFault) → released_text line ≡ (if list_any (λ (s : Seen). bytes_eq s.name (codes "release")) (result_unwrap_or line []) then codes "release" else codes "debug")
released (Ok line) = refl
released (Err fault) = refl

module _ (setup : Setup) (project : Project) (unit : Planned) (done : Lines) (p : Package) where
  -- where the run leaves its files, and how its package is compiled
  abbrev building : List ℕ → List ℕ → List Pair
  building debug profile =
      (codes "OUT_DIR", unit.out) ∷ platform_pairs (triple_of setup.toolchain) ++ ((codes "OPT_LEVEL", spelled (opt_level unit.settings)) ∷ (codes "DEBUG", debug) ∷ (codes "PROFILE", profile) ∷ []) ++ compiler_pairs setup

  own : (what : What) → is_run what ≡ true → own_pairs setup project unit done p what ≡ run_pairs setup project unit done p
  own Run is = refl
  own _ is = absurd (cc)

  assoc : (a b c : List Pair) → (a ++ b) ++ c ≡ a ++ (b ++ c)
  assoc [] b c = refl
  assoc (x ∷ a) b c = ap (λ more. x ∷ more) (assoc a b c)

  abbrev before : List Pair
  before = building (truth_text (is_debugged (debug unit.settings))) (released_text (checked_line project.workspace.profiles project.profile))

  abbrev after : List Pair
  after = building (debug_text (debug unit.settings)) (if list_any (λ (s : Seen). bytes_eq s.name (codes "release")) (result_unwrap_or (checked_line project.workspace.profiles project.profile) []) then codes "release" else codes "debug")

  abbrev on : List Pair
  on = map (λ name. (codes "CARGO_FEATURE_" ++ in_capitals name, codes "1")) (features_at project.features unit.unit.package unit.unit.side)

  abbrev handed : List Pair
  handed = flat_map (handed_on project done) unit.needs

  abbrev links : List Pair
  links = row (codes "CARGO_MANIFEST_LINKS") p.links

  -- what a run has behind what every unit has
  own_last : (name : List ℕ) → last_value name (run_pairs setup project unit done p) ≡ last_value name ((links ++ on) ++ (after ++ handed))
  own_last name =
      let names = features_at project.features unit.unit.package unit.unit.side in
      let passed = passed_pairs project unit done in
      ap (last_value name) (assoc (links_pairs p.links ++ map feature_pair names) before passed)
      ∙ (λ i. last_value name ((links_row p.links i ++ same_features names i) ++ (building (truth (debug unit.settings) i) (released (checked_line project.workspace.profiles project.profile) i) ++ passed)))
      ∙ last_behind name (links ++ on) (after ++ passed) (after ++ handed) (last_behind name after passed handed (handed_last project done unit.needs name))

  last : (name : List ℕ) → last_value name (package_table setup p ++ run_pairs setup project unit done p) ≡ last_value name (run_table setup project unit done p)
  last name = last_behind name (package_table setup p) (run_pairs setup project unit done p) ((links ++ on) ++ (after ++ handed)) (own_last name)

pub runs_have : RunsHave
runs_have setup project unit done p there runs name =
    value_is setup project unit done p name there
    ∙ ap (λ own. last_value name (package_table setup p ++ own)) (own setup project unit done p unit.unit.what runs) ∙ last setup project unit done p name
    ∙ from_behind name (run_table setup project unit done p)
