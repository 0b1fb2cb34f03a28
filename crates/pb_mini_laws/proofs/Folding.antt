-- The variable at which relative paths begin is the folder of the script's package.
use Rattle.std.proofs.Common.{◌≡◌, ◌||◌, ℕ, Bool, true, false, cond, codes, List, [], ◌∷◌, ◌++◌, Option, Some, None, unwrap_or, refl, sym, ◌∙◌, ap, subst, map}
use Rattle.std.proofs.lemmas.Map.Text.{is_eq-slice_cmp}
use Rattle.std.proofs.lemmas.Slice.Eq.{bytes_eq-Decides}
use Rattle.std.specs.Cmp.Lexicographic.{slice_cmp}
use Rattle.std.specs.List.{AllByRecursion, flat_map}
use Rattle.std.specs.List.Sorted.{IsStrictlySortedBy}
use Rattle.std.specs.Ordering.{nat_cmp, is_eq}
use Rattle.std.specs.Str.{bytes_eq}
use Rattle.std.specs.declared.cmp.Ordering.TheVariants.{Less}
use Rattle.pb_data.specs.OrderedSet.{is_mentioned}
use Rattle.pb_data.specs.Table.{value_at, table_of, names_of, last_value}
use Rattle.pb_data.proofs.MentionLemmas.{is_mentioned-once}
use Rattle.pb_data.proofs.TableLemmas.{value-table_of, names-table_of}
use Rattle.pb_directive.specs.Metadata.{passed, dep_pairs}
use Rattle.pb_directive.specs.declared.directive.Directive.{Directive}
use Rattle.pb_directive.specs.declared.directive.Directive.TheVariants.{Metadata}
use Rattle.pb_feature_types.specs.Features.{features_at}
use Rattle.pb_unit.specs.declared.plan.Planned.{Planned}
use Rattle.pb_unit.specs.declared.unit.What.TheVariants.{Run}
use Rattle.pb_workspace_types.specs.declared.package.Package.{Package}
use Rattle.pb_command.proofs.Rising.{rising, last_counts}
use Rattle.pb_command_types.specs.NamedTexts.{in_order}
use Rattle.pb_command_environment.specs.Pairs.{package_pairs, about_pairs, version_pairs, links_pairs, feature_pair, feature_name, described_pairs, building_pairs, linked_pairs, links_in, passed_by, passed_at, passed_pairs, run_pairs, own_pairs, composed}
use Rattle.pb_command_types.specs.Targets.{package_of, unit_at, is_run, said_at}
use Rattle.pb_command_types.specs.declared.project.Project.{Project}
use Rattle.pb_command_types.specs.declared.project.Setup.{Setup}

abbrev Pairs : Type 0
Pairs = List (List ℕ × List ℕ)

abbrev pub base : List ℕ
base = codes "CARGO_MANIFEST_DIR"

-- ---- where names rise, the first value of a name is the last

apart : (name : List ℕ) (pairs : Pairs) → AllByRecursion (λ other. slice_cmp nat_cmp name other ≡ Less) (names_of pairs) → last_value name pairs ≡ None
apart name [] all = refl
apart name (pair ∷ pairs) all =
    ap (λ b. cond b (Some (unwrap_or (last_value name pairs) pair.1)) (last_value name pairs)) (sym (is_eq-slice_cmp name pair.0) ∙ ap is_eq all.0) ∙ apart name pairs all.1

first_is_last : (name : List ℕ) (pairs : Pairs) → IsStrictlySortedBy (slice_cmp nat_cmp) (names_of pairs) → last_value name pairs ≡ value_at name pairs
unfolding IsStrictlySortedBy
first_is_last name [] rise = refl
first_is_last name (pair ∷ pairs) rise = by (bytes_eq name pair.0) refl (first_is_last name pairs rise.1)
  where
    by : (b : Bool) → bytes_eq name pair.0 ≡ b → last_value name pairs ≡ value_at name pairs → cond b (Some (unwrap_or (last_value name pairs) pair.1)) (last_value name pairs) ≡ cond b (Some pair.1) (value_at name pairs)
    by true is later =
        let same : pair.0 ≡ name = sym ((bytes_eq-Decides name pair.0).0 is) in
        ap (λ o. Some (unwrap_or o pair.1)) (apart name pairs (subst (λ n. AllByRecursion (λ other. slice_cmp nat_cmp n other ≡ Less) (names_of pairs)) same rise.0))
    by false is later = later

-- what a command sets, the small compiler finds
pub set_value : (pairs : Pairs) (name : List ℕ) → value_at name (table_of (in_order pairs)) ≡ last_value name pairs
set_value pairs name = value-table_of (in_order pairs) name ∙ first_is_last name (in_order pairs) (rising pairs) ∙ last_counts pairs name

-- ---- the value of a list that is followed by one without the name

before_none : (name : List ℕ) (a b : Pairs) → last_value name b ≡ None → last_value name (a ++ b) ≡ last_value name a
before_none name [] b none = none
before_none name (pair ∷ a) b none = ap (λ o. cond (bytes_eq name pair.0) (Some (unwrap_or o pair.1)) o) (before_none name a b none)

not_among : (name : List ℕ) (pairs : Pairs) → is_mentioned (names_of pairs) name ≡ false → last_value name pairs ≡ None
not_among name [] is = refl
not_among name (pair ∷ pairs) is = by (bytes_eq name pair.0) is (not_among name pairs)
  where
    by : (b : Bool) → (b || is_mentioned (names_of pairs) name) ≡ false → (is_mentioned (names_of pairs) name ≡ false → last_value name pairs ≡ None)
        → cond b (Some (unwrap_or (last_value name pairs) pair.1)) (last_value name pairs) ≡ None
    by true is later = absurd (cc)
    by false is later = later is

-- ---- the groups of a run's variables

no_links : (links : Option (List ℕ)) → last_value base (links_pairs links) ≡ None
no_links None = refl
no_links (Some links) = refl

no_features : (names : List (List ℕ)) → last_value base (map feature_pair names) ≡ None
unfolding feature_name
no_features [] = refl
no_features (name ∷ names) = no_features names

no_metadata : (links : List ℕ) (said : List Directive) → is_mentioned (names_of (passed links said)) base ≡ false
no_metadata links [] = refl
no_metadata links (d ∷ said) = by d (no_metadata links said)
  where
    by : (d : Directive) → is_mentioned (names_of (passed links said)) base ≡ false → is_mentioned (names_of (passed links (d ∷ said))) base ≡ false
    by (Metadata key value) later = later
    by _ later = later

no_linked : (links : Option (List ℕ)) (said : List Directive) → last_value base (linked_pairs links said) ≡ None
no_linked None said = refl
no_linked (Some links) said =
    not_among base (dep_pairs links said) (ap (λ ns. is_mentioned ns base) (names-table_of (passed links said)) ∙ is_mentioned-once (names_of (passed links said)) base ∙ no_metadata links said)

no_passed_by : (project : Project) (unit : Option Planned) (said : List Directive) → last_value base (passed_by project unit said) ≡ None
no_passed_by project None said = refl
no_passed_by project (Some unit) said = by (is_run unit.unit.what)
  where
    by : (b : Bool) → last_value base (cond b (linked_pairs (links_in (package_of project unit)) said) []) ≡ None
    by true = no_linked (links_in (package_of project unit)) said
    by false = refl

no_passed : (project : Project) (done : List (Option (List Directive))) (indices : List ℕ) → last_value base (flat_map (passed_at project done) indices) ≡ None
unfolding passed_at
no_passed project done [] = refl
no_passed project done (index ∷ indices) =
    before_none base (passed_at project done index) (flat_map (passed_at project done) indices) (no_passed project done indices) ∙ no_passed_by project (unit_at project index) (said_at done index)

no_building : (setup : Setup) (project : Project) (u : Planned) → last_value base (building_pairs setup project u) ≡ None
no_building setup project u = refl

no_own : (setup : Setup) (project : Project) (u : Planned) (done : List (Option (List Directive))) (p : Package) → last_value base (run_pairs setup project u done p) ≡ None
no_own setup project u done p =
    before_none base (described_pairs project u p ++ building_pairs setup project u) (passed_pairs project u done) (no_passed project done u.needs)
    ∙ before_none base (described_pairs project u p) (building_pairs setup project u) (no_building setup project u)
    ∙ before_none base (links_pairs p.links) (map feature_pair (features_at project.features u.unit.package u.unit.side)) (no_features (features_at project.features u.unit.package u.unit.side)) ∙ no_links p.links

pub begins_at : (setup : Setup) (project : Project) (u : Planned) (done : List (Option (List Directive))) (p : Package) → u.unit.what ≡ Run → last_value base (composed setup project u done p) ≡ Some p.folder
begins_at setup project u done p is =
    before_none base (package_pairs setup p ++ about_pairs p.about ++ version_pairs p.version) (own_pairs setup project u done p u.unit.what) (ap (λ w. last_value base (own_pairs setup project u done p w)) is ∙ no_own setup project u done p)
    ∙ before_none base (package_pairs setup p ++ about_pairs p.about) (version_pairs p.version) refl ∙ before_none base (package_pairs setup p) (about_pairs p.about) refl
