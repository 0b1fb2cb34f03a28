-- The entries of `[dependencies]` and `[build-dependencies]` are read as what they say.
use Rattle.std.proofs.Common.{◌≡◌, ◌∙◌, ℕ, Bool, true, false, not, ◌&&◌, if◌then◌else◌, List, codes, Option, Some, None, Ok, Err, is_some, unwrap_or, refl, sym, ap, subst}
use Rattle.toml.specs.Data.{Data, string, boolean, table, Members, get_member, as_str, as_table}
use Rattle.pb_data.specs.UnlessOom.{◌>>=◌}
use Rattle.pb_manifest.specs.Dependencies.{refused_where, workspace_in, workspace_at, first_keys, version_and_workspace, own_path, last_keys, source_of, dependency_keys, dependency_from, dependency_of}
use Rattle.pb_manifest_types.specs.Keys.{spelled}
use Rattle.pb_manifest_types.specs.Letters.{is_name}
use Rattle.pb_manifest.specs.Values.{value_at, has, text_of, text_at, truth_of, truth_at, path_of, path_at, listed_texts_at, is_true, truth_in, takes_workspace}
use Rattle.pb_manifest_types.specs.Versions.{requirement_in, is_requirement}
use Rattle.pb_manifest.specs.Versions.{requirement_of, requirement_at}
use Rattle.pb_manifest_types.specs.declared.dependency.Dependency.{Dependency}
use Rattle.pb_manifest_types.specs.declared.dependency.Source.{Source}
use Rattle.pb_manifest_types.specs.declared.dependency.Source.TheVariants as own
use Rattle.pb_manifest_types.specs.declared.fault.ManifestFault.TheVariants.{BadName, BadVersion}
use Rattle.pb_manifest_types.specs.declared.key.Key.{Key}
use Rattle.pb_manifest_types.specs.declared.key.Key.TheVariants as key
use Rattle.pb_manifest.proofs.Came.{came}
use Rattle.pb_manifest_laws.specs.Dependencies.{IsSource, IsDependencyEntry}
use Rattle.pb_manifest_laws.specs.Laws.{ReadsDependencies}
use Rattle.pb_manifest_laws.specs.Values.{IsPath, OptionalMeans, HoldsValid, HoldsOr, Lists, OfTable}
use Rattle.pb_manifest_laws.proofs.Chains.{three, five, then_back}
use Rattle.pb_manifest_laws.proofs.Packages.{all_any, some_any}
use Rattle.pb_manifest_laws.proofs.Reading.{IsWrittenAs, Any, text_written, truth_written, path_written, spelled_so, table_is, truly, optional_only, optional_back, or_from, or_to, lists_only, lists_back}

-- a path and a requirement, where they are written
abbrev pub HoldsPath : Option Data → Option (List ℕ) → Type 0
HoldsPath = HoldsValid IsPath (λ t. string t)

abbrev pub HoldsRequirement : Option Data → Option (List ℕ) → Type 0
HoldsRequirement = HoldsValid (λ text. is_requirement text ≡ true) (λ t. string t)

-- requirements
pub requirement_only : (text x : List ℕ) → requirement_in text ≡ Ok x → (text ≡ x) × (is_requirement x ≡ true)
requirement_only text x h = by (is_requirement text) refl h
  where
    by : (b : Bool) → is_requirement text ≡ b → (if b then Ok text else Err BadVersion) ≡ Ok x → (text ≡ x) × (is_requirement x ≡ true)
    by true on h = let same : text ≡ x = cc in (same, ap is_requirement (sym same) ∙ on)
    by false on h = cc

pub requirement_written : IsWrittenAs requirement_of (λ x. string x) (λ x. is_requirement x ≡ true)
requirement_written = spelled_so key.Version requirement_in (λ x. x) (λ x. is_requirement x ≡ true) requirement_only (λ x is. ap (λ b. if b then Ok x else Err BadVersion) is)

-- sources that are refused
refused_only : (found : Option Data) (u : Unit {0}) → refused_where (is_some found) ≡ Ok u → found ≡ None
refused_only None u h = refl
refused_only (Some d) u h = cc

kept_git : (found : Option Data) (u : Unit {0}) → refused_where (is_some found && not false) ≡ Ok u → found ≡ None
kept_git None u h = refl
kept_git (Some d) u h = cc

pub true_or : (o : Option Bool) → is_true o ≡ unwrap_or o false
true_or None = refl
true_or (Some b) = refl

-- `workspace`
pub workspace_only : (found : Option Data) (b : Bool) (u : Unit {0}) → is_true (truth_in found) ≡ b → workspace_in found b ≡ Ok u → (b ≡ true → found ≡ Some (boolean true)) × (b ≡ false → found ≡ None)
workspace_only found true u is h = (λ on. truly found is, λ off. cc)
workspace_only None false u is h = (λ on. cc, λ off. refl)
workspace_only (Some d) false u is h = cc

pub taken_so : (found : Option Data) → found ≡ Some (boolean true) → is_true (truth_in found) ≡ true
taken_so found is = ap (λ f. is_true (truth_in f)) is

pub untaken_so : (found : Option Data) → found ≡ None → is_true (truth_in found) ≡ false
untaken_so found is = ap (λ f. is_true (truth_in f)) is

-- where an entry comes from
source_only : (ms : Members) (df : Option Bool) (name version written path : Option (List ℕ)) (u : Unit {0}) → OptionalMeans (λ b. boolean b) (get_member (codes "default-features") ms) df → OptionalMeans (λ t. string t) (get_member (codes "package") ms) name
    → HoldsRequirement (get_member (codes "version") ms) version → HoldsPath (get_member (codes "path") ms) written → workspace_at ms ≡ Ok u → own_path (takes_workspace ms) written ≡ Ok path → IsSource ms (source_of df name version path)
unfolding spelled
source_only ms df name version written path u df_is name_is version_is written_is workspace h = by (takes_workspace ms) refl written written_is h
  where
    by : (b : Bool) → takes_workspace ms ≡ b → (o : Option (List ℕ)) → HoldsPath (get_member (codes "path") ms) o → own_path b o ≡ Ok path → IsSource ms (source_of df name version path)
    by true on o holds h =
        let there = workspace_only (value_at key.Workspace ms) (takes_workspace ms) u refl workspace in
        let none : None ≡ path = cc in
        let default : HoldsOr false (λ b. boolean b) (get_member (codes "default-features") ms) (is_true df) =
        subst (HoldsOr false (λ b. boolean b) (get_member (codes "default-features") ms)) (sym (true_or df)) (or_from (truth_of key.DefaultFeatures) (λ b. boolean b) Any (truth_written key.DefaultFeatures) false (get_member (codes "default-features") ms) df df_is) in
        subst (λ p. IsSource ms (source_of df name version p)) none
        (there.0 on, default, ((o, holds), (name, name_is), (version, version_is)))
    by false off None holds h = cc
    by false off (Some text) holds h =
        let there = workspace_only (value_at key.Workspace ms) (takes_workspace ms) u refl workspace in
        let some : Some text ≡ path = cc in
        subst (λ p. IsSource ms (source_of df name version p)) some (
          there.1 off,
          record {
            path = holds.0;
            path_is = holds.1;
            name = name_is;
            version = version_is;
            default_features = or_from (truth_of key.DefaultFeatures) (λ b. boolean b) Any (truth_written key.DefaultFeatures) true (get_member (codes "default-features") ms) df df_is;
          },
        )

table_only : (name : List ℕ) (d : Data) (ms : Members) (x : Dependency) → is_name name ≡ true → d ≡ table ms → dependency_keys name ms ≡ Ok x → OfTable (IsDependencyEntry name) d x
unfolding spelled
table_only name d ms x letters is h =
    let a = came (first_keys false ms) (λ a. last_keys ms >>= (λ b. Ok record { key = name; source = source_of a.default_features a.package b.version b.path; optional = a.optional; features = a.features })) x h in
    let b = came (last_keys ms) (λ b. Ok record { key = name; source = source_of a.value.default_features a.value.package b.version b.path; optional = a.value.optional; features = a.value.features }) x a.more in
    let t = five a.value (truth_at key.DefaultFeatures ms) (listed_texts_at key.Features ms) (refused_where (has key.Git ms && not false)) (truth_at key.Optional ms) (text_at key.Package ms)
    (λ default_features features git optional renamed. record { default_features = default_features; features = features; optional = is_true optional; «package» = renamed }) a.was in
    let c = came (path_at key.Path ms) (λ written. own_path (takes_workspace ms) written >>= (λ path. refused_where (has key.Registry ms) >>= (λ registry. version_and_workspace ms >>= (λ version. Ok record { path = path; version = version })))) b.value b.was in
    let u = three b.value (own_path (takes_workspace ms) c.value) (refused_where (has key.Registry ms)) (version_and_workspace ms) (λ path registry version. record { path = path; version = version }) c.more in
    let v = came (requirement_at ms) (λ version. workspace_at ms >>= (λ inherited. Ok version)) u.2 u.5 in
    let w = came (workspace_at ms) (λ inherited. Ok v.value) u.2 v.more in
    let version : v.value ≡ u.2 = cc (w.more) in
    let df = optional_only (truth_of key.DefaultFeatures) (λ q. boolean q) Any (truth_written key.DefaultFeatures) (value_at key.DefaultFeatures ms) t.0 t.5 in
    let optional = optional_only (truth_of key.Optional) (λ q. boolean q) Any (truth_written key.Optional) (value_at key.Optional ms) t.3 t.8 in
    let renamed = optional_only (text_of key.Package) (λ q. string q) Any (text_written key.Package) (value_at key.Package ms) t.4 t.9 in
    let path = optional_only (path_of key.Path) (λ q. string q) IsPath (path_written key.Path) (value_at key.Path ms) c.value c.was in
    let requirement = optional_only requirement_of (λ q. string q) (λ q. is_requirement q ≡ true) requirement_written (value_at key.Version ms) v.value v.was in
    let source : IsSource ms (source_of t.0 t.4 v.value u.0) = source_only ms t.0 t.4 v.value c.value u.0 w.value df.0 renamed.0 requirement path w.was u.3 in
    let made : Dependency = record { key = name; source = source_of t.0 t.4 v.value u.0; optional = is_true t.3; features = t.1 } in
    let whole : made ≡ x = (λ i. record { key = name; source = source_of t.0 t.4 (version i) u.0; optional = is_true t.3; features = t.1 })
    ∙ (λ i. record { key = name; source = source_of (t.10 i).default_features (t.10 i).package (u.6 i).version (u.6 i).path; optional = (t.10 i).optional; features = (t.10 i).features }) ∙ cc (b.more) in
    subst (OfTable (IsDependencyEntry name) d) whole (
      ms,
      is,
      record {
        key = refl;
        letters = letters;
        source = source;
        optional = subst (HoldsOr false (λ q. boolean q) (get_member (codes "optional") ms)) (sym (true_or t.3)) (or_from (truth_of key.Optional) (λ q. boolean q) Any (truth_written key.Optional) false (get_member (codes "optional") ms) t.3 optional.0);
        features = (lists_only (text_of key.Features) (λ q. string q) Any (text_written key.Features) key.Features (value_at key.Features ms) t.1 t.6).0;
        unsupported = (kept_git (value_at key.Git ms) t.2 t.7, (refused_only (value_at key.Registry ms) u.1 u.4, tt));
      },
    )

dependency_only : (k : Key) (name : List ℕ) (d : Data) (x : Dependency) → dependency_of k name d ≡ Ok x → OfTable (IsDependencyEntry name) d x
unfolding dependency_of
dependency_only k name d x h = by (is_name name) refl h
  where
    from : (version : Option (List ℕ)) (found : Option Members) → is_name name ≡ true → as_table d ≡ found → dependency_from k name version found ≡ Ok x → OfTable (IsDependencyEntry name) d x
    from (Some version) found letters is h = cc
    from None (Some ms) letters is h = table_only name d ms x letters (table_is d ms is) h
    from None None letters is h = cc

    by : (b : Bool) → is_name name ≡ b → (if b then dependency_from k name (as_str d) (as_table d) else Err BadName) ≡ Ok x → OfTable (IsDependencyEntry name) d x
    by true letters h = from (as_str d) (as_table d) letters refl h
    by false letters h = cc

-- and back
module _ (name : List ℕ) (ms : Members) (features : List (List ℕ)) (optional : Bool) (no_git : value_at key.Git ms ≡ None) (no_registry : value_at key.Registry ms ≡ None)
    (optional_is : HoldsOr false (λ b. boolean b) (value_at key.Optional ms) optional) (features_are : Lists (λ t. string t) (value_at key.Features ms) features) where
  keys_back : (df : Option Bool) (renamed version written path : Option (List ℕ)) → OptionalMeans (λ b. boolean b) (value_at key.DefaultFeatures ms) df → OptionalMeans (λ t. string t) (value_at key.Package ms) renamed
      → HoldsRequirement (value_at key.Version ms) version → HoldsPath (value_at key.Path ms) written → own_path (takes_workspace ms) written ≡ Ok path → workspace_at ms ≡ Ok tt
      → dependency_keys name ms ≡ Ok record { key = name; source = source_of df renamed version path; optional = optional; features = features }
  keys_back df renamed version written path df_is renamed_is version_is written_is own_is workspace_is =
      let o = or_to (truth_of key.Optional) (λ b. boolean b) Any (truth_written key.Optional) false (value_at key.Optional ms) optional optional_is in
      let is_optional : is_true o.0 ≡ optional = true_or o.0 ∙ o.2 in
      let a : truth_at key.DefaultFeatures ms ≡ Ok df = optional_back (truth_of key.DefaultFeatures) (λ b. boolean b) Any (truth_written key.DefaultFeatures) (value_at key.DefaultFeatures ms) df df_is (some_any df) in
      let b : listed_texts_at key.Features ms ≡ Ok features = lists_back (text_of key.Features) (λ t. string t) Any (text_written key.Features) key.Features (value_at key.Features ms) features features_are (all_any features) in
      let c : refused_where (has key.Git ms && not false) ≡ Ok tt = ap (λ f. refused_where (is_some f && not false)) no_git in
      let d : truth_at key.Optional ms ≡ Ok o.0 = optional_back (truth_of key.Optional) (λ b. boolean b) Any (truth_written key.Optional) (value_at key.Optional ms) o.0 o.1 (some_any o.0) in
      let e : text_at key.Package ms ≡ Ok renamed = optional_back (text_of key.Package) (λ t. string t) Any (text_written key.Package) (value_at key.Package ms) renamed renamed_is (some_any renamed) in
      let f : path_at key.Path ms ≡ Ok written = optional_back (path_of key.Path) (λ t. string t) IsPath (path_written key.Path) (value_at key.Path ms) written written_is.0 written_is.1 in
      let g : refused_where (has key.Registry ms) ≡ Ok tt = ap (λ f. refused_where (is_some f)) no_registry in
      let h : requirement_at ms ≡ Ok version = optional_back requirement_of (λ t. string t) (λ q. is_requirement q ≡ true) requirement_written (value_at key.Version ms) version version_is.0 version_is.1 in
      then_back (first_keys false ms) (λ p. last_keys ms >>= (λ q. Ok record { key = name; source = source_of p.default_features p.package q.version q.path; optional = p.optional; features = p.features }))
      (record { default_features = df; features = features; optional = is_true o.0; «package» = renamed }) (record { key = name; source = source_of df renamed version path; optional = optional; features = features })
      (λ i. a i >>= (λ p. b i >>= (λ q. c i >>= (λ r. d i >>= (λ s. e i >>= (λ t. Ok record { default_features = p; features = q; optional = is_true s; «package» = t }))))))
      (then_back (last_keys ms) (λ q. Ok record { key = name; source = source_of df renamed q.version q.path; optional = is_true o.0; features = features })
      (record { path = path; version = version }) (record { key = name; source = source_of df renamed version path; optional = optional; features = features })
      ((λ i. f i >>= (λ written. own_path (takes_workspace ms) written >>= (λ path. g i >>= (λ registry. (h i >>= (λ version. workspace_is i >>= (λ inherited. Ok version))) >>= (λ version. Ok record { path = path; version = version })))))
      ∙ (λ i. own_is i >>= (λ path. Ok record { path = path; version = version })))
      (λ i. Ok record { key = name; source = source_of df renamed version path; optional = is_optional i; features = features }))

  source_back : (source : Source) → IsSource ms source → dependency_keys name ms ≡ Ok record { key = name; source = source; optional = optional; features = features }
  unfolding spelled
  source_back (own.Workspace default) is =
      let on : takes_workspace ms ≡ true = taken_so (value_at key.Workspace ms) is.0 in
      let o = or_to (truth_of key.DefaultFeatures) (λ b. boolean b) Any (truth_written key.DefaultFeatures) false (value_at key.DefaultFeatures ms) default is.1 in
      let default_is : is_true o.0 ≡ default = true_or o.0 ∙ o.2 in
      let workspace_is : workspace_at ms ≡ Ok tt = (λ i. workspace_in (is.0 i) (on i)) in
      keys_back o.0 is.2.1.0 is.2.2.0 is.2.0.0 None o.1 is.2.1.1 is.2.2.1 is.2.0.1 (ap (λ b. own_path b is.2.0.0) on) workspace_is
      ∙ (λ i. Ok record { key = name; source = own.Workspace (default_is i); optional = optional; features = features })
  source_back (own.Path s) is =
      let off : takes_workspace ms ≡ false = untaken_so (value_at key.Workspace ms) is.0 in
      let o = or_to (truth_of key.DefaultFeatures) (λ b. boolean b) Any (truth_written key.DefaultFeatures) true (value_at key.DefaultFeatures ms) s.default_features is.1.default_features in
      let workspace_is : workspace_at ms ≡ Ok tt = (λ i. workspace_in (is.0 i) (off i)) in
      keys_back o.0 s.package s.version (Some s.path) (Some s.path) o.1 is.1.name is.1.version (is.1.path, is.1.path_is) (ap (λ b. own_path b (Some s.path)) off) workspace_is
      ∙ (λ i. Ok record { key = name; source = own.Path (record { path = s.path; «package» = s.package; version = s.version; default_features = o.2 i }); optional = optional; features = features })

dependency_back : (k : Key) (name : List ℕ) (d : Data) (x : Dependency) → OfTable (IsDependencyEntry name) d x → dependency_of k name d ≡ Ok x
unfolding dependency_of spelled
dependency_back k name d x says =
    (λ i. if says.2.letters i then dependency_from k name (as_str (says.1 i)) (as_table (says.1 i)) else Err BadName)
    ∙ source_back name says.0 x.features x.optional says.2.unsupported.0 says.2.unsupported.1.0 says.2.optional says.2.features x.source says.2.source
    ∙ (λ i. Ok record { key = sym says.2.key i; source = x.source; optional = x.optional; features = x.features })

pub dependencies_read : ReadsDependencies
dependencies_read k name d x = (dependency_only k name d x, dependency_back k name d x)
