-- The entries of `[workspace.dependencies]` are read as what they say.
use Rattle.std.proofs.Common.{inl, inr, ◌≡◌, ◌⊎◌, ◌∙◌, ℕ, Bool, true, false, not, ◌&&◌, ◌||◌, if◌then◌else◌, List, [], codes, Option, Some, None, Ok, Err, is_some, refl, sym, ap, subst}
use Rattle.std.specs.Option.{option_map}
use Rattle.toml.specs.Data.{Data, string, boolean, table, Members, get_member, as_str, as_table}
use Rattle.pb_data.specs.UnlessOom.{◌>>=◌}
use Rattle.pb_manifest.specs.Dependencies.{refused_where, workspace_in, workspace_at, first_keys, version_and_workspace, supported_path, shared_keys, shared_source_of, shared_dependency_keys, shared_version, shared_dependency_from, shared_dependency_of}
use Rattle.pb_manifest_types.specs.Keys.{spelled}
use Rattle.pb_manifest_types.specs.Letters.{is_name}
use Rattle.pb_manifest.specs.Values.{value_at, has, text_of, text_at, truth_of, truth_at, path_of, path_at, listed_texts_at, is_true, takes_workspace}
use Rattle.pb_manifest_types.specs.Versions.{requirement_in, is_requirement}
use Rattle.pb_manifest.specs.Versions.{requirement_of, requirement_at}
use Rattle.pb_manifest_types.specs.declared.dependency.WorkspaceDependency.{WorkspaceDependency}
use Rattle.pb_manifest_types.specs.declared.dependency.WorkspaceSource.{WorkspaceSource}
use Rattle.pb_manifest_types.specs.declared.dependency.WorkspaceSource.TheVariants as shared
use Rattle.pb_manifest_types.specs.declared.fault.ManifestFault.TheVariants.{BadName, BadVersion}
use Rattle.pb_manifest_types.specs.declared.key.Key.TheVariants as key
use Rattle.pb_manifest.proofs.Came.{came}
use Rattle.pb_manifest_laws.specs.Dependencies.{HasIdleKeys, IsSharedSource, IsSharedTable, IsSharedVersion, IsSharedEntry}
use Rattle.pb_manifest_laws.specs.Laws.{ReadsSharedDependencies}
use Rattle.pb_manifest_laws.specs.Values.{IsPath, OptionalMeans, Lists, OfTable}
use Rattle.pb_manifest_laws.proofs.Chains.{five, then_back}
use Rattle.pb_manifest_laws.proofs.Dependencies.{HoldsPath, HoldsRequirement, requirement_only, requirement_written, workspace_only, taken_so, untaken_so}
use Rattle.pb_manifest_laws.proofs.Packages.{all_any, some_any}
use Rattle.pb_manifest_laws.proofs.Reading.{Any, text_written, truth_written, path_written, table_is, optional_only, optional_back, or_from, or_to, lists_only, lists_back}

-- `git` is kept
git_kept : (found : Option Data) → refused_where (is_some found && not true) ≡ Ok tt
git_kept None = refl
git_kept (Some d) = refl

abbrev Taken : Members → Type 0
Taken ms = (get_member (codes "workspace") ms ≡ None) ⊎ (get_member (codes "workspace") ms ≡ Some (boolean true))

taken_only : (ms : Members) (u : Unit {0}) → workspace_at ms ≡ Ok u → Taken ms
unfolding spelled
taken_only ms u h = by (takes_workspace ms) refl
  where
    by : (b : Bool) → takes_workspace ms ≡ b → Taken ms
    by true on = inr ((workspace_only (value_at key.Workspace ms) (takes_workspace ms) u refl h).0 on)
    by false off = inl ((workspace_only (value_at key.Workspace ms) (takes_workspace ms) u refl h).1 off)

taken_back : (ms : Members) → Taken ms → workspace_at ms ≡ Ok tt
unfolding spelled
taken_back ms (inl none) = λ i. workspace_in (none i) (untaken_so (value_at key.Workspace ms) none i)
taken_back ms (inr on) = λ i. workspace_in (on i) (taken_so (value_at key.Workspace ms) on i)

-- where it comes from
source_only : (ms : Members) (df : Option Bool) (name version written : Option (List ℕ)) → OptionalMeans (λ b. boolean b) (get_member (codes "default-features") ms) df → OptionalMeans (λ t. string t) (get_member (codes "package") ms) name
    → HoldsRequirement (get_member (codes "version") ms) version → HoldsPath (get_member (codes "path") ms) written → IsSharedSource ms (shared_source_of df name version (supported_path ms written))
unfolding spelled
source_only ms df name version written df_is name_is version_is written_is = by (value_at key.Git ms) (value_at key.Registry ms) written refl refl written_is
  where
    idle : (o : Option (List ℕ)) → HoldsPath (get_member (codes "path") ms) o → HasIdleKeys ms
    idle o holds = ((o, holds), (name, name_is), (version, version_is))

    by : (g r : Option Data) (o : Option (List ℕ)) → get_member (codes "git") ms ≡ g → get_member (codes "registry") ms ≡ r → HoldsPath (get_member (codes "path") ms) o
        → IsSharedSource ms (shared_source_of df name version (if is_some g || is_some r then None else o))
    by (Some d) r o git registry holds = (idle o holds, (df, df_is), λ none also. absurd (let clash : None ≡ Some d = sym none ∙ git in cc))
    by None (Some d) o git registry holds = (idle o holds, (df, df_is), λ none also. absurd (let clash : None ≡ Some d = sym also ∙ registry in cc))
    by None None None git registry holds = (idle None holds, (df, df_is), λ none also. holds.0)
    by None None (Some text) git registry holds = (
      record {
        path = holds.0;
        path_is = holds.1;
        name = name_is;
        version = version_is;
        default_features = or_from (truth_of key.DefaultFeatures) (λ b. boolean b) Any (truth_written key.DefaultFeatures) true (get_member (codes "default-features") ms) df df_is;
      },
      git,
      registry,
    )

table_only : (name : List ℕ) (d : Data) (ms : Members) (x : WorkspaceDependency) → is_name name ≡ true → d ≡ table ms → shared_dependency_keys name ms ≡ Ok x → OfTable (IsSharedTable name) d x
unfolding spelled
table_only name d ms x letters is h =
    let a = came (first_keys true ms) (λ a. shared_keys ms >>= (λ b. Ok record { key = name; source = shared_source_of a.default_features a.package b.version b.path; features = a.features })) x h in
    let b = came (shared_keys ms) (λ b. Ok record { key = name; source = shared_source_of a.value.default_features a.value.package b.version b.path; features = a.value.features }) x a.more in
    let t = five a.value (truth_at key.DefaultFeatures ms) (listed_texts_at key.Features ms) (refused_where (has key.Git ms && not true)) (truth_at key.Optional ms) (text_at key.Package ms)
    (λ default_features features git optional renamed. record { default_features = default_features; features = features; optional = is_true optional; «package» = renamed }) a.was in
    let c = came (path_at key.Path ms) (λ path. version_and_workspace ms >>= (λ version. Ok record { path = supported_path ms path; version = version })) b.value b.was in
    let u = came (version_and_workspace ms) (λ version. Ok record { path = supported_path ms c.value; version = version }) b.value c.more in
    let v = came (requirement_at ms) (λ version. workspace_at ms >>= (λ inherited. Ok version)) u.value u.was in
    let w = came (workspace_at ms) (λ inherited. Ok v.value) u.value v.more in
    let version : v.value ≡ u.value = cc (w.more) in
    let df = optional_only (truth_of key.DefaultFeatures) (λ q. boolean q) Any (truth_written key.DefaultFeatures) (value_at key.DefaultFeatures ms) t.0 t.5 in
    let optional = optional_only (truth_of key.Optional) (λ q. boolean q) Any (truth_written key.Optional) (value_at key.Optional ms) t.3 t.8 in
    let renamed = optional_only (text_of key.Package) (λ q. string q) Any (text_written key.Package) (value_at key.Package ms) t.4 t.9 in
    let path = optional_only (path_of key.Path) (λ q. string q) IsPath (path_written key.Path) (value_at key.Path ms) c.value c.was in
    let requirement = optional_only requirement_of (λ q. string q) (λ q. is_requirement q ≡ true) requirement_written (value_at key.Version ms) v.value v.was in
    let made : WorkspaceDependency = record { key = name; source = shared_source_of t.0 t.4 v.value (supported_path ms c.value); features = t.1 } in
    let whole : made ≡ x = (λ i. record { key = name; source = shared_source_of t.0 t.4 (version i) (supported_path ms c.value); features = t.1 })
    ∙ (λ i. record { key = name; source = shared_source_of (t.10 i).default_features (t.10 i).package u.value (supported_path ms c.value); features = (t.10 i).features })
    ∙ (let last : Ok (record { path = supported_path ms c.value; version = u.value }) ≡ Ok b.value = u.more in
    ap (λ r. elim r as (λ q. WorkspaceDependency) [ Ok q ↦ record { key = name; source = shared_source_of a.value.default_features a.value.package q.version q.path; features = a.value.features } | Err e ↦ x ]) last) ∙ cc (b.more) in
    subst (OfTable (IsSharedTable name) d) whole (
      ms,
      is,
      record {
        key = refl;
        letters = letters;
        source = source_only ms t.0 t.4 v.value c.value df.0 renamed.0 requirement path;
        features = (lists_only (text_of key.Features) (λ q. string q) Any (text_written key.Features) key.Features (value_at key.Features ms) t.1 t.6).0;
        optional = (t.3, optional.0);
        taken = taken_only ms w.value w.was;
      },
    )

version_only : (name : List ℕ) (d : Data) (text : List ℕ) (x : WorkspaceDependency) → is_name name ≡ true → d ≡ string text → shared_version name text ≡ Ok x → IsSharedVersion name d x
version_only name d text x letters is h =
    let c = came (requirement_in text) (λ requirement. Ok record { key = name; source = shared.Unsupported; features = [] }) x h in
    let r = requirement_only text c.value c.was in
    let made : WorkspaceDependency = record { key = name; source = shared.Unsupported; features = [] } in
    let same : made ≡ x = cc (c.more) in
    (letters, (text, is, ap is_requirement r.0 ∙ r.1), sym same)

text_of_data : (d : Data) (text : List ℕ) → as_str d ≡ Some text → d ≡ string text
text_of_data (string s) text h = let same : s ≡ text = cc in ap (λ t. string t) same
text_of_data _ text h = cc

shared_only : (name : List ℕ) (d : Data) (x : WorkspaceDependency) → shared_dependency_of name d ≡ Ok x → IsSharedEntry name d x
unfolding shared_dependency_of
shared_only name d x h = by (is_name name) refl h
  where
    from : (version : Option (List ℕ)) (found : Option Members) → is_name name ≡ true → as_str d ≡ version → as_table d ≡ found → shared_dependency_from name version found ≡ Ok x → IsSharedEntry name d x
    from (Some version) found letters text is h = inr (version_only name d version x letters (text_of_data d version text) h)
    from None (Some ms) letters text is h = inl (table_only name d ms x letters (table_is d ms is) h)
    from None None letters text is h = cc

    by : (b : Bool) → is_name name ≡ b → (if b then shared_dependency_from name (as_str d) (as_table d) else Err BadName) ≡ Ok x → IsSharedEntry name d x
    by true letters h = from (as_str d) (as_table d) letters refl refl h
    by false letters h = cc

-- and back
none_written : (p : Option (List ℕ)) → option_map (λ t. string t) p ≡ None → p ≡ None
none_written None h = refl
none_written (Some t) h = cc

keys_back : (name : List ℕ) (ms : Members) (features : List (List ℕ)) (df optional : Option Bool) (renamed version written path : Option (List ℕ)) → Lists (λ t. string t) (value_at key.Features ms) features
    → OptionalMeans (λ b. boolean b) (value_at key.Optional ms) optional → OptionalMeans (λ b. boolean b) (value_at key.DefaultFeatures ms) df → OptionalMeans (λ t. string t) (value_at key.Package ms) renamed
    → HoldsRequirement (value_at key.Version ms) version → HoldsPath (value_at key.Path ms) written → supported_path ms written ≡ path → workspace_at ms ≡ Ok tt
    → shared_dependency_keys name ms ≡ Ok record { key = name; source = shared_source_of df renamed version path; features = features }
keys_back name ms features df optional renamed version written path features_are optional_is df_is renamed_is version_is written_is path_is workspace_is =
    let a : truth_at key.DefaultFeatures ms ≡ Ok df = optional_back (truth_of key.DefaultFeatures) (λ b. boolean b) Any (truth_written key.DefaultFeatures) (value_at key.DefaultFeatures ms) df df_is (some_any df) in
    let b : listed_texts_at key.Features ms ≡ Ok features = lists_back (text_of key.Features) (λ t. string t) Any (text_written key.Features) key.Features (value_at key.Features ms) features features_are (all_any features) in
    let c : refused_where (has key.Git ms && not true) ≡ Ok tt = git_kept (value_at key.Git ms) in
    let d : truth_at key.Optional ms ≡ Ok optional = optional_back (truth_of key.Optional) (λ b. boolean b) Any (truth_written key.Optional) (value_at key.Optional ms) optional optional_is (some_any optional) in
    let e : text_at key.Package ms ≡ Ok renamed = optional_back (text_of key.Package) (λ t. string t) Any (text_written key.Package) (value_at key.Package ms) renamed renamed_is (some_any renamed) in
    let f : path_at key.Path ms ≡ Ok written = optional_back (path_of key.Path) (λ t. string t) IsPath (path_written key.Path) (value_at key.Path ms) written written_is.0 written_is.1 in
    let h : requirement_at ms ≡ Ok version = optional_back requirement_of (λ t. string t) (λ q. is_requirement q ≡ true) requirement_written (value_at key.Version ms) version version_is.0 version_is.1 in
    then_back (first_keys true ms) (λ p. shared_keys ms >>= (λ q. Ok record { key = name; source = shared_source_of p.default_features p.package q.version q.path; features = p.features }))
    (record { default_features = df; features = features; optional = is_true optional; «package» = renamed }) (record { key = name; source = shared_source_of df renamed version path; features = features })
    (λ i. a i >>= (λ p. b i >>= (λ q. c i >>= (λ r. d i >>= (λ s. e i >>= (λ t. Ok record { default_features = p; features = q; optional = is_true s; «package» = t }))))))
    (then_back (shared_keys ms) (λ q. Ok record { key = name; source = shared_source_of df renamed q.version q.path; features = features })
    (record { path = path; version = version }) (record { key = name; source = shared_source_of df renamed version path; features = features })
    ((λ i. f i >>= (λ written. (h i >>= (λ version. workspace_is i >>= (λ inherited. Ok version))) >>= (λ version. Ok record { path = supported_path ms written; version = version })))
    ∙ (λ i. Ok record { path = path_is i; version = version }))
    refl)

source_back : (name : List ℕ) (ms : Members) (features : List (List ℕ)) (optional : Option Bool) (source : WorkspaceSource) → Lists (λ t. string t) (value_at key.Features ms) features → OptionalMeans (λ b. boolean b) (value_at key.Optional ms) optional
    → Taken ms → IsSharedSource ms source → shared_dependency_keys name ms ≡ Ok record { key = name; source = source; features = features }
unfolding spelled
source_back name ms features optional (shared.Path s) features_are optional_is taken is =
    let o = or_to (truth_of key.DefaultFeatures) (λ b. boolean b) Any (truth_written key.DefaultFeatures) true (value_at key.DefaultFeatures ms) s.default_features is.0.default_features in
    let path_is : supported_path ms (Some s.path) ≡ Some s.path = λ i. if is_some (is.1 i) || is_some (is.2 i) then None else Some s.path in
    keys_back name ms features o.0 optional s.package s.version (Some s.path) (Some s.path) features_are optional_is o.1 is.0.name is.0.version (is.0.path, is.0.path_is) path_is (taken_back ms taken)
    ∙ (λ i. Ok record { key = name; source = shared.Path (record { path = s.path; «package» = s.package; version = s.version; default_features = o.2 i }); features = features })
source_back name ms features optional shared.Unsupported features_are optional_is taken is =
    keys_back name ms features is.1.0 optional is.0.1.0 is.0.2.0 is.0.0.0 None features_are optional_is is.1.1 is.0.1.1 is.0.2.1 is.0.0.1 (by (value_at key.Git ms) (value_at key.Registry ms) refl refl) (taken_back ms taken)
  where
    by : (g r : Option Data) → get_member (codes "git") ms ≡ g → get_member (codes "registry") ms ≡ r → (if is_some g || is_some r then None else is.0.0.0) ≡ None
    by (Some d) r git registry = refl
    by None (Some d) git registry = refl
    by None None git registry = none_written is.0.0.0 (sym is.0.0.1.0 ∙ is.2 git registry)

shared_back : (name : List ℕ) (d : Data) (x : WorkspaceDependency) → IsSharedEntry name d x → shared_dependency_of name d ≡ Ok x
unfolding shared_dependency_of spelled
shared_back name d x (inl says) =
    (λ i. if says.2.letters i then shared_dependency_from name (as_str (says.1 i)) (as_table (says.1 i)) else Err BadName)
    ∙ source_back name says.0 x.features says.2.optional.0 x.source says.2.features says.2.optional.1 says.2.taken says.2.source
    ∙ (λ i. Ok record { key = sym says.2.key i; source = x.source; features = x.features })
shared_back name d x (inr says) =
    (λ i. if says.0 i then shared_dependency_from name (as_str (says.1.1 i)) (as_table (says.1.1 i)) else Err BadName)
    ∙ (λ i. (if says.1.2 i then Ok says.1.0 else Err BadVersion) >>= (λ requirement. Ok record { key = name; source = shared.Unsupported; features = [] }))
    ∙ ap (λ y. Ok y) (sym says.2)

pub shared_read : ReadsSharedDependencies
shared_read name d x = (shared_only name d x, shared_back name d x)
