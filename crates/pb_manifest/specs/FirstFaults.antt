-- Which of several faults in one table is reported: the fault of the lowest key. For each table
-- with fixed keys, a definition lists the keys in byte order, each with the fault of its value. For
-- a table whose keys the user chooses, a definition names the entry whose fault is reported.
use Rattle.std.specs.Prelude.{◌≡◌, List, Bool, true, ◌&&◌, [], ◌∷◌, map, Option, Some, None, Ok, Err}
use Rattle.std.specs.Option.{option_or}
use Rattle.std.specs.Ordering.{nat_cmp, is_lt}
use Rattle.std.specs.Cmp.Lexicographic.{slice_cmp}
use Rattle.toml.specs.Data.{Data, Members, member}
use Rattle.pb_data.specs.UnlessOom.{◌>>=◌}
use Rattle.pb_manifest_types.specs.Keys.{spelled}
use Rattle.pb_manifest_types.specs.Values.{Text, Read}
use Rattle.pb_manifest.specs.Values.{has, each_entry, keys_of, text_at, truth_at, path_at, paths_at, texts_at, listed_texts_at, takes_workspace, inheritable_text_at, inheritable_texts_at}
use Rattle.pb_manifest.specs.Versions.{inherited_version_at, version_at, requirement_at}
use Rattle.pb_manifest.specs.Library.{crate_types_at, crate_name_at, proc_macro_at}
use Rattle.pb_manifest.specs.Package.{name_at, build_at, edition_at, inherited_edition_at, readme_at, inheritable_readme_at, resolver_at}
use Rattle.pb_manifest.specs.Dependencies.{refused_where, own_path, workspace_at, shared_dependencies_at}
use Rattle.pb_manifest.specs.Workspace.{listed_paths_at, workspace_package_at}
use Rattle.pb_manifest.specs.Promises.{Ascend}
use Rattle.pb_manifest_types.specs.declared.fault.ManifestFault.{ManifestFault}
use Rattle.pb_manifest_types.specs.declared.key.Key.{Key}
use Rattle.pb_manifest_types.specs.declared.key.Key.TheVariants as key

-- the fault for which a value was refused, or none if the value was read
abbrev pub told : {A : Type 0} → Read A → Option ManifestFault
told (Ok x) = None
told (Err fault) = Some fault

-- a key of a table, and the fault of the key's value if there is one
abbrev pub KeyFault : Type 0
KeyFault = Key × Option ManifestFault

-- the fault of the first key that has a fault
abbrev pub first_fault : List KeyFault → Option ManifestFault
first_fault [] = None
first_fault (k ∷ ks) = option_or k.1 (first_fault ks)

-- the texts are in byte order without repeats
abbrev pub are_ascending : List Text → Bool
are_ascending [] = true
are_ascending (a ∷ []) = true
are_ascending (a ∷ b ∷ rest) = is_lt (slice_cmp nat_cmp a b) && are_ascending (b ∷ rest)

-- The keys of a table are in byte order. Reading the table returns the fault of the first key that
-- has a fault.
pub record TellsLowest {A : Type 0} (keys : Members → List KeyFault) (read : Members → Read A) : Type 0 where
  pub order : (ms : Members) → are_ascending (map (λ k. spelled k.0) (keys ms)) ≡ true
  pub first : (ms : Members) → told (read ms) ≡ first_fault (keys ms)

-- the keys of `[package]` and their faults
abbrev pub faults_of_package : Members → List KeyFault
faults_of_package ms =
    (key.Authors, told (inheritable_texts_at key.Authors ms))
    ∷ (key.Autobins, told (truth_at key.Autobins ms))
    ∷ (key.Build, told (build_at ms))
    ∷ (key.Description, told (inheritable_text_at key.Description ms))
    ∷ (key.Edition, told (inherited_edition_at ms))
    ∷ (key.Homepage, told (inheritable_text_at key.Homepage ms))
    ∷ (key.License, told (inheritable_text_at key.License ms))
    ∷ (key.LicenseFile, told (inheritable_text_at key.LicenseFile ms))
    ∷ (key.Links, told (text_at key.Links ms))
    ∷ (key.Name, told (name_at ms))
    ∷ (key.Readme, told (inheritable_readme_at ms))
    ∷ (key.Repository, told (inheritable_text_at key.Repository ms))
    ∷ (key.Resolver, told (resolver_at ms))
    ∷ (key.RustVersion, told (inheritable_text_at key.RustVersion ms))
    ∷ (key.Version, told (inherited_version_at ms))
    ∷ []

-- the keys of `[lib]` and their faults
abbrev pub faults_of_library : Members → List KeyFault
faults_of_library ms =
    (key.CrateType, told (crate_types_at ms))
    ∷ (key.Name, told (crate_name_at ms))
    ∷ (key.Path, told (path_at key.Path ms))
    ∷ (key.ProcMacro, told (proc_macro_at ms))
    ∷ []

-- the keys of a table `[[bin]]` and their faults
abbrev pub faults_of_binary : Members → List KeyFault
faults_of_binary ms =
    (key.Name, told (name_at ms))
    ∷ (key.Path, told (path_at key.Path ms))
    ∷ (key.RequiredFeatures, told (listed_texts_at key.RequiredFeatures ms))
    ∷ []

-- the keys of an entry of `[dependencies]` or `[build-dependencies]`, and their faults
abbrev pub faults_of_dependency : Members → List KeyFault
faults_of_dependency ms =
    (key.DefaultFeatures, told (truth_at key.DefaultFeatures ms))
    ∷ (key.Features, told (listed_texts_at key.Features ms))
    ∷ (key.Git, told (refused_where (has key.Git ms)))
    ∷ (key.Optional, told (truth_at key.Optional ms))
    ∷ (key.Package, told (text_at key.Package ms))
    ∷ (key.Path, told (path_at key.Path ms >>= own_path (takes_workspace ms)))
    ∷ (key.Registry, told (refused_where (has key.Registry ms)))
    ∷ (key.Version, told (requirement_at ms))
    ∷ (key.Workspace, told (workspace_at ms))
    ∷ []

-- The keys of an entry of `[workspace.dependencies]`, and their faults. Here `git` and `registry`
-- are not faults.
abbrev pub faults_of_shared_dependency : Members → List KeyFault
faults_of_shared_dependency ms =
    (key.DefaultFeatures, told (truth_at key.DefaultFeatures ms))
    ∷ (key.Features, told (listed_texts_at key.Features ms))
    ∷ (key.Optional, told (truth_at key.Optional ms))
    ∷ (key.Package, told (text_at key.Package ms))
    ∷ (key.Path, told (path_at key.Path ms))
    ∷ (key.Version, told (requirement_at ms))
    ∷ (key.Workspace, told (workspace_at ms))
    ∷ []

-- the keys of `[workspace.package]` and their faults
abbrev pub faults_of_inherited : Members → List KeyFault
faults_of_inherited ms =
    (key.Authors, told (texts_at key.Authors ms))
    ∷ (key.Description, told (text_at key.Description ms))
    ∷ (key.Edition, told (edition_at ms))
    ∷ (key.Homepage, told (text_at key.Homepage ms))
    ∷ (key.License, told (text_at key.License ms))
    ∷ (key.LicenseFile, told (text_at key.LicenseFile ms))
    ∷ (key.Readme, told (readme_at ms))
    ∷ (key.Repository, told (text_at key.Repository ms))
    ∷ (key.RustVersion, told (text_at key.RustVersion ms))
    ∷ (key.Version, told (version_at ms))
    ∷ []

-- the keys of `[workspace]` and their faults
abbrev pub faults_of_workspace : Members → List KeyFault
faults_of_workspace ms =
    (key.DefaultMembers, told (paths_at key.DefaultMembers ms))
    ∷ (key.Dependencies, told (shared_dependencies_at ms))
    ∷ (key.Exclude, told (listed_paths_at key.Exclude ms))
    ∷ (key.Members, told (listed_paths_at key.Members ms))
    ∷ (key.Package, told (workspace_package_at ms))
    ∷ (key.Resolver, told (resolver_at ms))
    ∷ []

-- the table has an entry with this name and this value
pub data TableHas (name : Text) (value : Data) : Members → Type 0 where
  here : (ms : Members) → TableHas name value (member name value ms)
  further : (other : Text) (d : Data) (ms : Members) (rest : TableHas name value ms) → TableHas name value (member other d ms)

-- an entry has this fault, and no entry with a lower key has a fault
pub record IsOfLowestEntry {A : Type 0} (read : Text → Data → Read A) (ms : Members) (fault : ManifestFault) : Type 0 where
  pub name : Text
  pub value : Data
  pub stands : TableHas name value ms
  pub tells : told (read name value) ≡ Some fault
  pub lower : (other : Text) (d : Data) → TableHas other d ms → is_lt (slice_cmp nat_cmp other name) ≡ true → told (read other d) ≡ None

-- For a table whose keys the user chooses, the fault of the bad entry with the lowest key is
-- reported. If no fault is reported, all entries can be read.
pub record TellsLowestEntry {A : Type 0} (read : Text → Data → Read A) : Type 0 where
  pub refused : (ms : Members) (fault : ManifestFault) → Ascend (keys_of ms) → told (each_entry read ms) ≡ Some fault → IsOfLowestEntry read ms fault
  pub taken : (ms : Members) → told (each_entry read ms) ≡ None → (name : Text) (d : Data) → TableHas name d ms → told (read name d) ≡ None
