-- What is true of every workspace that was read, whatever its files contain. Packages are in order
-- of their folders and have different names. Entries lead to packages and have valid keys. Features
-- and binaries are in order of their names.
use Rattle.std.specs.Prelude.{◌≡◌, ℕ, ◌<◌, ◌≤◌, ◌||◌, true, List, map, All, IfSome, length}
use Rattle.std.specs.Ordering.{nat_cmp}
use Rattle.std.specs.Cmp.Lexicographic.{slice_cmp}
use Rattle.std.specs.List.{IsDistinct}
use Rattle.std.specs.List.Sorted.{IsStrictlySortedBy}
use Rattle.std.specs.Str.{bytes_eq}
use Rattle.pb_data.specs.Limits.{max_packages}
use Rattle.pb_manifest_types.specs.Letters.{is_name, is_crate_name, is_feature_name}
use Rattle.pb_manifest_types.specs.declared.feature.Feature.{Feature}
use Rattle.pb_workspace_types.specs.declared.package.Package.{Package}
use Rattle.pb_workspace_types.specs.declared.package.Binary.{Binary}
use Rattle.pb_workspace_types.specs.declared.package.Entry.{Entry}
use Rattle.pb_workspace_types.specs.declared.options.Selection.{Selection}
use Rattle.pb_workspace_types.specs.declared.workspace.DefaultMembers.{DefaultMembers}
use Rattle.pb_workspace_types.specs.declared.workspace.DefaultMembers.TheVariants.{Unwritten, Named, Unknown}
use Rattle.pb_workspace_types.specs.declared.workspace.Workspace.{Workspace}

-- the texts are in byte order without repeats
abbrev pub IsAscending : List (List ℕ) → Type 0
IsAscending texts = IsStrictlySortedBy (slice_cmp nat_cmp) texts

-- A package in a workspace of `count` packages. The name of each feature may be a feature's name or
-- a package's name. Package names are allowed because optional dependencies make features.
pub record IsPackage (count : ℕ) (p : Package) : Type 0 where
  pub name : is_name p.name ≡ true
  pub crate_name : IfSome p.library (λ library. is_crate_name library.name ≡ true)
  pub binary_names : All (λ (binary : Binary). is_name binary.name ≡ true) p.binaries
  pub binaries : IsAscending (map (λ (binary : Binary). binary.name) p.binaries)
  pub feature_names : All (λ (feature : Feature). is_feature_name feature.name || is_name feature.name ≡ true) p.features
  pub features : IsAscending (map (λ (feature : Feature). feature.name) p.features)
  pub leads : All (λ (entry : Entry). entry.to < count) p.entries
  pub entry_keys : All (λ (entry : Entry). is_name entry.key ≡ true) p.entries

-- if `default-members` names only members, `Holds` is true of their indices
abbrev pub IfNamed : DefaultMembers → (List ℕ → Type 0) → Type 0
IfNamed Unwritten Holds = Unit {0}
IfNamed (Named indices) Holds = Holds indices
IfNamed Unknown Holds = Unit {0}

-- A workspace that was read has at most 256 packages, in byte order of their folders and with
-- different names. The root package and the default members are among these packages.
pub record IsSettled (ws : Workspace) : Type 0 where
  pub few : length ws.packages ≤ max_packages
  pub folders : IsAscending (map (λ (p : Package). p.folder) ws.packages)
  pub names : IsDistinct bytes_eq (map (λ (p : Package). p.name) ws.packages)
  pub packages : All (IsPackage (length ws.packages)) ws.packages
  pub root : IfSome ws.root_package (λ index. index < length ws.packages)
  pub defaults : IfNamed ws.default_members (All (λ index. index < length ws.packages))

-- a workspace, and what is selected in the workspace
pub record Selected : Type 0 where
  pub workspace : Workspace
  pub selection : Selection
