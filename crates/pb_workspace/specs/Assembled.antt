-- How a workspace is assembled from the packages that were read (The Cargo Book, Workspaces).
use Rattle.std.specs.Prelude.{ℕ, Bool, ◌&&◌, ◌||◌, if◌then◌else◌, List, map, Option, Some, None, unwrap_or}
use Rattle.std.specs.List.{list_all, list_any}
use Rattle.pb_manifest_types.specs.declared.profile.Profile.{Profile}
use Rattle.pb_workspace_package.specs.declared.unresolved_package.UnresolvedPackage.{UnresolvedPackage}
use Rattle.pb_workspace.specs.declared.workspace_root.WorkspaceRoot.{WorkspaceRoot}
use Rattle.pb_workspace_types.specs.declared.package.Entry.{Entry}
use Rattle.pb_workspace_types.specs.declared.package.Package.{Package}
use Rattle.pb_workspace_package.specs.declared.wanted.Wanted.{Wanted}
use Rattle.pb_workspace_types.specs.declared.workspace.DefaultMembers.{DefaultMembers}
use Rattle.pb_workspace_types.specs.declared.workspace.DefaultMembers.TheVariants.{Unwritten, Named, Unknown}
use Rattle.pb_workspace_types.specs.declared.workspace.Workspace.{Workspace}
use Rattle.pb_workspace.specs.ByFolder.{value_of}
use Rattle.pb_workspace.specs.Globs.{is_glob}
use Rattle.pb_workspace.specs.Members.{means}
use Rattle.pb_workspace.specs.Indices.{indices_of}
use Rattle.pb_workspace.specs.Selected.{indices_where}

-- an entry that was read; it has the index of the package to which it leads, instead of this
-- package's folder
abbrev pub entry_at : List (List ℕ × ℕ) → Wanted → Entry
entry_at indices w = record {
  key = w.key;
  kind = w.kind;
  to = unwrap_or (value_of w.folder indices) 0;
  renamed = w.renamed;
  optional = w.optional;
  default_features = w.default_features;
  features = w.features;
}

-- a package that was read; its entries have the indices of the packages to which they lead
abbrev pub package_at : List (List ℕ × ℕ) → UnresolvedPackage → Package
package_at indices d = record {
  name = d.name;
  version = d.version;
  edition = d.edition;
  folder = d.folder;
  manifest = d.manifest;
  is_member = d.is_member;
  about = d.about;
  links = d.links;
  library = d.library;
  binaries = d.binaries;
  script = d.script;
  entries = map (entry_at indices) d.wanted;
  features = d.features;
  development = d.development;
}

abbrev pub packages_of : List UnresolvedPackage → List Package
packages_of drafts = map (package_at (indices_of drafts)) drafts

-- the package is a member, and the text means the package's folder
abbrev pub is_meant_member : List ℕ → Package → List ℕ → Bool
is_meant_member root p text = p.is_member && means root text p.folder

-- A text of `default-members` is known if it is a glob, or if it means the folder of a member. So a
-- glob is known even if it matches no member. If a text is not known, `default_members_of` returns
-- `Unknown`.
abbrev pub is_known : List ℕ → List Package → List ℕ → Bool
is_known root packages text = is_glob text || list_any (λ p. is_meant_member root p text) packages

-- the package is a member, and one of these texts means the package's folder
abbrev pub is_default : List ℕ → List (List ℕ) → Package → Bool
is_default root texts p = list_any (is_meant_member root p) texts

-- the default members among these packages, as `default-members` lists them
abbrev pub default_members_of : List ℕ → List Package → Option (List (List ℕ)) → DefaultMembers
default_members_of root packages None = Unwritten
default_members_of root packages (Some texts) =
    if list_all (is_known root packages) texts then Named (indices_where (is_default root texts) packages) else Unknown

-- the workspace that consists of these packages
unfoldable pub assembled : List ℕ → WorkspaceRoot → List Profile → List UnresolvedPackage → Workspace
assembled target f profiles drafts = record {
  root = f.root;
  target = target;
  packages = packages_of drafts;
  root_package = value_of f.root (indices_of drafts);
  default_members = default_members_of f.root (packages_of drafts) f.default_members;
  profiles = profiles;
}
