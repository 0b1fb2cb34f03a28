-- Which packages a build builds, and with which features (The Cargo Book, Workspaces and cargo
-- build).
use Rattle.std.specs.Prelude.{ℕ, Bool, not, ◌&&◌, ◌==◌, ◌+◌, if◌then◌else◌, List, [], ◌∷◌, length, filter, Option, Some, None, Result, Ok, Err}
use Rattle.std.specs.List.{flat_map, list_any, list_all, slice_split}
use Rattle.std.specs.Str.{bytes_eq}
use Rattle.pb_data.specs.Ascii.{space, comma}
use Rattle.pb_data.specs.UnlessOom.{◌>>=◌}
use Rattle.pb_data.specs.OrderedSet.{is_mentioned}
use Rattle.pb_workspace_package.specs.Between.{is_word}
use Rattle.pb_workspace_types.specs.declared.fault.LoadFault.{LoadFault}
use Rattle.pb_workspace_types.specs.declared.fault.LoadFault.TheVariants.{NoSuchPackage}
use Rattle.pb_workspace_types.specs.declared.options.Options.{Options}
use Rattle.pb_workspace_types.specs.declared.options.Selection.{Selection}
use Rattle.pb_workspace_types.specs.declared.package.Package.{Package}
use Rattle.pb_workspace_types.specs.declared.workspace.DefaultMembers.{DefaultMembers}
use Rattle.pb_workspace_types.specs.declared.workspace.DefaultMembers.TheVariants.{Unwritten, Named, Unknown}
use Rattle.pb_workspace_types.specs.declared.workspace.Workspace.{Workspace}

-- the indices of the packages that pass a test; the first package of the list has the given index
abbrev pub indices_from : (Package → Bool) → ℕ → List Package → List ℕ
indices_from test index [] = []
indices_from test index (p ∷ ps) = if test p then index ∷ indices_from test (index + 1) ps else indices_from test (index + 1) ps

abbrev pub indices_where : (Package → Bool) → List Package → List ℕ
indices_where test packages = indices_from test 0 packages

-- the indices of all members
abbrev pub members_of : List Package → List ℕ
members_of packages = indices_where (λ p. p.is_member) packages

-- the package is a member with this name
abbrev pub is_member_named : List ℕ → Package → Bool
is_member_named name p = p.is_member && bytes_eq name p.name

-- the package is a member with one of these names
abbrev pub is_named_member : List (List ℕ) → Package → Bool
is_named_member names p = p.is_member && is_mentioned names p.name

-- each of these names is the name of a member
abbrev pub name_members : List (List ℕ) → List Package → Bool
name_members names packages = list_all (λ name. list_any (is_member_named name) packages) names

-- The indices of the members that `-p` names. Each name must be the name of a member.
abbrev pub named_members : List (List ℕ) → List Package → Result (List ℕ) LoadFault
named_members names packages = if name_members names packages then Ok (indices_where (is_named_member names) packages) else Err NoSuchPackage

-- the index of the root package if there is one, and otherwise the indices of all members
abbrev pub root_or_members : Option ℕ → List Package → List ℕ
root_or_members (Some index) packages = index ∷ []
root_or_members None packages = members_of packages

-- The indices of the packages that are built if neither `--workspace` nor `-p` is given. Only in
-- this case must each folder in `default-members` be the folder of a member.
abbrev pub by_default : DefaultMembers → Option ℕ → List Package → Result (List ℕ) LoadFault
by_default Unwritten root packages = Ok (root_or_members root packages)
by_default (Named indices) root packages = Ok indices
by_default Unknown root packages = Err NoSuchPackage

-- The indices of the packages to build. With `--workspace`, all members are built. Otherwise `-p`
-- decides, or else `default-members`, or else the root package. If there is no root package either,
-- all members are built.
abbrev pub selected_packages : Workspace → Bool → List (List ℕ) → Result (List ℕ) LoadFault
selected_packages ws all names =
    if all then Ok (members_of ws.packages)
    else (if not (length names == 0) then named_members names ws.packages else by_default ws.default_members ws.root_package ws.packages)

-- the words of a text, which are separated by spaces
abbrev pub spaced_words : List ℕ → List (List ℕ)
spaced_words part = filter is_word (slice_split (λ b. b == space) part)

-- The features that a text requests. Commas and spaces separate the features, and empty words do
-- not count.
abbrev pub feature_words : List ℕ → List (List ℕ)
feature_words text = flat_map spaced_words (slice_split (λ b. b == comma) text)

abbrev pub selection_of : Options → List ℕ → Selection
selection_of o indices = record {
  packages = indices;
  features = flat_map feature_words o.features;
  all_features = o.all_features;
  no_default_features = o.no_default_features;
  lib = o.lib;
  bins = o.bins;
  bin = o.bin;
}

-- what the options select in the workspace, or the fault for which they are refused
abbrev pub selected : Workspace → Options → Result Selection LoadFault
selected ws o = selected_packages ws o.workspace o.packages >>= (λ indices. Ok (selection_of o indices))
