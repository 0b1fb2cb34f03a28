-- What is so of every workspace that its definition accepts: names, target folder, root; and that it is told by the sources.
use Rattle.std.proofs.Common.{◌≡◌, ◌∙◌, ℕ, Bool, true, false, if◌then◌else◌, List, [], map, Option, Some, None, Result, Ok, Err, refl, sym, ap, subst}
use Rattle.std.specs.List.{IsDistinct}
use Rattle.std.specs.Str.{bytes_eq}
use Rattle.pb_data.specs.UnlessOom.{◌>>=◌}
use Rattle.pb_manifest_types.specs.declared.manifest.WorkspaceTable.{WorkspaceTable}
use Rattle.pb_manifest_types.specs.declared.profile.Profile.{Profile}
use Rattle.pb_place_types.specs.Paths.{folder_of}
use Rattle.pb_place_types.specs.World.{World, from_nothing}
use Rattle.pb_workspace.proofs.Keeping.{none_again}
use Rattle.pb_workspace_package.proofs.Puttings.{map_twice}
use Rattle.pb_workspace.specs.Assembled.{assembled, package_at}
use Rattle.pb_workspace.specs.ByFolder.{values_of}
use Rattle.pb_workspace.specs.Checks.{fault_of, has_same_names}
use Rattle.pb_workspace.specs.Frames.{frame_of}
use Rattle.pb_workspace.specs.Laws.{NamesDiffer, HasTargetFolder, HasRoot, LooksAtSources}
use Rattle.pb_workspace.specs.Loaded.{packages_read, root_parts, unless, workspace_from, workspace_in, workspace_of}
use Rattle.pb_workspace.specs.Indices.{indices_of}
use Rattle.pb_workspace_package.specs.declared.unresolved_package.UnresolvedPackage.{UnresolvedPackage}
use Rattle.pb_workspace_types.specs.declared.fault.LoadFault.{LoadFault}
use Rattle.pb_workspace_types.specs.declared.fault.LoadFault.TheVariants.{SameName}
use Rattle.pb_workspace.specs.declared.workspace_root.WorkspaceRoot.{WorkspaceRoot}
use Rattle.pb_workspace_types.specs.declared.package.Package.{Package}
use Rattle.pb_workspace.specs.declared.rounds.Parts.{Parts}
use Rattle.pb_workspace.specs.declared.rounds.LoadState.{LoadState}
use Rattle.pb_workspace_types.specs.declared.workspace.Workspace.{Workspace}

-- what came after a step that went well
bound : {A B : Type 0} (m : Result A LoadFault) (next : A → Result B LoadFault) (y : B) → (m >>= next) ≡ Ok y → (x : A) × (next x ≡ Ok y)
bound (Ok x) next y is = (x, is)
bound (Err e) next y is = let no : Err e ≡ Ok y = is in cc

names_of_drafts : (target : List ℕ) (f : WorkspaceRoot) (profiles : List Profile) (drafts : List UnresolvedPackage) → has_same_names drafts ≡ false → IsDistinct bytes_eq (map (λ (p : Package). p.name) (assembled target f profiles drafts).packages)
unfolding assembled
names_of_drafts target f profiles drafts apart =
    subst (IsDistinct bytes_eq) (sym (map_twice (λ (p : Package). p.name) (package_at (indices_of drafts)) drafts)) (none_again [] (map (λ (d : UnresolvedPackage). d.name) drafts) apart).1

no_fault : (drafts : List UnresolvedPackage) → fault_of drafts ≡ None → has_same_names drafts ≡ false
unfolding fault_of
no_fault drafts is = by _ (has_same_names drafts) refl is
  where
    by : (X : Option LoadFault) (b : Bool) → has_same_names drafts ≡ b → (if b then Some SameName else X) ≡ None → has_same_names drafts ≡ false
    by X true at h = let no : Some SameName ≡ None = h in cc
    by X false at h = at

names_from : (target : List ℕ) (f : WorkspaceRoot) (profiles : List Profile) (drafts : List UnresolvedPackage) (ws : Workspace) → workspace_from target f profiles drafts ≡ Ok ws → IsDistinct bytes_eq (map (λ (p : Package). p.name) ws.packages)
unfolding workspace_from
names_from target f profiles drafts ws made = by (fault_of drafts) refl made
  where
    by : (o : Option LoadFault) → fault_of drafts ≡ o → unless o (assembled target f profiles drafts) ≡ Ok ws → IsDistinct bytes_eq (map (λ (p : Package). p.name) ws.packages)
    by None at h = let same : assembled target f profiles drafts ≡ ws = cc in subst (λ (w : Workspace). IsDistinct bytes_eq (map (λ (p : Package). p.name) w.packages)) same (names_of_drafts target f profiles drafts (no_fault drafts at))
    by (Some fault) at h = let no : Err fault ≡ Ok ws = h in cc

pub names_apart : NamesDiffer
unfolding workspace_of workspace_in
names_apart manifest target w ws is =
    let frame = λ (parts : Parts). frame_of (folder_of manifest) manifest parts.workspace in
    let (parts, inside) = bound (root_parts (from_nothing target w) manifest) (λ (parts : Parts). workspace_in (from_nothing target w) target (frame parts) parts.profiles parts.tables parts.found) ws is in
    let (read, made) = bound (packages_read (from_nothing target w) (frame parts) parts.tables parts.found) (λ (read : LoadState). workspace_from target (frame parts) parts.profiles (values_of read.found)) ws inside in
    names_from target (frame parts) parts.profiles (values_of read.found) ws made

-- what is made of the packages has the target folder and the root
module _ (target : List ℕ) (f : WorkspaceRoot) (profiles : List Profile) (drafts : List UnresolvedPackage) (ws : Workspace) (made : workspace_from target f profiles drafts ≡ Ok ws) where
  made_so : assembled target f profiles drafts ≡ ws
  unfolding workspace_from
  made_so = by (fault_of drafts) made
    where
      by : (o : Option LoadFault) → unless o (assembled target f profiles drafts) ≡ Ok ws → assembled target f profiles drafts ≡ ws
      by None h = cc
      by (Some fault) h = cc

  target_from : ws.target ≡ target
  unfolding assembled
  target_from = ap (λ (x : Workspace). x.target) (sym made_so)

  root_from : ws.root ≡ f.root
  unfolding assembled
  root_from = ap (λ (x : Workspace). x.root) (sym made_so)

module _ (manifest target : List ℕ) (w : World) (ws : Workspace) (is : workspace_of manifest target w ≡ Ok ws) where
  where_from : (parts : Parts) × (read : LoadState) × (workspace_from target (frame_of (folder_of manifest) manifest parts.workspace) parts.profiles (values_of read.found) ≡ Ok ws)
  unfolding workspace_of workspace_in
  where_from =
      let (parts, inside) = bound (root_parts (from_nothing target w) manifest) (λ (parts : Parts). workspace_in (from_nothing target w) target (frame_of (folder_of manifest) manifest parts.workspace) parts.profiles parts.tables parts.found) ws is in
      let (read, made) = bound (packages_read (from_nothing target w) (frame_of (folder_of manifest) manifest parts.workspace) parts.tables parts.found) (λ (read : LoadState). workspace_from target (frame_of (folder_of manifest) manifest parts.workspace) parts.profiles (values_of read.found)) ws inside in
      (parts, read, made)

pub target_kept : HasTargetFolder
target_kept manifest target w ws is =
    let (parts, read, made) = where_from manifest target w ws is in
    target_from target (frame_of (folder_of manifest) manifest parts.workspace) parts.profiles (values_of read.found) ws made

frame_root : (root manifest : List ℕ) (o : Option WorkspaceTable) → (frame_of root manifest o).root ≡ root
frame_root root manifest None = refl
frame_root root manifest (Some table) = refl

pub root_kept : HasRoot
root_kept manifest target w ws is =
    let (parts, read, made) = where_from manifest target w ws is in
    root_from target (frame_of (folder_of manifest) manifest parts.workspace) parts.profiles (values_of read.found) ws made ∙ frame_root (folder_of manifest) manifest parts.workspace

-- a workspace is read from the sources
pub same_read : LooksAtSources
unfolding workspace_of
same_read manifest target v w alike = ap (λ (s : World). from_sources s) alike
  where
    from_sources : World → Result Workspace LoadFault
    from_sources s = root_parts s manifest >>= (λ parts. workspace_in s target (frame_of (folder_of manifest) manifest parts.workspace) parts.profiles parts.tables parts.found)
