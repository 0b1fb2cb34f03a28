-- All paths in a workspace are normalised absolute paths.
use Rattle.std.specs.Prelude.{◌≡◌, true, All, IfSome}
use Rattle.pb_place_types.specs.Paths.{is_path}
use Rattle.pb_workspace_types.specs.declared.package.Binary.{Binary}
use Rattle.pb_workspace_types.specs.declared.package.Library.{Library}
use Rattle.pb_workspace_types.specs.declared.package.Package.{Package}
use Rattle.pb_workspace_types.specs.declared.workspace.Workspace.{Workspace}

-- the source of a binary has a normalised path
pub record HasSource (binary : Binary) : Type 0 where
  pub source : is_path binary.source ≡ true

-- the folder, the manifest and the sources of a package have normalised paths
pub record HasOwnPaths (p : Package) : Type 0 where
  pub folder : is_path p.folder ≡ true
  pub manifest : is_path p.manifest ≡ true
  pub library : IfSome p.library (λ (library : Library). is_path library.source ≡ true)
  pub binaries : All HasSource p.binaries
  pub script : IfSome p.script (λ path. is_path path ≡ true)

-- the root, the target folder and all paths of the packages are normalised
pub record HasNormalPaths (ws : Workspace) : Type 0 where
  pub root : is_path ws.root ≡ true
  pub target : is_path ws.target ≡ true
  pub packages : All HasOwnPaths ws.packages
