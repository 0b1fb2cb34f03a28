-- The target folder and the folders of a project have normalised absolute paths.
use Rattle.std.proofs.Common.{◌≡◌, ℕ, Bool, true, false, cond, if◌then◌else◌, codes, List, ◌∷◌, ◌++◌, Option, Some, None, Result, Ok, Err, refl, sym, subst}
use Rattle.std.specs.FinMap.{get}
use Rattle.pb_command.specs.Laws.{HasPaths}
use Rattle.pb_data.specs.UnlessOom.{◌>>=◌}
use Rattle.pb_feature_types.specs.declared.features.Features.{Features}
use Rattle.pb_mini_laws.proofs.Named.{parsed_path_is}
use Rattle.pb_graph.proofs.Elements.{all_at, all_from_at, contains_from_at}
use Rattle.pb_workspace_types.specs.declared.options.Options.{Options}
use Rattle.pb_workspace_types.specs.declared.options.Selection.{Selection}
use Rattle.pb_workspace_types.specs.declared.package.Package.{Package}
use Rattle.pb_workspace_types.specs.declared.workspace.Workspace.{Workspace}
use Rattle.pb_place_types.specs.Paths.{below, folder_of, is_absolute, is_path, is_relative, parsed}
use Rattle.pb_place_types.specs.World.{Map}
use Rattle.pb_place_types.specs.declared.path.PathFault.{PathFault}
use Rattle.pb_place_types.proofs.PathLemmas.{folder_is_path}
use Rattle.pb_profile.specs.Line as line
use Rattle.pb_profile.specs.Line.{Seen, checked_line}
use Rattle.pb_profile.specs.declared.fault.ProfileFault.{ProfileFault}
use Rattle.pb_profile.specs.declared.fault.ProfileFault.TheVariants.{NoSuchProfile}
use Rattle.pb_command_types.specs.declared.project.Project.{Project}
use Rattle.pb_unit.proofs.Telling.{keys_tell_what}
use Rattle.pb_unit.specs.Laws.{TellsWhat}
use Rattle.pb_unit.specs.Plan.{IsPlan, profile_folder}
use Rattle.pb_unit.specs.declared.plan.Planned.{Planned}
use Rattle.pb_build.specs.Environment.{environment_of, path_or, set_text, told_or}
use Rattle.pb_mini_laws.proofs.Loading.{IsLaid}
use Rattle.pb_mini_laws.proofs.PathsSaid.{below_is}
use Rattle.pb_mini_laws.proofs.Sourcing.{key_relative}
use Rattle.pb_mini_laws.proofs.SourcesFound.{At}

-- a path that variables and options tell
told_at : (root other : List ℕ) → At other → (told : Option (List ℕ)) → At (told_or root other told)
told_at root other at None = at
told_at root other at (Some text) = by (parsed (if is_absolute text then text else root ++ 47 ∷ text)) refl
  where
    by : (r : Result (List ℕ) PathFault) → parsed (if is_absolute text then text else root ++ 47 ∷ text) ≡ r → At (path_or other r)
    by (Ok path) is = parsed_path_is (if is_absolute text then text else root ++ 47 ∷ text) path is
    by (Err fault) is = at

pub target_at : (options : Options) (variables : Map) → is_path options.manifest ≡ true → At (environment_of options variables).target
target_at options variables path =
    let root : List ℕ = folder_of options.manifest in
    let variable = set_text (get variables (codes "CARGO_TARGET_DIR")) in
    let own : At (below root (codes "target")) = below_is root (codes "target") (folder_is_path options.manifest root path refl) refl in
    told_at root (told_or root (below root (codes "target")) variable) (told_at root (below root (codes "target")) own variable) options.target_dir

-- the folder of a profile's output lies in the target folder
module _ (ws : Workspace) (features : Features) (selection : Selection) (profile : List ℕ) where
  relative_in : (found : Result (List Seen) ProfileFault) (b : Bool) → is_relative (line.folder_of profile) ≡ b → (last : List Seen) → (found >>= (λ l. cond b (Ok l) (Err NoSuchProfile))) ≡ Ok last → is_relative (line.folder_of profile) ≡ true
  relative_in found true own last told = own
  relative_in (Ok l) false own last told = cc
  relative_in (Err fault) false own last told = cc

pub project_paths : (project : Project) (selection : Selection) → IsLaid project.workspace → At project.workspace.target → IsPlan project.workspace project.features selection project.profile project.plan → HasPaths project
project_paths project selection laid target is = record {
  root = laid.root_at;
  target = target;
  packages = all_from_at (λ (p : Package). At p.folder) project.workspace.packages (λ k p at. (laid.packages p (contains_from_at project.workspace.packages k p at)).folder);
  units = all_from_at (λ (u : Planned). At u.out) project.plan.planned (λ k u at.
      let out : u.out ≡ below (profile_folder project.workspace project.profile) u.key = all_at (λ (x : Planned). x.out ≡ below (profile_folder project.workspace project.profile) x.key) project.plan.planned is.folders k u at in
      let tells = all_at TellsWhat project.plan.planned (keys_tell_what project.workspace project.features selection project.profile project.plan laid.settled is) k u at in
      subst At (sym out) (below_is (profile_folder project.workspace project.profile) u.key folder (key_relative u tells)));
}
  where
    folder : At (profile_folder project.workspace project.profile)
    folder = below_is project.workspace.target (line.folder_of project.profile) target
        (relative_in project.workspace project.features selection project.profile (checked_line project.workspace.profiles project.profile) (is_relative (line.folder_of project.profile)) refl is.line is.profile_has)
