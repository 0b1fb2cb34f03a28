-- What is asked of the kind of a unit, of its role, of its folder and of what was said is what the laws say.
use Rattle.std.proofs.Common.{◌≡◌, if◌then◌else◌, ℕ, [], List, Option, Some, None, refl, unwrap_or, slice_get}
use Rattle.std.specs.Option.{option_flatten, option_map_or}
use Rattle.pb_directive.specs.declared.directive.Directive.{Directive}
use Rattle.pb_workspace_types.specs.declared.package.Package.{Package}
use Rattle.pb_workspace_types.specs.declared.package.Side.{Side}
use Rattle.pb_workspace_types.specs.declared.package.Side.TheVariants.{Host}
use Rattle.pb_command_types.specs.Targets.{is_script, package_folder, package_of, said_in}
use Rattle.pb_unit.specs.Units.{role_at}
use Rattle.pb_unit.specs.declared.unit.What.{What}
use Rattle.pb_unit.specs.declared.unit.What.TheVariants.{Lib, Bin, Script, Run}
use Rattle.pb_unit_laws.specs.Kinds.{FoldersArePackages, KindsAreThese, RolesAreThese, RunsSay}

pub kinds_are : KindsAreThese
kinds_are Lib = ((λ e. refl, λ e. refl), (λ e. cc, λ e. cc), (λ e. cc, λ e. cc))
kinds_are (Bin name) = ((λ e. cc, λ e. cc), (λ e. cc, λ e. cc), (λ e. cc, λ e. cc))
kinds_are Script = ((λ e. cc, λ e. cc), (λ e. refl, λ e. refl), (λ e. cc, λ e. cc))
kinds_are Run = ((λ e. cc, λ e. cc), (λ e. cc, λ e. cc), (λ e. refl, λ e. refl))

role_is : (s : Side) (what : What) → role_at s what ≡ (if is_script what then Host else s)
role_is s Lib = refl
role_is s (Bin name) = refl
role_is s Script = refl
role_is s Run = refl

pub roles_are : RolesAreThese
roles_are u = role_is u.side u.what

folder_is : (root : List ℕ) (p : Option Package) → package_folder root p ≡ option_map_or (λ (p : Package). p.folder) p root
folder_is root None = refl
folder_is root (Some p) = refl

pub folders_are : FoldersArePackages
folders_are project u = folder_is project.workspace.root (package_of project u)

said_is : (said : Option (Option (List Directive))) → said_in said ≡ unwrap_or (option_flatten said) []
said_is None = refl
said_is (Some None) = refl
said_is (Some (Some directives)) = refl

pub runs_say : RunsSay
runs_say done index = said_is (slice_get done index)
