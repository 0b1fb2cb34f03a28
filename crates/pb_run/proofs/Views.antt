-- What a unit's command is for.
use Rattle.std.proofs.Common.{◌≡◌, List, Option, Some, slice_get, refl, sym, subst}
use Rattle.pb_place_types.specs.declared.command.Command.{Command}
use Rattle.pb_unit.specs.declared.plan.Planned.{Planned}
use Rattle.pb_unit.specs.declared.unit.What.{What}
use Rattle.pb_unit.specs.declared.unit.What.TheVariants.{Lib, Bin, Script, Run}
use Rattle.pb_workspace_types.specs.declared.package.Package.{Package}
use Rattle.pb_directive.specs.declared.directive.Directive.{Directive}
use Rattle.pb_command_types.specs.declared.project.Project.{Project}
use Rattle.pb_command_types.specs.declared.project.Setup.{Setup}
use Rattle.pb_command.specs.Command.{command_of, command_by, command_for}
use Rattle.pb_command_arguments.specs.Externs.{reads_of}

-- what a command is for: it writes into the unit's folder, and reads the folders of the units that this one reaches
pub record IsFor (project : Project) (u : Planned) (c : Command) : Type 0 where
  pub out : c.out ≡ Some u.out
  pub target : c.target ≡ project.workspace.target
  pub reads : c.reads ≡ reads_of project u

by_what : (w : What) (setup : Setup) (project : Project) (u : Planned) (done : List (Option (List Directive))) (p : Package) → IsFor project u (command_by w setup project u done p)
by_what Lib setup project u done p = record { out = refl; target = refl; reads = refl }
by_what (Bin name) setup project u done p = record { out = refl; target = refl; reads = refl }
by_what Script setup project u done p = record { out = refl; target = refl; reads = refl }
by_what Run setup project u done p = record { out = refl; target = refl; reads = refl }

abbrev pub HasPackage : Project → Planned → Type 0
HasPackage project u = (p : Package) × (slice_get project.workspace.packages u.unit.package ≡ Some p)

pub is_for : (setup : Setup) (project : Project) (u : Planned) (done : List (Option (List Directive))) → HasPackage project u → IsFor project u (command_of setup project u done)
is_for setup project u done (p, there) = subst (λ x. IsFor project u (command_for setup project u done x)) (sym there) (by_what u.unit.what setup project u done p)
