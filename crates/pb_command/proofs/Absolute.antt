-- The paths of a command are those of its project.
use Rattle.std.proofs.Common.{◌≡◌, ℕ, true, List, [], ◌∷◌, Option, Some, None, All, refl, slice_get}
use Rattle.std.specs.List.{flat_map}
use Rattle.std.proofs.lemmas.List.Elements.{All-append, All-from_recursion}
use Rattle.pb_directive.specs.declared.directive.Directive.{Directive}
use Rattle.pb_graph.proofs.Membership.{all_at}
use Rattle.pb_place_types.specs.Paths.{is_path}
use Rattle.pb_unit.specs.declared.plan.Planned.{Planned}
use Rattle.pb_unit.specs.declared.unit.What.{What}
use Rattle.pb_unit.specs.declared.unit.What.TheVariants.{Run}
use Rattle.pb_workspace_types.specs.declared.package.Package.{Package}
use Rattle.pb_command_types.specs.declared.project.Project.{Project}
use Rattle.pb_command_types.specs.declared.project.Setup.{Setup}
use Rattle.pb_command.specs.Command.{command_by, command_for}
use Rattle.pb_command_arguments.specs.Externs.{folder_in, read_at}
use Rattle.pb_command.specs.Laws.{HasPaths, IsAbsolute, CommandsAreAbsolute}
use Rattle.pb_command_types.specs.Targets.{package_of, unit_at}

module _ (project : Project) (has : HasPaths project) where
  one_read : (index : ℕ) (unit : Option Planned) → slice_get project.plan.planned index ≡ unit → All (λ folder. is_path folder ≡ true) (folder_in unit)
  one_read index None is = All-from_recursion (λ folder. is_path folder ≡ true) [] tt
  one_read index (Some unit) is = All-from_recursion (λ folder. is_path folder ≡ true) (unit.out ∷ []) (all_at (λ (unit : Planned). is_path unit.out ≡ true) project.plan.planned index unit has.units is, tt)

  all_read : (indices : List ℕ) → All (λ folder. is_path folder ≡ true) (flat_map (read_at project) indices)
  all_read [] = All-from_recursion (λ folder. is_path folder ≡ true) [] tt
  all_read (index ∷ indices) = All-append (λ folder. is_path folder ≡ true) (read_at project index) (flat_map (read_at project) indices) (one_read index (unit_at project index) refl) (all_read indices)

  of_what : (what : What) (setup : Setup) (unit : Planned) (done : List (Option (List Directive))) (p : Package) → is_path unit.out ≡ true → is_path p.folder ≡ true → IsAbsolute (command_by what setup project unit done p)
  of_what Run setup unit done p out folder = record { folder = folder; target = has.target; out = out; reads = all_read unit.reaches }
  of_what _ setup unit done p out folder = record { folder = has.root; target = has.target; out = out; reads = all_read unit.reaches }

  of_package : (owner : Option Package) (setup : Setup) (unit : Planned) (done : List (Option (List Directive))) → slice_get project.workspace.packages unit.unit.package ≡ owner → is_path unit.out ≡ true → IsAbsolute (command_for setup project unit done owner)
  of_package None setup unit done is out = record { folder = has.root; target = has.target; out = tt; reads = All-from_recursion (λ folder. is_path folder ≡ true) [] tt }
  of_package (Some p) setup unit done is out =
      of_what unit.unit.what setup unit done p out (all_at (λ (p : Package). is_path p.folder ≡ true) project.workspace.packages unit.unit.package p has.packages is)

pub absolute : CommandsAreAbsolute
absolute setup project unit done has out = of_package project has (package_of project unit) setup unit done refl out
