-- A unit begins for the difference that was foreseen: in one world it has only one first difference.
use Rattle.std.proofs.Common.{◌≡◌, Bool, List, Option, Some, None, IsTrue, subst}
use Rattle.pb_command.specs.Command.{command_of}
use Rattle.pb_command_types.specs.declared.project.Project.{Project}
use Rattle.pb_directive.specs.declared.directive.Directive.{Directive}
use Rattle.pb_place_types.specs.At.{At}
use Rattle.pb_place_types.specs.World.{Answers, World}
use Rattle.pb_place_types.specs.declared.command.Command.{Command}
use Rattle.pb_run.specs.Invariants.{records_folder}
use Rattle.pb_store.specs.Differences.{FirstDifference}
use Rattle.pb_store.proofs.Once.{one_difference}
use Rattle.pb_tool_preview.specs.Foreseeing.{IsCompared}
use Rattle.pb_tool_preview.specs.Laws.{BeginsAsForeseen, foreseen}
use Rattle.pb_tool_preview.specs.declared.fate.Fate.{Fate}
use Rattle.pb_tool_preview.specs.declared.fate.Fate.TheVariants.{Starts, Kept, Bad, Waits, Unreached}
use Rattle.pb_unit.specs.declared.plan.Planned.{Planned}

-- what was foreseen is the first difference
foreseen_first : (project : Project) (w : World) (u : Planned) (c : Command) (fate : Fate) (said : Option (List Directive)) → IsCompared project w u c fate said → FirstDifference (records_folder project) u.key c w (foreseen fate)
foreseen_first project w u c (Starts difference) said is = is.0
foreseen_first project w u c Kept said is = is.same
foreseen_first project w u c Bad said is = is.same
foreseen_first project w u c (Waits index) said is = absurd is
foreseen_first project w u c (Unreached index) said is = absurd is

pub begins_as_foreseen : {P : Type 0} (at : P → At) (is_modelled : Bool) (child : Answers) → BeginsAsForeseen at is_modelled child
begins_as_foreseen at is_modelled child setup project u done before now old new begun fate said told is begins =
    let c = command_of setup project u done in
    one_difference (records_folder project) u.key c (at old).world begun.difference (foreseen fate)
    (subst (λ (asked : Command). FirstDifference (records_folder project) u.key asked (at old).world begun.difference) begins.asks (begins.differs told))
    (foreseen_first project (at old).world u c fate said is)
