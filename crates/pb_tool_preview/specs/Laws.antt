-- Law: each unit begins for the difference that was foreseen.
use Rattle.std.specs.Prelude.{◌≡◌, Bool, List, Option, Some, None, IsTrue}
use Rattle.pb_command.specs.Command.{command_of}
use Rattle.pb_command_types.specs.declared.project.Project.{Project}
use Rattle.pb_command_types.specs.declared.project.Setup.{Setup}
use Rattle.pb_directive.specs.declared.directive.Directive.{Directive}
use Rattle.pb_place_types.specs.At.{At}
use Rattle.pb_place_types.specs.World.{Answers}
use Rattle.pb_run.specs.Running.{BeginsUnit}
use Rattle.pb_run.specs.declared.begun.Begun.{Begun}
use Rattle.pb_store.specs.declared.difference.Difference.{Difference}
use Rattle.pb_store.specs.declared.store.Store.{Store}
use Rattle.pb_tool_preview.specs.Foreseeing.{IsCompared}
use Rattle.pb_tool_preview.specs.declared.fate.Fate.{Fate}
use Rattle.pb_tool_preview.specs.declared.fate.Fate.TheVariants.{Starts, Kept, Bad, Waits, Unreached}
use Rattle.pb_unit.specs.declared.plan.Planned.{Planned}

-- the difference that a fate foresees, if the fate foresees a difference
abbrev pub foreseen : Fate → Option Difference
foreseen (Starts difference) = Some difference
foreseen Kept = None
foreseen Bad = None
foreseen (Waits index) = None
foreseen (Unreached index) = None

-- Take a unit that begins in the world for which the fates were foreseen, with the command of that
-- comparison. The unit's first difference is the foreseen difference.
abbrev pub BeginsAsForeseen : {P : Type 0} → (P → At) → Bool → Answers → Type 0
BeginsAsForeseen {P} at is_modelled child =
    (setup : Setup) (project : Project) (u : Planned) (done : List (Option (List Directive))) (before now : Store) (old new : P) (begun : Begun) (fate : Fate) (said : Option (List Directive))
    → IsTrue is_modelled → IsCompared project (at old).world u (command_of setup project u done) fate said
    → BeginsUnit is_modelled child project u (command_of setup project u done) before now (at old) (at new) begun → begun.difference ≡ foreseen fate
