-- What a record replays is good or bad.
use Rattle.std.proofs.Common.{◌≡◌, ◌⊎◌, Bool, true, false, cond, List, Option, Some, None, inl, inr, refl, subst, sym, is_some}
use Rattle.pb_command_types.specs.declared.project.Project.{Project}
use Rattle.pb_directive.specs.declared.directive.Directive.{Directive}
use Rattle.pb_place_types.specs.World.{World}
use Rattle.pb_place_types.specs.declared.command.Command.{Command}
use Rattle.pb_run.specs.Invariants.{records_folder}
use Rattle.pb_run.specs.Outcome.{ran_of}
use Rattle.pb_store.specs.Differences.{FirstDifference, IsReplayed}
use Rattle.pb_store.specs.declared.replaying.Replayed.{Replayed}
use Rattle.pb_store_soundness.specs.Records.{records}
use Rattle.pb_tool_preview.specs.Foreseeing.{IsCompared, Judges}
use Rattle.pb_tool_preview.specs.declared.fate.Fate.{Fate}
use Rattle.pb_tool_preview.specs.declared.fate.Fate.TheVariants.{Kept, Bad}
use Rattle.pb_unit.specs.declared.plan.Planned.{Planned}

one_of : (bad : Bool) (fate : Fate) → fate ≡ cond bad Bad Kept → (fate ≡ Bad) ⊎ (fate ≡ Kept)
one_of true fate is = inl is
one_of false fate is = inr is

pub replay_compared : (project : Project) (w : World) (u : Planned) (c : Command) (again : Replayed) (fate : Fate) (said : Option (List Directive)) → FirstDifference (records_folder project) u.key c w None
    → IsReplayed (records (records_folder project) w u.key) again → Judges (ran_of project u c again.ended w.files) fate said → IsCompared project w u c fate said
replay_compared project w u c again fate said same replays judged = elim (one_of (is_some (ran_of project u c again.ended w.files).bad) fate judged.0) [
  | inl e ↦ subst (λ (f : Fate). IsCompared project w u c f said) (sym e) record { same = same; again = again; replays = replays; judged = subst (λ (f : Fate). Judges (ran_of project u c again.ended w.files) f said) e judged }
  | inr e ↦ subst (λ (f : Fate). IsCompared project w u c f said) (sym e) record { same = same; again = again; replays = replays; judged = subst (λ (f : Fate). Judges (ran_of project u c again.ended w.files) f said) e judged }
]
