-- The record of a unit that has answered and is good.
use Rattle.std.proofs.Common.{◌≡◌, ◌∙◌, ℕ, true, false, cond, Option, Some, map, sym, ap}
use Rattle.pb_command.specs.Judge.{file_at}
use Rattle.pb_command_reply.specs.Answers.{answered_of}
use Rattle.pb_place_types.specs.World.{World}
use Rattle.pb_place_types.specs.declared.command.Command.{Command}
use Rattle.pb_place_types.specs.declared.command.Ended.{Ended}
use Rattle.pb_command_types.specs.Targets.{dep_info_of}
use Rattle.pb_command_types.specs.declared.project.Project.{Project}
use Rattle.pb_run.specs.UnitSteps.{needed_keys}
use Rattle.pb_run.specs.Running.{record_left, record_of}
use Rattle.pb_run.specs.Outcome.{judgement_by}
use Rattle.pb_run.specs.Invariants.{records_folder}
use Rattle.pb_run.specs.declared.begun.Awaited.TheVariants as awaited
use Rattle.pb_run.specs.declared.ran.Validated.{Validated}
use Rattle.pb_run.proofs.Settling.{Stands}
use Rattle.pb_store_soundness.specs.Inputs.{input_in}
use Rattle.pb_store_soundness.specs.Records.{records}
use Rattle.pb_store.specs.Folder.{kept_of, numbered, migrated}
use Rattle.pb_store.specs.declared.replaying.Replayed.{Replayed}
use Rattle.pb_unit.specs.declared.plan.Planned.{Planned}

module _ (project : Project) (u : Planned) (c : Command) (w new : World) (ended : Ended) where
  -- that which is kept of its child's answer
  pub record_kept : (number : ℕ) (j : Validated) → j ≡ judgement_by project u ended (answered_of project u c ended (file_at (dep_info_of project u) w.files))
      → Stands (records_folder project) u.key (needed_keys project u) c number j.names ended w new → records (records_folder project) new u.key ≡ Some (record_of project u c number ended w)
  record_kept number j judged stands =
      stands
      ∙ ap (λ (x : Validated). Some (kept_of (records_folder project) u.key c (map (input_in c.target w) x.names) number (numbered (records (records_folder project) w) (needed_keys project u)) ended)) judged

  -- that which was there, with its number
  pub record_stayed : (again : Replayed) (next : Option ℕ) → again.numbered ≡ true → new ≡ w → records (records_folder project) new u.key ≡ record_left project u c (awaited.Record again) ended next w
  record_stayed again next has stays =
      ap (λ (x : World). records (records_folder project) x u.key) stays
      ∙ sym (ap (λ b. cond b (records (records_folder project) w u.key) (migrated next (numbered (records (records_folder project) w) (needed_keys project u)) (records (records_folder project) w u.key))) has)

  -- or with the next one
  pub record_renewed : (again : Replayed) (next : Option ℕ) → again.numbered ≡ false
      → records (records_folder project) new u.key ≡ migrated next (numbered (records (records_folder project) w) (needed_keys project u)) (records (records_folder project) w u.key)
      → records (records_folder project) new u.key ≡ record_left project u c (awaited.Record again) ended next w
  record_renewed again next lacks stands =
      stands ∙ sym (ap (λ b. cond b (records (records_folder project) w u.key) (migrated next (numbered (records (records_folder project) w) (needed_keys project u)) (records (records_folder project) w u.key))) lacks)
