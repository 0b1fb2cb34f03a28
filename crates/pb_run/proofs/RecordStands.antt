-- A record of a unit is the same in two worlds between which nothing has changed on which it rests.
use Rattle.std.proofs.Common.{◌≡◌, ◌≢◌, ◌∙◌, Bool, true, false, List, [], ◌∷◌, ℕ, Option, Some, None, Contains, if◌then◌else◌, is_some, map, refl, sym, ap, subst}
use Rattle.std.proofs.lemmas.Bool.{false≢true}
use Rattle.std.specs.FinMap as finite
use Rattle.pb_command_reply.specs.Answers.{answered_of}
use Rattle.pb_command.specs.Judge.{file_at}
use Rattle.pb_run_flight.proofs.Lists.{contains_head, contains_tail}
use Rattle.pb_place_types.specs.Folders.{files_in}
use Rattle.pb_place_types.specs.World.{World, ChangesOnly, from_nothing}
use Rattle.pb_place_types.specs.declared.command.Command.{Command}
use Rattle.pb_place_types.specs.declared.command.Ended.{Ended}
use Rattle.pb_command_types.specs.Targets.{crate_name_of, dep_info_of, unit_at}
use Rattle.pb_command_types.specs.declared.project.Project.{Project}
use Rattle.pb_record.specs.declared.record.Input.{Input}
use Rattle.pb_record.specs.declared.record.Input.TheVariants.{Value}
use Rattle.pb_record.specs.declared.record.InputName.{InputName}
use Rattle.pb_record.specs.declared.record.InputName.TheVariants.{Path, Variable}
use Rattle.pb_record.specs.declared.record.Record.{Record}
use Rattle.pb_run.specs.UnitSteps.{needed_keys}
use Rattle.pb_run.specs.Running.{names_of, record_of}
use Rattle.pb_run.specs.Outcome.{names_in}
use Rattle.pb_run.specs.Invariants.{IsInOrder, records_folder}
use Rattle.pb_run.proofs.Recorded.{key_needed, record_still, sources_still}
use Rattle.pb_run.proofs.Units.{dep_info_inside, inside_file}
use Rattle.pb_store_soundness.specs.Apart.{is_of}
use Rattle.pb_store_soundness.specs.Grounded.{RecordMap}
use Rattle.pb_store_soundness.specs.Inputs.{input_in, path_input}
use Rattle.pb_store_soundness.specs.Reuse.{number_if}
use Rattle.pb_store.specs.Folder.{kept_of, numbered, or_zero, migrated_by}
use Rattle.pb_unit.specs.declared.plan.Planned.{Planned}
use Rattle.pb_store_soundness.specs.Records.{reading, records}

input_still : (target : List ℕ) (v w : World) (name : InputName) → from_nothing target w ≡ from_nothing target v → input_in target w name ≡ input_in target v name
input_still target v w (Path path) same = ap (λ (x : World). path_input path x.files (finite.get x.files path)) same
input_still target v w (Variable name) same = ap (λ (x : World). Value name (finite.get x.variables name)) same

inputs_still : (target : List ℕ) (v w : World) (names : List InputName) → from_nothing target w ≡ from_nothing target v → map (input_in target w) names ≡ map (input_in target v) names
inputs_still target v w [] same = refl
inputs_still target v w (name ∷ names) same = ap (λ (i : Input). i ∷ map (input_in target w) names) (input_still target v w name same) ∙ ap (λ (is : List Input). input_in target v name ∷ is) (inputs_still target v w names same)

numbered_still : (old new : RecordMap) (needs : List (List ℕ)) → ((need : List ℕ) → Contains needs need → new need ≡ old need) → numbered new needs ≡ numbered old needs
numbered_still old new [] same = refl
numbered_still old new (need ∷ needs) same =
    ap (λ (o : Option Record). (need, or_zero (number_if o)) ∷ numbered new needs) (same need (contains_head need needs))
    ∙ ap (λ (pairs : List (List ℕ × ℕ)). (need, or_zero (number_if (old need))) ∷ pairs) (numbered_still old new needs (λ n has. same n (contains_tail need needs n has)))

-- a record with a number stays as it is
pub number_stays : (r : Record) (own : Option ℕ) (flag : Bool) (next : Option ℕ) (pairs : List (List ℕ × ℕ)) → flag ≡ is_some own → (if flag then Some r else migrated_by own next pairs r) ≡ migrated_by own next pairs r
number_stays r (Some n) true next pairs is = refl
number_stays r (Some n) false next pairs is = refl
number_stays r None true next pairs is = absurd (false≢true (sym is))
number_stays r None false next pairs is = refl

module _ (project : Project) (order : IsInOrder project) (index : ℕ) (u : Planned) (there : unit_at project index ≡ Some u) where
  abbrev at_in : World → RecordMap
  at_in w = records (records_folder project) w

  record_on : (c : Command) (number : ℕ) (ended : Ended) (w w' : World) → from_nothing c.target w' ≡ from_nothing c.target w → files_in u.out w'.files ≡ files_in u.out w.files
      → ((need : List ℕ) → Contains (needed_keys project u) need → at_in w' need ≡ at_in w need) → record_of project u c number ended w' ≡ record_of project u c number ended w
  record_on c number ended w w' sources own needed =
      let info : file_at (dep_info_of project u) w'.files ≡ file_at (dep_info_of project u) w.files = sym (inside w') ∙ ap (file_at (dep_info_of project u)) own ∙ inside w in
      let names : names_of project u c ended w'.files ≡ names_of project u c ended w.files = ap (λ (x : Option (List ℕ)). names_in (answered_of project u c ended x)) info in
      ap (λ (ns : List InputName). kept_of (records_folder project) u.key c (map (input_in c.target w') ns) number (numbered (at_in w') (needed_keys project u)) ended) names
      ∙ ap (λ (inputs : List Input). kept_of (records_folder project) u.key c inputs number (numbered (at_in w') (needed_keys project u)) ended) (inputs_still c.target w w' (names_of project u c ended w.files) sources)
      ∙ ap (λ (pairs : List (List ℕ × ℕ)). kept_of (records_folder project) u.key c (map (input_in c.target w) (names_of project u c ended w.files)) number pairs ended) (numbered_still (at_in w) (at_in w') (needed_keys project u) needed)
    where
      inside : (x : World) → file_at (dep_info_of project u) (files_in u.out x.files) ≡ file_at (dep_info_of project u) x.files
      inside x = inside_file u.out (dep_info_of project u) x.files (λ q at. dep_info_inside project u u.unit.what (crate_name_of project u) q at)

  -- a unit does something that this one does not reach, also this one
  module _ (i : ℕ) (v : Planned) (at : unit_at project i ≡ Some v) (far : (p : ℕ) → Contains u.reaches p → p ≢ i) (w w' : World) (only : ChangesOnly (is_of (records_folder project) v.key) w w') where
    needed_on : (need : List ℕ) → Contains (needed_keys project u) need → at_in w' need ≡ at_in w need
    needed_on need has =
        let (x, its, is) = key_needed project order u need has in
        subst (λ (key : List ℕ). at_in w' key ≡ at_in w key) (sym is) (record_still project order i v at w w' only reading its.index x its.there (far its.index (order.needs_reached index u there its.index its.among)))

    pub numbered_on : numbered (at_in w') (needed_keys project u) ≡ numbered (at_in w) (needed_keys project u)
    numbered_on = numbered_still (at_in w) (at_in w') (needed_keys project u) needed_on

    pub record_stands : (c : Command) → c.target ≡ project.workspace.target → files_in u.out w'.files ≡ files_in u.out w.files → (number : ℕ) (ended : Ended) → record_of project u c number ended w' ≡ record_of project u c number ended w
    record_stands c target own number ended =
        record_on c number ended w w' (subst (λ (t : List ℕ). from_nothing t w' ≡ from_nothing t w) (sym target) (sources_still project order i v at w w' only)) own needed_on
