-- What a unit that answers gives.
use Rattle.std.proofs.Common.{◌≡◌, ◌∙◌, ℕ, true, not, cond, List, [], ◌∷◌, Option, Some, None, sym, ap, subst, slice_get, take}
use Rattle.std.specs.Prelude.{IfSome}
use Rattle.std.specs.Cmp.Lexicographic.{slice_cmp, nat_list_cmp_total}
use Rattle.std.specs.FinMap.{get, insert, empty, retain_keys, get-empty, get-insert}
use Rattle.std.specs.Ordering.{nat_cmp, eq_by_cmp}
use Rattle.pb_command_reply.specs.Answers.{answered_of}
use Rattle.pb_command.specs.Judge.{ended_by, file_at, replied_files}
use Rattle.pb_directive.specs.declared.directive.Directive.{Directive}
use Rattle.pb_run_flight.specs.declared.flight.State.{State}
use Rattle.pb_run_flight.specs.Table.{is_good_at, are_good}
use Rattle.pb_place_types.specs.Children.{LandsAs, child_at, child_spawned, inside_out, landing, put_back}
use Rattle.pb_place_types.specs.Folders.{files_in, first_of}
use Rattle.pb_place_types.specs.Paths.{below, is_below, is_at_or_below, is_path}
use Rattle.pb_place_types.specs.World.{World, Map, ChangesOnly, ChangesOnlyInSome, put_files, seen_by}
use Rattle.pb_place_types.specs.declared.child.Reply.{Reply}
use Rattle.pb_place_types.specs.declared.child_in_flight.ChildInFlight.{ChildInFlight}
use Rattle.pb_place_types.specs.declared.command.Command.{Command}
use Rattle.pb_place_types.specs.declared.command.Ended.{Ended}
use Rattle.pb_place_types.proofs.Folders.{files_alike, get-files_in, get-over, only_started}
use Rattle.pb_place_types.proofs.MapLemmas.{get-kept}
use Rattle.pb_command_types.specs.Targets.{crate_name_of, dep_info_of, unit_at}
use Rattle.pb_build_result.specs.declared.bad_unit.BadUnit.{BadUnit}
use Rattle.pb_unit.specs.declared.plan.Planned.{Planned}
use Rattle.pb_run.specs.UnitSteps.{BuildContext, CanAnswer, IsBegun, IsInFlight, BuildInvariant, WaitsBy, begun_with, command_in, outcomes_in, view_in}
use Rattle.pb_run.specs.Outcome.{Waiting, directives_of, judged, judgement_by, outcome_by, outcome_of, ran_by, ran_of}
use Rattle.pb_run.specs.Invariants.{IsInOrder}
use Rattle.pb_run.specs.declared.begun.Awaited.TheVariants as awaited
use Rattle.pb_run.specs.declared.begun.Begun.{Begun}
use Rattle.pb_run.specs.declared.begun.SpawnedChild.{SpawnedChild}
use Rattle.pb_run.specs.declared.ran.Validated.{Validated}
use Rattle.pb_run.specs.declared.ran.Ran.{Ran}
use Rattle.pb_run.proofs.Recorded.{all_at}
use Rattle.pb_run.proofs.Shown.{AllStand, good_needs}
use Rattle.pb_run.proofs.Spawning.{join, out_within, record_within, widen}
use Rattle.pb_run.proofs.Tables.{tabled-unfold}
use Rattle.pb_run.proofs.Units.{dep_info_inside, inside_file}
use Rattle.pb_run.proofs.Views.{is_for}
use Rattle.pb_store_soundness.specs.Apart.{is_of}
use Rattle.pb_store_soundness.specs.Records.{is_key, out_of, record_path}
use Rattle.pb_store_soundness.proofs.Becoming.{one}
use Rattle.pb_store_soundness.proofs.RecordPaths.{folder_still, out_record_apart}

-- What has landed in an empty folder.

put_alike : (folder q : List ℕ) (files : List (List ℕ × List ℕ)) (m n : Map) → get m q ≡ get n q → get (put_files folder files m) q ≡ get (put_files folder files n) q
put_alike folder q [] m n same = same
put_alike folder q (f ∷ files) m n same = put_alike folder q files (insert m (below folder f.0) f.1) (insert n (below folder f.0) f.1)
    (get-insert nat_list_cmp_total m (below folder f.0) f.1 q ∙ ap (cond (eq_by_cmp (slice_cmp nat_cmp) q (below folder f.0)) (Some f.1)) same
    ∙ sym (get-insert nat_list_cmp_total n (below folder f.0) f.1 q))

back_none : (out q : List ℕ) (before m : Map) → before ≡ empty → is_below out q ≡ true → get (put_back out (files_in out before) m) q ≡ None
back_none out q before m is inside =
    let kept = get-kept m (λ p. not (is_below out p)) q in
    let held : get (files_in out before) q ≡ None = get-files_in out before q ∙ ap (λ b. cond b (get before q) None) inside ∙ ap (λ (x : Map). get x q) is ∙ get-empty (slice_cmp nat_cmp) q in
    get-over (files_in out before) (retain_keys m (λ p. not (is_below out p))) q
    ∙ ap (λ x. first_of x (get (retain_keys m (λ p. not (is_below out p))) q)) held
    ∙ kept ∙ ap (λ b. cond (not b) (get m q) None) inside

pub landed_files : (out : List ℕ) (files : List (List ℕ × List ℕ)) (before : Map) (old new : World) → before ≡ empty → new ≡ landing (Some out) files before old → files_in out new.files ≡ files_in out (put_files out files empty)
landed_files out files before old new is lands =
    ap (λ (w : World). files_in out w.files) lands
    ∙ files_alike out (put_files out files (put_back out (files_in out before) old.files)) (put_files out files empty)
    (λ q inside. put_alike out q files (put_back out (files_in out before) old.files) empty (back_none out q before old.files is inside ∙ sym (get-empty (slice_cmp nat_cmp) q)))

module _ (b : BuildContext) (order : IsInOrder b.project) (i : ℕ) (u : Planned) (at : unit_at b.project i ≡ Some u) where
  pub command_out : (command_in b i u).out ≡ Some u.out
  command_out = (is_for b.setup b.project u (directives_of (take i (outcomes_in b))) (order.packages i u at)).out

  -- a unit that has begun is this one
  pub begun_as : (begun : Begun) (next : Option ℕ) (w : World) (flying : List ChildInFlight) (still : ℕ → Type 0) → IsBegun b i begun next w flying still
      → (begun.command ≡ command_in b i u) × WaitsBy b u begun.command (view_in b i u) begun.awaited next w flying still
  begun_as begun next w flying still is =
      subst (λ (v : Planned). (begun.command ≡ command_in b i v) × WaitsBy b v begun.command (view_in b i v) begun.awaited next w flying still) (one is.unit u (sym is.there ∙ at)) (is.command, is.waits)

  pub reached_stand : (states : List (State BadUnit)) (done : List (Option (List Directive))) (next : Option ℕ) (w : World) → BuildInvariant b states done next w → are_good states u.reaches ≡ true → AllStand b done w u.reaches
  reached_stand states done next w keeps reaches index has = keeps.good index (all_at (λ p. is_good_at (slice_get states p)) u.reaches index reaches has)

  -- the outcome, by the reply of the child in the unit's view
  reply_gives : (done : List (Option (List Directive))) (w : World) → AllStand b done w u.reaches → slice_get (outcomes_in b) i ≡ Some (judged b.project u (command_in b i u) (b.child (command_in b i u) (view_in b i u)))
  reply_gives done w stand =
      tabled-unfold (outcome_of b.child b.setup b.project b.sources) b.project.plan.planned i u at
      ∙ ap (λ x. Some (cond x (judged b.project u (command_in b i u) (b.child (command_in b i u) (view_in b i u))) Waiting))
      (good_needs b done w i u.needs (order.needs i u at) (λ v has. stand v (order.needs_reached i u at v has)))

  -- an answer that is judged by what stands in the folder
  pub judged_gives : (done : List (Option (List Directive))) (w : World) (c : Command) (ended : Ended) (m : Map) (j : Validated) → AllStand b done w u.reaches → c ≡ command_in b i u
      → ended ≡ ended_by (b.child (command_in b i u) (view_in b i u)) → files_in u.out m ≡ replied_files u.out (b.child (command_in b i u) (view_in b i u))
      → j ≡ judgement_by b.project u ended (answered_of b.project u c ended (file_at (dep_info_of b.project u) m))
      → slice_get (outcomes_in b) i ≡ Some (outcome_by (files_in u.out m) j.ran)
  judged_gives done w c ended m j stand is_command is_ended made is_judged =
      let command = command_in b i u in
      let reply : Reply = b.child command (view_in b i u) in
      let dep_info : Option (List ℕ) = file_at (dep_info_of b.project u) m in
      let info : dep_info ≡ file_at (dep_info_of b.project u) (replied_files u.out reply) =
      sym (inside_file u.out (dep_info_of b.project u) m (λ q is. dep_info_inside b.project u u.unit.what (crate_name_of b.project u) q is)) ∙ ap (file_at (dep_info_of b.project u)) made in
      let comes : j.ran ≡ ran_of b.project u command (ended_by reply) (replied_files u.out reply) =
      ap (λ (x : Validated). x.ran) is_judged
      ∙ ap (λ (d : Command). ran_by b.project u ended (answered_of b.project u d ended dep_info)) is_command
      ∙ ap (λ (e : Ended). ran_by b.project u e (answered_of b.project u command e dep_info)) is_ended
      ∙ ap (λ (x : Option (List ℕ)). ran_by b.project u (ended_by reply) (answered_of b.project u command (ended_by reply) x)) info in
      reply_gives done w stand
      ∙ sym (ap (λ (n : Map). Some (outcome_by n j.ran)) made ∙ ap (λ (r : Ran). Some (outcome_by (replied_files u.out reply) r)) comes)

  -- the child that flies for it has landed
  module _ (key : List ℕ) (c : Command) (l : SpawnedChild) (next : Option ℕ) (flying : List ChildInFlight) (still : ℕ → Type 0) where
    pub its_flight : (w : World) → IsBegun b i (begun_with key c (awaited.Child l)) next w flying still → (c ≡ command_in b i u) × IsInFlight b.child c (view_in b i u) l.ticket flying still
    its_flight w is = let (command, waits) = begun_as (begun_with key c (awaited.Child l)) next w flying still is in (command, waits.0)

    pub its_landing : (old new : World) (ended : Ended) (spawned : World) → child_at l.ticket flying ≡ Some (child_spawned (b.child c) c spawned l.ticket) → IfSome (child_at l.ticket flying) (λ s. LandsAs s old ended new)
        → LandsAs (child_spawned (b.child c) c spawned l.ticket) old ended new
    its_landing old new ended spawned flies lands = subst (λ (o : Option ChildInFlight). IfSome o (λ s. LandsAs s old ended new)) flies lands

    pub landed_only : (old new : World) → IsBegun b i (begun_with key c (awaited.Child l)) next old flying still → IfSome (child_at l.ticket flying) (λ s. ChangesOnlyInSome s.command.out old new) → ChangesOnly (is_at_or_below u.out) old new
    landed_only old new is only =
        let (command, flight) = its_flight old is in
        let inside : ChangesOnlyInSome c.out old new = subst (λ (o : Option ChildInFlight). IfSome o (λ s. ChangesOnlyInSome s.command.out old new)) flight.flies only in
        only_started u.out c.out old new (ap (λ (d : Command). d.out) command ∙ command_out) inside

    pub landed_gives : (states : List (State BadUnit)) (done : List (Option (List Directive))) (old new : World) (ended : Ended) (j : Validated) → CanAnswer b states done i u (begun_with key c (awaited.Child l)) next old flying still
        → (still l.ticket → IfSome (child_at l.ticket flying) (λ s. LandsAs s old ended new)) → j ≡ judgement_by b.project u ended (answered_of b.project u c ended (file_at (dep_info_of b.project u) new.files))
        → slice_get (outcomes_in b) i ≡ Some (outcome_by (files_in u.out new.files) j.ran)
    landed_gives states done old new ended j can lands is_judged =
        let (command, flight) = its_flight old can.begun_so in
        let landed : LandsAs (child_spawned (b.child c) c flight.spawned l.ticket) old ended new = its_landing old new ended flight.spawned flight.flies (lands flight.stands) in
        let stand = reached_stand states done next old can.keeps can.reaches in
        let replies : b.child c (seen_by c flight.spawned) ≡ b.child (command_in b i u) (view_in b i u) = ap (b.child c) flight.sees ∙ ap (λ (d : Command). b.child d (view_in b i u)) command in
        let out : c.out ≡ Some u.out = ap (λ (d : Command). d.out) command ∙ command_out in
        judged_gives done old c ended new.files j stand command
        (landed.answer ∙ ap ended_by replies)
        (landed_files u.out (b.child c (seen_by c flight.spawned)).files (inside_out c.out flight.spawned.files) old new flight.emptied
        (landed.world ∙ ap (λ (o : Option (List ℕ)). landing o (b.child c (seen_by c flight.spawned)).files (inside_out c.out flight.spawned.files) old) out)
        ∙ ap (replied_files u.out) replies)
        is_judged

-- the record is put after
pub kept_only : (folder key out : List ℕ) (old mid new : World) → out ≡ out_of folder key → ChangesOnly (is_at_or_below out) old mid → ChangesOnly (is_at_or_below (record_path folder key)) mid new → ChangesOnly (is_of folder key) old new
kept_only folder key out old mid new lies first second =
    join (is_of folder key) old mid new (widen (is_at_or_below (out_of folder key)) (is_of folder key) old mid (out_within folder key) (subst (λ (o : List ℕ). ChangesOnly (is_at_or_below o) old mid) lies first))
    (widen (is_at_or_below (record_path folder key)) (is_of folder key) mid new (record_within folder key) second)

pub files_kept : (folder key out : List ℕ) (old new : World) → is_path folder ≡ true → is_key key ≡ true → out ≡ out_of folder key → ChangesOnly (is_at_or_below (record_path folder key)) old new → files_in out new.files ≡ files_in out old.files
files_kept folder key out old new path is lies only =
    subst (λ (o : List ℕ). files_in o new.files ≡ files_in o old.files) (sym lies) (folder_still (out_of folder key) (record_path folder key) old.files new.files (out_record_apart folder key key path is is) only.files)
