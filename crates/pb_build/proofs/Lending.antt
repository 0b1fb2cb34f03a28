-- A pick that is lent: a build along a chain of states that hold it is one along the pick's own, from the one that was lent to the one that is handed back.
use Rattle.std.proofs.Common.{◌≡◌, ◌∙◌, ℕ, Bool, List, Option, Some, None, Result, Ok, Err, MutBor, refl, sym, ap, subst, inl, inr}
use Rattle.pb_build_result.specs.declared.bad_unit.BadUnit.{BadUnit}
use Rattle.pb_build_result.specs.declared.fault.BuildFault.{BuildFault}
use Rattle.pb_build_result.specs.declared.summary.Summary.{Summary}
use Rattle.pb_run_flight.specs.Events.{Event, Anything}
use Rattle.pb_run_flight.specs.Steps.{Flies, nothing, begin, answer, Anyhow, HandsBack, PicksLent, TurnsOfJobs}
use Rattle.pb_run_flight.specs.declared.turn.Jobs.{Jobs}
use Rattle.pb_run_flight.specs.declared.turn.Step.{Step}
use Rattle.pb_run_flight.specs.declared.turn.Step.TheVariants as step
use Rattle.pb_workspace_types.specs.declared.options.Options.{Options}
use Rattle.pb_place_types.specs.World.{Answers}
use Rattle.pb_command_types.specs.declared.project.Project.{Project}
use Rattle.pb_command_types.specs.declared.project.Setup.{Setup}
use Rattle.pb_build_turns.specs.Ends.{TurnsEnd}
use Rattle.pb_build_turns.specs.Executor.{BuildState}
use Rattle.pb_build.specs.Ending.{Works, Builds, BuildsBy}

-- What each turn leaves as it was, a build does.

module _ {S X : Type 0} (Turns : S → List ℕ → List ℕ → Step → S → Type 0) (read : S → X)
    (stays : (now : S) (ready flying : List ℕ) (step : Step) (next : S) → Turns now ready flying step next → read next ≡ read now) where
  flies_stay : (needs : List (List ℕ)) (from : S) (es : List (Event BadUnit)) (last : S) → Flies Turns needs Anyhow Anything from es last → read last ≡ read from
  flies_stay needs from _ _ nothing = refl
  flies_stay needs from _ _ (begin es now next i u spawned before missing turned unit child) = stays now _ _ (step.Begin i) next turned ∙ flies_stay needs from es now before
  flies_stay needs from _ _ (answer es now next i u given before missing turned unit gives) = stays now _ _ (step.Answer i) next turned ∙ flies_stay needs from es now before

  hands_stay : (needs : List (List ℕ)) (es : List (Event BadUnit)) (last : S) (asked : Option ℕ) (back : S) → HandsBack Turns needs es last asked back → read back ≡ read last
  hands_stay needs es last None back is = ap read is
  hands_stay needs es last (Some u) back (i, missing, at, turned) = stays last _ _ (step.Answer i) back turned

  module _ (is_modelled : Bool) (child : Answers) (options : Options) (from last : S) where
    ends_stay : (setup : Setup) (project : Project) (next : Option ℕ) (result : Result Summary BuildFault) (old new : BuildState) → TurnsEnd is_modelled child Turns setup project next from last result old new → read last ≡ read from
    ends_stay setup project next (Ok summary) old new ends = flies_stay _ from ends.es last ends.flies
    ends_stay setup project next (Err fault) old new ends = hands_stay _ ends.es ends.last ends.asked last ends.hands ∙ flies_stay _ from ends.es ends.last ends.flies

    works_stay : (result : Result Summary BuildFault) (old new : BuildState) → Works is_modelled child Turns options from last result old new → read last ≡ read from
    works_stay result old new (inl early) = ap read early.unasked
    works_stay result old new (inr units) = ends_stay units.prepared.setup units.prepared.project units.prepared.store.next result units.mid new units.ends

    builds_stay : (result : Result Summary BuildFault) (old new : BuildState) → Builds is_modelled child Turns options from last result old new → read last ≡ read from
    builds_stay result old new builds = works_stay builds.inner old _ builds.works

-- Where each turn is one of other states, a build is: all but its states is as it was.

module _ {S R : Type 0} (Turns : S → List ℕ → List ℕ → Step → S → Type 0) (Others : R → List ℕ → List ℕ → Step → R → Type 0) (image : S → R)
    (turns_as : (now : S) (ready flying : List ℕ) (step : Step) (next : S) → Turns now ready flying step next → Others (image now) ready flying step (image next)) where
  flies_as : (needs : List (List ℕ)) (from : S) (es : List (Event BadUnit)) (last : S) → Flies Turns needs Anyhow Anything from es last → Flies Others needs Anyhow Anything (image from) es (image last)
  flies_as needs from _ _ nothing = nothing
  flies_as needs from _ _ (begin es now next i u spawned before missing turned unit child) =
      begin es (image now) (image next) i u spawned (flies_as needs from es now before) missing (turns_as now _ _ (step.Begin i) next turned) unit child
  flies_as needs from _ _ (answer es now next i u given before missing turned unit gives) =
      answer es (image now) (image next) i u given (flies_as needs from es now before) missing (turns_as now _ _ (step.Answer i) next turned) unit gives

  hands_as : (needs : List (List ℕ)) (es : List (Event BadUnit)) (last : S) (asked : Option ℕ) (back : S) → HandsBack Turns needs es last asked back → HandsBack Others needs es (image last) asked (image back)
  hands_as needs es last None back is = ap image is
  hands_as needs es last (Some u) back (i, missing, at, turned) = (i, missing, at, turns_as last _ _ (step.Answer i) back turned)

  module _ (is_modelled : Bool) (child : Answers) (options : Options) (from last : S) where
    pub ends_as : (setup : Setup) (project : Project) (next : Option ℕ) (result : Result Summary BuildFault) (old new : BuildState) → TurnsEnd is_modelled child Turns setup project next from last result old new
        → TurnsEnd is_modelled child Others setup project next (image from) (image last) result old new
    ends_as setup project next (Ok summary) old new e = record {
      es = e.es;
      flies = flies_as _ from e.es last e.flies;
      finished = e.finished;
      success = e.success;
      good = e.good;
      bad = e.bad;
      said = e.said;
      started = e.started;
      reasons = e.reasons;
      differences = e.differences;
      kept = e.kept;
      done = e.done;
      directives = e.directives;
      unnoted = e.unnoted;
      noted = e.noted;
      lines = e.lines;
      faults = e.faults;
      mid = e.mid;
      failures = e.failures;
      starts = e.starts;
      settings = e.settings;
      drained = e.drained;
      landed = e.landed;
      most = e.most;
      only = e.only;
      last_world = e.last_world;
      dropping = e.dropping;
      numbers = e.numbers;
      taken = e.taken;
      unkept = e.unkept;
      dropped = e.dropped;
      childless = e.childless;
      began = e.began;
      again = e.again;
      anew = e.anew;
      left = e.left;
      told = e.told;
      calls = e.calls;
      calls_on_any = e.calls_on_any;
    }
    ends_as setup project next (Err fault) old new e = record {
      es = e.es;
      last = image e.last;
      flies = flies_as _ from e.es e.last e.flies;
      asked = e.asked;
      hands = hands_as _ e.es e.last e.asked last e.hands;
      mid = e.mid;
      heard = e.heard;
      stops = e.stops;
      spent = e.spent;
      caused = e.caused;
      drained = e.drained;
      landed = e.landed;
      before = e.before;
      came = e.came;
      names = e.names;
      most = e.most;
      only = e.only;
      dropping = e.dropping;
      unkept = e.unkept;
      dropped = e.dropped;
      childless = e.childless;
      reasons = e.reasons;
      done = e.done;
      began = e.began;
      started = e.started;
      again = e.again;
      anew = e.anew;
      left = e.left;
      told = e.told;
      calls = e.calls;
      calls_on_any = e.calls_on_any;
    }

    works_as : (result : Result Summary BuildFault) (old new : BuildState) → Works is_modelled child Turns options from last result old new → Works is_modelled child Others options (image from) (image last) result old new
    works_as result old new (inl early) = inl record { none_began = early.none_began; unasked = ap image early.unasked; calls = early.calls }
    works_as result old new (inr units) =
        inr record { prepared = units.prepared; mid = units.mid; heard = units.heard; prepares = units.prepares; ends = ends_as units.prepared.setup units.prepared.project units.prepared.store.next result units.mid new units.ends }

    pub builds_as : (result : Result Summary BuildFault) (old new : BuildState) → Builds is_modelled child Turns options from last result old new → Builds is_modelled child Others options (image from) (image last) result old new
    builds_as result old new builds = record { inner = builds.inner; heard = builds.heard; works = works_as builds.inner old _ builds.works; closes = builds.closes }

-- Turns by a number of jobs.

module _ {S : Type 0} (Picks : S → List ℕ → ℕ → S → Type 0) where
  jobs_stay : (now : Jobs S) (ready flying : List ℕ) (step : Step) (next : Jobs S) → TurnsOfJobs Picks now ready flying step next → next.jobs ≡ now.jobs
  jobs_stay now ready flying (step.Begin i) next (after, some, room, picked) = after
  jobs_stay now ready flying (step.Answer i) next (after, first, stays, why) = after

  -- their number is at the end what it was
  pub built_by : (is_modelled : Bool) (child : Answers) (options : Options) (pick : S) (last : Jobs S) (result : Result Summary BuildFault) (old new : BuildState)
      → Builds is_modelled child (TurnsOfJobs Picks) options record { pick = pick; jobs = options.jobs } last result old new → BuildsBy is_modelled child Picks options pick last.pick result old new
  built_by is_modelled child options pick last result old new builds =
      let from : Jobs S = record { pick = pick; jobs = options.jobs } in
      subst (λ (jobs : ℕ). Builds is_modelled child (TurnsOfJobs Picks) options from record { pick = last.pick; jobs = jobs } result old new)
      (builds_stay (TurnsOfJobs Picks) (λ now. now.jobs) jobs_stay is_modelled child options from last result old new builds) builds

  lent_stays : (now : Jobs (MutBor S)) (ready flying : List ℕ) (step : Step) (next : Jobs (MutBor S)) → TurnsOfJobs (PicksLent Picks) now ready flying step next → next.pick.ghost_name ≡ now.pick.ghost_name
  lent_stays now ready flying (step.Begin i) next (after, some, room, picked) = picked.1
  lent_stays now ready flying (step.Answer i) next (after, first, stays, why) = ap (λ pick. pick.ghost_name) stays

  -- with the pick itself, for one that is lent
  abbrev behind : Jobs (MutBor S) → Jobs S
  behind now = record { pick = now.pick.now; jobs = now.jobs }

  turns_behind : (now : Jobs (MutBor S)) (ready flying : List ℕ) (step : Step) (next : Jobs (MutBor S)) → TurnsOfJobs (PicksLent Picks) now ready flying step next
      → TurnsOfJobs Picks (behind now) ready flying step (behind next)
  turns_behind now ready flying (step.Begin i) next (after, some, room, picked) = (after, some, room, picked.0)
  turns_behind now ready flying (step.Answer i) next (after, first, stays, why) = (after, first, ap (λ pick. pick.now) stays, why)

  -- the pick that was lent is handed back as the last turn left it
  pub built_lent : (is_modelled : Bool) (child : Answers) (options : Options) (pick : MutBor S) (last : Jobs (MutBor S)) (back : S) (result : Result Summary BuildFault) (old new : BuildState)
      → Builds is_modelled child (TurnsOfJobs (PicksLent Picks)) options record { pick = pick; jobs = options.jobs } last result old new → (pick.ghost_name ≡ last.pick.ghost_name → back ≡ last.pick.now)
      → BuildsBy is_modelled child Picks options pick.now back result old new
  built_lent is_modelled child options pick last back result old new builds is_back =
      let from : Jobs (MutBor S) = record { pick = pick; jobs = options.jobs } in
      let same = builds_stay (TurnsOfJobs (PicksLent Picks)) (λ now. now.pick.ghost_name) lent_stays is_modelled child options from last result old new builds in
      subst (λ (picked : S). BuildsBy is_modelled child Picks options pick.now picked result old new) (sym (is_back (sym same)))
      (built_by is_modelled child options pick.now (behind last) result old new (builds_as (TurnsOfJobs (PicksLent Picks)) (TurnsOfJobs Picks) behind turns_behind is_modelled child options from last result old new builds))
