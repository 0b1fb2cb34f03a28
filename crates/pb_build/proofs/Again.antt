-- After a build that succeeded the same build again starts nothing.
use Rattle.std.proofs.Common.{◌≡◌, ◌∙◌, true, List, ℕ, Option, Some, Result, Ok, Err, inl, inr, refl, sym, ap, subst, take}
use Rattle.pb_build_result.specs.declared.fault.BuildFault.{BuildFault}
use Rattle.pb_command.specs.Command.{command_of}
use Rattle.pb_command.specs.Judge.{judge}
use Rattle.pb_build_result.specs.declared.fault.BuildFault.TheVariants.{Plan, Toolchain, Child, Device, Sink, OutOfMemory}
use Rattle.pb_build_result.specs.declared.summary.Summary.{Summary}
use Rattle.pb_feature_types.specs.Features.{features_at, is_enabled}
use Rattle.pb_feature_types.specs.declared.features.Features.{Features}
use Rattle.pb_run_flight.specs.declared.turn.Step.{Step}
use Rattle.pb_workspace_types.specs.declared.options.Options.{Options}
use Rattle.pb_workspace_types.specs.declared.package.Side.{Side}
use Rattle.pb_place_types.specs.World.{World, Map, Answers, from_nothing}
use Rattle.pb_place_types.specs.declared.command.Command.{Command}
use Rattle.pb_command_types.specs.declared.project.Project.{Project}
use Rattle.pb_command_types.specs.declared.project.Setup.{Setup}
use Rattle.pb_run.specs.UnitSteps.{TrustedRecords, BuildContext, build_context, IsHonestOnUnits, BuildInvariant, command_in}
use Rattle.pb_run.specs.Outcome.{Outcome, outcomes, directives_of}
use Rattle.pb_run.specs.Invariants.{records_folder}
use Rattle.pb_store_soundness.specs.Records.{reading, records}
use Rattle.pb_store_soundness.specs.Reuse.{IsSame}
use Rattle.pb_store_soundness.specs.Sound.{Sound}
use Rattle.pb_build_turns.specs.Ends.{EndsWhole, nothing_said, EachHasRecord}
use Rattle.pb_place_types.specs.Sinks.{SinkState}
use Rattle.pb_build_turns.specs.Executor.{BuildState}
use Rattle.pb_build_turns.specs.History.{untouched}
use Rattle.pb_build_turns.proofs.Repeating.{leaves_records, starts_none_again}
use Rattle.pb_unit.specs.declared.plan.Planned.{Planned}
use Rattle.pb_build.specs.Again.{SameBuildStartsNone}
use Rattle.pb_build.specs.Ending.{Works, Builds, EndsWith, Closes}
use Rattle.pb_build.specs.Environment.{environment_of}
use Rattle.pb_build.specs.declared.environment.Environment.{Environment}
use Rattle.pb_build.specs.Headline.{RestsOn, records_of}
use Rattle.pb_build.specs.Planning.{IsProject}
use Rattle.pb_build.specs.Result.{toolchain_of, setup_of}
use Rattle.pb_build.proofs.Headline.{headline, rests_first, no_fault}
use Rattle.pb_build.proofs.LookingAt.{same_project}
use Rattle.pb_build.proofs.OneResult.{AreAlike, projects_alike, other_is, same_toolchain}
use Rattle.pb_build.proofs.SameOutcomes.{command_same, outcomes_same}
use Rattle.pb_build.proofs.Staying.{builds_stay}

injective : {A : Type 0} {x y : A} → Some x ≡ Some y → x ≡ y
injective e = cc

-- A build that ended well is one whose units did.

finishes_err : (bytes : List ℕ) (fault : BuildFault) (summary : Summary) (old new : SinkState) → EndsWith bytes (Err fault) (Ok summary) old new → ⊥
finishes_err bytes fault summary old new (inl ends) = no_fault ends.0
finishes_err bytes fault summary old new (inr ends) = no_fault ends.0

closes_ok : (inner : Result Summary BuildFault) (summary : Summary) (old new : SinkState) → Closes inner (Ok summary) old new → inner ≡ Ok summary
closes_ok (Ok told) summary old new (inl ends) = sym ends.0
closes_ok (Ok told) summary old new (inr ends) = absurd (no_fault ends.0)
closes_ok (Err (Plan why)) summary old new ends = absurd (no_fault ends.0)
closes_ok (Err Sink) summary old new ends = absurd (no_fault ends.0)
closes_ok (Err Toolchain) summary old new ends = absurd (finishes_err _ Toolchain summary old new ends)
closes_ok (Err (Child key fault)) summary old new ends = absurd (finishes_err _ (Child key fault) summary old new ends)
closes_ok (Err (Device key fault)) summary old new ends = absurd (finishes_err _ (Device key fault) summary old new ends)
closes_ok (Err OutOfMemory) summary old new ends = absurd (finishes_err _ OutOfMemory summary old new ends)

-- the units of a build that ended well: what they started from, and how they ended
record Ended {S : Type 0} (child : Answers) (Turns : S → List ℕ → List ℕ → Step → S → Type 0) (options : Options) (from last : S) (summary : Summary) (old new : BuildState) : Type 0 where
  pub project : Project
  pub toolchain : List ℕ
  pub is : IsProject options (environment_of options old.world.variables).target old.world project
  pub says : toolchain_of child (environment_of options old.world.variables) project (from_nothing (environment_of options old.world.variables).target old.world) ≡ Some toolchain
  pub next : Option ℕ
  pub mid : BuildState
  pub heard : SinkState
  pub stays : mid.world ≡ old.world
  pub keeps : RestsOn TrustedRecords child options old.world
      → BuildInvariant (build_context TrustedRecords child (setup_of options (environment_of options old.world.variables) toolchain) project (from_nothing (environment_of options old.world.variables).target old.world)) (untouched project) (nothing_said project) next mid.world
  pub ends : EndsWhole true child Turns (setup_of options (environment_of options old.world.variables) toolchain) project next from last summary mid record new { heard = heard }

module _ {S : Type 0} (child : Answers) (Turns : S → List ℕ → List ℕ → Step → S → Type 0) (options : Options) (from last : S) (summary : Summary) (old new : BuildState) where
  works_ended : (heard : SinkState) → Works true child Turns options from last (Ok summary) old record new { heard = heard } → Ended child Turns options from last summary old new
  works_ended heard (inl early) = absurd (no_fault early.none_began.answer)
  works_ended heard (inr units) =
      let project = units.prepared.project in
      let is = units.prepares.is refl in
      record {
        project = project;
        toolchain = is.toolchain;
        is = is.project;
        says = is.says;
        next = units.prepared.store.next;
        mid = units.mid;
        heard = heard;
        stays = units.prepares.stays refl;
        keeps = λ on. subst (λ (w : World). BuildInvariant (build_context TrustedRecords child (setup_of options (environment_of options old.world.variables) is.toolchain) project (from_nothing (environment_of options old.world.variables).target old.world)) (untouched project) (nothing_said project) units.prepared.store.next w)
            (sym (units.prepares.stays refl))
            (rests_first child options old.world project is.toolchain is.project is.says units.prepared.store.next is.next TrustedRecords on);
        ends = subst (λ (s : Setup). EndsWhole true child Turns s project units.prepared.store.next from last summary units.mid record new { heard = heard }) is.setup units.ends;
      }

  builds_ended : Builds true child Turns options from last (Ok summary) old new → Ended child Turns options from last summary old new
  builds_ended builds =
      let is : builds.inner ≡ Ok summary = closes_ok builds.inner summary builds.heard new.heard builds.closes in
      works_ended builds.heard (subst (λ (r : Result Summary BuildFault). Works true child Turns options from last r old record new { heard = builds.heard }) is builds.works)

-- A project of the same sources has the same records.

module _ (p : Project) (g : Features) (names : (o : ℕ) (s : Side) → features_at p.features o s ≡ features_at g o s) (flags : (o : ℕ) (s : Side) (n : ℕ) → is_enabled p.features o s n ≡ is_enabled g o s n) (child : Answers) (setup : Setup) (sources : World) where
  abbrev one : BuildContext
  one = build_context TrustedRecords child setup p sources

  abbrev two : BuildContext
  two = build_context TrustedRecords child setup (record p { features = g }) sources

  command_is : (index : ℕ) (u : Planned) → command_in one index u ≡ command_in two index u
  command_is index u =
      command_same p g names flags setup u (directives_of (take index (outcomes child setup p sources)))
      ∙ ap (λ (os : List Outcome). command_of setup (record p { features = g }) u (directives_of (take index os))) (outcomes_same p g names flags child setup sources)

  other_records : (w : World) → EachHasRecord one w → EachHasRecord two w
  other_records w each index u there =
      let h = each index u there in
      record {
        unit = h.unit;
        there = h.there;
        kept = h.kept;
        here = h.here;
        number = h.number;
        numbered = h.numbered;
        grounded = h.grounded;
        reads = h.reads;
        same = subst (λ (c : Command). IsSame reading (records_folder p) h.unit.key c w h.kept) (command_is index h.unit) h.same;
      }

module _ (child : Answers) (options : Options) (v w : World) where
  -- the child is honest on the units that are found with an environment
  abbrev HonestWith : Environment → World → Type 0
  HonestWith n x = (project : Project) (toolchain : List ℕ) → IsProject options n.target x project → toolchain_of child n project (from_nothing n.target x) ≡ Some toolchain
      → IsHonestOnUnits (build_context TrustedRecords child (setup_of options n toolchain) project (from_nothing n.target x))

  honest_again : (n : Environment) → from_nothing n.target w ≡ from_nothing n.target v → HonestWith n v → HonestWith n w
  honest_again n same honest project toolchain is says =
      subst (λ (s : World). IsHonestOnUnits (build_context TrustedRecords child (setup_of options n toolchain) project s)) (sym same)
      (honest project toolchain (same_project options n.target w v project same is) (ap (toolchain_of child n project) (sym same) ∙ says))

  records_again : (n : Environment) (p q : Project) (t u : List ℕ) → from_nothing n.target w ≡ from_nothing n.target v → IsProject options n.target v p → toolchain_of child n p (from_nothing n.target v) ≡ Some t
      → IsProject options n.target w q → toolchain_of child n q (from_nothing n.target w) ≡ Some u → EachHasRecord (build_context TrustedRecords child (setup_of options n t) p (from_nothing n.target v)) w
      → EachHasRecord (build_context TrustedRecords child (setup_of options n u) q (from_nothing n.target w)) w
  records_again n p q t u same is says is_q says_q each =
      let alike : AreAlike p q = projects_alike options n.target w p q (same_project options n.target v w p (sym same) is) is_q in
      let both : t ≡ u = injective (sym (ap (toolchain_of child n p) same ∙ says) ∙ (same_toolchain child options n w p q alike ∙ says_q)) in
      let first = other_records p q.features alike.names alike.flags child (setup_of options n t) (from_nothing n.target v) w each in
      let second = subst (λ (x : Project). EachHasRecord (build_context TrustedRecords child (setup_of options n t) x (from_nothing n.target v)) w) (other_is p q alike) first in
      let third = subst (λ (x : List ℕ). EachHasRecord (build_context TrustedRecords child (setup_of options n x) q (from_nothing n.target v)) w) both second in
      subst (λ (s : World). EachHasRecord (build_context TrustedRecords child (setup_of options n u) q s) w) (sym same) third

  -- what a build left, by the variables with which the next begins
  record Left (p : Project) (t : List ℕ) (m : Map) : Type 0 where
    pub same : from_nothing (environment_of options m).target w ≡ from_nothing (environment_of options m).target v
    pub is : IsProject options (environment_of options m).target v p
    pub says : toolchain_of child (environment_of options m) p (from_nothing (environment_of options m).target v) ≡ Some t
    pub honest : HonestWith (environment_of options m) v
    pub sound : Sound reading judge child (records_of options m) w.files
    pub each : EachHasRecord (build_context TrustedRecords child (setup_of options (environment_of options m) t) p (from_nothing (environment_of options m).target v)) w

pub same_build_starts_none : {S T : Type 0} (Turns : S → List ℕ → List ℕ → Step → S → Type 0) (OtherTurns : T → List ℕ → List ℕ → Step → T → Type 0) → SameBuildStartsNone Turns OtherTurns
same_build_starts_none Turns OtherTurns child options from last again end summary other first second third fourth rests builds success same more =
    let a = builds_ended child Turns options from last summary first second builds in
    let b = builds_ended child OtherTurns options again end other third fourth more in
    let target = (environment_of options first.world.variables).target in
    let stay : from_nothing target second.world ≡ from_nothing target first.world = builds_stay true child Turns options from last (Ok summary) first second refl builds in
    let here : from_nothing target third.world ≡ from_nothing target first.world = ap (from_nothing target) same ∙ stay in
    let variables : first.world.variables ≡ third.world.variables = sym (ap (λ (w : World). w.variables) here) in
    let left_second = leaves_records Turns child (setup_of options (environment_of options first.world.variables) a.toolchain) a.project a.next from last summary a.mid record second { heard = a.heard } a.ends success (from_nothing target first.world) (a.keeps rests) in
    let left : Left child options first.world third.world a.project a.toolchain first.world.variables = record {
      same = here;
      is = a.is;
      says = a.says;
      honest = λ project toolchain is says. rests.1 record { project = project; toolchain = toolchain; is = is; says = says };
      sound = subst (λ (w : World). Sound reading judge child (records_of options first.world.variables) w.files) (sym same) (headline true child Turns options from last (Ok summary) first second builds refl TrustedRecords rests).records;
      each = subst (λ (w : World). EachHasRecord (build_context TrustedRecords child (setup_of options (environment_of options first.world.variables) a.toolchain) a.project (from_nothing target first.world)) w) (sym same) left_second;
    } in
    let now = subst (λ (m : Map). Left child options first.world third.world a.project a.toolchain m) variables left in
    let n = environment_of options third.world.variables in
    let each = records_again child options first.world third.world n a.project b.project a.toolchain b.toolchain now.same now.is now.says b.is b.says now.each in
    let on : RestsOn TrustedRecords child options third.world = (now.sound, λ units. honest_again child options first.world third.world n now.same now.honest units.project units.toolchain units.is units.says) in
    let there = subst (λ (w : World). EachHasRecord (build_context TrustedRecords child (setup_of options n b.toolchain) b.project (from_nothing n.target third.world)) w) (sym b.stays) each in
    (starts_none_again OtherTurns child (setup_of options n b.toolchain) b.project b.next again end other b.mid record fourth { heard = b.heard } b.ends TrustedRecords (from_nothing n.target third.world) (b.keeps on) there).1
